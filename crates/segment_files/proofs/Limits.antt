-- Where no file passes the limit, each part is within it.
use Rattle.std.proofs.Common.{◌≡◌, ℕ, ◌≤◌, Bool, true, false, cond, List, [], ◌∷◌, ◌++◌, length, Option, Some, None, refl}
use Rattle.std.specs.Prelude.{All, nat_lt}
use Rattle.std.proofs.lemmas.Bool.{ltb-false}
use Rattle.lu_types.specs.declared.kind.FileKind.{FileKind}
use Rattle.lu_types.specs.declared.kind.FileKind.TheVariants.{Fnm, Fdx, Fdt, Tis, Tii, Frq, Prx, Nrm, Tvx, Tvd, Tvf}
use Rattle.lu_types.specs.declared.named_file.NamedFile.{NamedFile}
use Rattle.lu_model.specs.Index.{Index}
use Rattle.lu_model.proofs.Words.{Each}
use Rattle.lu_model.proofs.Each.{all-from_each}
use Rattle.check_index.specs.Files.{PartFiles}
use Rattle.segment_files.specs.declared.options.WriteOptions.{WriteOptions}
use Rattle.segment_files.specs.Parts.{intervals_of, canonical_parts_of}
use Rattle.segment_files.specs.Written.{file_if_there, checked_in_order, written_in_order, packed_file, packed_if, canonical_files, all_written, first_past, too_large_file}

-- the file has at most so many bytes, where it is there
abbrev pub IsWithinLimit : ℕ → Option (List ℕ) → Type 0
IsWithinLimit limit None = Unit {0}
IsWithinLimit limit (Some bytes) = length bytes ≤ limit

-- so has each part
pub record ArePartsWithin (limit : ℕ) (parts : PartFiles) : Type 0 where
  pub fnm : IsWithinLimit limit parts.index.fnm
  pub fdx : IsWithinLimit limit parts.documents.fdx
  pub fdt : IsWithinLimit limit parts.documents.fdt
  pub tis : IsWithinLimit limit parts.index.tis
  pub tii : IsWithinLimit limit parts.index.tii
  pub frq : IsWithinLimit limit parts.index.frq
  pub prx : IsWithinLimit limit parts.index.prx
  pub nrm : IsWithinLimit limit parts.index.nrm
  pub tvx : IsWithinLimit limit parts.documents.tvx
  pub tvd : IsWithinLimit limit parts.documents.tvd
  pub tvf : IsWithinLimit limit parts.documents.tvf

abbrev Fits : ℕ → NamedFile → Type 0
Fits limit file = length file.bytes ≤ limit

pub each-append : {X : Type 0} (P : X → Type 0) (xs ys : List X) → Each P (xs ++ ys) → Each P xs × Each P ys
each-append P [] ys h = (tt, h)
each-append P (x ∷ xs) ys h = let rest = each-append P xs ys h.1 in ((h.0, rest.0), rest.1)

all-within : (limit : ℕ) (files : List NamedFile) → first_past limit files ≡ None → Each (Fits limit) files
all-within limit [] h = tt
all-within limit (f ∷ files) h = go (nat_lt limit (length f.bytes)) refl h (all-within limit files)
  where
    go : (b : Bool) → nat_lt limit (length f.bytes) ≡ b → cond b (Some f.kind) (first_past limit files) ≡ None → (first_past limit files ≡ None → Each (Fits limit) files) → Each (Fits limit) (f ∷ files)
    go true e is rest = cc
    go false e is rest = (ltb-false limit (length f.bytes) e, rest is)

there-within : (limit : ℕ) (kind : FileKind) (file : Option (List ℕ)) → Each (Fits limit) (file_if_there kind file) → IsWithinLimit limit file
there-within limit kind None h = tt
there-within limit kind (Some bytes) h = h.0

pub parts-within : (limit : ℕ) (compound : Bool) (number : ℕ) (parts : PartFiles) → first_past limit (all_written compound number parts) ≡ None → ArePartsWithin limit parts
parts-within limit compound number parts none =
    let P = Fits limit in
    let d = parts.documents in
    let i = parts.index in
    let fnm = file_if_there Fnm i.fnm in
    let to_fdt = fnm ++ file_if_there Fdt d.fdt in
    let to_fdx = to_fdt ++ file_if_there Fdx d.fdx in
    let to_prx = to_fdx ++ file_if_there Prx i.prx in
    let to_frq = to_prx ++ file_if_there Frq i.frq in
    let to_tis = to_frq ++ file_if_there Tis i.tis in
    let to_tii = to_tis ++ file_if_there Tii i.tii in
    let to_nrm = to_tii ++ file_if_there Nrm i.nrm in
    let to_tvf = to_nrm ++ file_if_there Tvf d.tvf in
    let to_tvd = to_tvf ++ file_if_there Tvd d.tvd in
    let all = each-append P (written_in_order parts) (cond compound (packed_file number parts ∷ []) []) (all-within limit (all_written compound number parts) none) in
    let tvx = each-append P to_tvd (file_if_there Tvx d.tvx) all.0 in
    let tvd = each-append P to_tvf (file_if_there Tvd d.tvd) tvx.0 in
    let tvf = each-append P to_nrm (file_if_there Tvf d.tvf) tvd.0 in
    let nrm = each-append P to_tii (file_if_there Nrm i.nrm) tvf.0 in
    let tii = each-append P to_tis (file_if_there Tii i.tii) nrm.0 in
    let tis = each-append P to_frq (file_if_there Tis i.tis) tii.0 in
    let frq = each-append P to_prx (file_if_there Frq i.frq) tis.0 in
    let prx = each-append P to_fdx (file_if_there Prx i.prx) frq.0 in
    let fdx = each-append P to_fdt (file_if_there Fdx d.fdx) prx.0 in
    let fdt = each-append P fnm (file_if_there Fdt d.fdt) fdx.0 in
    record {
      fnm = there-within limit Fnm i.fnm fdt.0;
      fdx = there-within limit Fdx d.fdx fdx.1;
      fdt = there-within limit Fdt d.fdt fdt.1;
      tis = there-within limit Tis i.tis tis.1;
      tii = there-within limit Tii i.tii tii.1;
      frq = there-within limit Frq i.frq frq.1;
      prx = there-within limit Prx i.prx prx.1;
      nrm = there-within limit Nrm i.nrm nrm.1;
      tvx = there-within limit Tvx d.tvx tvx.1;
      tvd = there-within limit Tvd d.tvd tvd.1;
      tvf = there-within limit Tvf d.tvf tvf.1;
    }

-- so has the file that they are packed into
pub packed-within : (limit number : ℕ) (parts : PartFiles) → first_past limit (all_written true number parts) ≡ None → length (packed_file number parts).bytes ≤ limit
packed-within limit number parts none = (each-append (Fits limit) (written_in_order parts) (packed_file number parts ∷ []) (all-within limit (all_written true number parts) none)).1.0

-- ---- in the order of checking

pub each-join : {X : Type 0} (P : X → Type 0) (xs ys : List X) → Each P xs → Each P ys → Each P (xs ++ ys)
each-join P [] ys h k = k
each-join P (x ∷ xs) ys h k = (h.0, each-join P xs ys h.1 k)

within-there : (limit : ℕ) (kind : FileKind) (file : Option (List ℕ)) → IsWithinLimit limit file → Each (Fits limit) (file_if_there kind file)
within-there limit kind None h = tt
within-there limit kind (Some bytes) h = (h, tt)

checked-within : (limit : ℕ) (parts : PartFiles) → ArePartsWithin limit parts → Each (Fits limit) (checked_in_order parts)
checked-within limit parts h =
    let P = Fits limit in
    let i = parts.index in
    let d = parts.documents in
    let to_fdx = each-join P (file_if_there Fnm i.fnm) (file_if_there Fdx d.fdx) (within-there limit Fnm i.fnm h.fnm) (within-there limit Fdx d.fdx h.fdx) in
    let to_fdt = each-join P _ (file_if_there Fdt d.fdt) to_fdx (within-there limit Fdt d.fdt h.fdt) in
    let to_tis = each-join P _ (file_if_there Tis i.tis) to_fdt (within-there limit Tis i.tis h.tis) in
    let to_tii = each-join P _ (file_if_there Tii i.tii) to_tis (within-there limit Tii i.tii h.tii) in
    let to_frq = each-join P _ (file_if_there Frq i.frq) to_tii (within-there limit Frq i.frq h.frq) in
    let to_prx = each-join P _ (file_if_there Prx i.prx) to_frq (within-there limit Prx i.prx h.prx) in
    let to_nrm = each-join P _ (file_if_there Nrm i.nrm) to_prx (within-there limit Nrm i.nrm h.nrm) in
    let to_tvx = each-join P _ (file_if_there Tvx d.tvx) to_nrm (within-there limit Tvx d.tvx h.tvx) in
    let to_tvd = each-join P _ (file_if_there Tvd d.tvd) to_tvx (within-there limit Tvd d.tvd h.tvd) in
    each-join P _ (file_if_there Tvf d.tvf) to_tvd (within-there limit Tvf d.tvf h.tvf)

-- so have the files of the segment, packed or not
files-within : (limit : ℕ) (compound : Bool) (number : ℕ) (parts : PartFiles) → first_past limit (all_written compound number parts) ≡ None → Each (Fits limit) (packed_if compound number parts)
files-within limit true number parts none = (packed-within limit number parts none, tt)
files-within limit false number parts none = checked-within limit parts (parts-within limit false number parts none)

pub canonical-within : (options : WriteOptions) (index : Index) → too_large_file options index ≡ None
    → All (λ (file : NamedFile). length file.bytes ≤ options.limits.file_bytes) (canonical_files options index).files
canonical-within options index fit =
    let parts = canonical_parts_of (intervals_of options) index in
    all-from_each (Fits options.limits.file_bytes) (packed_if options.compound options.number parts) (files-within options.limits.file_bytes options.compound options.number parts fit)
