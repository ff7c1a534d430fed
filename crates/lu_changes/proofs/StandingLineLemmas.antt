-- Which files are read for the line of a new segment: those of the canonical files, and parts alone.
use Rattle.std.proofs.Common.{◌≡◌, ◌≢◌, ℕ, zero, suc, Bool, true, false, cond, List, [], ◌∷◌, All, Option, Some, None, Contains, refl, sym, ap, subst, ◌∙◌, arith}
use Rattle.lu_types.specs.Names.{IsPart}
use Rattle.lu_types.specs.declared.kind.FileKind.{FileKind}
use Rattle.lu_types.specs.declared.kind.FileKind.TheVariants as kinds
use Rattle.lu_types.specs.declared.named_file.NamedFile.{NamedFile}
use Rattle.lu_model.proofs.Words.{Each}
use Rattle.lu_model.proofs.Each.{all-from_each}
use Rattle.compound_file.specs.Packing.{is_same, file_of}
use Rattle.compound_file.proofs.PackedLemmas.{same_kind-refl}
use Rattle.segment_infos.specs.declared.infos.SegInfo.{SegInfo}
use Rattle.segment_infos.specs.declared.naming.LuceneName.{LuceneName}
use Rattle.segment_infos.specs.declared.naming.LuceneName.TheVariants.{Part}
use Rattle.check_index.specs.Files.{PartFiles}
use Rattle.segment_files.specs.Written.{file_if_there, checked_in_order, packed_if}
use Rattle.segment_files.proofs.Limits.{each-join}
use Rattle.lu_folder.specs.Reading.{read_names}

-- ---- the file of a kind

-- the file of a kind is one of the files
pub file_of-Contains : (files : List NamedFile) (kind : FileKind) (file : NamedFile) → file_of files kind ≡ Some file → Contains files file
file_of-Contains [] kind file is = absurd (cc)
file_of-Contains (first ∷ files) kind file is = by_test (is_same first.kind kind) is (file_of-Contains files kind file)
  where
    by_test : (b : Bool) → cond b (Some first) (file_of files kind) ≡ Some file → (file_of files kind ≡ Some file → Contains files file) → Contains (first ∷ files) file
    by_test true one later = (0, omega arith, let same : Some first ≡ Some file = one in cc)
    by_test false one later = behind (later one)
      where
        behind : Contains files file → Contains (first ∷ files) file
        behind (k, within, at) = (suc k, omega arith, at)

-- where there is none, each file has another kind
pub file_of-none : (files : List NamedFile) (kind : FileKind) (file : NamedFile) → file_of files kind ≡ None → Contains files file → file.kind ≢ kind
file_of-none [] kind file none (k, within, at) same = omega arith
file_of-none (first ∷ files) kind file none among same = by_place among (by_test (is_same first.kind kind) refl none) (λ rest later. file_of-none files kind file rest later same)
  where
    by_test : (b : Bool) → is_same first.kind kind ≡ b → cond b (Some first) (file_of files kind) ≡ None → (is_same first.kind kind ≡ false) × (file_of files kind ≡ None)
    by_test true is one = let gone : Some first ≡ None = one in absurd (cc)
    by_test false is one = (is, one)

    by_place : Contains (first ∷ files) file → (is_same first.kind kind ≡ false) × (file_of files kind ≡ None) → (file_of files kind ≡ None → Contains files file → ⊥) → ⊥
    by_place (zero, within, at) (other, rest) before = differ (sym (same_kind-refl kind) ∙ ap (λ (k : FileKind). is_same k kind) (sym same ∙ sym (ap (λ (f : NamedFile). f.kind) at)) ∙ other)
      where
        differ : true ≡ false → ⊥
        differ e = cc
    by_place (suc k, within, at) (other, rest) before = before rest (k, omega arith, at)

-- ---- the parts of a segment

-- this is so of each file that is there
pub record OfEachFile (P : NamedFile → Type 0) (parts : PartFiles) : Type 0 where
  pub fnm : Each P (file_if_there kinds.Fnm parts.index.fnm)
  pub fdx : Each P (file_if_there kinds.Fdx parts.documents.fdx)
  pub fdt : Each P (file_if_there kinds.Fdt parts.documents.fdt)
  pub tis : Each P (file_if_there kinds.Tis parts.index.tis)
  pub tii : Each P (file_if_there kinds.Tii parts.index.tii)
  pub frq : Each P (file_if_there kinds.Frq parts.index.frq)
  pub prx : Each P (file_if_there kinds.Prx parts.index.prx)
  pub nrm : Each P (file_if_there kinds.Nrm parts.index.nrm)
  pub tvx : Each P (file_if_there kinds.Tvx parts.documents.tvx)
  pub tvd : Each P (file_if_there kinds.Tvd parts.documents.tvd)
  pub tvf : Each P (file_if_there kinds.Tvf parts.documents.tvf)

pub each-checked : (P : NamedFile → Type 0) (parts : PartFiles) → OfEachFile P parts → Each P (checked_in_order parts)
each-checked P parts each =
    let i = parts.index in
    let d = parts.documents in
    let to_fdx = each-join P (file_if_there kinds.Fnm i.fnm) (file_if_there kinds.Fdx d.fdx) each.fnm each.fdx in
    let to_fdt = each-join P _ (file_if_there kinds.Fdt d.fdt) to_fdx each.fdt in
    let to_tis = each-join P _ (file_if_there kinds.Tis i.tis) to_fdt each.tis in
    let to_tii = each-join P _ (file_if_there kinds.Tii i.tii) to_tis each.tii in
    let to_frq = each-join P _ (file_if_there kinds.Frq i.frq) to_tii each.frq in
    let to_prx = each-join P _ (file_if_there kinds.Prx i.prx) to_frq each.prx in
    let to_nrm = each-join P _ (file_if_there kinds.Nrm i.nrm) to_prx each.nrm in
    let to_tvx = each-join P _ (file_if_there kinds.Tvx d.tvx) to_nrm each.tvx in
    let to_tvd = each-join P _ (file_if_there kinds.Tvd d.tvd) to_tvx each.tvd in
    each-join P _ (file_if_there kinds.Tvf d.tvf) to_tvd each.tvf

-- ---- what is read

-- the line of a new segment, by what it says
abbrev pub line_with : ℕ → ℕ → Bool → Bool → SegInfo
line_with number size compound prox = record {
  number = number;
  size = size;
  del_gen = None;
  store = None;
  norm_gens = None;
  compound = compound;
  deleted = 0;
  has_prox = prox;
  diagnostics = [];
}

module _ (number size : ℕ) where
  -- the file is read for such a line
  abbrev pub IsRead : Bool → Bool → NamedFile → Type 0
  IsRead compound prox file = Contains (read_names (line_with number size compound prox)) (Part number file.kind)

  there-read : (prox : Bool) (kind : FileKind) (file : Option (List ℕ)) → Contains (read_names (line_with number size false prox)) (Part number kind) → Each (IsRead false prox) (file_if_there kind file)
  there-read prox kind None among = tt
  there-read prox kind (Some bytes) among = (among, tt)

  parts-read : (prox : Bool) (parts : PartFiles) → (prox ≡ false → parts.index.prx ≡ None) → Each (IsRead false prox) (checked_in_order parts)
  parts-read true parts none = each-checked (IsRead false true) parts (record {
    fnm = there-read true kinds.Fnm parts.index.fnm (0, omega arith, refl);
    fdx = there-read true kinds.Fdx parts.documents.fdx (1, omega arith, refl);
    fdt = there-read true kinds.Fdt parts.documents.fdt (2, omega arith, refl);
    tis = there-read true kinds.Tis parts.index.tis (3, omega arith, refl);
    tii = there-read true kinds.Tii parts.index.tii (4, omega arith, refl);
    frq = there-read true kinds.Frq parts.index.frq (5, omega arith, refl);
    prx = there-read true kinds.Prx parts.index.prx (6, omega arith, refl);
    nrm = there-read true kinds.Nrm parts.index.nrm (7, omega arith, refl);
    tvx = there-read true kinds.Tvx parts.documents.tvx (8, omega arith, refl);
    tvd = there-read true kinds.Tvd parts.documents.tvd (9, omega arith, refl);
    tvf = there-read true kinds.Tvf parts.documents.tvf (10, omega arith, refl);
  })
  parts-read false parts none = each-checked (IsRead false false) parts (record {
    fnm = there-read false kinds.Fnm parts.index.fnm (0, omega arith, refl);
    fdx = there-read false kinds.Fdx parts.documents.fdx (1, omega arith, refl);
    fdt = there-read false kinds.Fdt parts.documents.fdt (2, omega arith, refl);
    tis = there-read false kinds.Tis parts.index.tis (3, omega arith, refl);
    tii = there-read false kinds.Tii parts.index.tii (4, omega arith, refl);
    frq = there-read false kinds.Frq parts.index.frq (5, omega arith, refl);
    prx = subst (λ (o : Option (List ℕ)). Each (IsRead false false) (file_if_there kinds.Prx o)) (sym (none refl)) tt;
    nrm = there-read false kinds.Nrm parts.index.nrm (6, omega arith, refl);
    tvx = there-read false kinds.Tvx parts.documents.tvx (7, omega arith, refl);
    tvd = there-read false kinds.Tvd parts.documents.tvd (8, omega arith, refl);
    tvf = there-read false kinds.Tvf parts.documents.tvf (9, omega arith, refl);
  })

  -- each file of a segment is read for its line, packed or not, where positions are there only if the line has them
  pub files-read : (compound prox : Bool) (parts : PartFiles) → (prox ≡ false → parts.index.prx ≡ None) → All (IsRead compound prox) (packed_if compound number parts)
  files-read true true parts none = all-from_each (IsRead true true) (packed_if true number parts) ((0, omega arith, refl), tt)
  files-read true false parts none = all-from_each (IsRead true false) (packed_if true number parts) ((0, omega arith, refl), tt)
  files-read false prox parts none = all-from_each (IsRead false prox) (checked_in_order parts) (parts-read prox parts none)

  -- what holds of each part's name holds of each name that is read
  pub read-parts : (Q : LuceneName → Type 0) (compound prox : Bool) → ((kind : FileKind) → IsPart kind → Q (Part number kind)) → All Q (read_names (line_with number size compound prox))
  read-parts Q true true of_part = all-from_each Q (read_names (line_with number size true true)) (of_part kinds.Cfs tt, tt)
  read-parts Q true false of_part = all-from_each Q (read_names (line_with number size true false)) (of_part kinds.Cfs tt, tt)
  read-parts Q false true of_part =
      all-from_each Q (read_names (line_with number size false true))
      (of_part kinds.Fnm tt, (of_part kinds.Fdx tt, (of_part kinds.Fdt tt, (of_part kinds.Tis tt, (of_part kinds.Tii tt, (of_part kinds.Frq tt, (of_part kinds.Prx tt, (of_part kinds.Nrm tt, (of_part kinds.Tvx tt, (of_part kinds.Tvd tt, (of_part kinds.Tvf tt, tt)))))))))))
  read-parts Q false false of_part =
      all-from_each Q (read_names (line_with number size false false))
      (of_part kinds.Fnm tt, (of_part kinds.Fdx tt, (of_part kinds.Fdt tt, (of_part kinds.Tis tt, (of_part kinds.Tii tt, (of_part kinds.Frq tt, (of_part kinds.Nrm tt, (of_part kinds.Tvx tt, (of_part kinds.Tvd tt, (of_part kinds.Tvf tt, tt))))))))))
