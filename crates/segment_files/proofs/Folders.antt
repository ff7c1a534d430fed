-- The parts of an index are found in the folder, as files of their own or packed into one.
use Rattle.std.proofs.Common.{◌≡◌, ℕ, ◌^◌, ◌<◌, Bool, true, false, cond, List, [], ◌∷◌, length, map, Option, Some, None, refl, sym, ap, subst, ◌∙◌, arith}
use Rattle.std.specs.Prelude.{filter_map}
use Rattle.std.specs.List.{cons_option}
use Rattle.lu_grammar.specs.Bytes.{IsBytes}
use Rattle.lu_types.specs.Names.{segment_name, IsPart}
use Rattle.lu_types.specs.declared.kind.FileKind.{FileKind}
use Rattle.lu_types.specs.declared.kind.FileKind.TheVariants.{Fnm, Fdx, Fdt, Tis, Tii, Frq, Prx, Nrm, Tvx, Tvd, Tvf}
use Rattle.lu_types.specs.declared.named_file.NamedFile.{NamedFile}
use Rattle.lu_model.proofs.Words.{Each}
use Rattle.lu_model.proofs.Each.{all-from_each}
use Rattle.compound_file.specs.Entries.{NamedPart}
use Rattle.compound_file.specs.Packing.{is_same, file_of, packed_in, packed_parts}
use Rattle.lu_types.specs.Kinds.{part_kinds}
use Rattle.compound_file.proofs.FoundLemmas.{part_named-file_of}
use Rattle.compound_file.proofs.PackedLemmas.{packed-parts}
use Rattle.compound_file.proofs.WrittenLemmas.{cfs-reads}
use Rattle.check_index.specs.Files.{DocumentFiles, IndexFiles, PartFiles}
use Rattle.check_index.specs.Locating.{packed_part, packed_documents, packed_index, packed_files}
use Rattle.check_index.specs.Stands.{AreOwn}
use Rattle.segment_files.specs.Written.{file_if_there, checked_in_order, packed_file, packed_if}
use Rattle.segment_files.specs.Lines.{bytes_among, folder_with}
use Rattle.segment_files.proofs.Limits.{each-join}

-- the bytes of all parts, of which those of positions, norms and vectors are there where they are wanted
pub record PartBytes : Type 0 where
  pub fnm : List ℕ
  pub fdx : List ℕ
  pub fdt : List ℕ
  pub tis : List ℕ
  pub tii : List ℕ
  pub frq : List ℕ
  pub prx : List ℕ
  pub nrm : List ℕ
  pub tvx : List ℕ
  pub tvd : List ℕ
  pub tvf : List ℕ

abbrev pub parts_with : PartBytes → Bool → Bool → Bool → PartFiles
parts_with b prox norms vectors = record {
  index = record {
    fnm = Some b.fnm;
    tis = Some b.tis;
    tii = Some b.tii;
    frq = Some b.frq;
    prx = cond prox (Some b.prx) None;
    nrm = cond norms (Some b.nrm) None;
  };
  documents = record {
    fdx = Some b.fdx;
    fdt = Some b.fdt;
    tvx = cond vectors (Some b.tvx) None;
    tvd = cond vectors (Some b.tvd) None;
    tvf = cond vectors (Some b.tvf) None;
  };
}

-- as files of their own they are found
pub found-own : (b : PartBytes) (prox norms vectors : Bool) → (folder_with (checked_in_order (parts_with b prox norms vectors))).parts ≡ parts_with b prox norms vectors
found-own b true true true = refl
found-own b true true false = refl
found-own b true false true = refl
found-own b true false false = refl
found-own b false true true = refl
found-own b false true false = refl
found-own b false false true = refl
found-own b false false false = refl

-- ---- packed into one

-- the file is made of bytes, where it is there
abbrev pub IfThere : Option (List ℕ) → Type 0
IfThere None = Unit {0}
IfThere (Some bytes) = IsBytes bytes

-- so is each part
pub record AreBytesThere (parts : PartFiles) : Type 0 where
  pub fnm : IfThere parts.index.fnm
  pub fdx : IfThere parts.documents.fdx
  pub fdt : IfThere parts.documents.fdt
  pub tis : IfThere parts.index.tis
  pub tii : IfThere parts.index.tii
  pub frq : IfThere parts.index.frq
  pub prx : IfThere parts.index.prx
  pub nrm : IfThere parts.index.nrm
  pub tvx : IfThere parts.documents.tvx
  pub tvd : IfThere parts.documents.tvd
  pub tvf : IfThere parts.documents.tvf

-- what is so of each file is so of one that is found
found-holds : (P : NamedFile → Type 0) (files : List NamedFile) (kind : FileKind) (f : NamedFile) → Each P files → file_of files kind ≡ Some f → P f
found-holds P [] kind f h is = cc
found-holds P (g ∷ files) kind f h is = go (is_same g.kind kind) is (found-holds P files kind f h.1)
  where
    same : (x y : NamedFile) → Some x ≡ Some y → x ≡ y
    same x y e = cc

    go : (b : Bool) → cond b (Some g) (file_of files kind) ≡ Some f → (file_of files kind ≡ Some f → P f) → P f
    go true e rest = subst P (same g f e) h.0
    go false e rest = rest e

abbrev HoldsBytes : NamedFile → Type 0
HoldsBytes f = IsBytes f.bytes

all-found : (files : List NamedFile) (kinds : List FileKind) → Each HoldsBytes files → Each HoldsBytes (filter_map (file_of files) kinds)
all-found files [] h = tt
all-found files (kind ∷ kinds) h = go (file_of files kind) refl (all-found files kinds h)
  where
    go : (o : Option NamedFile) → file_of files kind ≡ o → Each HoldsBytes (filter_map (file_of files) kinds) → Each HoldsBytes (cons_option o (filter_map (file_of files) kinds))
    go None is rest = rest
    go (Some f) is rest = (found-holds HoldsBytes files kind f h is, rest)

parts-bytes : (segment : List ℕ) (found : List NamedFile) → Each HoldsBytes found → Each (λ (p : NamedPart). IsBytes p.bytes) (map (packed_in segment) found)
parts-bytes segment [] h = tt
parts-bytes segment (f ∷ found) h = (h.0, parts-bytes segment found h.1)

module _ (number : ℕ) (files : List NamedFile) where
  abbrev packed_here : List NamedPart
  packed_here = packed_parts number files

  part-found : (kind : FileKind) → IsPart kind → packed_part (segment_name number) packed_here kind ≡ bytes_among files kind
  part-found kind part = part_named-file_of files (segment_name number) kind part

  -- what is found of a kind
  abbrev got : FileKind → Option (List ℕ)
  got kind = packed_part (segment_name number) packed_here kind

  documents-found : packed_documents (segment_name number) packed_here ≡ (folder_with files).parts.documents
  documents-found =
      ap (λ (x : Option (List ℕ)). made x (got Fdt) (got Tvx) (got Tvd) (got Tvf)) (part-found Fdx tt)
      ∙ ap (λ (x : Option (List ℕ)). made (bytes_among files Fdx) x (got Tvx) (got Tvd) (got Tvf)) (part-found Fdt tt)
      ∙ ap (λ (x : Option (List ℕ)). made (bytes_among files Fdx) (bytes_among files Fdt) x (got Tvd) (got Tvf)) (part-found Tvx tt)
      ∙ ap (λ (x : Option (List ℕ)). made (bytes_among files Fdx) (bytes_among files Fdt) (bytes_among files Tvx) x (got Tvf)) (part-found Tvd tt)
      ∙ ap (λ (x : Option (List ℕ)). made (bytes_among files Fdx) (bytes_among files Fdt) (bytes_among files Tvx) (bytes_among files Tvd) x) (part-found Tvf tt)
    where
      made : Option (List ℕ) → Option (List ℕ) → Option (List ℕ) → Option (List ℕ) → Option (List ℕ) → DocumentFiles
      made fdx fdt tvx tvd tvf = record { fdx = fdx; fdt = fdt; tvx = tvx; tvd = tvd; tvf = tvf }

  index-found : packed_index (segment_name number) packed_here ≡ (folder_with files).parts.index
  index-found =
      ap (λ (x : Option (List ℕ)). made x (got Tis) (got Tii) (got Frq) (got Prx) (got Nrm)) (part-found Fnm tt)
      ∙ ap (λ (x : Option (List ℕ)). made (bytes_among files Fnm) x (got Tii) (got Frq) (got Prx) (got Nrm)) (part-found Tis tt)
      ∙ ap (λ (x : Option (List ℕ)). made (bytes_among files Fnm) (bytes_among files Tis) x (got Frq) (got Prx) (got Nrm)) (part-found Tii tt)
      ∙ ap (λ (x : Option (List ℕ)). made (bytes_among files Fnm) (bytes_among files Tis) (bytes_among files Tii) x (got Prx) (got Nrm)) (part-found Frq tt)
      ∙ ap (λ (x : Option (List ℕ)). made (bytes_among files Fnm) (bytes_among files Tis) (bytes_among files Tii) (bytes_among files Frq) x (got Nrm)) (part-found Prx tt)
      ∙ ap (λ (x : Option (List ℕ)). made (bytes_among files Fnm) (bytes_among files Tis) (bytes_among files Tii) (bytes_among files Frq) (bytes_among files Prx) x) (part-found Nrm tt)
    where
      made : Option (List ℕ) → Option (List ℕ) → Option (List ℕ) → Option (List ℕ) → Option (List ℕ) → Option (List ℕ) → IndexFiles
      made fnm tis tii frq prx nrm = record { fnm = fnm; tis = tis; tii = tii; frq = frq; prx = prx; nrm = nrm }

  packed-found : packed_files (segment_name number) packed_here ≡ (folder_with files).parts
  packed-found =
      ap (λ (x : IndexFiles). made x (packed_documents (segment_name number) packed_here)) index-found ∙ ap (λ (x : DocumentFiles). made (folder_with files).parts.index x) documents-found
    where
      made : IndexFiles → DocumentFiles → PartFiles
      made index documents = record { index = index; documents = documents }

-- ---- the parts of a segment

file-bytes : (kind : FileKind) (file : Option (List ℕ)) → IfThere file → Each HoldsBytes (file_if_there kind file)
file-bytes kind None h = tt
file-bytes kind (Some bytes) h = (h, tt)

files-bytes : (parts : PartFiles) → AreBytesThere parts → Each HoldsBytes (checked_in_order parts)
files-bytes parts h =
    let P = HoldsBytes in
    let i = parts.index in
    let d = parts.documents in
    let to_fdx = each-join P (file_if_there Fnm i.fnm) (file_if_there Fdx d.fdx) (file-bytes Fnm i.fnm h.fnm) (file-bytes Fdx d.fdx h.fdx) in
    let to_fdt = each-join P _ (file_if_there Fdt d.fdt) to_fdx (file-bytes Fdt d.fdt h.fdt) in
    let to_tis = each-join P _ (file_if_there Tis i.tis) to_fdt (file-bytes Tis i.tis h.tis) in
    let to_tii = each-join P _ (file_if_there Tii i.tii) to_tis (file-bytes Tii i.tii h.tii) in
    let to_frq = each-join P _ (file_if_there Frq i.frq) to_tii (file-bytes Frq i.frq h.frq) in
    let to_prx = each-join P _ (file_if_there Prx i.prx) to_frq (file-bytes Prx i.prx h.prx) in
    let to_nrm = each-join P _ (file_if_there Nrm i.nrm) to_prx (file-bytes Nrm i.nrm h.nrm) in
    let to_tvx = each-join P _ (file_if_there Tvx d.tvx) to_nrm (file-bytes Tvx d.tvx h.tvx) in
    let to_tvd = each-join P _ (file_if_there Tvd d.tvd) to_tvx (file-bytes Tvd d.tvd h.tvd) in
    each-join P _ (file_if_there Tvf d.tvf) to_tvd (file-bytes Tvf d.tvf h.tvf)

module _ (number : ℕ) (b : PartBytes) (prox norms vectors : Bool) where
  abbrev parts : PartFiles
  parts = parts_with b prox norms vectors

  pub own-parts : (compound : Bool) → number < 2 ^ 31 → AreBytesThere parts → (compound ≡ true → length (packed_file number parts).bytes < 2 ^ 31) → AreOwn compound (folder_with (packed_if compound number parts)) number parts
  own-parts false few fits small = sym (found-own b prox norms vectors)
  own-parts true few fits small =
      let files = checked_in_order parts in
      let held = packed_parts number files in
      let all = parts-bytes (segment_name number) (filter_map (file_of files) part_kinds) (all-found files part_kinds (files-bytes parts fits)) in
      let are = packed-parts files number few (all-from_each (λ (p : NamedPart). IsBytes p.bytes) held all) in
      (held, cfs-reads held are (let short = small refl in omega (arith, short)), sym (packed-found number files ∙ found-own b prox norms vectors))
