-- What the canonical files of an index are named, and how many documents they have.
use Rattle.std.proofs.Common.{◌≡◌, ℕ, Bool, true, false, List, [], ◌∷◌, ◌++◌, length, All, Option, Some, None, Ok, Err, refl, sym, subst, ap, ◌∙◌}
use Rattle.std.proofs.lemmas.List.{length-map}
use Rattle.std.proofs.lemmas.List.Elements.{All-append}
use Rattle.lu_types.specs.Names.{IsPart}
use Rattle.lu_types.specs.declared.document.Document.{Document}
use Rattle.lu_types.specs.declared.kind.FileKind.{FileKind}
use Rattle.lu_types.specs.declared.kind.FileKind.TheVariants.{Cfs, Fnm, Fdx, Fdt, Tis, Tii, Frq, Prx, Nrm, Tvx, Tvd, Tvf}
use Rattle.lu_types.specs.declared.named_file.NamedFile.{NamedFile}
use Rattle.lu_model.proofs.Each.{all-from_each}
use Rattle.lu_model.specs.Contents.{index_of, content_of, index_of_documents}
use Rattle.lu_model.specs.Index.{Index}
use Rattle.check_index.specs.Files.{PartFiles}
use Rattle.segment_files.specs.Parts.{intervals_of, canonical_parts_of}
use Rattle.segment_files.specs.Written.{file_if_there, checked_in_order, packed_file, packed_if, canonical_files, too_large_file}
use Rattle.segment_files.specs.declared.options.WriteOptions.{WriteOptions}
use Rattle.segment_files.specs.declared.options.SegmentFiles.{SegmentFiles}
use Rattle.lu_changes.specs.Building.{files_or, index_files_of}

-- the files are those of parts
abbrev pub ArePartFiles : List NamedFile → Type 0
ArePartFiles files = All (λ file. IsPart file.kind) files

one-file : (kind : FileKind) (bytes : List ℕ) → IsPart kind → ArePartFiles ((record { kind = kind; bytes = bytes }) ∷ [])
one-file kind bytes part = all-from_each (λ (file : NamedFile). IsPart file.kind) ((record { kind = kind; bytes = bytes }) ∷ []) (part, tt)

if-there : (kind : FileKind) (bytes : Option (List ℕ)) → IsPart kind → ArePartFiles (file_if_there kind bytes)
if-there kind None part = all-from_each (λ (file : NamedFile). IsPart file.kind) [] tt
if-there kind (Some bytes) part = one-file kind bytes part

and-more : (front back : List NamedFile) → ArePartFiles front → ArePartFiles back → ArePartFiles (front ++ back)
and-more front back ahead behind = All-append (λ (file : NamedFile). IsPart file.kind) front back ahead behind

in-order : (parts : PartFiles) → ArePartFiles (checked_in_order parts)
in-order parts =
    and-more _ _ (and-more _ _ (and-more _ _ (and-more _ _ (and-more _ _ (and-more _ _ (and-more _ _ (and-more _ _ (and-more _ _ (and-more _ _
    (if-there Fnm parts.index.fnm tt) (if-there Fdx parts.documents.fdx tt)) (if-there Fdt parts.documents.fdt tt)) (if-there Tis parts.index.tis tt)) (if-there Tii parts.index.tii tt))
    (if-there Frq parts.index.frq tt)) (if-there Prx parts.index.prx tt)) (if-there Nrm parts.index.nrm tt)) (if-there Tvx parts.documents.tvx tt)) (if-there Tvd parts.documents.tvd tt)) (if-there Tvf parts.documents.tvf tt)

packed-parts : (compound : Bool) (number : ℕ) (parts : PartFiles) → ArePartFiles (packed_if compound number parts)
packed-parts true number parts = one-file Cfs (packed_file number parts).bytes tt
packed-parts false number parts = in-order parts

-- where files are written none is too large
written-fit : (large : Option FileKind) (all files : SegmentFiles) → files_or large all ≡ Ok files → large ≡ None
written-fit None all files is = refl
written-fit (Some kind) all files is = let e : Err kind ≡ Ok files = is in absurd (cc)

-- files that are written are the canonical ones
written-are : (large : Option FileKind) (all files : SegmentFiles) → files_or large all ≡ Ok files → files ≡ all
written-are None all files is = let e : Ok all ≡ Ok files = is in cc
written-are (Some kind) all files is = let e : Err kind ≡ Ok files = is in absurd (cc)

-- the index of documents has as many
pub index-size : (docs : List Document) → (index_of_documents docs).size ≡ length docs
unfolding index_of
index-size docs = length-map docs content_of

module _ (options : WriteOptions) (index : Index) (files : SegmentFiles) (is : index_files_of options index ≡ Ok files) where
  -- they are the canonical ones
  pub files-canonical : files ≡ canonical_files options index
  files-canonical = written-are (too_large_file options index) (canonical_files options index) files is

  -- of which none is too large
  pub files-fit : too_large_file options index ≡ None
  files-fit = written-fit (too_large_file options index) (canonical_files options index) files is

  -- each is a part
  pub files-parts : ArePartFiles files.files
  files-parts = subst (λ (all : SegmentFiles). ArePartFiles all.files) (sym files-canonical) (packed-parts options.compound options.number (canonical_parts_of (intervals_of options) index))

  -- they have as many documents as the index
  pub files-size : files.size ≡ index.size
  files-size = ap (λ (all : SegmentFiles). all.size) files-canonical
