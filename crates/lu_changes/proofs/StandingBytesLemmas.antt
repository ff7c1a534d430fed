-- Canonical files are made of bytes, since each of them is read.
use Rattle.std.proofs.Common.{◌≡◌, ℕ, Bool, true, false, cond, List, [], length, All, Option, Some, None, refl, ap, subst, ◌∙◌}
use Rattle.std.specs.Prelude.{◌&&◌, is_some}
use Rattle.lu_grammar.specs.Bytes.{IsBytes}
use Rattle.lu_grammar.specs.Plans.{Plan}
use Rattle.lu_types.specs.Tables.{TableField}
use Rattle.lu_types.specs.declared.kind.FileKind.{FileKind}
use Rattle.lu_types.specs.declared.kind.FileKind.TheVariants as kinds
use Rattle.lu_types.specs.declared.named_file.NamedFile.{NamedFile}
use Rattle.lu_model.specs.Index.{Index}
use Rattle.lu_model.specs.Valid.{IsValid}
use Rattle.lu_model.proofs.Words.{Each}
use Rattle.lu_model.proofs.Each.{all-from_each}
use Rattle.compound_file.specs.Cfs.{cfs_plan}
use Rattle.segment_infos.specs.declared.infos.SegInfo.{SegInfo}
use Rattle.check_index.specs.Files.{DocumentFiles, PartFiles, FolderFiles}
use Rattle.check_index.specs.Segments.{SegmentValue}
use Rattle.check_index.specs.Stands.{Holds, AreOwn, Either, SegmentStands}
use Rattle.check_index.specs.Vectors.{have_vectors}
use Rattle.check_index.proofs.ReadBytes.{read-bytes}
use Rattle.check_index.proofs.StandsLaws.{stands-by_files}
use Rattle.segment_files.specs.Lines.{new_line, folder_with, StandsForIndex}
use Rattle.segment_files.specs.Parts.{keep_positions, have_norms, intervals_of, canonical_parts_of}
use Rattle.segment_files.specs.Written.{file_if_there, packed_file, packed_if, canonical_files, too_large_file}
use Rattle.segment_files.specs.declared.options.WriteOptions.{WriteOptions}
use Rattle.segment_files.proofs.CanonicalStand.{canonical-stand}
use Rattle.segment_files.proofs.Folders.{PartBytes, parts_with, found-own, IfThere}
use Rattle.lu_changes.proofs.StandingLineLemmas.{OfEachFile, each-checked}

-- ---- what is read is made of bytes

held-bytes : {V R : Type 0} (file : Option (List ℕ)) (plan : List ℕ → Plan V R) (value : V) → Holds file plan value → IfThere file
held-bytes None plan value held = absurd held
held-bytes (Some bytes) plan value held = read-bytes (plan bytes) bytes value held

abbrev HasBytes : NamedFile → Type 0
HasBytes file = IsBytes file.bytes

file-bytes : (kind : FileKind) (file : Option (List ℕ)) → IfThere file → Each HasBytes (file_if_there kind file)
file-bytes kind None fit = tt
file-bytes kind (Some bytes) fit = (fit, tt)

-- a file that is there where a test holds
file-if : (test : Bool) (bytes : List ℕ) → (test ≡ true → IfThere (cond test (Some bytes) None)) → IfThere (cond test (Some bytes) None)
file-if true bytes held = held refl
file-if false bytes held = tt

either-so : {V : Type 0} (test : Bool) (So : Type 0) (value otherwise : V) → test ≡ true → Either test So value otherwise → So
either-so true So value otherwise is held = held
either-so false So value otherwise is held = absurd (differ is)
  where
    differ : false ≡ true → ⊥
    differ e = cc

there-if : (test : Bool) (bytes : List ℕ) → test ≡ true → (test && is_some (cond test (Some bytes) None)) ≡ true
there-if true bytes is = refl
there-if false bytes is = is

-- ---- where the parts are

packed-bytes : (compound : Bool) (number : ℕ) (parts own : PartFiles) → AreOwn compound (folder_with (packed_if compound number parts)) number own → compound ≡ true → IsBytes (packed_file number parts).bytes
packed-bytes true number parts own (held, reads, same) is = read-bytes (cfs_plan (length (packed_file number parts).bytes)) (packed_file number parts).bytes held reads
packed-bytes false number parts own same is = absurd (differ is)
  where
    differ : false ≡ true → ⊥
    differ e = cc

own-are : (compound : Bool) (number : ℕ) (b : PartBytes) (prox norms vectors : Bool) (own : PartFiles) → AreOwn compound (folder_with (packed_if compound number (parts_with b prox norms vectors))) number own → compound ≡ false → own ≡ parts_with b prox norms vectors
own-are true number b prox norms vectors own held is = absurd (differ is)
  where
    differ : true ≡ false → ⊥
    differ e = cc
own-are false number b prox norms vectors own same is = same ∙ found-own b prox norms vectors

-- ---- the files of an index

module _ (options : WriteOptions) (index : Index) (v : IsValid index) (fit : too_large_file options index ≡ None) (none : index.deleted ≡ []) where
  abbrev parts : PartFiles
  parts = canonical_parts_of (intervals_of options) index

  abbrev line : SegInfo
  line = new_line options.number [] (canonical_files options index)

  abbrev folder : FolderFiles
  folder = folder_with (canonical_files options index).files

  standing : StandsForIndex folder line index
  standing = canonical-stand options index v fit [] none

  by_files : SegmentStands folder line standing.0
  by_files = stands-by_files folder line standing.0 standing.1

  abbrev x : SegmentValue
  x = standing.0

  fields-same : x.index.fields ≡ index.fields
  fields-same = ap (λ (i : Index). i.fields) standing.2

  -- each part is made of bytes, where the parts are files of their own
  module _ (unpacked : options.compound ≡ false) where
    own-same : by_files.own ≡ parts
    own-same = own-are options.compound options.number (record { fnm = _; fdx = _; fdt = _; tis = _; tii = _; frq = _; prx = _; nrm = _; tvx = _; tvd = _; tvf = _ }) (keep_positions index.fields) (have_norms index.fields) (have_vectors index.fields) by_files.own by_files.is_own unpacked

    documents-same : by_files.documents ≡ parts.documents
    documents-same = by_files.are_documents ∙ ap (λ (own : PartFiles). own.documents) own-same

    prx-bytes : IfThere parts.index.prx
    prx-bytes = file-if (keep_positions index.fields) _ (λ some. subst (λ (own : PartFiles). IfThere own.index.prx) own-same (held-bytes by_files.own.index.prx _ _ (either-so (keep_positions index.fields) _ _ _ some by_files.prx)))

    nrm-bytes : IfThere parts.index.nrm
    nrm-bytes = file-if (have_norms index.fields) _ (λ some.
        let read = either-so (have_norms x.index.fields) _ _ _ (ap (λ (fields : List TableField). have_norms fields) fields-same ∙ some) by_files.nrm in
        subst (λ (own : PartFiles). IfThere own.index.nrm) own-same (held-bytes by_files.own.index.nrm _ _ read.1))

    vectors-there : have_vectors index.fields ≡ true → (have_vectors x.index.fields && is_some by_files.documents.tvx) ≡ true
    vectors-there some =
        ap (λ (fields : List TableField). have_vectors fields && is_some by_files.documents.tvx) fields-same
        ∙ ap (λ (files : DocumentFiles). have_vectors index.fields && is_some files.tvx) documents-same
        ∙ there-if (have_vectors index.fields) _ some

    tvx-bytes : IfThere parts.documents.tvx
    tvx-bytes = file-if (have_vectors index.fields) _ (λ some. let read = either-so (have_vectors x.index.fields && is_some by_files.documents.tvx) _ _ _ (vectors-there some) by_files.vectors in
        subst (λ (files : DocumentFiles). IfThere files.tvx) documents-same (held-bytes by_files.documents.tvx _ _ read.places_held))

    tvd-bytes : IfThere parts.documents.tvd
    tvd-bytes = file-if (have_vectors index.fields) _ (λ some. let read = either-so (have_vectors x.index.fields && is_some by_files.documents.tvx) _ _ _ (vectors-there some) by_files.vectors in
        subst (λ (files : DocumentFiles). IfThere files.tvd) documents-same (held-bytes by_files.documents.tvd _ _ read.slots_held))

    tvf-bytes : IfThere parts.documents.tvf
    tvf-bytes = file-if (have_vectors index.fields) _ (λ some. let read = either-so (have_vectors x.index.fields && is_some by_files.documents.tvx) _ _ _ (vectors-there some) by_files.vectors in
        subst (λ (files : DocumentFiles). IfThere files.tvf) documents-same (held-bytes by_files.documents.tvf _ _ read.vectors_held))

    parts-bytes : OfEachFile HasBytes parts
    parts-bytes = record {
      fnm = file-bytes kinds.Fnm parts.index.fnm (subst (λ (files : PartFiles). IfThere files.index.fnm) own-same (held-bytes by_files.own.index.fnm _ _ by_files.fnm));
      fdx = file-bytes kinds.Fdx parts.documents.fdx (subst (λ (files : DocumentFiles). IfThere files.fdx) documents-same (held-bytes by_files.documents.fdx _ _ by_files.stored.places_held));
      fdt = file-bytes kinds.Fdt parts.documents.fdt (subst (λ (files : DocumentFiles). IfThere files.fdt) documents-same (held-bytes by_files.documents.fdt _ _ by_files.stored.documents_held));
      tis = file-bytes kinds.Tis parts.index.tis (subst (λ (files : PartFiles). IfThere files.index.tis) own-same (held-bytes by_files.own.index.tis _ _ by_files.tis));
      tii = file-bytes kinds.Tii parts.index.tii (subst (λ (files : PartFiles). IfThere files.index.tii) own-same (held-bytes by_files.own.index.tii _ _ by_files.tii));
      frq = file-bytes kinds.Frq parts.index.frq (subst (λ (files : PartFiles). IfThere files.index.frq) own-same (held-bytes by_files.own.index.frq _ _ by_files.frq));
      prx = file-bytes kinds.Prx parts.index.prx prx-bytes;
      nrm = file-bytes kinds.Nrm parts.index.nrm nrm-bytes;
      tvx = file-bytes kinds.Tvx parts.documents.tvx tvx-bytes;
      tvd = file-bytes kinds.Tvd parts.documents.tvd tvd-bytes;
      tvf = file-bytes kinds.Tvf parts.documents.tvf tvf-bytes;
    }

  -- each canonical file is made of bytes
  pub canonical-bytes : All HasBytes (canonical_files options index).files
  canonical-bytes = all-from_each HasBytes (canonical_files options index).files (by_test options.compound refl)
    where
      by_test : (compound : Bool) → options.compound ≡ compound → Each HasBytes (packed_if compound options.number parts)
      by_test true is = (packed-bytes options.compound options.number parts by_files.own by_files.is_own is, tt)
      by_test false is = each-checked HasBytes parts (parts-bytes is)
