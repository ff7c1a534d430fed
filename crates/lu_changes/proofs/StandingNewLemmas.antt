-- The files of a new segment are found in the folder, and stand for their index.
use Rattle.std.proofs.Common.{◌≡◌, ◌≢◌, ◌⊎◌, ℕ, ◌≤◌, Bool, true, false, cond, List, [], ◌∷◌, length, map, All, Option, Some, None, Contains, refl, sym, ap, subst, ◌∙◌, inl, inr, arith}
use Rattle.std.specs.Option.{option_map}
use Rattle.std.specs.List.{list_any}
use Rattle.std.specs.FinMap.{keys}
use Rattle.std.specs.Str.{bytes_eq}
use Rattle.std.proofs.lemmas.List.Elements.{All-contains, All-map, Contains-append_cases}
use Rattle.std.proofs.lemmas.List.Sorted.{IsPermutation-refl}
use Rattle.lu_grammar.specs.Bytes.{IsBytes}
use Rattle.lu_dir.specs.Files.{Files, contents}
use Rattle.lu_dir.specs.Loading.{IsLoadable, found_at}
use Rattle.lu_types.specs.Bounds.{most_file_bytes}
use Rattle.lu_types.specs.Names.{segment_name, IsPart}
use Rattle.lu_types.specs.declared.kind.FileKind.{FileKind}
use Rattle.lu_types.specs.declared.kind.FileKind.TheVariants as kinds
use Rattle.lu_types.specs.declared.named_file.NamedFile.{NamedFile}
use Rattle.lu_model.specs.Index.{Index}
use Rattle.lu_model.specs.Valid.{IsValid}
use Rattle.compound_file.specs.Packing.{file_of}
use Rattle.compound_file.proofs.KindLemmas.{file_of-kind, same_name}
use Rattle.segment_infos.specs.declared.infos.SegInfo.{SegInfo}
use Rattle.segment_infos.specs.declared.naming.LuceneName.{LuceneName}
use Rattle.segment_infos.specs.declared.naming.LuceneName.TheVariants.{Part}
use Rattle.segment_infos.specs.LuceneNames.{name_spelling}
use Rattle.segment_infos.specs.Values.{CommitValue}
use Rattle.check_index.specs.Files.{FolderFiles}
use Rattle.segment_files.specs.Lines.{bytes_among, folder_with, StandsForIndex}
use Rattle.segment_files.specs.Parts.{keep_positions, intervals_of, postings_of, canonical_parts_of}
use Rattle.segment_files.specs.Written.{canonical_files, too_large_file}
use Rattle.segment_files.specs.declared.options.WriteOptions.{WriteOptions}
use Rattle.segment_files.proofs.CanonicalStand.{canonical-stand}
use Rattle.segment_files.proofs.Limits.{canonical-within}
use Rattle.lu_folder.specs.declared.new_file.NewFile.{NewFile}
use Rattle.lu_folder.specs.ChangeValues.{ChangeValue}
use Rattle.lu_folder.specs.Changes.{pending_file, written}
use Rattle.lu_folder.specs.Drawing.{next_segment}
use Rattle.lu_folder.specs.Keeping.{AddsOnly, IsNew}
use Rattle.lu_folder.specs.Limits.{file_limit}
use Rattle.lu_folder.specs.Reading.{read_names}
use Rattle.lu_folder.proofs.FreshLemmas.{segment-unlisted}
use Rattle.lu_folder.proofs.ListedLemmas.{unnamed-none}
use Rattle.lu_folder.proofs.ReferredLemmas.{file-no_commit}
use Rattle.lu_folder.proofs.SameName.{only-is}
use Rattle.lu_changes.specs.Building.{sourced, sourced_line, new_file}
use Rattle.lu_reads.specs.Finding.{spelled_names, file_among, folder_files}
use Rattle.lu_reads.specs.Standing.{StandsAs}
use Rattle.lu_changes.proofs.StandingReadLemmas.{some_same, Contains-map, map-Contains, found_at-contents, named-any}
use Rattle.lu_changes.proofs.StandingBytesLemmas.{canonical-bytes}
use Rattle.lu_changes.proofs.StandingLineLemmas.{file_of-Contains, file_of-none, IsRead, files-read, read-parts}

-- what a change adds of a segment
pub record AddsFiles (old new : Files) (before : CommitValue) (options : WriteOptions) (index : Index) (change : ChangeValue) : Type 0 where
  pub drawn : next_segment (keys old) before ≡ Some options.number
  pub parts : All (λ file. IsPart file.kind) (canonical_files options index).files
  pub files : change.files ≡ map (new_file options.number) (canonical_files options index).files
  pub adds : AddsOnly change old new
  pub is_new : IsNew change old new

module _ (source : List ℕ) (old new : Files) (before : CommitValue) (options : WriteOptions) (index : Index) (change : ChangeValue) (h : AddsFiles old new before options index change) where
  abbrev canonical : List NamedFile
  canonical = (canonical_files options index).files

  abbrev line : SegInfo
  line = sourced_line source options.number (canonical_files options index)

  abbrev spelled : FileKind → List ℕ
  spelled kind = name_spelling (Part options.number kind)

  -- each canonical file is there, whole
  whole-there : (file : NamedFile) → Contains canonical file → contents new (spelled file.kind) ≡ Some file.bytes
  whole-there file among =
      h.is_new.whole (new_file options.number file) (subst (λ (some : List NewFile). Contains some (new_file options.number file)) (sym h.files) (Contains-map (new_file options.number) canonical file among))

  -- the file of another kind is not there
  absent-other : (kind : FileKind) → IsPart kind → ((file : NamedFile) → Contains canonical file → file.kind ≢ kind) → contents new (spelled kind) ≡ None
  absent-other kind part none = by_case (h.adds (spelled kind) (unnamed-none old (keys old) (IsPermutation-refl (keys old)) (spelled kind) unlisted))
    where
      unlisted : ¬ Contains (keys old) (spelled kind)
      unlisted = segment-unlisted (keys old) before options.number (Part options.number kind) options.number h.drawn (options.is_number, part) refl (omega arith)

      by_part : (file : NewFile) → file.name ≡ spelled kind → Contains change.files file ⊎ Contains (pending_file change ∷ []) file → ⊥
      by_part file same (inl among) =
          let (one, there, is) : (one : NamedFile) × Contains canonical one × (new_file options.number one ≡ file) = map-Contains (new_file options.number) canonical file (subst (λ (some : List NewFile). Contains some file) h.files among) in
          none one there (same_name (segment_name options.number) one.kind kind (All-contains (λ (f : NamedFile). IsPart f.kind) canonical one h.parts there) part (ap (λ (f : NewFile). f.name) is ∙ same))
      by_part file same (inr own) =
          file-no_commit (Part options.number kind) options.number change.generation refl (sym (ap (λ (f : NewFile). f.name) (only-is (pending_file change) file own) ∙ same))

      by_case : (contents new (spelled kind) ≡ None) ⊎ ((file : NewFile) × Contains (written change) file × (file.name ≡ spelled kind)) → contents new (spelled kind) ≡ None
      by_case (inl gone) = gone
      by_case (inr (file, among, same)) = absurd (by_part file same (Contains-append_cases change.files (pending_file change ∷ []) file among))

  -- under the name of a part the folder has the canonical file of the kind
  part-there : (kind : FileKind) → IsPart kind → contents new (spelled kind) ≡ bytes_among canonical kind
  part-there kind part = by_file (file_of canonical kind) refl
    where
      by_file : (found : Option NamedFile) → file_of canonical kind ≡ found → contents new (spelled kind) ≡ option_map (λ (f : NamedFile). f.bytes) (file_of canonical kind)
      by_file None is = absent-other kind part (λ file among. file_of-none canonical kind file is among) ∙ sym (ap (option_map (λ (f : NamedFile). f.bytes)) is)
      by_file (Some file) is =
          ap (λ (k : FileKind). contents new (spelled k)) (sym (file_of-kind canonical kind file is))
          ∙ whole-there file (file_of-Contains canonical kind file is)
          ∙ sym (ap (option_map (λ (f : NamedFile). f.bytes)) is)

  -- ---- what is found

  abbrev found : List (Option (List ℕ))
  found = map (contents new) (spelled_names line)

  -- each canonical file is read
  canonical-read : (file : NamedFile) → Contains canonical file → Contains (read_names line) (Part options.number file.kind)
  canonical-read file among =
      All-contains (IsRead options.number index.size options.compound (keep_positions index.fields)) canonical file
      (files-read options.number index.size options.compound (keep_positions index.fields) (canonical_parts_of (intervals_of options) index) (λ none. ap (λ (b : Bool). cond b (Some (postings_of (intervals_of options) index).prx) None) none)) among

  -- what is found under the name of a part
  part-found : (kind : FileKind) → IsPart kind → found_at (spelled_names line) found (spelled kind) ≡ bytes_among canonical kind
  part-found kind part = found_at-contents new (spelled_names line) (spelled kind) ∙ by_test (list_any (bytes_eq (spelled kind)) (spelled_names line)) refl
    where
      by_file : (one : Option NamedFile) → file_of canonical kind ≡ one → list_any (bytes_eq (spelled kind)) (spelled_names line) ≡ false → None ≡ option_map (λ (f : NamedFile). f.bytes) (file_of canonical kind)
      by_file None is unread = sym (ap (option_map (λ (f : NamedFile). f.bytes)) is)
      by_file (Some file) is unread =
          absurd (differ (sym (named-any (spelled_names line) (spelled kind) (Contains-map name_spelling (read_names line) (Part options.number kind)
          (subst (λ (k : FileKind). Contains (read_names line) (Part options.number k)) (file_of-kind canonical kind file is) (canonical-read file (file_of-Contains canonical kind file is))))) ∙ unread))
        where
          differ : true ≡ false → ⊥
          differ e = cc

      by_test : (b : Bool) → list_any (bytes_eq (spelled kind)) (spelled_names line) ≡ b → cond b (contents new (spelled kind)) None ≡ bytes_among canonical kind
      by_test true is = part-there kind part
      by_test false is = by_file (file_of canonical kind) refl is

  -- no canonical file is of another kind
  no-other : (kind : FileKind) → ¬ IsPart kind → None ≡ bytes_among canonical kind
  no-other kind other = by_file (file_of canonical kind) refl
    where
      by_file : (one : Option NamedFile) → file_of canonical kind ≡ one → None ≡ option_map (λ (f : NamedFile). f.bytes) (file_of canonical kind)
      by_file None is = sym (ap (option_map (λ (f : NamedFile). f.bytes)) is)
      by_file (Some file) is =
          absurd (other (subst IsPart (file_of-kind canonical kind file is) (All-contains (λ (f : NamedFile). IsPart f.kind) canonical file h.parts (file_of-Contains canonical kind file is))))

  -- what is found of a kind is the canonical file of the kind
  kind-found : (kind : FileKind) → file_among (spelled_names line) found line kind ≡ bytes_among canonical kind
  kind-found kinds.Commit = no-other kinds.Commit (λ part. part)
  kind-found kinds.Cfs = part-found kinds.Cfs tt
  kind-found kinds.Cfx = part-found kinds.Cfx tt
  kind-found kinds.Fnm = part-found kinds.Fnm tt
  kind-found kinds.Fdx = part-found kinds.Fdx tt
  kind-found kinds.Fdt = part-found kinds.Fdt tt
  kind-found kinds.Tis = part-found kinds.Tis tt
  kind-found kinds.Tii = part-found kinds.Tii tt
  kind-found kinds.Frq = part-found kinds.Frq tt
  kind-found kinds.Prx = part-found kinds.Prx tt
  kind-found kinds.Nrm = part-found kinds.Nrm tt
  kind-found (kinds.Sep field) = no-other (kinds.Sep field) (λ part. part)
  kind-found kinds.Del = no-other kinds.Del (λ part. part)
  kind-found kinds.Tvx = part-found kinds.Tvx tt
  kind-found kinds.Tvd = part-found kinds.Tvd tt
  kind-found kinds.Tvf = part-found kinds.Tvf tt

  folder-found : folder_files line found ≡ folder_with canonical
  folder-found = ap by_kind (λ i kind. kind-found kind i)
    where
      by_kind : (FileKind → Option (List ℕ)) → FolderFiles
      by_kind file = record {
        cfs = file kinds.Cfs;
        cfx = file kinds.Cfx;
        parts = record {
          index = record {
            fnm = file kinds.Fnm;
            tis = file kinds.Tis;
            tii = file kinds.Tii;
            frq = file kinds.Frq;
            prx = file kinds.Prx;
            nrm = file kinds.Nrm;
          };
          documents = record {
            fdx = file kinds.Fdx;
            fdt = file kinds.Fdt;
            tvx = file kinds.Tvx;
            tvd = file kinds.Tvd;
            tvf = file kinds.Tvf;
          };
        };
        separate = [];
        del = file kinds.Del;
      }

  module _ (valid : IsValid index) (fit : too_large_file options index ≡ None) (limit : options.limits.file_bytes ≡ most_file_bytes) (none : index.deleted ≡ []) where
    -- a canonical file may be loaded
    canonical-loadable : (kind : FileKind) (one : Option NamedFile) → file_of canonical kind ≡ one → IsLoadable file_limit (option_map (λ (f : NamedFile). f.bytes) one)
    canonical-loadable kind None is = record { bytes = tt; within = tt }
    canonical-loadable kind (Some file) is =
        let among : Contains canonical file = file_of-Contains canonical kind file is in
        record {
          bytes = All-contains (λ (f : NamedFile). IsBytes f.bytes) canonical file (canonical-bytes options index valid fit none) among;
          within = subst (λ (n : ℕ). length file.bytes ≤ n) limit (All-contains (λ (f : NamedFile). length f.bytes ≤ options.limits.file_bytes) canonical file (canonical-within options index fit) among);
        }

    -- so may what is there under the name of a part
    part-loadable : (kind : FileKind) → IsPart kind → IsLoadable file_limit (contents new (spelled kind))
    part-loadable kind part = subst (IsLoadable file_limit) (sym (part-there kind part)) (canonical-loadable kind (file_of canonical kind) refl)

    -- the segment stands for its index
    pub segment-stands : StandsAs new line index
    segment-stands = record {
      found = found;
      read = record {
        told = λ told is. ap (λ (files : Files). map (contents files) (spelled_names line)) (some_same new told is);
        each = All-map (IsLoadable file_limit) (contents new) (spelled_names line) (All-map (λ (name : List ℕ). IsLoadable file_limit (contents new name)) name_spelling (read_names line)
            (read-parts options.number index.size (λ (name : LuceneName). IsLoadable file_limit (contents new (name_spelling name))) options.compound (keep_positions index.fields) part-loadable));
      };
      stands = subst (λ (folder : FolderFiles). StandsForIndex folder line index) (sym folder-found) (canonical-stand options index valid fit (sourced source) none);
    }
