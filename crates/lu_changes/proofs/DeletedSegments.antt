-- Segments whose documents were marked stand for their marked indexes.
use Rattle.std.proofs.Common.{◌≡◌, ◌⊎◌, ℕ, ◌+◌, ◌^◌, ◌<◌, false, ◌||◌, List, [], ◌∷◌, length, map, get_or, All, Option, Some, None, ℤ, Contains, refl, sym, ap, subst, ◌∙◌, inl, inr, arith}
use Rattle.std.specs.Prelude.{nat_lt, unwrap_or, is_some}
use Rattle.std.specs.List.{flat_map}
use Rattle.std.proofs.lemmas.List.Elements.{All-head, All-tail, All-contains, All-map, Contains-get_or, Contains-append_left, Contains-append_right}
use Rattle.lu_grammar.specs.Meaning.{Reads}
use Rattle.lu_dir.specs.Files.{Files, contents}
use Rattle.lu_dir.specs.Loading.{IsLoadable}
use Rattle.lu_types.specs.FilePlans.{StandFor}
use Rattle.lu_model.specs.Index.{Index}
use Rattle.doc_marks.specs.Deletions.{del_plan}
use Rattle.doc_marks.specs.Spelling.{del_bytes}
use Rattle.doc_marks.specs.Marking.{AreRising, is_in}
use Rattle.doc_marks.proofs.DelReads.{del-reads}
use Rattle.segment_infos.specs.declared.infos.SegInfo.{SegInfo}
use Rattle.segment_infos.specs.declared.naming.LuceneName.{LuceneName}
use Rattle.segment_infos.specs.declared.naming.LuceneName.TheVariants.{Del}
use Rattle.segment_infos.specs.Keeping.{HasOwnSpelling}
use Rattle.segment_infos.specs.LuceneNames.{name_spelling}
use Rattle.segment_infos.specs.Referring.{line_names}
use Rattle.segment_infos.specs.Values.{IsLine, AreNormGens}
use Rattle.check_index.specs.Files.{FolderFiles}
use Rattle.check_index.specs.Segments.{SegmentValue, segment_files}
use Rattle.check_index.proofs.ReadBytes.{read-bytes}
use Rattle.check_index.proofs.StandsLaws.{stands-from, stands-by_files}
use Rattle.lu_folder.specs.Limits.{file_limit}
use Rattle.lu_folder.specs.Reading.{read_names}
use Rattle.lu_folder.specs.declared.new_file.NewFile.{NewFile}
use Rattle.lu_changes.specs.declared.marking.Marking.{Marking}
use Rattle.lu_changes.specs.declared.marking.Marking.TheVariants.{Same, Grown, Full}
use Rattle.lu_changes.specs.Deleting.{marked_index, documents_with, deleted_with, growth_to, marking_of, markings_of, first_full, file_of, marked_line, marked_lines}
use Rattle.lu_reads.specs.Finding.{spelled_names, folder_files}
use Rattle.lu_reads.specs.Segments.{IsReadAs, AreReadAs}
use Rattle.lu_reads.specs.Standing.{StandsAs, StandAs}
use Rattle.lu_reads.proofs.ReadAsLemmas.{read-index}
use Rattle.lu_changes.proofs.StandingReadLemmas.{some_same, Contains-map, read-referred}
use Rattle.lu_changes.proofs.StandingKeptLemmas.{line-kept}
use Rattle.lu_changes.proofs.MarkedCommitLemmas.{by_marking, size-stands}
use Rattle.lu_changes.proofs.DeletedStandLemmas.{with_del, del_line, with_deleted, rising-filter, same-deleted, rising-deleted, del-long, del-stands}
use Rattle.lu_changes.proofs.DeletedFilesLemmas.{read-before, folder-found}

norms-few : (counted : Option (List ℤ)) → AreNormGens counted → length (unwrap_or counted []) < 2 ^ 31
norms-few None are = omega arith
norms-few (Some generations) are = are.0

module _ (old new : Files) (field text : List ℕ) where
  -- ---- one segment

  module _ (line : SegInfo) (x : SegmentValue) (is : IsLine line) (r : IsReadAs (Some old) line x) where
    found-is : r.found ≡ map (contents old) (spelled_names line)
    found-is = r.read.told old refl

    stands : StandFor (segment_files (folder_files line (map (contents old) (spelled_names line))) line) x
    stands = subst (λ (found : List (Option (List ℕ))). StandFor (segment_files (folder_files line found) line) x) found-is r.stands

    size-is : x.index.size ≡ line.size
    size-is = size-stands (folder_files line r.found) line x r.stands

    rise : AreRising 0 x.index.size x.index.deleted
    rise = subst (λ (n : ℕ). AreRising 0 n x.index.deleted) (sym size-is) (rising-deleted (is_some line.del_gen) line.size line.deleted (folder_files line r.found).del x.index.deleted (stands-by_files (folder_files line r.found) line x r.stands).del)

    was-loadable : (name : LuceneName) → Contains (read_names line) name → IsLoadable file_limit (contents old (name_spelling name))
    was-loadable name among =
        All-contains (IsLoadable file_limit) (map (contents old) (spelled_names line)) (contents old (name_spelling name)) (subst (λ (found : List (Option (List ℕ))). All (IsLoadable file_limit) found) found-is r.read.each)
        (Contains-map (contents old) (spelled_names line) (name_spelling name) (Contains-map name_spelling (read_names line) name among))

    -- it stood for its index
    stood : StandsAs old line x.index
    stood = record { found = r.found; read = r.read; stands = (x, r.stands, refl) }

    abbrev old_folder : FolderFiles
    old_folder = folder_files line (map (contents old) (spelled_names line))

    module _ (generation : ℕ) where
      abbrev docs : List ℕ
      docs = deleted_with field text x.index

      abbrev bytes : List ℕ
      bytes = del_bytes x.index.size docs

      abbrev new_line : SegInfo
      new_line = del_line line generation (length docs)

      reads : Reads (del_plan line.size (length docs)) bytes docs
      reads =
          let small : x.index.size < 2 ^ 31 = omega (arith, size-is, is.size) in
          subst (λ (n : ℕ). Reads (del_plan n (length docs)) bytes docs) size-is (del-reads x.index.size docs small
          (subst (λ (n : ℕ). AreRising 0 n docs) (let e : 0 + x.index.size ≡ x.index.size = omega arith in e) (rising-filter (λ d. is_in d x.index.deleted || is_in d (documents_with field text x.index)) 0 x.index.size)))

      -- its documents are deleted, where its new file is in the folder and its others are as before
      grown-stands : (own : All HasOwnSpelling (read_names new_line)) (whole : contents new (name_spelling (Del line.number generation)) ≡ Some bytes)
          (kept : (name : LuceneName) → Contains (read_names new_line) name → Contains (read_names line) name → contents new (name_spelling name) ≡ contents old (name_spelling name))
          → StandsAs new new_line (marked_index field text x.index)
      grown-stands own whole kept = record {
        found = map (contents new) (spelled_names new_line);
        read = record {
          told = λ told same. ap (λ (files : Files). map (contents files) (spelled_names new_line)) (some_same new told same);
          each = All-map (IsLoadable file_limit) (contents new) (spelled_names new_line) (All-map (λ (name : List ℕ). IsLoadable file_limit (contents new name)) name_spelling (read_names new_line)
              (λ k d within. loadable (get_or (read_names new_line) k d) (Contains-get_or (read_names new_line) k d within)));
        };
        stands = (
          with_deleted x docs,
          subst (λ (folder : FolderFiles). StandFor (segment_files folder new_line) (with_deleted x docs)) (sym (folder-found line generation (length docs) old new bytes own whole kept (norms-few line.norm_gens is.norm_gens)))
              (stands-from (with_del old_folder bytes) new_line (with_deleted x docs) (del-stands old_folder line x generation docs bytes (stands-by_files old_folder line x stands) reads)),
          refl,
        );
      }
        where
          loadable : (name : LuceneName) → Contains (read_names new_line) name → IsLoadable file_limit (contents new (name_spelling name))
          loadable name among = by_name (read-before line generation (length docs) name among)
            where
              by_name : (name ≡ Del line.number generation) ⊎ Contains (read_names line) name → IsLoadable file_limit (contents new (name_spelling name))
              by_name (inl del) =
                  subst (λ (n : LuceneName). IsLoadable file_limit (contents new (name_spelling n))) (sym del)
                  (subst (IsLoadable file_limit) (sym whole) (record { bytes = read-bytes (del_plan line.size (length docs)) bytes docs reads; within = del-long x.index.size docs (omega (arith, size-is, is.size)) }))
              by_name (inr before) = subst (IsLoadable file_limit) (sym (kept name among before)) (was-loadable name before)

    -- where no more are deleted it stands for the same
    same-stands : nat_lt (length x.index.deleted) (length (deleted_with field text x.index)) ≡ false
        → ((name : LuceneName) → Contains (line_names line) name → contents new (name_spelling name) ≡ contents old (name_spelling name)) → StandsAs new line (marked_index field text x.index)
    same-stands not_more kept =
        subst (λ (deleted : List ℕ). StandsAs new line (record x.index { deleted = deleted })) (sym (same-deleted x.index (documents_with field text x.index) rise not_more)) (line-kept old new line x.index kept stood)

    -- what the folder has of a segment that is marked so
    record HasMarked (marking : Marking) : Type 0 where
      own : (name : LuceneName) → Contains (line_names (marked_line line marking)) name → HasOwnSpelling name
      kept : (name : LuceneName) → Contains (line_names (marked_line line marking)) name → Contains (line_names line) name → contents new (name_spelling name) ≡ contents old (name_spelling name)
      whole : (file : NewFile) → Contains (file_of marking) file → contents new file.name ≡ Some file.bytes

    -- a marked segment stands for its marked index
    segment-marked : (names : List (List ℕ)) (place : ℕ) (rest : List Marking) → first_full place (marking_of names field text line x.index ∷ rest) ≡ None → HasMarked (marking_of names field text line x.index)
        → StandsAs new (marked_line line (marking_of names field text line x.index)) (marked_index field text x.index)
    segment-marked names place rest =
        by_marking names line x.index (deleted_with field text x.index) (λ m. first_full place (m ∷ rest) ≡ None → HasMarked m → StandsAs new (marked_line line m) (marked_index field text x.index))
        (λ not_more none has. same-stands not_more (λ name among. has.kept name among among))
        (λ none has. absurd (full-not place none))
        (λ generation drawn grows none has.
        grown-stands generation
        (λ k d within. has.own (get_or (read_names (new_line generation)) k d) (read-referred (new_line generation) _ (Contains-get_or (read_names (new_line generation)) k d within)))
        (has.whole (growth_to line x.index (deleted_with field text x.index) generation).file (0, omega arith, refl))
        (λ name among before. has.kept name (read-referred (new_line generation) name among) (read-referred line name before)))
      where
        full-not : (n : ℕ) → Some n ≡ None → ⊥
        full-not n e = cc

  -- ---- all segments

  full-later : (place : ℕ) (marking : Marking) (markings : List Marking) → first_full place (marking ∷ markings) ≡ None → first_full (place + 1) markings ≡ None
  full-later place Same markings none = none
  full-later place (Grown growth) markings none = none
  full-later place Full markings none = let no : Some place ≡ None = none in absurd (cc)

  -- what the folder has of all segments that are marked so
  pub record HaveMarked (lines : List SegInfo) (markings : List Marking) : Type 0 where
    pub own : (name : LuceneName) → Contains (flat_map line_names (marked_lines lines markings)) name → HasOwnSpelling name
    pub kept : (name : LuceneName) → Contains (flat_map line_names (marked_lines lines markings)) name → Contains (flat_map line_names lines) name → contents new (name_spelling name) ≡ contents old (name_spelling name)
    pub whole : (file : NewFile) → Contains (flat_map file_of markings) file → contents new file.name ≡ Some file.bytes

  -- marked segments stand for their marked indexes
  pub segments-marked : (names : List (List ℕ)) (place : ℕ) (lines : List SegInfo) (xs : List SegmentValue) (indexes : List Index) → All IsLine lines → AreReadAs (Some old) lines xs → StandAs old lines indexes
      → first_full place (markings_of names field text lines xs) ≡ None → HaveMarked lines (markings_of names field text lines xs)
      → StandAs new (marked_lines lines (markings_of names field text lines xs)) (map (marked_index field text) indexes)
  segments-marked names place [] xs [] are read stand none has = tt
  segments-marked names place [] xs (index ∷ indexes) are read stand none has = absurd stand
  segments-marked names place (line ∷ lines) [] indexes are read stand none has = absurd read
  segments-marked names place (line ∷ lines) (x ∷ xs) [] are read stand none has = absurd stand
  segments-marked names place (line ∷ lines) (x ∷ xs) (index ∷ indexes) are read stand none has =
      let marking : Marking = marking_of names field text line x.index in
      let rest : List Marking = markings_of names field text lines xs in (
        subst (λ (i : Index). StandsAs new (marked_line line marking) (marked_index field text i)) (read-index old line x index read.0 stand.0)
            (segment-marked line x (All-head IsLine line lines are) read.0 names place rest none (record {
              own = λ name among. has.own name (Contains-append_left (line_names (marked_line line marking)) (flat_map line_names (marked_lines lines rest)) name among);
              kept = λ name among before.
                  has.kept name (Contains-append_left (line_names (marked_line line marking)) (flat_map line_names (marked_lines lines rest)) name among) (Contains-append_left (line_names line) (flat_map line_names lines) name before);
              whole = λ file among. has.whole file (Contains-append_left (file_of marking) (flat_map file_of rest) file among);
            })),
        segments-marked names (place + 1) lines xs indexes (All-tail IsLine line lines are) read.1 stand.1 (full-later place marking rest none) (record {
          own = λ name among. has.own name (Contains-append_right (line_names (marked_line line marking)) (flat_map line_names (marked_lines lines rest)) name among);
          kept = λ name among before.
              has.kept name (Contains-append_right (line_names (marked_line line marking)) (flat_map line_names (marked_lines lines rest)) name among) (Contains-append_right (line_names line) (flat_map line_names lines) name before);
          whole = λ file among. has.whole file (Contains-append_right (file_of marking) (flat_map file_of rest) file among);
        }),
      )
