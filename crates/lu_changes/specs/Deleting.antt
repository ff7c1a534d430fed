-- Which outcome is due of `delete`: the current commit, then its segments, then the marks (docs/FORMAT.md, "Commits in a folder", "Indexes").
use Rattle.std.specs.Prelude.{◌≡◌, ℕ, ◌+◌, ◌-◌, ◌||◌, nat_lt, List, [], ◌∷◌, ◌++◌, length, map, filter, sum_by, codes, Option, Some, None, if◌then◌else◌}
use Rattle.std.specs.List.{range_with_len, flat_map}
use Rattle.std.specs.Fmt.{decimal}
use Rattle.lu_dir.specs.Files.{Files}
use Rattle.lu_model.specs.Index.{IndexedTerm, Index}
use Rattle.doc_marks.specs.Marking.{is_in}
use Rattle.doc_marks.specs.Spelling.{del_bytes}
use Rattle.segment_infos.specs.declared.infos.SegInfo.{SegInfo}
use Rattle.segment_infos.specs.declared.naming.LuceneName.TheVariants.{Del}
use Rattle.segment_infos.specs.LuceneNames.{name_spelling}
use Rattle.segment_infos.specs.Values.{CommitValue}
use Rattle.check_index.specs.Segments.{SegmentValue}
use Rattle.seg_reader.specs.Terms.{term_named}
use Rattle.lu_folder.specs.Drawing.{next_del}
use Rattle.lu_folder.specs.declared.new_file.NewFile.{NewFile}
use Rattle.lu_changes.specs.declared.marking.Growth.{Growth}
use Rattle.lu_changes.specs.declared.marking.Marking.{Marking}
use Rattle.lu_changes.specs.declared.marking.Marking.TheVariants.{Same, Grown, Full}
use Rattle.lu_outcomes.specs.declared.status.Status.TheVariants as statuses
use Rattle.lu_outcomes.specs.declared.status.Refusal.TheVariants as refusals
use Rattle.lu_outcomes.specs.declared.outcome.Effect.TheVariants.{Commit}
use Rattle.lu_outcomes.specs.declared.outcome.Outcome.{Outcome}
use Rattle.lu_outcomes.specs.Refusing.{refused_outcome}
use Rattle.lu_changes.specs.Building.{change_on}
use Rattle.lu_changes.specs.Following.{FollowDue}

-- ---- an index

-- the documents of the entries of a term, where there is one
abbrev pub documents_of_term : Option IndexedTerm → List ℕ
documents_of_term None = []
documents_of_term (Some term) = map (λ entry. entry.document) term.entries

-- the documents of the term with this text in the field of this name
abbrev pub documents_with : List ℕ → List ℕ → Index → List ℕ
documents_with field text x = documents_of_term (term_named x field text)

-- the documents of an index that are deleted, once these are too
abbrev pub also_deleted : Index → List ℕ → List ℕ
also_deleted x documents = filter (λ d. is_in d x.deleted || is_in d documents) (range_with_len 0 x.size)

-- the documents that are deleted, once those of the term are too
abbrev pub deleted_with : List ℕ → List ℕ → Index → List ℕ
deleted_with field text x = also_deleted x (documents_with field text x)

-- the index, once the documents of the term are deleted
abbrev pub marked_index : List ℕ → List ℕ → Index → Index
marked_index field text x = record x { deleted = deleted_with field text x }

-- ---- a segment

-- the new file of deleted documents of a segment
abbrev pub del_file : SegInfo → ℕ → List ℕ → NewFile
del_file line generation bytes = record { name = name_spelling (Del line.number generation); bytes = bytes }

-- these are deleted then, in a new file of this generation
abbrev pub growth_to : SegInfo → Index → List ℕ → ℕ → Growth
growth_to line x documents generation = record {
  generation = generation;
  deleted = length documents;
  added = length documents - length x.deleted;
  file = del_file line generation (del_bytes x.size documents);
}

-- by the generation of the new file
abbrev pub marking_by : SegInfo → Index → List ℕ → Option ℕ → Marking
marking_by line x documents (Some generation) = Grown (growth_to line x documents generation)
marking_by line x documents None = Full

-- what becomes of a segment that stands for the index, where these documents are deleted then: only one that loses a document changes
abbrev pub marking_to : List (List ℕ) → SegInfo → Index → List ℕ → Marking
marking_to names line x documents =
    (if nat_lt (length x.deleted) (length documents) then marking_by line x documents (next_del names line) else Same)

-- so where those of the term are
abbrev pub marking_of : List (List ℕ) → List ℕ → List ℕ → SegInfo → Index → Marking
marking_of names field text line x = marking_to names line x (deleted_with field text x)

-- ---- all segments

-- what becomes of each
abbrev pub markings_of : List (List ℕ) → List ℕ → List ℕ → List SegInfo → List SegmentValue → List Marking
markings_of names field text [] xs = []
markings_of names field text (line ∷ lines) [] = []
markings_of names field text (line ∷ lines) (x ∷ xs) = marking_of names field text line x.index ∷ markings_of names field text lines xs

-- the place of the first, from this one on, that has no generation for its new file
abbrev pub first_full : ℕ → List Marking → Option ℕ
first_full place [] = None
first_full place (Full ∷ markings) = Some place
first_full place (Same ∷ markings) = first_full (place + 1) markings
first_full place (Grown growth ∷ markings) = first_full (place + 1) markings

-- how many documents are deleted that were not
abbrev pub added_by : Marking → ℕ
added_by (Grown growth) = growth.added
added_by Same = 0
added_by Full = 0

-- the new file
abbrev pub file_of : Marking → List NewFile
file_of (Grown growth) = growth.file ∷ []
file_of Same = []
file_of Full = []

-- the line of a segment
abbrev pub marked_line : SegInfo → Marking → SegInfo
marked_line line (Grown growth) = record line { del_gen = Some growth.generation; deleted = growth.deleted }
marked_line line Same = line
marked_line line Full = line

-- the lines of all
abbrev pub marked_lines : List SegInfo → List Marking → List SegInfo
marked_lines [] markings = []
marked_lines (line ∷ lines) [] = line ∷ lines
marked_lines (line ∷ lines) (marking ∷ markings) = marked_line line marking ∷ marked_lines lines markings

-- ---- outcomes

-- the line of a commit after which so many documents more are deleted
abbrev pub deleted_text : ℕ → ℕ → List ℕ
deleted_text generation added = codes "commit " ++ (decimal generation ++ (codes ": " ++ (decimal added ++ codes " documents deleted\n")))

-- the commit with its version raised, and these lines
abbrev pub with_lines : List SegInfo → CommitValue → CommitValue
with_lines lines before = record { version = before.version + 1; counter = before.counter; segments = lines; user = before.user }

-- the outcome of a commit of this generation that marks the segments so
abbrev pub marked_outcome : List (List ℕ) → CommitValue → ℕ → List Marking → Outcome
marked_outcome names before generation markings = record {
  status = statuses.Ok;
  text = deleted_text generation (sum_by added_by markings);
  effect = Commit (change_on names generation (with_lines (marked_lines before.segments markings) before) (flat_map file_of markings));
}

-- it is refused where some segment has no generation for its new file
abbrev pub unless_full : Option ℕ → Outcome → Outcome
unless_full (Some place) outcome = refused_outcome (refusals.DelGenFull place)
unless_full None outcome = outcome

-- the outcome where this becomes of the segments
abbrev pub markings_outcome : List (List ℕ) → CommitValue → ℕ → List Marking → Outcome
markings_outcome names before generation markings = unless_full (first_full 0 markings) (marked_outcome names before generation markings)

-- ---- what is due

-- where the segments stand for this
abbrev pub MarksGive : List ℕ → List ℕ → List (List ℕ) → CommitValue → ℕ → List SegmentValue → Outcome → Type 0
MarksGive field text names before generation xs outcome =
    outcome ≡ markings_outcome names before generation (markings_of names field text before.segments xs)

-- the outcome of `delete` that is due over these files
abbrev pub DeleteDue : List ℕ → List ℕ → Option Files → Outcome → Type 0
DeleteDue field text files outcome = FollowDue (MarksGive field text) files outcome
