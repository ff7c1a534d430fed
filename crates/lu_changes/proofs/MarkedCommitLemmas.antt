-- A commit whose segments were marked is one that a file can say.
use Rattle.std.proofs.Common.{◌≡◌, ◌≢◌, ℕ, zero, suc, ◌+◌, ◌^◌, ◌<◌, ◌≤◌, Bool, true, false, cond, ◌||◌, List, [], ◌∷◌, length, get_or, All, Option, Some, None, refl, sym, ap, subst, ◌∙◌, arith}
use Rattle.std.specs.Prelude.{nat_lt, AllPairs}
use Rattle.std.specs.List.{range_with_len}
use Rattle.std.proofs.lemmas.List.FromFn.{length-range_with_len}
use Rattle.std.proofs.lemmas.List.Elements.{All-head, All-tail}
use Rattle.std.proofs.lemmas.List.Sums.{sum_by-cons}
use Rattle.lu_dir.specs.Files.{Files}
use Rattle.lu_types.specs.FilePlans.{StandFor}
use Rattle.lu_model.specs.Index.{Index}
use Rattle.lu_model.proofs.Words.{Each}
use Rattle.lu_model.proofs.Each.{all-from_each, length_filter-le}
use Rattle.doc_marks.specs.Marking.{is_in}
use Rattle.segment_infos.specs.declared.infos.SegInfo.{SegInfo}
use Rattle.segment_infos.specs.Values.{CommitValue, IsLine, IsCommit, total_size}
use Rattle.check_index.specs.Files.{FolderFiles}
use Rattle.check_index.specs.Segments.{SegmentValue, segment_files}
use Rattle.check_index.proofs.StandsLaws.{stands-by_files}
use Rattle.lu_folder.specs.Drawing.{next_del}
use Rattle.lu_folder.proofs.FreshLemmas.{del-valid}
use Rattle.lu_changes.specs.declared.marking.Marking.{Marking}
use Rattle.lu_changes.specs.declared.marking.Marking.TheVariants.{Same, Grown, Full}
use Rattle.lu_reads.specs.Finding.{folder_files}
use Rattle.lu_reads.specs.Segments.{AreReadAs}
use Rattle.lu_changes.specs.Deleting.{documents_with, deleted_with, growth_to, marking_by, marking_to, marking_of, markings_of, marked_line, marked_lines, with_lines}
use Rattle.lu_changes.specs.Marked.{AreMarked}

-- ---- one segment

-- what holds in each case of a marking holds of it
pub by_marking : (names : List (List ℕ)) (line : SegInfo) (x : Index) (documents : List ℕ) (P : Marking → Type 0)
    → (nat_lt (length x.deleted) (length documents) ≡ false → P Same) → P Full
    → ((generation : ℕ) → next_del names line ≡ Some generation → nat_lt (length x.deleted) (length documents) ≡ true → P (Grown (growth_to line x documents generation)))
    → P (marking_to names line x documents)
by_marking names line x documents P same full grown = by_test (nat_lt (length x.deleted) (length documents)) refl
  where
    by_next : (drawn : Option ℕ) → next_del names line ≡ drawn → nat_lt (length x.deleted) (length documents) ≡ true → P (marking_by line x documents drawn)
    by_next (Some generation) is grows = grown generation is grows
    by_next None is grows = full

    by_test : (b : Bool) → nat_lt (length x.deleted) (length documents) ≡ b → P (cond b (marking_by line x documents (next_del names line)) Same)
    by_test true grows = by_next (next_del names line) refl grows
    by_test false not_more = same not_more

-- a segment that stands has as many documents as its line says
pub size-stands : (folder : FolderFiles) (line : SegInfo) (x : SegmentValue) → StandFor (segment_files folder line) x → x.index.size ≡ line.size
size-stands folder line x stands = ap (λ (s : SegmentValue). s.index.size) (stands-by_files folder line x stands).value

-- no more documents are deleted than there are
pub deleted-few : (field text : List ℕ) (x : Index) → length (deleted_with field text x) ≤ x.size
deleted-few field text x = omega (arith, length_filter-le (λ d. is_in d x.deleted || is_in d (documents_with field text x)) (range_with_len 0 x.size), length-range_with_len 0 x.size)

-- its marked line is one
marked-line : (names : List (List ℕ)) (field text : List ℕ) (line : SegInfo) (x : Index) → x.size ≡ line.size → IsLine line → IsLine (marked_line line (marking_of names field text line x))
marked-line names field text line x size is =
    by_marking names line x (deleted_with field text x) (λ m. IsLine (marked_line line m)) (λ _. is) is
    (λ generation drawn _.
    let valid = del-valid names line generation drawn in
    record {
      number = is.number;
      size = is.size;
      del_gen = (omega (arith, valid.0), valid.1);
      store = is.store;
      norm_gens = is.norm_gens;
      deleted = omega (arith, deleted-few field text x, size);
      diagnostics = is.diagnostics;
    })

-- ---- all segments

module _ (files : Option Files) (names : List (List ℕ)) (field text : List ℕ) where
  lines-marked : (lines : List SegInfo) (xs : List SegmentValue) → AreReadAs files lines xs → All IsLine lines → Each IsLine (marked_lines lines (markings_of names field text lines xs))
  lines-marked [] xs read are = tt
  lines-marked (line ∷ lines) [] read are = absurd read
  lines-marked (line ∷ lines) (x ∷ xs) read are = (
    marked-line names field text line x.index (size-stands (folder_files line read.0.found) line x read.0.stands) (All-head IsLine line lines are),
    lines-marked lines xs read.1 (All-tail IsLine line lines are),
  )

  length-markings : (lines : List SegInfo) (xs : List SegmentValue) → AreReadAs files lines xs → length lines ≡ length (markings_of names field text lines xs)
  length-markings [] xs read = refl
  length-markings (line ∷ lines) [] read = absurd read
  length-markings (line ∷ lines) (x ∷ xs) read = ap suc (length-markings lines xs read.1)

number-line : (line : SegInfo) (marking : Marking) → (marked_line line marking).number ≡ line.number
number-line line Same = refl
number-line line Full = refl
number-line line (Grown growth) = refl

size-line : (line : SegInfo) (marking : Marking) → (marked_line line marking).size ≡ line.size
size-line line Same = refl
size-line line Full = refl
size-line line (Grown growth) = refl

-- each keeps its number
number-marked : (lines : List SegInfo) (markings : List Marking) (place : ℕ) (d : SegInfo) → (get_or (marked_lines lines markings) place d).number ≡ (get_or lines place d).number
number-marked [] markings place d = refl
number-marked (line ∷ lines) [] place d = refl
number-marked (line ∷ lines) (marking ∷ markings) zero d = number-line line marking
number-marked (line ∷ lines) (marking ∷ markings) (suc place) d = number-marked lines markings place d

length-marked : (lines : List SegInfo) (markings : List Marking) → length (marked_lines lines markings) ≡ length lines
length-marked [] markings = refl
length-marked (line ∷ lines) [] = refl
length-marked (line ∷ lines) (marking ∷ markings) = ap suc (length-marked lines markings)

-- they have as many documents together
total-marked : (lines : List SegInfo) (markings : List Marking) → total_size (marked_lines lines markings) ≡ total_size lines
total-marked [] markings = refl
total-marked (line ∷ lines) [] = refl
total-marked (line ∷ lines) (marking ∷ markings) =
    omega (arith, sum_by-cons (λ (s : SegInfo). s.size) line lines, sum_by-cons (λ (s : SegInfo). s.size) (marked_line line marking) (marked_lines lines markings), total-marked lines markings, size-line line marking)

-- no two are of one segment
apart-marked : (lines : List SegInfo) (markings : List Marking) → AllPairs (λ s later. s.number ≢ later.number) lines → AllPairs (λ s later. s.number ≢ later.number) (marked_lines lines markings)
apart-marked lines markings apart i j d less within same =
    apart i j d less (omega (arith, within, length-marked lines markings)) (sym (number-marked lines markings i d) ∙ same ∙ number-marked lines markings j d)

module _ (files : Option Files) (names : List (List ℕ)) (field text : List ℕ) (before : CommitValue) (markings : List Marking) (marked : AreMarked files names field text before.segments markings) where
  -- there are as many
  pub marked-count : length before.segments ≡ length markings
  marked-count = length-markings files names field text before.segments marked.0 marked.1 ∙ ap length (sym marked.2)

  -- the commit with the marked lines is one
  pub marked-commit : IsCommit before → before.version + 1 < 2 ^ 63 → IsCommit (with_lines (marked_lines before.segments markings) before)
  marked-commit is version = record {
    version = version;
    counter = is.counter;
    count = omega (arith, is.count, length-marked before.segments markings);
    segments = record {
      lines = all-from_each IsLine (marked_lines before.segments markings)
          (subst (λ (ms : List Marking). Each IsLine (marked_lines before.segments ms)) (sym marked.2) (lines-marked files names field text before.segments marked.0 marked.1 is.segments.lines));
      apart = apart-marked before.segments markings is.segments.apart;
      sizes = omega (arith, is.segments.sizes, total-marked before.segments markings);
    };
    user = is.user;
  }
