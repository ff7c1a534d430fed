-- A commit with a new segment behind the others is one that a file can say.
use Rattle.std.proofs.Common.{◌≡◌, ◌≢◌, ℕ, ◌+◌, ◌^◌, ◌<◌, ◌≤◌, Bool, true, false, eqb, ◌||◌, codes, List, [], ◌∷◌, ◌++◌, length, map, get_or, All, Some, Contains, refl, sym, subst, inl, inr, arith, length-append}
use Rattle.std.specs.Prelude.{AllPairs}
use Rattle.std.specs.List.{AllByRecursion, IsDistinct, list_any, flat_map}
use Rattle.std.proofs.lemmas.Bool.{cases_lt, eqb-true}
use Rattle.std.proofs.lemmas.List.{length-map, get_or_append_left, get_or_push}
use Rattle.std.proofs.lemmas.List.Elements.{All-append, Contains-append_left, Contains-append_right}
use Rattle.std.proofs.lemmas.List.Sums.{sum_by-append, sum_by-cons}
use Rattle.std.specs.Str.{is_utf8, chars}
use Rattle.std.proofs.lemmas.Str.{IsUtf8-from_is_utf8}
use Rattle.std.proofs.lemmas.Map.Steps.{length-le_from_distinct_below}
use Rattle.lu_types.specs.Names.{greatest_segment}
use Rattle.segment_infos.specs.declared.infos.SegInfo.{SegInfo}
use Rattle.segment_infos.specs.declared.record.TheConstants.{MOST_DOCUMENTS}
use Rattle.segment_infos.specs.Values.{CommitValue, IsPair, IsMap, IsLine, IsCommit, total_size}
use Rattle.segment_files.specs.declared.options.SegmentFiles.{SegmentFiles}
use Rattle.lu_model.proofs.Words.{Each, EachPair}
use Rattle.lu_model.proofs.Each.{all-from_each, each-from_pairs}
use Rattle.lu_folder.specs.Numbers.{above, segment_of_name}
use Rattle.lu_folder.specs.Drawing.{numbers_in, line_numbers, next_segment}
use Rattle.lu_folder.proofs.AboveLemmas.{above-least, above-each, IsBelow, below-is}
use Rattle.lu_folder.proofs.FreshLemmas.{segment-valid}
use Rattle.lu_changes.specs.Building.{sourced, sourced_line, flushed, with_line}
use Rattle.lu_changes.specs.Merging.{merged, emptied}

-- one more behind, where it stands so to each before
AllPairs-push : {X : Type 0} (R : X → X → Type 0) (xs : List X) (x : X) → AllPairs R xs → All (λ y. R y x) xs → AllPairs R (xs ++ x ∷ [])
AllPairs-push {X} R xs x all here = λ i j d less lt. elim (cases_lt j (length xs)) [
  | inl inside ↦ subst (R (get_or (xs ++ x ∷ []) i d)) (sym (get_or_append_left xs (x ∷ []) d j inside)) (subst (λ (y : X). R y (get_or xs j d)) (sym (get_or_append_left xs (x ∷ []) d i (omega arith))) (all i j d less inside))
  | inr ge ↦
      let first : i < length xs = omega (arith, lt, length-append xs (x ∷ [])) in
      subst (R (get_or (xs ++ x ∷ []) i d)) (sym (get_or_push xs x d j (omega (arith, lt, length-append xs (x ∷ []))))) (subst (λ (y : X). R y x) (sym (get_or_append_left xs (x ∷ []) d i first)) (here i d first))
]

module _ (names : List (List ℕ)) (before : CommitValue) (number : ℕ) (drawn : next_segment names before ≡ Some number) where
  -- each number of a line is below the drawn one
  line-below : (n : ℕ) → Contains (flat_map line_numbers before.segments) n → n < number
  line-below n among =
      let least : ℕ = above before.counter (flat_map line_numbers before.segments) in
      let below : IsBelow (greatest_segment + 1) (above least (numbers_in segment_of_name names)) number = below-is (greatest_segment + 1) (above least (numbers_in segment_of_name names)) number drawn in
      let same : number ≡ above least (numbers_in segment_of_name names) = below.same in
      let more : least ≤ above least (numbers_in segment_of_name names) = above-least least (numbers_in segment_of_name names) in
      let less : n < least = above-each before.counter (flat_map line_numbers before.segments) n among in
      omega arith

-- numbers of lines are below, where all numbers that the lines have are
lines-below : (bound : ℕ) (lines : List SegInfo) → ((n : ℕ) → Contains (flat_map line_numbers lines) n → n < bound) → Each (λ s. s.number < bound) lines
lines-below bound [] below = tt
lines-below bound (s ∷ rest) below = (
  below s.number (Contains-append_left (line_numbers s) (flat_map line_numbers rest) s.number (0, omega arith, refl)),
  lines-below bound rest (λ n among. below n (Contains-append_right (line_numbers s) (flat_map line_numbers rest) n among)),
)

not_same : (m n : ℕ) → m ≢ n → eqb m n ≡ false
not_same m n differ = by_test (eqb m n) refl
  where
    by_test : (b : Bool) → eqb m n ≡ b → b ≡ false
    by_test true is = absurd (differ (eqb-true m n is))
    by_test false is = refl

others-differ : (s : SegInfo) (rest : List SegInfo) → Each (λ later. s.number ≢ later.number) rest → AllByRecursion (λ n. eqb s.number n ≡ false) (map (λ (later : SegInfo). later.number) rest)
others-differ s [] apart = tt
others-differ s (later ∷ rest) apart = (not_same s.number later.number apart.0, others-differ s rest apart.1)

numbers-distinct : (lines : List SegInfo) → EachPair (λ s later. s.number ≢ later.number) lines → IsDistinct eqb (map (λ (s : SegInfo). s.number) lines)
unfolding IsDistinct
numbers-distinct [] apart = tt
numbers-distinct (s ∷ rest) apart = (others-differ s rest apart.0, numbers-distinct rest apart.1)

number-below : (bound : ℕ) (lines : List SegInfo) → Each (λ s. s.number < bound) lines → (q : ℕ) → list_any (eqb q) (map (λ (s : SegInfo). s.number) lines) ≡ true → q < bound
number-below bound [] below q is = absurd (cc)
number-below bound (s ∷ rest) below q is = by_test (eqb q s.number) refl (number-below bound rest below.1 q) is
  where
    by_test : (b : Bool) → eqb q s.number ≡ b → (list_any (eqb q) (map (λ (later : SegInfo). later.number) rest) ≡ true → q < bound) → (b || list_any (eqb q) (map (λ (later : SegInfo). later.number) rest)) ≡ true → q < bound
    by_test true same rest_below some = subst (λ (n : ℕ). n < bound) (sym (eqb-true q s.number same)) below.0
    by_test false same rest_below some = rest_below some

-- lines whose numbers differ are no more than a bound of the numbers
lines-few : (bound : ℕ) (lines : List SegInfo) → AllPairs (λ s later. s.number ≢ later.number) lines → Each (λ s. s.number < bound) lines → length lines ≤ bound
lines-few bound lines apart below =
    subst (λ (n : ℕ). n ≤ bound) (length-map lines (λ (s : SegInfo). s.number))
    (length-le_from_distinct_below (map (λ (s : SegInfo). s.number) lines) bound (numbers-distinct lines (each-from_pairs (λ s later. s.number ≢ later.number) lines apart)) (number-below bound lines below))

sources-utf8 : (u : Unit {0}) → (is_utf8 (codes "source") ≡ true) × (is_utf8 (codes "flush") ≡ true) × (is_utf8 (codes "merge") ≡ true)
unfolding is_utf8 chars lib.Utf8.encode
sources-utf8 u = (refl, refl, refl)

sourced-map : (source : List ℕ) → length source < 2 ^ 31 → is_utf8 source ≡ true → IsMap (sourced source)
sourced-map source few utf8 =
    let texts_are = sources-utf8 tt in
    (omega arith, all-from_each IsPair (sourced source) (((omega arith, IsUtf8-from_is_utf8 (codes "source") texts_are.0), (few, IsUtf8-from_is_utf8 source utf8)), tt))

-- what lines say of where segments come from
pub flushed-map : IsMap (sourced flushed)
flushed-map = let texts_are = sources-utf8 tt in sourced-map flushed (omega arith) texts_are.1

pub merged-map : IsMap (sourced merged)
merged-map = let texts_are = sources-utf8 tt in sourced-map merged (omega arith) texts_are.2

lower : (bound : ℕ) (lines : List SegInfo) → Each (λ s. s.number < bound) lines → Each (λ s. s.number ≢ bound) lines
lower bound [] below = tt
lower bound (s ∷ rest) below = ((λ same. absurd (omega (arith, below.0, same))), lower bound rest below.1)

one-line : (s : SegInfo) → IsLine s → All IsLine (s ∷ [])
one-line s is = all-from_each IsLine (s ∷ []) (is, tt)

-- the numbers of lines are below a number that may be that of a segment
pub record IsAbove (number : ℕ) (lines : List SegInfo) : Type 0 where
  pub valid : number ≤ greatest_segment
  pub below : Each (λ s. s.number < number) lines

-- so it is with the number that is drawn for the next segment
pub drawn-above : (names : List (List ℕ)) (before : CommitValue) (number : ℕ) → next_segment names before ≡ Some number → IsAbove number before.segments
drawn-above names before number drawn = record {
  valid = (segment-valid names before number drawn).0;
  below = lines-below number before.segments (line-below names before number drawn);
}

-- the commit with the new segment is one
pub with_line-commit : (before : CommitValue) (source : List ℕ) (number : ℕ) (files : SegmentFiles) → IsCommit before → IsMap (sourced source) → IsAbove number before.segments → before.version + 1 < 2 ^ 63 → total_size before.segments + files.size ≤ MOST_DOCUMENTS
    → IsCommit (with_line (sourced_line source number files) before)
with_line-commit before source number files is pairs above version sum =
    let line = sourced_line source number files in
    let valid : number ≤ greatest_segment = above.valid in
    let few = lines-few number before.segments is.segments.apart above.below in
    let one : total_size (line ∷ []) ≡ files.size + 0 = sum_by-cons (λ (s : SegInfo). s.size) line [] in
    record {
      version = version;
      counter = omega (arith, valid);
      count = omega (arith, length-append before.segments (line ∷ []), few, valid);
      segments = record {
        lines = All-append IsLine before.segments (line ∷ []) is.segments.lines (one-line line (record {
          number = valid;
          size = omega (arith, sum);
          del_gen = tt;
          store = tt;
          norm_gens = tt;
          deleted = refl;
          diagnostics = pairs;
        }));
        apart = AllPairs-push (λ s later. s.number ≢ later.number) before.segments line is.segments.apart (all-from_each (λ s. s.number ≢ number) before.segments (lower number before.segments above.below));
        sizes = omega (arith, sum_by-append (λ (s : SegInfo). s.size) before.segments (line ∷ []), one, sum);
      };
      user = is.user;
    }

-- the commit without its segments is one
pub emptied-commit : (before : CommitValue) → IsCommit before → IsCommit (emptied before)
emptied-commit before is = record {
  version = is.version;
  counter = is.counter;
  count = omega arith;
  segments = record { lines = one-none; apart = λ i j d less within. absurd (omega arith); sizes = omega arith };
  user = is.user;
}
  where
    one-none : All IsLine []
    one-none = all-from_each IsLine [] tt

-- so is the one whose only segment is new
pub alone-commit : (names : List (List ℕ)) (before : CommitValue) (number : ℕ) (files : SegmentFiles) → IsCommit before → next_segment names before ≡ Some number → before.version + 1 < 2 ^ 63 → files.size ≤ MOST_DOCUMENTS
    → IsCommit (with_line (sourced_line merged number files) (emptied before))
alone-commit names before number files is drawn version few =
    with_line-commit (emptied before) merged number files (emptied-commit before is) merged-map (record { valid = (drawn-above names before number drawn).valid; below = tt }) version (omega (arith, few))
