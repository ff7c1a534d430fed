-- What pairs that were read mark: rising documents, those of a later pair behind those of the pairs before.
use Rattle.std.proofs.Common.{◌≡◌, ◌≢◌, ℕ, zero, suc, ◌+◌, ◌*◌, ◌^◌, ◌<◌, ◌≤◌, Bool, true, false, eqb, ltb, cond, List, [], ◌∷◌, ◌++◌, length, Option, Some, None, Result, Ok, refl, sym, ap, subst, ◌∙◌, append_assoc, arith, inl, inr}
use mathlib.Core.Bool.{true≢false}
use Rattle.std.specs.Prelude.{MatchResult}
use Rattle.std.proofs.lemmas.Bool.{ne_eqb, eqb-false, cases_lt, ltb-false}
use Rattle.std.proofs.lemmas.List.{length-append, append-nil}
use Rattle.lu_grammar.specs.Bytes.{IsBytes, Cursor}
use Rattle.lu_grammar.specs.Parts.{groups}
use Rattle.lu_grammar.specs.Records.{first_broken, Spells, Breaks, record_at}
use Rattle.lu_grammar.specs.Plans.{Plan, read_plan}
use Rattle.lu_grammar.proofs.Records.{ok_pair, same_pair, record_at-judges, IsGoodRecord}
use Rattle.doc_marks.specs.Marking.{bits, marked_at, AreRising}
use Rattle.doc_marks.specs.Deletions.{DelRecord, pair, pair_shape, pair_conditions, is_past, is_wrong_gap, PairsRead, with_pair, pairs_plan}
use Rattle.lu_grammar.proofs.Codecs.{due_was}
use Rattle.doc_marks.proofs.MarkLemmas.{length-bits, AreRising-append, AreRising-later, AreRising-places, AreRising-not_past}
use Rattle.doc_marks.proofs.DelLemmas.{marked_at-some, pairs-due, pairs-end}

-- a good pair: its gap and its byte, which break no condition, and how it is spelled
pub record GoodPair (size count index before : ℕ) (r : DelRecord) (front : List ℕ) : Type 0 where
  pub gap : ℕ
  pub marks : ℕ
  pub it : r ≡ pair gap marks
  pub gap_fits : gap < 2 ^ 31
  pub marks_fit : marks < 256
  pub right : is_wrong_gap size index before gap ≡ false
  pub some : marks ≢ 0
  pub below : is_past size (marked_at (index + gap) marks) ≡ false
  pub few : before + length (marked_at (index + gap) marks) ≤ count
  pub spelled : front ≡ groups 4 gap ++ marks ∷ []

some_is_none : {n : ℕ} → Some n ≡ None → ⊥
some_is_none h = cc

-- a condition that is the first of some, where none is broken
pub first-good : (b : Bool) (rule : ℕ) (rest : Option ℕ) → cond b (Some rule) rest ≡ None → (b ≡ false) × (rest ≡ None)
first-good true rule rest e = absurd (some_is_none e)
first-good false rule rest e = (refl, e)

pair-spelled : (r : DelRecord) (front : List ℕ) → Spells pair_shape r front → (gap : ℕ) × (marks : ℕ) × (gap < 2 ^ 31) × (marks < 256) × (r ≡ pair gap marks) × (front ≡ groups 4 gap ++ marks ∷ [])
pair-spelled r front (gap, back, low, is, (marks, more, small, also, (made, none))) = (gap, marks, low, small, sym made, is ∙ ap (λ (t : List ℕ). groups 4 gap ++ t) (also ∙ ap (λ (t : List ℕ). marks ∷ t) none))

pub good-pair : (size count index before : ℕ) (r : DelRecord) (front : List ℕ) → Spells pair_shape r front → first_broken (pair_conditions size count index before r) ≡ None → GoodPair size count index before r front
good-pair size count index before r front spells good =
    let is = pair-spelled r front spells in
    let found = marked_at (index + is.0) is.1 in
    let conditions : first_broken (pair_conditions size count index before (pair is.0 is.1)) ≡ None = ap (λ (x : DelRecord). first_broken (pair_conditions size count index before x)) (sym is.4) ∙ good in
    let gap = first-good (is_wrong_gap size index before is.0) 89 _ conditions in
    let marks = first-good (eqb is.1 0) 90 _ gap.1 in
    let past = first-good (is_past size found) 91 _ marks.1 in
    let total = first-good (ltb count (before + length found)) 92 _ past.1 in
    record {
      gap = is.0;
      marks = is.1;
      it = is.4;
      gap_fits = is.2;
      marks_fit = is.3;
      right = gap.0;
      some = eqb-false is.1 0 marks.0;
      below = past.0;
      few = ltb-false count (before + length found) total.0;
      spelled = is.5;
    }

-- a pair that was read
pub record ReadPair (size count index before : ℕ) (r : DelRecord) (d : Cursor) : Type 0 where
  pub front : List ℕ
  pub good : GoodPair size count index before r front
  pub fits : IsBytes d.rest

pub pair_was : (size count index before : ℕ) (c : Cursor) (r : DelRecord) (d : Cursor) → IsBytes c.rest → record_at pair_shape (pair_conditions size count index before) c ≡ Ok (r, d) → ReadPair size count index before r d
pair_was size count index before c r d fits e =
    let good : IsGoodRecord pair_shape (pair_conditions size count index before) c (r, d) =
    subst (λ (x : Result (DelRecord × Cursor) ℕ). MatchResult x (λ y. IsGoodRecord pair_shape (pair_conditions size count index before) c y) (λ rule. Breaks pair_shape (pair_conditions size count index before) c.rest rule)) e
    (record_at-judges pair_shape (pair_conditions size count index before) c fits) in
    record { front = good.0.front; good = good-pair size count index before r good.0.front good.0.spells good.1; fits = good.0.fits }

-- the first document that the next pair may mark
abbrev pub next_first : PairsRead → ℕ
next_first s = cond (eqb (length s.documents) 0) (8 * s.index) (8 * (s.index + 1))

next_first-le : (size index before gap : ℕ) → is_wrong_gap size index before gap ≡ false → cond (eqb before 0) (8 * index) (8 * (index + 1)) ≤ 8 * (index + gap)
next_first-le size index zero gap right = omega arith
next_first-le size index (suc before) zero right = let some : eqb (suc before) 0 ≡ false = ne_eqb (suc before) 0 (omega arith) in absurd (true≢false (rw some at right))
next_first-le size index (suc before) (suc gap) right = let some : eqb (suc before) 0 ≡ false = ne_eqb (suc before) 0 (omega arith) in rw some (omega arith)

pub next_first-with : (index before : ℕ) → 0 < before → cond (eqb before 0) (8 * index) (8 * (index + 1)) ≡ 8 * (index + 1)
next_first-with index zero some = absurd (omega arith)
next_first-with index (suc before) some = let not_none : eqb (suc before) 0 ≡ false = ne_eqb (suc before) 0 (omega arith) in rw not_none refl

-- the documents that were read are those so far and later ones, which rise, and are as many as are counted
pub record Later (size count more : ℕ) (s : PairsRead) (docs : List ℕ) : Type 0 where
  pub later : List ℕ
  pub all : docs ≡ s.documents ++ later
  pub rise : AreRising (next_first s) size later
  pub number : count ≤ length s.documents + more → length s.documents ≤ count → length docs ≡ count

no_more : (size count more : ℕ) (s : PairsRead) (docs : List ℕ) → s.documents ≡ docs → (count ≤ length s.documents + more → count ≤ length s.documents) → Later size count more s docs
no_more size count more s docs is enough = record {
  later = [];
  all = sym is ∙ sym (append-nil s.documents);
  rise = tt;
  number = λ le few. let n = enough le in omega (arith, ap length is);
}

pub pairs-later : (size count more : ℕ) (s : PairsRead) (c : Cursor) (docs : List ℕ) (d : Cursor) → IsBytes c.rest → read_plan (pairs_plan size count more s) c ≡ ok_pair docs d → Later size count more s docs
unfolding pairs_plan read_plan
pairs-later size count zero s c docs d fits e = no_more size count zero s docs (same_pair s.documents docs c d e).0 (λ le. omega arith)
pairs-later size count (suc more) s c docs d fits e = elim (cases_lt (length s.documents) count) [
  | inr le ↦ no_more size count (suc more) s docs (same_pair s.documents docs c d (sym (pairs-end size count (suc more) s c le) ∙ e)).0 (λ h. le)
  | inl lt ↦ one_more lt (λ t b all read. pairs-later size count more t b docs d all read)
]
  where
    one_more : length s.documents < count → ((t : PairsRead) (b : Cursor) → IsBytes b.rest → read_plan (pairs_plan size count more t) b ≡ ok_pair docs d → Later size count more t docs) → Later size count (suc more) s docs
    one_more lt after =
        let index = s.index in
        let before = length s.documents in
        let was = due_was pair_shape (λ place r. pair_conditions size count index before r) (λ place r. pairs_plan size count more (with_pair s r)) c (docs, d) (ap (λ (p : Plan (List ℕ) DelRecord). read_plan p c) (sym (pairs-due size count more s lt)) ∙ e) in
        let was_pair = pair_was size count index before c was.0.0 was.0.1 fits was.1 in
        let read = was_pair.good in
        let found = marked_at (index + read.gap) read.marks in
        let t = with_pair s (pair read.gap read.marks) in
        let rest : read_plan (pairs_plan size count more t) was.0.1 ≡ ok_pair docs d = ap (λ (r : DelRecord). read_plan (pairs_plan size count more (with_pair s r)) was.0.1) (sym read.it) ∙ was.2 in
        let next = after t was.0.1 was_pair.fits rest in
        let some = marked_at-some (index + read.gap) read.marks read.marks_fit read.some in
        let long = length-append s.documents found in
        let first = 8 * (index + read.gap) in
        let middle = 8 * (index + read.gap + 1) in
        let le : next_first s ≤ first = next_first-le size index before read.gap read.right in
        let here : AreRising first (first + length (bits 8 read.marks)) found = AreRising-places first (bits 8 read.marks) in
        let low : AreRising first middle found = subst (λ (n : ℕ). AreRising first n found) (ap (λ (n : ℕ). first + n) (length-bits 8 read.marks) ∙ (let m : first + 8 ≡ middle = omega arith in m)) here in
        let high : AreRising middle size next.later = subst (λ (n : ℕ). AreRising n size next.later) (next_first-with (index + read.gap) (length t.documents) (omega (arith, long, some))) next.rise in
        record {
          later = found ++ next.later;
          all = next.all ∙ append_assoc s.documents found next.later;
          rise = AreRising-append (next_first s) middle size found next.later (AreRising-later (next_first s) first middle found le low)
              (AreRising-later (next_first s) first size found le (AreRising-not_past first middle size found low read.below)) high (omega (arith, le));
          number = λ enough few. next.number (omega (arith, long, some, enough)) (omega (arith, long, read.few));
        }
