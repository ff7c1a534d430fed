-- A walk over pairs, beside documents that do not fall.
use Rattle.std.proofs.Common.{◌≡◌, ℕ, ◌+◌, ◌*◌, ◌/◌, ◌<◌, ◌≤◌, Bool, true, false, ◌||◌, ◌&&◌, ◌⊎◌, eqb, ltb, List, [], ◌++◌, length, drop, Ok, Err, refl, sym, ap, subst, ◌∙◌, arith, inl, inr}
use mathlib.Core.Bool.{true≢false}
use Rattle.std.proofs.lemmas.Bool.{eqb-true, eqb-false, ltb-true, ltb-false, cases_Bool}
use Rattle.std.proofs.lemmas.List.{length-append, nil_from_length}
use Rattle.lu_grammar.specs.Bytes.{IsBytes, Cursor}
use Rattle.lu_grammar.specs.Records.{record_at}
use Rattle.lu_grammar.specs.Plans.{read_plan}
use Rattle.lu_grammar.proofs.Parts.{IsBytes-drop}
use Rattle.lu_grammar.proofs.Records.{same_pair}
use Rattle.lu_grammar.proofs.Plans.{err_is_not_ok}
use Rattle.doc_marks.specs.Marking.{bits, places, marked_at, is_in, AreRising}
use Rattle.doc_marks.specs.Deletions.{pair, pair_shape, pair_conditions, PairsRead, no_pairs, pairs_plan, pairs_documents}
use Rattle.std.specs.Borrow.{Bor}
use Rattle.doc_marks.specs.Lent.{behind_header, IsSoundForm}
use Rattle.doc_marks.specs.Walking.{PairsAt, needs_more, IsWalkOver, IsWalk}
use Rattle.doc_marks.specs.declared.segment.Segment.{Segment}
use Rattle.doc_marks.specs.declared.form.Form.{Form}
use Rattle.doc_marks.specs.declared.form.Form.TheVariants.{Sparse}
use Rattle.doc_marks.specs.declared.pair_walk.PairWalk.{PairWalk}
use Rattle.doc_marks.proofs.MarkLemmas.{length-bits, is_in-append, is_in-before, is_in-past, AreRising-places}
use Rattle.doc_marks.proofs.DelLemmas.{pairs-fault, pairs-step, pairs-end}
use Rattle.doc_marks.proofs.PairLemmas.{pair_was, next_first, next_first-with, pairs-later}

-- ---- what the test of the loop says

both : (a b : Bool) → (a && b) ≡ true → (a ≡ true) × (b ≡ true)
both true b e = (refl, e)
both false b e = absurd (true≢false (sym e))

either : (a b : Bool) → (a || b) ≡ true → (a ≡ true) ⊎ (b ≡ true)
either true b e = inl refl
either false b e = inr e

pub more-needed : (count index documents wanted : ℕ) → needs_more count index documents wanted ≡ true → (documents < count) × ((documents ≡ 0) ⊎ (index < wanted))
more-needed count index documents wanted e =
    let h = both (ltb documents count) (eqb documents 0 || ltb index wanted) e in (
      ltb-true documents count h.0,
      elim (either (eqb documents 0) (ltb index wanted) h.1) [
        | inl none ↦ inl (eqb-true documents 0 none)
        | inr below ↦ inr (ltb-true index wanted below)
      ],
    )

pub none-needed : (count index documents wanted : ℕ) → needs_more count index documents wanted ≡ false → (count ≤ documents) ⊎ ((0 < documents) × (wanted ≤ index))
none-needed count index documents wanted e =
    elim (cases_Bool (ltb documents count)) [
      | inr enough ↦ inl (ltb-false documents count enough)
      | inl few ↦ elim (cases_Bool (eqb documents 0)) [
        | inl none ↦ absurd (true≢false (rw (few, none) at e))
        | inr some ↦ inr (let n : 0 < documents = omega (arith, eqb-false documents 0 some) in n, ltb-false index wanted (rw (few, some) at e))
      ]
    ]

module _ (size count : ℕ) (docs : List ℕ) (index documents marks : ℕ) (here : Cursor) (from : ℕ) (w : PairsAt size count docs index documents marks here from) where
  -- the same walk, where later documents are asked for
  pub PairsAt-later : (doc : ℕ) → from ≤ doc → PairsAt size count docs index documents marks here doc
  PairsAt-later doc le = record {
    before = w.before;
    more = w.more;
    to = w.to;
    rest = w.rest;
    number = w.number;
    enough = w.enough;
    few = w.few;
    within = w.within;
    behind = λ d past. w.behind d (omega arith);
    fits = w.fits;
  }

  so_far : PairsRead
  so_far = record { index = index; documents = w.before ++ marked_at index marks }

  -- no pair that is read again is at fault
  pub no_fault : (rule : ℕ) → documents < count → record_at pair_shape (pair_conditions size count index documents) here ≡ Err rule → ⊥
  unfolding so_far
  no_fault rule lt e = err_is_not_ok (sym (pairs-fault size count w.more index documents so_far here rule refl w.number lt w.enough e) ∙ w.rest)

  -- what was passed is behind the document
  passed-behind : (documents ≡ 0) ⊎ (index < from / 8) → (d : ℕ) → from ≤ d → is_in d (w.before ++ marked_at index marks) ≡ false
  unfolding is_in
  passed-behind (inl none) d le = ap (is_in d) (nil_from_length (w.before ++ marked_at index marks) (w.number ∙ none))
  passed-behind (inr below) d le =
      let rise : AreRising (8 * index) (8 * index + length (bits 8 marks)) (marked_at index marks) = AreRising-places (8 * index) (bits 8 marks) in
      let last : is_in d (marked_at index marks) ≡ false = is_in-past d (8 * index) (8 * index + length (bits 8 marks)) (marked_at index marks) (omega (arith, length-bits 8 marks)) rise in
      is_in-append d w.before (marked_at index marks) ∙ rw (w.behind d le, last) refl

  -- one pair more
  pub PairsAt-next : (gap byte k : ℕ) (d : Cursor) → documents < count → (documents ≡ 0) ⊎ (index < from / 8) → record_at pair_shape (pair_conditions size count index documents) here ≡ Ok (pair gap byte, d)
      → k ≡ length (marked_at (index + gap) byte) → 0 < k → documents + k ≤ count → index + gap ≤ size / 8 → PairsAt size count docs (index + gap) (documents + k) byte d from
  unfolding so_far
  PairsAt-next gap byte k d lt behind e k-is some few within =
      let step = pairs-step size count w.more index documents so_far here d gap byte refl w.number lt w.enough e in
      let read = pair_was size count index documents here (pair gap byte) d w.fits e in
      record {
        before = w.before ++ marked_at index marks;
        more = step.0;
        to = w.to;
        rest = sym step.2 ∙ w.rest;
        number = omega (arith, length-append (w.before ++ marked_at index marks) (marked_at (index + gap) byte), w.number, k-is);
        enough = omega (arith, w.enough, step.1, some);
        few = few;
        within = within;
        behind = passed-behind behind;
        fits = read.fits;
      }

  -- where no more are needed the byte at hand tells
  pub is_in-reached : needs_more count index documents (from / 8) ≡ false → is_in from docs ≡ is_in from (marked_at index marks)
  unfolding so_far is_in
  is_in-reached e =
      let later = pairs-later size count w.more so_far here docs w.to w.fits w.rest in
      let front : is_in from (w.before ++ marked_at index marks) ≡ is_in from (marked_at index marks) = is_in-append from w.before (marked_at index marks) ∙ rw (w.behind from (omega arith)) refl in
      let none : is_in from later.later ≡ false = elim (none-needed count index documents (from / 8) e) [
        | inl le ↦
            let end = (same_pair so_far.documents docs here w.to (sym (pairs-end size count w.more so_far here (omega (arith, w.number))) ∙ w.rest)).0 in
            let long : length later.later ≡ 0 = omega (arith, ap length end, ap length later.all, length-append so_far.documents later.later) in
            ap (is_in from) (nil_from_length later.later long)
        | inr (some, at_or_past) ↦
            let first : next_first so_far ≡ 8 * (index + 1) = next_first-with index (length so_far.documents) (omega (arith, w.number)) in
            is_in-before from (next_first so_far) size later.later (omega (arith, first)) later.rise
      ] in
      ap (is_in from) later.all ∙ is_in-append from so_far.documents later.later ∙ rw (none, front) (or-false (is_in from (marked_at index marks)))
    where
      or-false : (b : Bool) → (b || false) ≡ b
      or-false true = refl
      or-false false = refl

-- before the first pair
pub PairsAt-start : (size count : ℕ) (here to : Cursor) → IsBytes here.rest → read_plan (pairs_plan size count count no_pairs) here ≡ Ok (pairs_documents size count here, to) → PairsAt size count (pairs_documents size count here) 0 0 0 here 0
unfolding places bits is_in
PairsAt-start size count here to fits e = record {
  before = [];
  more = count;
  to = to;
  rest = e;
  number = refl;
  enough = omega arith;
  few = omega arith;
  within = omega arith;
  behind = λ d le. refl;
  fits = fits;
}

-- ---- the whole walk

-- before the first pair of these bytes
abbrev pub first_walk : Bor (List ℕ) → ℕ → Segment → PairWalk
first_walk del place s = record { del = del; segment = s; cur = record { place = place; rest = drop place del.now }; passed = record { index = 0; documents = 0 }; marks = 0; from = 0 }

pub IsWalk-unpaired : (form : Form) (s : Segment) (w : PairWalk) → IsSoundForm form s → IsWalkOver form w → w.segment ≡ s → IsWalk form w
IsWalk-unpaired form s w sound stands is = record { sound = subst (IsSoundForm form) (sym is) sound; pairs = stands }

pub IsWalk-sparse : (s : Segment) (del : Bor (List ℕ)) (w : PairWalk) → IsSoundForm (Sparse del) s → w ≡ first_walk del 12 s → IsWalk (Sparse del) w
IsWalk-sparse s del w sound is =
    let to = sound.read.2.0 in
    let start = PairsAt-start s.size s.count (behind_header del.now) to (IsBytes-drop 12 del.now sound.read.1) sound.read.2.1 in
    subst (IsWalk (Sparse del)) (sym is) (record { sound = sound; pairs = (refl, start) })
