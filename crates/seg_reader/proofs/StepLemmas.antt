-- How many steps lead to an answer.
use Rattle.std.proofs.Common.{◌≡◌, ℕ, ◌+◌, ◌<◌, ◌≤◌, Bool, true, false, not, ◌&&◌, List, length, Option, Some, None, refl, sym, ap, subst, ◌∙◌, arith}
use Rattle.std.specs.Prelude.{nat_le, filter}
use Rattle.std.proofs.lemmas.Bool.{le-leb, lt-ltb, not-false, and_from}
use Rattle.doc_marks.specs.Marking.{is_in}
use Rattle.lu_model.specs.Index.{IndexedEntry}
use Rattle.seg_reader.specs.Postings.{PostingsWalk, is_ahead, is_before, next_entry, passed_over}
use Rattle.seg_reader.specs.InnerScan.{may_stop}
use Rattle.seg_reader.specs.InnerCursor.{no_entry, entry_in}
use Rattle.seg_reader.proofs.WalkLists.{length-filter-between}
use Rattle.seg_reader.proofs.AnswerLemmas.{StandsBehind, IsNextAt, HasNoNext, next_entry-first, next_entry-none}

-- the entries behind so many more than the interval are not below the target
pub record IsNear (w : PostingsWalk) (target first : ℕ) : Type 0 where
  pub far : (i : ℕ) → first + w.interval ≤ i → i < length w.entries → target ≤ (entry_in w.entries i).document

-- the entry is ahead, and passed over on the way to this answer
abbrev is_passed : PostingsWalk → ℕ → Option IndexedEntry → IndexedEntry → Bool
is_passed w target next e = is_ahead w.from target e && (is_in e.document w.hidden && is_before next e.document)

stop-hidden : (hidden : List ℕ) (target document : ℕ) → target ≤ document → may_stop hidden target document ≡ false → is_in document hidden ≡ true
stop-hidden hidden target document le e = not-false (is_in document hidden) (sym (ap (λ (b : Bool). b && not (is_in document hidden)) (le-leb target document le)) ∙ e)

module _ (w : PostingsWalk) (target passed first : ℕ) (stands : StandsBehind w passed) (from : passed ≤ first) (near : IsNear w target first) where
  -- an entry behind the interval that is not answered is passed over
  passed-there : (next : Option IndexedEntry) (i : ℕ) → first + w.interval ≤ i → i < length w.entries → may_stop w.hidden target (entry_in w.entries i).document ≡ false → is_before next (entry_in w.entries i).document ≡ true
      → is_passed w target next (entry_in w.entries i) ≡ true
  passed-there next i low lt none before =
      let e = entry_in w.entries i in
      let far = near.far i low lt in
      and_from (is_ahead w.from target e) (is_in e.document w.hidden && is_before next e.document)
      (and_from (nat_le w.from e.document) (nat_le target e.document) (le-leb w.from e.document (stands.behind i (omega (arith, low, from)) lt)) (le-leb target e.document far))
      (and_from (is_in e.document w.hidden) (is_before next e.document) (stop-hidden w.hidden target e.document far none) before)

  -- so many entries behind the first, up to an end, where all are passed over
  many : (next : Option IndexedEntry) (end : ℕ) → end ≤ length w.entries → ((i : ℕ) → passed ≤ i → i < end → (may_stop w.hidden target (entry_in w.entries i).document ≡ false) × (is_before next (entry_in w.entries i).document ≡ true))
      → next_entry w target ≡ next → end ≤ first + w.interval + length (passed_over w target)
  many next end le each is =
      let count = length-filter-between (is_passed w target next) w.entries no_entry (first + w.interval) end le
      (λ i low lt. let both = each i (omega (arith, low, from)) lt in passed-there next i low (omega (arith, lt, le)) both.0 both.1) in
      subst (λ (o : Option IndexedEntry). end ≤ first + w.interval + length (filter (is_passed w target o) w.entries)) (sym is) count

  pub steps-first : (index : ℕ) → IsNextAt w target passed index → index + 1 ≤ first + (w.interval + (length (passed_over w target) + 2))
  steps-first index h =
      let count = many (Some (entry_in w.entries index)) index (let lt = h.within in omega (arith, lt))
      (λ i le lt. (h.none i le lt, lt-ltb (entry_in w.entries i).document (entry_in w.entries index).document (stands.rise i index lt h.within)))
      (next_entry-first w target passed stands index h) in
      omega (arith, count)

  pub steps-none : HasNoNext w target passed → length w.entries + 1 ≤ first + (w.interval + (length (passed_over w target) + 2))
  steps-none h =
      let count = many None (length w.entries) (omega arith) (λ i le lt. (h.none i le lt, refl)) (next_entry-none w target passed stands h) in
      omega (arith, count)
