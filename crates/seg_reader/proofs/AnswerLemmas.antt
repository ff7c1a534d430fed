-- Which entry of a walk is answered next, and what is left behind it, by the places of its entries.
use Rattle.std.proofs.Common.{◌≡◌, ℕ, ◌+◌, ◌<◌, ◌≤◌, Bool, true, false, not, ◌&&◌, List, [], ◌∷◌, length, Some, None, inl, inr, sym, ap, ◌∙◌, arith}
use Rattle.std.specs.Prelude.{nat_le}
use Rattle.std.proofs.lemmas.Bool.{lt-leb, le-leb, cases_lt}
use Rattle.doc_marks.specs.Marking.{is_in}
use Rattle.lu_model.specs.Index.{IndexedEntry}
use Rattle.seg_reader.specs.Postings.{PostingsWalk, may_answer, next_entry, answered, entries_left}
use Rattle.seg_reader.specs.InnerScan.{may_stop}
use Rattle.seg_reader.specs.InnerCursor.{no_entry, entry_in}
use Rattle.seg_reader.proofs.WalkLists.{IsFirst, PassesNowhere, find-first, find-nowhere, filter-first, filter-nowhere}

-- so many entries are behind a walk; the documents rise, and are below the size
pub record StandsBehind (w : PostingsWalk) (passed : ℕ) : Type 0 where
  pub rise : (i j : ℕ) → i < j → j < length w.entries → (entry_in w.entries i).document < (entry_in w.entries j).document
  pub below : (i : ℕ) → i < length w.entries → (entry_in w.entries i).document < w.size
  pub before : (i : ℕ) → i < passed → (entry_in w.entries i).document < w.from
  pub behind : (i : ℕ) → passed ≤ i → i < length w.entries → w.from ≤ (entry_in w.entries i).document

-- the entry with an index is the first that may be answered, of those that are not behind the walk
pub record IsNextAt (w : PostingsWalk) (target passed index : ℕ) : Type 0 where
  pub within : index < length w.entries
  pub from : passed ≤ index
  pub stops : may_stop w.hidden target (entry_in w.entries index).document ≡ true
  pub none : (i : ℕ) → passed ≤ i → i < index → may_stop w.hidden target (entry_in w.entries i).document ≡ false

-- none of them may be answered
pub record HasNoNext (w : PostingsWalk) (target passed : ℕ) : Type 0 where
  pub none : (i : ℕ) → passed ≤ i → i < length w.entries → may_stop w.hidden target (entry_in w.entries i).document ≡ false

-- ---- one entry

answer-before : (hidden : List ℕ) (from target : ℕ) (e : IndexedEntry) → e.document < from → may_answer hidden from target e ≡ false
answer-before hidden from target e lt = ap (λ (b : Bool). (b && nat_le target e.document) && not (is_in e.document hidden)) (lt-leb from e.document lt)

answer-behind : (hidden : List ℕ) (from target : ℕ) (e : IndexedEntry) → from ≤ e.document → may_answer hidden from target e ≡ may_stop hidden target e.document
answer-behind hidden from target e le = ap (λ (b : Bool). (b && nat_le target e.document) && not (is_in e.document hidden)) (le-leb from e.document le)

pub stop-below : (hidden : List ℕ) (target document : ℕ) → document < target → may_stop hidden target document ≡ false
stop-below hidden target document lt = ap (λ (b : Bool). b && not (is_in document hidden)) (lt-leb target document lt)

-- ---- the next

module _ (w : PostingsWalk) (target passed : ℕ) (stands : StandsBehind w passed) where
  -- the test at an entry
  before-next : (i : ℕ) → i < length w.entries → ((passed ≤ i) → may_stop w.hidden target (entry_in w.entries i).document ≡ false) → may_answer w.hidden w.from target (entry_in w.entries i) ≡ false
  before-next i lt none = elim (cases_lt i passed) [
    | inl low ↦ answer-before w.hidden w.from target (entry_in w.entries i) (stands.before i low)
    | inr high ↦ answer-behind w.hidden w.from target (entry_in w.entries i) (stands.behind i high lt) ∙ none high
  ]

  pub first-next : (index : ℕ) → IsNextAt w target passed index → IsFirst (may_answer w.hidden w.from target) w.entries no_entry index
  first-next index h = record {
    within = h.within;
    passes = answer-behind w.hidden w.from target (entry_in w.entries index) (stands.behind index h.from h.within) ∙ h.stops;
    none = λ i lt. before-next i (let far = h.within in omega (arith, far, lt)) (λ le. h.none i le lt);
  }

  pub nowhere-next : HasNoNext w target passed → PassesNowhere (may_answer w.hidden w.from target) w.entries no_entry
  nowhere-next h = record { none = λ i lt. before-next i lt (λ le. h.none i le lt) }

  pub next_entry-first : (index : ℕ) → IsNextAt w target passed index → next_entry w target ≡ Some (entry_in w.entries index)
  next_entry-first index h = find-first (may_answer w.hidden w.from target) w.entries no_entry index (first-next index h)

  pub next_entry-none : HasNoNext w target passed → next_entry w target ≡ None
  next_entry-none h = find-nowhere (may_answer w.hidden w.from target) w.entries no_entry (nowhere-next h)

-- ---- what is left

module _ (w : PostingsWalk) (passed : ℕ) (stands : StandsBehind w passed) where
  pub entries_left-first : (index : ℕ) → IsNextAt w 0 passed index → entries_left w ≡ entry_in w.entries index ∷ entries_left (answered w (Some (entry_in w.entries index)))
  entries_left-first index h =
      let first = first-next w 0 passed stands index h in
      let e = entry_in w.entries index in
      filter-first (may_answer w.hidden w.from 0) (may_answer w.hidden (e.document + 1) 0) w.entries no_entry index (record {
        first = first;
        none = λ i le. answer-before w.hidden (e.document + 1) 0 (entry_in w.entries i) (not-behind i le);
        same = λ i low lt.
            let up = stands.rise index i low lt in
            answer-behind w.hidden w.from 0 (entry_in w.entries i) (stands.behind i (let at = h.from in omega (arith, at, low)) lt)
            ∙ sym (answer-behind w.hidden (e.document + 1) 0 (entry_in w.entries i) (omega (arith, up)));
      })
    where
      not-behind : (i : ℕ) → i ≤ index → (entry_in w.entries i).document < (entry_in w.entries index).document + 1
      not-behind i le = elim (cases_lt i index) [
        | inl low ↦ let up = stands.rise i index low h.within in omega (arith, up)
        | inr high ↦ let same : i ≡ index = omega arith in omega (arith, ap (λ (n : ℕ). (entry_in w.entries n).document) same)
      ]

  pub entries_left-none : HasNoNext w 0 passed → (entries_left w ≡ []) × (entries_left (answered w None) ≡ [])
  entries_left-none h = (
    filter-nowhere (may_answer w.hidden w.from 0) w.entries no_entry (nowhere-next w 0 passed stands h),
    filter-nowhere (may_answer w.hidden w.size 0) w.entries no_entry (record { none = λ i lt. answer-before w.hidden w.size 0 (entry_in w.entries i) (stands.below i lt) }),
  )
