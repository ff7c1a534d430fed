-- One entry of a directory that was read, and what it says that it is good.
use Rattle.std.proofs.Common.{◌≡◌, ℕ, ◌+◌, ◌≤◌, Bool, true, false, not, eqb, List, ◌++◌, length, Option, Some, None, Result, Ok, Err, refl, sym, ap, subst, ◌∙◌, ℤ, pos, negsuc}
use Rattle.std.specs.Prelude.{is_some, int_lt}
use Rattle.std.proofs.Math.IntN.{nat_abs}
use Rattle.std.proofs.lemmas.Bool.{or_parts, eq-eqb, eqb-true}
use borrow.Author.Tests.{ltb-false}
use Rattle.std.proofs.lemmas.List.{append-nil}
use Rattle.lu_grammar.specs.declared.bad.Bad.{Bad}
use Rattle.lu_grammar.specs.Bytes.{IsBytes, Cursor}
use Rattle.lu_grammar.specs.Parts.{int64, text, spelling}
use Rattle.lu_grammar.specs.Records.{Spells, Condition, first_broken, read_shape, record_at}
use Rattle.lu_grammar.proofs.Records.{TakesRecord, ShapeJudges, read_shape-judges}
use Rattle.lu_grammar.proofs.Codecs.{ok_pair, record_at-read, record_at-breaks, all_unbroken}
use Rattle.compound_file.specs.Entries.{PartEntry, entry_number_of, first_start, last_start}
use Rattle.compound_file.specs.Cfs.{CfsRecord, entry, entry_shape, place_of, after_entry, is_misplaced, is_apart, conditions_after, entry_conditions}
use Rattle.compound_file.specs.Directories.{IsGoodEntry}

-- ---- the conditions of an entry

-- an offset that is not misplaced is a place
pub placed : (size : ℕ) (before : List PartEntry) (z : ℤ) → is_misplaced size before z ≡ false → (z ≡ pos (nat_abs z)) × (last_start 0 before ≤ nat_abs z) × (nat_abs z ≤ size)
placed size before (pos n) e =
    let parts = or_parts (int_lt (pos n) (pos (last_start 0 before))) (int_lt (pos size) (pos n)) e in
    (refl, ltb-false n (last_start 0 before) parts.0, ltb-false size n parts.1)
placed size before (negsuc n) e = cc

pub none_of : {A : Type 0} (o : Option A) → is_some o ≡ false → o ≡ None
none_of None e = refl
none_of (Some x) e = cc

-- where an entry that is not apart is the last, the first part starts just after it
pub closed : (count : ℕ) (before : List PartEntry) (z : ℤ) (after : ℕ) → is_apart count before z after ≡ false → length before + 1 ≡ count → first_start (place_of z) before ≡ after
closed count before z after e last =
    let is : eqb (length before + 1) count ≡ true = eq-eqb (length before + 1) count last in
    eqb-true (first_start (place_of z) before) after (turned (eqb (first_start (place_of z) before) after) (rw is at e))
  where
    turned : (b : Bool) → not b ≡ false → b ≡ true
    turned true h = refl
    turned false h = cc

-- ---- the entry

record_of : Result (CfsRecord × Cursor) Bad → Option (ℤ × List ℕ)
record_of (Ok (entry z name, d)) = Some (z, name)
record_of _ = None

module _ (c d : Cursor) (z : ℤ) (name : List ℕ) (fits : IsBytes c.rest) (read : read_shape entry_shape c ≡ Ok (entry z name, d)) where
  taken : TakesRecord entry_shape c (entry z name) d
  taken = let h : ShapeJudges entry_shape c (ok_pair (entry z name) d) = subst (ShapeJudges entry_shape c) read (read_shape-judges entry_shape c fits) in h

  -- the bytes of an entry
  spelled : (front : List ℕ) → Spells entry_shape (entry z name) front → front ≡ spelling int64 z ++ spelling text name
  spelled front (v, back, value, is, (w, more, named, is_more, (made, none))) =
      let same : entry v w ≡ entry z name = made in
      let offsets : v ≡ z = cc in
      let names : w ≡ name = cc in
      is ∙ ap (λ (b : List ℕ). spelling int64 v ++ b) (is_more ∙ ap (λ (b : List ℕ). spelling text w ++ b) none ∙ append-nil (spelling text w))
      ∙ ap (λ (x : ℤ). spelling int64 x ++ spelling text w) offsets ∙ ap (λ (x : List ℕ). spelling int64 z ++ spelling text x) names

  pub entry-place : d.place ≡ after_entry c.place z name
  entry-place = taken.place ∙ ap (λ (f : List ℕ). c.place + length f) (spelled taken.front taken.spells)

  pub entry-bytes : IsBytes d.rest
  entry-bytes = taken.fits

  module _ (size count : ℕ) (before : List PartEntry) where
    conditions : List Condition
    conditions = conditions_after size count before d.place z name

    here : first_broken (conditions_after size count before d.place z name) ≡ first_broken (entry_conditions size count before c.place (entry z name))
    here = ap (λ (n : ℕ). first_broken (conditions_after size count before n z name)) entry-place

    pub entry-breaks : (rule : ℕ) → Some rule ≡ first_broken (conditions_after size count before d.place z name) → record_at entry_shape (entry_conditions size count before c.place) c ≡ Err rule
    entry-breaks rule broken = record_at-breaks entry_shape (entry_conditions size count before c.place) c (entry z name) d rule read (sym here ∙ sym broken)

    module _ (good : None ≡ first_broken (conditions_after size count before d.place z name)) where
      unbroken : (is_misplaced size before z ≡ false) × ((is_some (entry_number_of name before) ≡ false) × ((is_apart count before z d.place ≡ false) × Unit {0}))
      unbroken = let u = all_unbroken (conditions_after size count before d.place z name) (sym good) in u

      pub entry-read : record_at entry_shape (entry_conditions size count before c.place) c ≡ Ok (entry (pos (nat_abs z)) name, d)
      entry-read =
          record_at-read entry_shape (entry_conditions size count before c.place) c (entry z name) d read (sym here ∙ sym good)
          ∙ ap (λ (x : ℤ). Ok (entry x name, d)) (placed size before z unbroken.0).0

      pub entry-good : IsGoodEntry size count before (record { name = name; start = nat_abs z }) d.place
      entry-good =
          let at = placed size before z unbroken.0 in
          record {
            rises = at.1;
            within = at.2;
            new = none_of (entry_number_of name before) unbroken.1.0;
            closed = λ last. ap (λ (x : ℤ). first_start (place_of x) before) (sym at.0) ∙ closed count before z d.place unbroken.1.1.0 last;
          }
