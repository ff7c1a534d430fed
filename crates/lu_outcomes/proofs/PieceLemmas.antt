-- Texts that go out in pieces.
use Rattle.std.proofs.Common.{◌≡◌, ℕ, zero, suc, true, List, [], ◌∷◌, ◌++◌, take, Option, Some, None, Ok, Err, refl, sym, subst, ap, ◌∙◌, append_assoc, append-nil, length-append, arith}
use Rattle.std.specs.Prelude.{is_some}
use Rattle.std.proofs.lemmas.List.{take-append-le}
use Rattle.lu_dir.specs.Streams.{with_taken}
use Rattle.lu_dir.specs.declared.fail.DirFail.{DirFail}
use Rattle.lu_dir.specs.declared.fail.DirFail.TheVariants as fails
use Rattle.lu_dir.proofs.Taken.{with_taken-none}
use Rattle.lu_listing.specs.Printing.{Start, Page, page, empty_printer, IsPut, HasPrinted, Prints, IsToldTo}
use Rattle.lu_outcomes.specs.declared.status.Status.{Status}
use Rattle.lu_outcomes.specs.declared.status.Status.TheVariants as statuses
use Rattle.lu_outcomes.specs.Telling.{output_status_of, Tells, whole, cut, memory_ended}

-- an output where printing starts
abbrev pub start_at : Option (List ℕ) → ℕ → Start
start_at taken faults = record { taken = taken; faults = faults }

-- nothing was handed to a new printer
pub printed-none : (taken : Option (List ℕ)) (faults : ℕ) → HasPrinted (start_at taken faults) [] (page empty_printer taken faults)
printed-none taken faults = record { later = omega arith; put = record { gone = []; text_is = refl; took = sym (with_taken-none taken) } }

module _ (first second third : Page) where
  -- a text after a text
  pub prints-then : (text more : List ℕ) → Prints first second text → Prints second third more → Prints first third (text ++ more)
  prints-then text more one other start before has = subst (λ (t : List ℕ). HasPrinted start t third) (append_assoc before text more) (other start (before ++ text) (one start before has))

-- no text
pub prints-none : (p : Page) → Prints p p []
prints-none p start before has = subst (λ (t : List ℕ). HasPrinted start t p) (sym (append-nil before)) has

-- a part of a text is one of the text and more
part_of_more : (count : ℕ) (text more : List ℕ) → (n : ℕ) × (take count text ≡ take n (text ++ more))
part_of_more zero text more = (0, refl)
part_of_more (suc count) [] more = (0, refl)
part_of_more (suc count) (b ∷ bs) more = let rest = part_of_more count bs more in (suc rest.0, ap (λ (t : List ℕ). b ∷ t) rest.1)

module _ (start : Start) (text more : List ℕ) (p : Page) where
  -- where printing failed, more text goes nowhere
  failed-more : (failed : Option DirFail) → is_some failed ≡ true → IsPut failed start text p → IsPut failed start (text ++ more) p
  failed-more None is put = absurd (cc)
  failed-more (Some fails.Failed) is put = record {
    count = put.count;
    strict = omega (arith, put.strict, length-append text more);
    took = put.took ∙ ap (λ (part : List ℕ). with_taken part start.taken) (sym (take-append-le put.count text more (omega (arith, put.strict))));
    rose = put.rose;
  }
  failed-more (Some fails.OutOfMemory) is put =
      let part = part_of_more put.count text more in
      record { count = part.0; took = put.took ∙ ap (λ (t : List ℕ). with_taken t start.taken) part.1 }

-- so it counts as handed over
pub prints-failed : (p : Page) (text : List ℕ) → is_some p.printer.failed ≡ true → Prints p p text
prints-failed p text is start before has = record { later = has.later; put = failed-more start before text p p.printer.failed is has.put }

-- a text that was handed to a new printer was printed since then
pub printed-since : (taken : Option (List ℕ)) (faults : ℕ) (last : Page) (text : List ℕ) → Prints (page empty_printer taken faults) last text → HasPrinted (start_at taken faults) text last
printed-since taken faults last text prints = prints (start_at taken faults) [] (printed-none taken faults)

module _ (start : Start) (text : List ℕ) (taken : Option (List ℕ)) (faults : ℕ) where
  -- what a text that was told whole is answered with
  pub told-whole : (u : Unit {0}) → IsToldTo start text taken faults (Ok u) → Tells statuses.Ok text start.taken taken statuses.Ok
  told-whole u told = whole refl told

  -- and one that was not
  pub told-cut : (fail : DirFail) (answer : Status) → answer ≡ output_status_of fail → IsToldTo start text taken faults (Err fail) → Tells statuses.Ok text start.taken taken answer
  told-cut fails.Failed answer is told = cut is told.count told.strict told.took
  told-cut fails.OutOfMemory answer is told = memory_ended is told.count told.took

-- where memory ends before anything is printed, no text is
pub told-nothing : (status : Status) (text : List ℕ) (taken : Option (List ℕ)) → Tells status text taken taken statuses.NoMemory
told-nothing status text taken = memory_ended refl 0 (sym (with_taken-none taken))
