use Rattle.std.proofs.Common.{◌≡◌, ◌+◌, ◌++◌, List, ℕ, length, take, drop, subst, ap, ◌∙◌, arith}
use Rattle.std.specs.Fmt.{decimal}
use Rattle.std.proofs.lemmas.List.{length-take-le}
use Rattle.lu_listing.specs.Printing.{PrinterState}
use Rattle.lu_listing.proofs.DigitLemmas.{digits-most}
use Rattle.lu_listing.proofs.PrinterLemmas.{prints-more}
use Rattle.lu_listing.proofs.RoomLemmas.{refill-same, follow-kept}
use Rattle.lu_listing.proofs.printer.Printer.wait_number.Goals as goal

pub overflow_add-end : goal.overflow_add-end
overflow_add-end c = omega (arith, c.self.invariant.within, c.digits.ensures, digits-most c.args.number c.ranges.number.fits)

pub write_digits-start-requires : goal.write_digits-start-requires
write_digits-start-requires c =
    let printer = c.self.inside in
    let used = length-take-le printer.used printer.room.items (omega (arith, c.self.invariant.whole, c.self.invariant.within)) in (
      omega (arith, c.digits.ensures),
      omega (
        arith,
        c.digits.ensures,
        digits-most c.args.number c.ranges.number.fits,
        used,
        ap (λ (s : PrinterState). length s.waiting) c.self.view_is,
        c.requires,
        c.self.invariant.whole,
        ap (λ (t : List ℕ). length t) c.as_mut_slice.ensures.value,
      ),
    )

pub returns : goal.returns
returns c = λ taken faults.
    let printer = c.self.inside in
    let room = printer.room.items in
    let new = c.write_digits-start.new.buf in
    let text = decimal c.args.number in
    let wrote = c.write_digits-start.ensures in
    let start : c.write_digits-start.result ≡ printer.used = omega (arith, wrote.start, c.digits.ensures) in
    let before : take printer.used new ≡ take printer.used room =
    subst (λ (n : ℕ). take n new ≡ take n c.as_mut_slice.result.now) start wrote.before ∙ ap (take printer.used) c.as_mut_slice.ensures.value in
    let behind = subst (λ (n : ℕ). drop n new ≡ text ++ drop (printer.used + c.digits.result) c.as_mut_slice.result.now) start wrote.written in
    let long : length new ≡ printer.room.len = c.write_digits-start.auto.buf ∙ c.as_mut_slice.ensures.len in
    prints-more c.args.self.now _ text taken faults (ap (λ (s : PrinterState). s.failed) c.self.view_is)
    (ap (take (printer.used + c.digits.result)) (refill-same printer.room.len room new long)
    ∙ ap (λ (n : ℕ). take (printer.used + n) new) c.digits.ensures
    ∙ follow-kept room text printer.used (omega (arith, c.self.invariant.whole, c.self.invariant.within)) new _ before behind
    ∙ ap (λ (s : PrinterState). s.waiting ++ text) c.self.view_is)
