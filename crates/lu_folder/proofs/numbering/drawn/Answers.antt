use Rattle.std.proofs.Common.{◌≡◌, ◌+◌, ◌∙◌, ℕ, max, Some, None, sym, ap, arith}
use Rattle.lu_folder.proofs.DrawLemmas.{drawn-more}
use Rattle.lu_folder.proofs.numbering.drawn.Goals as goal
use Rattle.lu_folder.proofs.numbering.drawn.Goals.{in-Some, in_default}

pub loop-name-preserved : goal.loop-name-preserved
loop-name-preserved c =
    let names = c.args.names.now in
    let place = c.loop-name.name-index in
    elim c.match-counted_number_in.branch [
      | in-Some w ↦ record {
        number = w.number-is ∙ w.max-number.ensures
            ∙ ap (λ (n : ℕ). max n (w.in-Some.used + 1)) c.loop-name.invariant.number
            ∙ sym (drawn-more c.args.counted c.args.least names place c.name-item.result c.as_str.result.now (Some w.in-Some.used) c.loop-name-test.true c.name-item.is c.as_str.ensures.value w.in-Some.ensures.number);
        bound = omega (arith, w.number-is, w.max-number.ensures, w.in-Some.ensures.bound);
      }
      | in_default w ↦ record {
        number = w.number-is ∙ c.loop-name.invariant.number
            ∙ sym (drawn-more c.args.counted c.args.least names place c.name-item.result c.as_str.result.now None c.loop-name-test.true c.name-item.is c.as_str.ensures.value w.in_default.ensures.number);
        bound = omega (arith, w.number-is);
      }
    ]
