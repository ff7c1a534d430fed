use Rattle.std.proofs.Common.{string_bytes, sym, ◌∙◌}
use Rattle.lu_dir.specs.Loading.{texts}
use Rattle.lu_command.proofs.WordLemmas.{some_option, all_arguments, is_pair, no_second, has_third}
use Rattle.lu_command.proofs.words.two_arguments.Goals as goal

pub returns-then-has_option : goal.returns-then-has_option
returns-then-has_option c = λ first second empty two. some_option string_bytes (texts c.args.words.now) c.around_end.result.0.now c.around_end.ensures.before (sym c.has_option.ensures ∙ c.if-has_option.true) empty

pub returns-in_err-second : goal.returns-in_err-second
returns-in_err-second c =
    let all = all_arguments string_bytes (texts c.args.words.now) c.around_end.result.0.now c.around_end.ensures.before c.around_end.result.1.now c.around_end.ensures.after (sym c.has_option.ensures ∙ c.if-has_option.false) in
    rw c.from_residual-in_err-second.ensures (λ first second empty two. no_second _ first second (sym c.in_err-second.ensures) (sym all.1 ∙ two))

pub returns-in-Some : goal.returns-in-Some
returns-in-Some c = λ first second empty two.
    let all = all_arguments string_bytes (texts c.args.words.now) c.around_end.result.0.now c.around_end.ensures.before c.around_end.result.1.now c.around_end.ensures.after (sym c.has_option.ensures ∙ c.if-has_option.false) in
    has_third _ first second _ (sym c.in-Some.ensures) (sym all.1 ∙ two)

pub returns-in-None : goal.returns-in-None
returns-in-None c =
    let all = all_arguments string_bytes (texts c.args.words.now) c.around_end.result.0.now c.around_end.ensures.before c.around_end.result.1.now c.around_end.ensures.after (sym c.has_option.ensures ∙ c.if-has_option.false) in
    (all.0, all.1 ∙ is_pair _ _ _ (sym c.in_ok-first.ensures) (sym c.in_ok-second.ensures) (sym c.in-None.ensures))
