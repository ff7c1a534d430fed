use Rattle.std.proofs.Common.{string_bytes, sym, ◌∙◌}
use Rattle.lu_dir.specs.Loading.{texts}
use Rattle.lu_command.proofs.WordLemmas.{some_option, all_arguments}
use Rattle.lu_command.proofs.FourLemmas.{is_four, no_first_of_four, no_second_of_four, no_third_of_four, no_fourth_of_four, has_fifth}
use Rattle.lu_command.proofs.words.four_arguments.Goals as goal

pub returns-then-has_option : goal.returns-then-has_option
returns-then-has_option c = λ first second third fourth empty four. some_option string_bytes (texts c.args.words.now) c.around_end.result.0.now c.around_end.ensures.before (sym c.has_option.ensures ∙ c.if-has_option.true) empty

pub returns-in_err-first : goal.returns-in_err-first
returns-in_err-first c =
    let all = all_arguments string_bytes (texts c.args.words.now) c.around_end.result.0.now c.around_end.ensures.before c.around_end.result.1.now c.around_end.ensures.after (sym c.has_option.ensures ∙ c.if-has_option.false) in
    rw c.from_residual.ensures (λ first second third fourth empty four. no_first_of_four _ first second third fourth (sym c.in_err-first.ensures) (sym all.1 ∙ four))

pub returns-in_err-second : goal.returns-in_err-second
returns-in_err-second c =
    let all = all_arguments string_bytes (texts c.args.words.now) c.around_end.result.0.now c.around_end.ensures.before c.around_end.result.1.now c.around_end.ensures.after (sym c.has_option.ensures ∙ c.if-has_option.false) in
    rw c.from_residual-in_err-second.ensures (λ first second third fourth empty four. no_second_of_four _ first second third fourth (sym c.in_err-second.ensures) (sym all.1 ∙ four))

pub returns-in_err-third : goal.returns-in_err-third
returns-in_err-third c =
    let all = all_arguments string_bytes (texts c.args.words.now) c.around_end.result.0.now c.around_end.ensures.before c.around_end.result.1.now c.around_end.ensures.after (sym c.has_option.ensures ∙ c.if-has_option.false) in
    rw c.from_residual-in_err-third.ensures (λ first second third fourth empty four. no_third_of_four _ first second third fourth (sym c.in_err-third.ensures) (sym all.1 ∙ four))

pub returns-in_err-fourth : goal.returns-in_err-fourth
returns-in_err-fourth c =
    let all = all_arguments string_bytes (texts c.args.words.now) c.around_end.result.0.now c.around_end.ensures.before c.around_end.result.1.now c.around_end.ensures.after (sym c.has_option.ensures ∙ c.if-has_option.false) in
    rw c.from_residual-in_err-fourth.ensures (λ first second third fourth empty four. no_fourth_of_four _ first second third fourth (sym c.in_err-fourth.ensures) (sym all.1 ∙ four))

pub returns-in-Some : goal.returns-in-Some
returns-in-Some c = λ first second third fourth empty four.
    let all = all_arguments string_bytes (texts c.args.words.now) c.around_end.result.0.now c.around_end.ensures.before c.around_end.result.1.now c.around_end.ensures.after (sym c.has_option.ensures ∙ c.if-has_option.false) in
    has_fifth _ first second third fourth _ (sym c.in-Some.ensures) (sym all.1 ∙ four)

pub returns-in-None : goal.returns-in-None
returns-in-None c =
    let all = all_arguments string_bytes (texts c.args.words.now) c.around_end.result.0.now c.around_end.ensures.before c.around_end.result.1.now c.around_end.ensures.after (sym c.has_option.ensures ∙ c.if-has_option.false) in
    (all.0, all.1 ∙ is_four _ _ _ _ _ (sym c.in_ok-first.ensures) (sym c.in_ok-second.ensures) (sym c.in_ok-third.ensures) (sym c.in_ok-fourth.ensures) (sym c.in-None.ensures))
