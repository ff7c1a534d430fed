use Rattle.std.proofs.Common.{string_bytes, sym, ◌∙◌}
use Rattle.lu_dir.specs.Loading.{texts}
use Rattle.lu_command.proofs.WordLemmas.{some_option, all_arguments, is_triple, no_first_of, no_second_of, no_third, has_fourth}
use Rattle.lu_command.proofs.words.dir_and_term.Goals as goal

pub returns-then-has_option : goal.returns-then-has_option
returns-then-has_option c = λ dir field text has. some_option string_bytes (texts c.args.words.now) c.around_end.result.0.now c.around_end.ensures.before (sym c.has_option.ensures ∙ c.if-has_option.true) has.no_options

pub returns-in_err-dir : goal.returns-in_err-dir
returns-in_err-dir c =
    let all = all_arguments string_bytes (texts c.args.words.now) c.around_end.result.0.now c.around_end.ensures.before c.around_end.result.1.now c.around_end.ensures.after (sym c.has_option.ensures ∙ c.if-has_option.false) in
    rw c.from_residual.ensures (λ dir field text has. no_first_of _ dir field text (sym c.in_err-dir.ensures) (sym all.1 ∙ has.arguments))

pub returns-in_err-field : goal.returns-in_err-field
returns-in_err-field c =
    let all = all_arguments string_bytes (texts c.args.words.now) c.around_end.result.0.now c.around_end.ensures.before c.around_end.result.1.now c.around_end.ensures.after (sym c.has_option.ensures ∙ c.if-has_option.false) in
    rw c.from_residual-in_err-field.ensures (λ dir field text has. no_second_of _ dir field text (sym c.in_err-field.ensures) (sym all.1 ∙ has.arguments))

pub returns-in_err-text : goal.returns-in_err-text
returns-in_err-text c =
    let all = all_arguments string_bytes (texts c.args.words.now) c.around_end.result.0.now c.around_end.ensures.before c.around_end.result.1.now c.around_end.ensures.after (sym c.has_option.ensures ∙ c.if-has_option.false) in
    rw c.from_residual-in_err-text.ensures (λ dir field text has. no_third _ dir field text (sym c.in_err-text.ensures) (sym all.1 ∙ has.arguments))

pub returns-in-Some : goal.returns-in-Some
returns-in-Some c = λ dir field text has.
    let all = all_arguments string_bytes (texts c.args.words.now) c.around_end.result.0.now c.around_end.ensures.before c.around_end.result.1.now c.around_end.ensures.after (sym c.has_option.ensures ∙ c.if-has_option.false) in
    has_fourth _ dir field text _ (sym c.in-Some.ensures) (sym all.1 ∙ has.arguments)

pub returns-in-None : goal.returns-in-None
returns-in-None c =
    let all = all_arguments string_bytes (texts c.args.words.now) c.around_end.result.0.now c.around_end.ensures.before c.around_end.result.1.now c.around_end.ensures.after (sym c.has_option.ensures ∙ c.if-has_option.false) in
    record { no_options = all.0; arguments = all.1 ∙ is_triple _ _ _ _ (sym c.in_ok-dir.ensures) (sym c.in_ok-field.ensures) (sym c.in_ok-text.ensures) (sym c.in-None.ensures) }
