use Rattle.std.proofs.Common.{string_bytes, sym, ◌∙◌}
use Rattle.lu_dir.specs.Loading.{texts}
use Rattle.lu_command.proofs.WordLemmas.{some_option, all_arguments, is_single, has_second}
use Rattle.lu_command.proofs.words.dir_alone.Goals as goal

pub returns-then-has_option : goal.returns-then-has_option
returns-then-has_option c = λ dir has. some_option string_bytes (texts c.args.words.now) c.around_end.result.0.now c.around_end.ensures.before (sym c.has_option.ensures ∙ c.if-has_option.true) has.no_options

pub returns-in-Some : goal.returns-in-Some
returns-in-Some c = λ dir has.
    let all = all_arguments string_bytes (texts c.args.words.now) c.around_end.result.0.now c.around_end.ensures.before c.around_end.result.1.now c.around_end.ensures.after (sym c.has_option.ensures ∙ c.if-has_option.false) in
    has_second _ dir _ (sym c.in-Some.ensures) (sym all.1 ∙ has.arguments)

pub returns-in-None : goal.returns-in-None
returns-in-None c =
    let all = all_arguments string_bytes (texts c.args.words.now) c.around_end.result.0.now c.around_end.ensures.before c.around_end.result.1.now c.around_end.ensures.after (sym c.has_option.ensures ∙ c.if-has_option.false) in
    record { no_options = all.0; arguments = all.1 ∙ is_single _ _ (sym c.in_ok-first.ensures) (sym c.in-None.ensures) }
