use Rattle.std.proofs.Common.{string_bytes, sym}
use Rattle.lu_command.specs.Words.{ends_options}
use Rattle.lu_command.proofs.WordLemmas.{cut_before, cut_after, all_before, none_after}
use Rattle.lu_command.proofs.words.around_end.Goals as goal

pub returns-in-Some-clause-before : goal.returns-in-Some-clause-before
returns-in-Some-clause-before c = cut_before string_bytes ends_options c.args.words.now c.in-Some.end _ (sym c.in-Some.ensures) c.split_at.ensures.front

pub returns-in-Some-clause-after : goal.returns-in-Some-clause-after
returns-in-Some-clause-after c = cut_after string_bytes ends_options c.args.words.now c.in-Some.end _ _ (sym c.in-Some.ensures) c.split_at.ensures.back c.split_at-in-Some.ensures.back

pub returns-in-None-clause-before : goal.returns-in-None-clause-before
returns-in-None-clause-before c = all_before string_bytes ends_options c.args.words.now _ (sym c.in-None.ensures) c.split_at-in-None.ensures.front

pub returns-in-None-clause-after : goal.returns-in-None-clause-after
returns-in-None-clause-after c = none_after string_bytes ends_options c.args.words.now _ (sym c.in-None.ensures) c.split_at-in-None.ensures.back
