use Rattle.std.proofs.Common.{ℕ, List, sym, ◌∙◌, subst}
use Rattle.lu_command.specs.Words.{IsFirst}
use Rattle.lu_command.proofs.FourLemmas.{same_fourth}
use Rattle.lu_command.proofs.words.dir_term_and_from.Goals as goal

pub returns-in_err-dir : goal.returns-in_err-dir
returns-in_err-dir c = rw c.from_residual.ensures (λ dir field text from has. c.in_err-dir.ensures dir field text has.number has.no_options has.arguments)

pub returns-in_err-from : goal.returns-in_err-from
returns-in_err-from c = rw c.from_residual-in_err-from.ensures (λ dir field text from has.
    c.in_err-from.ensures from (subst (λ (n : List ℕ). IsFirst n from) (same_fourth _ _ _ _ _ _ _ _ (sym has.arguments ∙ c.in_ok-dir.ensures.1)) has.first))

pub returns : goal.returns
returns c = record { no_options = c.in_ok-dir.ensures.0; number = _; arguments = c.in_ok-dir.ensures.1; first = c.in_ok-from.ensures }
