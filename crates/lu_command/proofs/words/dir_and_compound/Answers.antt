use Rattle.std.proofs.Common.{filter, false, ◌++◌, List, ℕ, ap, sym, ◌∙◌}
use Rattle.std.specs.List.{before_first, after_first}
use Rattle.lu_dir.specs.Loading.{texts}
use Rattle.lu_command.specs.Words.{is_option, ends_options, is_asked_for}
use Rattle.lu_command.proofs.words.dir_and_compound.Goals as goal

pub returns-in_err-compound : goal.returns-in_err-compound
returns-in_err-compound c = rw c.from_residual.ensures (λ dir compound has. c.in_err-compound.ensures compound (ap (filter is_option) c.around_end.ensures.before ∙ has.options))

pub returns-in_err-dir : goal.returns-in_err-dir
returns-in_err-dir c = rw c.from_residual-in_err-dir.ensures (λ dir compound has.
    c.in_err-dir.ensures dir
    (ap (λ (ahead : List (List ℕ)). filter (is_asked_for false) ahead ++ texts c.around_end.result.1.now) c.around_end.ensures.before
    ∙ ap (λ (behind : List (List ℕ)). filter (is_asked_for false) (before_first ends_options (texts c.args.words.now)) ++ behind) c.around_end.ensures.after
    ∙ has.arguments))

pub returns : goal.returns
returns c = record {
  options = ap (filter is_option) (sym c.around_end.ensures.before) ∙ c.in_ok-compound.ensures;
  arguments = ap (λ (ahead : List (List ℕ)). filter (is_asked_for false) ahead ++ after_first ends_options (texts c.args.words.now)) (sym c.around_end.ensures.before)
      ∙ ap (λ (behind : List (List ℕ)). filter (is_asked_for false) (texts c.around_end.result.0.now) ++ behind) (sym c.around_end.ensures.after)
      ∙ c.in_ok-dir.ensures;
}
