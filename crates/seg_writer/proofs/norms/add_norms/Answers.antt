use Rattle.std.proofs.Common.{ap, sym, ◌∙◌, ◌++◌}
use Rattle.std.proofs.lemmas.List.{append-nil}
use Rattle.std.proofs.lemmas.Result.{on_ok_weaker}
use Rattle.seg_writer.proofs.NormFileLemmas.{one-with, one-without}
use Rattle.seg_writer.proofs.norms.add_norms.Goals as goal

pub returns : goal.returns
returns c docs of = sym (append-nil c.args.writer.now) ∙ ap (λ w. c.args.writer.now ++ w) (sym (one-without docs c.args.field.now (sym c.has_norms.ensures ∙ c.if-has_norms.false)))

pub returns-then-has_norms : goal.returns-then-has_norms
returns-then-has_norms c =
    on_ok_weaker c.add_column.result (λ adds docs of. adds c.args.field.now.name docs of ∙ ap (λ w. c.args.writer.now ++ w) (sym (one-with docs c.args.field.now (sym c.has_norms.ensures ∙ c.if-has_norms.true)))) c.add_column.ensures
