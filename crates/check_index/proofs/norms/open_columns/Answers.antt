use Rattle.std.proofs.Common.{length, ap, ◌∙◌}
use Rattle.check_index.proofs.NormLemmas.{length-norms_from}
use Rattle.check_index.proofs.norms.open_columns.Goals as goal

pub returns-in_ok-by_field-in-Ok-check_norms-clause-count : goal.returns-in_ok-by_field-in-Ok-check_norms-clause-count
returns-in_ok-by_field-in-Ok-check_norms-clause-count c = ap length c.in_ok-by_field-in-Ok-check_norms.ensures ∙ length-norms_from 0 c.in-Ok-check_norms.norms c.args.fields.now
