use Rattle.seg_writer.proofs.KeptColumnLemmas.{all-terms}
use Rattle.seg_writer.proofs.all_terms.columns_in_order.Goals as goal

pub returns-clause-terms : goal.returns-clause-terms
returns-clause-terms c =
    all-terms c.args.table.now c.args.columns.now c.in_ok-kept.kept.items c.sort_columns.new.kept.items c.requires.first c.in_ok-kept.ensures.names c.sort_columns.ensures.permutation c.sort_columns.ensures.sorted c.in_ok-kept.ensures.columns
