use Rattle.seg_writer.proofs.OrderLemmas.{documents-in_order}
use Rattle.seg_writer.proofs.laws.column_terms_are_in_order.Goals as goal

pub returns : goal.returns
returns c = documents-in_order
