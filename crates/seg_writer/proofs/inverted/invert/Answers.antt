use Rattle.seg_writer.proofs.InvertedLemmas.{are_terms}
use Rattle.seg_writer.proofs.inverted.invert.Goals as goal

pub returns : goal.returns
returns c = are_terms c.args.column.now c.args.uses.now c.in_ok-terms.terms.items c.sort_terms.new.terms.items c.requires c.in_ok-terms.ensures c.sort_terms.ensures.permutation c.sort_terms.ensures.sorted
