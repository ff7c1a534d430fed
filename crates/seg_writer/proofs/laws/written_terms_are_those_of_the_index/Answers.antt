use Rattle.seg_writer.proofs.CanonicalTerms.{canonical-terms}
use Rattle.seg_writer.proofs.laws.written_terms_are_those_of_the_index.Goals as goal

pub returns : goal.returns
returns c = canonical-terms
