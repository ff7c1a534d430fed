use Rattle.seg_writer.proofs.EntryLemmas.{term-model}
use Rattle.seg_writer.proofs.laws.column_terms_are_indexed.Goals as goal

pub returns : goal.returns
returns c = term-model
