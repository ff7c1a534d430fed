use Rattle.stored_fields.proofs.LawLemmas.{written_store}
use Rattle.stored_fields.proofs.laws.written_is_read.Goals as goal

pub returns : goal.returns
returns c documents fields window storable h = written_store fields window documents storable h
