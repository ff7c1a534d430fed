use Rattle.lu_grammar.specs.Parts.{vlong}
use Rattle.lu_grammar.proofs.Codecs.{read_part-place}
use Rattle.freq_skips.proofs.datum.optional_vlong.Goals as goal

pub returns-in-Ok-clause-place : goal.returns-in-Ok-clause-place
returns-in-Ok-clause-place c = λ fits. read_part-place vlong c.args.cur.now c.in-Ok.found c.vlong.new.self fits c.in-Ok.ensures.takes
