use Rattle.lu_grammar.specs.Parts.{num}
use Rattle.lu_grammar.proofs.Codecs.{read_part-place}
use Rattle.freq_skips.proofs.entry.optional_num.Goals as goal

pub returns-in-Ok-clause-place : goal.returns-in-Ok-clause-place
returns-in-Ok-clause-place c = λ fits. read_part-place num c.args.cur.now c.in-Ok.found c.num.new.self fits c.in-Ok.ensures.takes
