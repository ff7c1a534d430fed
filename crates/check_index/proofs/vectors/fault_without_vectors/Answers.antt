use Rattle.lu_grammar.proofs.Codecs.{read_file-Reads}
use Rattle.term_vectors.specs.Places.{tvx_plan}
use Rattle.term_vectors.specs.Stores.{places_in}
use Rattle.check_index.proofs.vectors.fault_without_vectors.Goals as goal

pub check_fields-requires : goal.check_fields-requires
check_fields-requires c = read_file-Reads (tvx_plan c.args.part.total) c.args.tvx.now (places_in c.args.part.total c.args.tvx.now) c.in_default.ensures
