use Rattle.lu_types.specs.Names.{segment_name}
use Rattle.compound_file.proofs.FoundLemmas.{part_named-file_of}
use Rattle.compound_file.proofs.laws.packed_is_found.Goals as goal

pub returns : goal.returns
returns c = λ files number kind part. part_named-file_of files (segment_name number) kind part
