use Rattle.lu_folder.proofs.DrawLemmas.{counted_number_in-name, counted_number_in-none}
use Rattle.lu_folder.proofs.numbering.counted_number_in.Goals as goal

pub returns-in-None-clause-number : goal.returns-in-None-clause-number
returns-in-None-clause-number c = counted_number_in-none c.args.counted c.args.text.now c.in-None.ensures

pub returns-in-Some-clause-number : goal.returns-in-Some-clause-number
returns-in-Some-clause-number c = counted_number_in-name c.args.counted c.args.text.now c.in-Some.name c.counted_number.result c.in-Some.ensures c.counted_number.ensures.number
