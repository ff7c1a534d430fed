use Rattle.lu_grammar.proofs.Plans.{read_plan-ReadsTo, reads-read_plan, fault-read_plan}
use Rattle.lu_grammar.proofs.Files.{read_file-Reads, Reads-from, FirstFault-from, read_file-FirstFault}
use Rattle.lu_grammar.proofs.laws.reading_judges.Goals as goal

pub returns-clause-reads : goal.returns-clause-reads
returns-clause-reads g c = λ plan from v to fits. (reads-read_plan plan from v to fits, read_plan-ReadsTo plan from v to)

pub returns-clause-fault : goal.returns-clause-fault
returns-clause-fault g c = fault-read_plan

pub returns-clause-file : goal.returns-clause-file
returns-clause-file g c = λ plan bytes v fits. (Reads-from plan bytes v fits, read_file-Reads plan bytes v)

pub returns-clause-first_fault : goal.returns-clause-first_fault
returns-clause-first_fault g c = λ plan bytes b fits. (FirstFault-from plan bytes b fits, read_file-FirstFault plan bytes b.offset b.rule fits)
