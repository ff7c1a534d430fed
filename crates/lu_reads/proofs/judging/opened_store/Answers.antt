use Rattle.lu_reads.proofs.judging.opened_store.Goals as goal

pub returns-in-Some-fdt-clause-said : goal.returns-in-Some-fdt-clause-said
returns-in-Some-fdt-clause-said c = rw (c.in-Some.is, c.in-Some-fdt.is) c.opened_files.ensures.said

pub returns-in-None-clause-said : goal.returns-in-None-clause-said
returns-in-None-clause-said c = rw (c.in-Some.is, c.in-None.is) (c.stopped_at_places.ensures.said c.args.fields)
