use Rattle.stored_fields.specs.Entries.{lent_entry}
use Rattle.stored_fields.proofs.DocumentLemmas.{value_given, value_broken, value_unread}
use Rattle.stored_fields.proofs.documents.next_value.Goals as goal

pub returns-in-Err : goal.returns-in-Err
returns-in-Err c = value_unread c.args.asked c.args.fields c.args.here.now c.in-Err.bad _ c.in-Err.ensures c.rule_of.ensures

pub returns-in-Some : goal.returns-in-Some
returns-in-Some c = value_broken c.args.asked c.args.fields c.args.here.now c.next_entry.new.here (lent_entry c.in-Ok.entry) c.in-Some.rule c.in-Ok.ensures c.in-Some.ensures

pub returns-in-None : goal.returns-in-None
returns-in-None c = value_given c.args.asked c.args.fields c.args.here.now c.next_entry.new.here (lent_entry c.in-Ok.entry) c.in-Ok.ensures c.in-None.ensures
