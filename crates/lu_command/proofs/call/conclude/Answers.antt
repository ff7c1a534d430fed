use Rattle.std.proofs.Common.{subst}
use Rattle.lu_command.specs.Commands.{Means}
use Rattle.lu_command.specs.Meanings.{meaning_of}
use Rattle.lu_command.specs.declared.command.Command.{Command}
use Rattle.lu_command.proofs.call.conclude.Goals as goal

pub returns-in-Fields-clause-answers : goal.returns-in-Fields-clause-answers
returns-in-Fields-clause-answers g c = rw c.in-Fields.is c.fields.ensures.answers

pub returns-in-Docs-clause-answers : goal.returns-in-Docs-clause-answers
returns-in-Docs-clause-answers g c = rw c.in-Docs.is c.docs.ensures.answers

pub returns-in-Check-clause-answers : goal.returns-in-Check-clause-answers
returns-in-Check-clause-answers g c = rw c.in-Check.is c.check.ensures.answers

pub returns-in-Show-clause-answers : goal.returns-in-Show-clause-answers
returns-in-Show-clause-answers g c = rw c.in-Show.is c.show.ensures.answers

pub returns-in-Build-clause-answers : goal.returns-in-Build-clause-answers
returns-in-Build-clause-answers g c = rw c.in-Build.is c.build.ensures.answers

pub returns-in-Delete-clause-answers : goal.returns-in-Delete-clause-answers
returns-in-Delete-clause-answers g c = rw c.in-Delete.is c.delete.ensures.answers

pub postings-requires-clause-from : goal.postings-requires-clause-from
postings-requires-clause-from g c = (subst (λ (command : Command). Means c.requires.meant.0 (meaning_of command)) c.in-Postings.is c.requires.meant.1).2.first.small

pub returns-in-Postings-clause-answers : goal.returns-in-Postings-clause-answers
returns-in-Postings-clause-answers g c = rw c.in-Postings.is c.postings.ensures.answers

pub returns-in-Merge-clause-answers : goal.returns-in-Merge-clause-answers
returns-in-Merge-clause-answers g c = rw c.in-Merge.is c.merge.ensures.answers
