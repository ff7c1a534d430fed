use Rattle.std.proofs.Common.{subst}
use Rattle.std.specs.Str.Parse.{ParsesUnsigned}
use Rattle.lu_command.proofs.FirstLemmas.{first-unread}
use Rattle.lu_command.proofs.words.first_document.Goals as goal

pub returns-in_default : goal.returns-in_default
returns-in_default c from first = first-unread c.args.word.now c.in_default.field-0 from (subst (ParsesUnsigned 32 10 c.args.word.now) c.in_default.is c.parse.ensures.value.0) first
