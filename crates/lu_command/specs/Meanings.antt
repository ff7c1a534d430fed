-- What a command of the program means.
use Rattle.lu_command.specs.Commands.{Meaning, fields, docs, check, show, build, delete, postings, merge}
use Rattle.lu_command.specs.declared.command.Command.{Command}
use Rattle.lu_command.specs.declared.command.Command.TheVariants.{Fields, Docs, Check, Show, Build, Delete, Postings, Merge}

-- the meaning of the command
abbrev pub meaning_of : Command → Meaning
meaning_of (Fields dir segment) = fields dir.now segment.now
meaning_of (Docs dir segment) = docs dir.now segment.now
meaning_of (Check dir) = check dir.now
meaning_of (Show dir) = show dir.now
meaning_of (Build dir compound) = build dir.now compound
meaning_of (Delete dir field text) = delete dir.now field.now text.now
meaning_of (Postings dir field text from) = postings dir.now field.now text.now from
meaning_of (Merge dir compound) = merge dir.now compound
