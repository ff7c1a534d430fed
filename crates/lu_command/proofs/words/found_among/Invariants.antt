use Rattle.std.proofs.Common.{filter, take}
use Rattle.lu_dir.specs.Loading.{texts}
use Rattle.lu_command.specs.Words.{is_asked_for, AreFew}
use Rattle.lu_command.proofs.words.found_among.Given as goal

-- what was found of the words so far
abbrev pub invariant-loop-word : goal.invariant-loop-word
invariant-loop-word l = AreFew l.found (filter (is_asked_for l.options) (texts (take l.word-index l.words)))
