-- What a walk tells of the next term.
use Rattle.term_dict.specs.declared.cursor.NextTerm.{NextTerm}
use Rattle.term_dict.specs.Canonical.{shared}
use Rattle.term_dict.specs.Terms.{DictionaryTerm}
use Rattle.term_dict.specs.Walk.{TermWalk, term_passed}

-- a term after a walk: what is said of it, and how many bytes its text begins with alike with the last text that was passed
abbrev pub next_after : TermWalk → DictionaryTerm → NextTerm
next_after w t = record { info = t.info; shared = shared (term_passed w).text t.text }
