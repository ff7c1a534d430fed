-- The last term that was read.
use Rattle.std.specs.Prelude.{◌<◌, ◌≤◌, ◌^◌, length}
use Rattle.std.specs.Str.{IsUtf8}
use Rattle.term_dict.specs.declared.last.LastTerm.{LastTerm}
use Rattle.term_dict.specs.Entries.{TermRecord}
use Rattle.term_dict.specs.Terms.{DictionaryTerm, term_after}

-- the term of the program
abbrev pub term_of_last : LastTerm → DictionaryTerm
term_of_last last = record { text = last.text.items; info = last.info }

-- its text is UTF-8, and its places are within a file
pub record IsSoundTerm (t : DictionaryTerm) : Type 0 where
  pub text : IsUtf8 t.text
  pub freq : t.info.freq < 2 ^ 31
  pub prox : t.info.prox < 2 ^ 31

-- an entry that is good after a term
pub record Fits (last : DictionaryTerm) (e : TermRecord) : Type 0 where
  pub prefix : e.prefix ≤ length last.text
  pub sound : IsSoundTerm (term_after last e)
