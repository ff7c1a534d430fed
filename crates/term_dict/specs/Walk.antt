-- A walk over the terms of a file.
use Rattle.std.specs.Prelude.{◌≡◌, ℕ, ◌+◌, ◌-◌, ◌≤◌, List, length, take, drop, Ok, slice_index_or}
use Rattle.lu_grammar.specs.Bytes.{place_in}
use Rattle.lu_grammar.specs.Plans.{times, read_plan}
use Rattle.lu_types.specs.declared.term.TermNumbers.{TermNumbers}
use Rattle.term_dict.specs.Terms.{DictionaryTerm, last_term}
use Rattle.term_dict.specs.Dictionary.{Dictionary, anywhere, Progress, no_terms, term_kind}
use Rattle.term_dict.specs.Content.{dictionary_in}
use Rattle.term_dict.specs.Last.{IsSoundTerm}

-- the terms of a file, and how many of them the walk has passed
pub record TermWalk : Type 0 where
  pub dictionary : Dictionary
  pub passed : ℕ

-- before the first term
abbrev pub walk_of : Dictionary → TermWalk
walk_of dictionary = record { dictionary = dictionary; passed = 0 }

-- before the term with a number
abbrev pub walk_to : Dictionary → ℕ → TermWalk
walk_to dictionary passed = record { dictionary = dictionary; passed = passed }

-- one term further
abbrev pub passed_on : TermWalk → TermWalk
passed_on w = record { dictionary = w.dictionary; passed = w.passed + 1 }

-- the last term that was passed
abbrev pub term_passed : TermWalk → DictionaryTerm
term_passed w = last_term (take w.passed w.dictionary.terms)

-- where the next term starts, and after the last one the length of the file
abbrev pub next_place : TermWalk → ℕ
next_place w = slice_index_or w.dictionary.starts w.passed w.dictionary.size

-- the walk over the terms of these bytes
abbrev pub walk_in : List ℕ → ℕ → TermWalk
walk_in bytes passed = record { dictionary = dictionary_in bytes; passed = passed }

-- the first so many terms of the bytes end at this place, and the last of them is this one
pub record IsAt (bytes : List ℕ) (numbers : TermNumbers) (passed place : ℕ) (last : DictionaryTerm) : Type 0 where
  pub so_far : Progress
  pub read : read_plan (times (term_kind anywhere numbers.skip_interval) passed no_terms) (place_in bytes 24) ≡ Ok (so_far, place_in bytes place)
  pub is_last : last_term so_far.terms ≡ last
  pub sound : IsSoundTerm last
  pub few : passed ≤ numbers.count
  pub inside : place ≤ length bytes
