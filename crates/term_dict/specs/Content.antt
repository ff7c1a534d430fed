-- What the bytes of a file of terms stand for, whatever segment it is in.
use Rattle.std.specs.Prelude.{◌≡◌, ℕ, ◌<◌, ◌^◌, List, [], length, Result, Ok, Err}
use Rattle.lu_grammar.specs.Bytes.{IsBytes}
use Rattle.lu_grammar.specs.Plans.{read_file}
use Rattle.lu_grammar.specs.Reading.{value_or}
use Rattle.lu_types.specs.declared.term.TermNumbers.{TermNumbers}
use Rattle.term_dict.specs.Dictionary.{Dictionary, anywhere, dictionary_plan}
use Rattle.term_dict.specs.Checks.{AreBounded, AreWithin}

-- nothing
abbrev pub no_dictionary : Dictionary
no_dictionary = record { numbers = record { count = 0; index_interval = 0; skip_interval = 0; max_levels = 0 }; terms = []; starts = []; size = 0 }

-- the terms of the bytes
abbrev pub dictionary_in : List ℕ → Dictionary
dictionary_in bytes = value_or no_dictionary (read_file (dictionary_plan anywhere (length bytes)) bytes)

-- the bytes were read as terms, with these numbers, none with a longer text
pub record IsRead (bytes : List ℕ) (numbers : TermNumbers) (longest : ℕ) : Type 0 where
  pub read : read_file (dictionary_plan anywhere (length bytes)) bytes ≡ Ok (dictionary_in bytes)
  pub numbers_are : numbers ≡ (dictionary_in bytes).numbers
  pub bounded : AreBounded numbers
  pub within : AreWithin longest (dictionary_in bytes).terms
  pub small : length bytes < 2 ^ 31
  pub fits : IsBytes bytes
