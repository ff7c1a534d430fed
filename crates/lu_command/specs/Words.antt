-- Options and arguments among the words of a call.
use Rattle.std.specs.Prelude.{◌≡◌, ℕ, List, [], ◌∷◌, ◌++◌, length, filter, Bool, not, ◌&&◌, true, false, ◌<◌, ◌≤◌, ◌^◌, nat_eq, nat_lt, codes, slice_index, if◌then◌else◌}
use Rattle.std.specs.List.{before_first, after_first, starts_with}
use Rattle.std.specs.Str.{bytes_eq}
use Rattle.std.specs.Str.Parse.{digits_value}
use Rattle.std.specs.Int.{IsInRange}
use Rattle.lu_types.specs.Names.{IsSegmentName}
use Rattle.lu_command.specs.declared.words.Few.{Few}
use Rattle.lu_command.specs.declared.words.Few.TheVariants.{Nothing, One, More}

-- the word ends the options
abbrev pub ends_options : List ℕ → Bool
ends_options word = bytes_eq word (codes "--")

-- the word begins with `-` and is longer than one byte
abbrev pub is_option : List ℕ → Bool
is_option word = nat_lt 1 (length word) && starts_with nat_eq word (codes "-")

-- the options among the words after the name of a command: those before the first word that ends the options
abbrev pub options_in : List (List ℕ) → List (List ℕ)
options_in words = filter is_option (before_first ends_options words)

-- the arguments among them: the other words before the first word that ends the options, and all words after it
abbrev pub arguments_in : List (List ℕ) → List (List ℕ)
arguments_in words = filter (λ word. not (is_option word)) (before_first ends_options words) ++ after_first ends_options words

-- the option that asks for one file in place of the parts
abbrev pub compound_option : List ℕ
compound_option = codes "--compound"

-- the options that ask for it, or for nothing: each stands at most once
abbrev pub options_asking : Bool → List (List ℕ)
options_asking compound = (if compound then compound_option ∷ [] else [])

-- the words after the name of a command are a folder, and the option that asks for one file, or none
pub record HasDirAndCompound (words : List (List ℕ)) (dir : List ℕ) (compound : Bool) : Type 0 where
  pub options : options_in words ≡ options_asking compound
  pub arguments : arguments_in words ≡ dir ∷ []

-- the word is an option, or, where arguments are asked for, is none
abbrev pub is_asked_for : Bool → List ℕ → Bool
is_asked_for true word = is_option word
is_asked_for false word = not (is_option word)

-- these are no words, or this one, or more
abbrev pub AreFew : Few → List (List ℕ) → Type 0
AreFew Nothing words = words ≡ []
AreFew (One word) words = words ≡ word.now ∷ []
AreFew More words = 1 < length words

-- the words after the name of a command are a folder, and no options
pub record HasDir (words : List (List ℕ)) (dir : List ℕ) : Type 0 where
  pub no_options : options_in words ≡ []
  pub arguments : arguments_in words ≡ dir ∷ []

-- the words after the name of a command are a folder, a field and a text, and no options
pub record HasDirAndTerm (words : List (List ℕ)) (dir field text : List ℕ) : Type 0 where
  pub no_options : options_in words ≡ []
  pub arguments : arguments_in words ≡ dir ∷ field ∷ text ∷ []

-- the words after the name of a command are a folder and a segment, and no options
pub record HasDirAndSegment (words : List (List ℕ)) (dir segment : List ℕ) : Type 0 where
  pub no_options : options_in words ≡ []
  pub arguments : arguments_in words ≡ dir ∷ segment ∷ []
  pub segment_named : IsSegmentName segment

-- each byte is a decimal digit
abbrev pub AreDigits : List ℕ → Type 0
AreDigits text = (k : ℕ) → k < length text → IsInRange 48 57 (slice_index text k)

-- the most digits of a first document
abbrev pub most_digits : ℕ
most_digits = 19

-- the text is one digit or more, and not too many
pub record IsNumber (text : List ℕ) : Type 0 where
  pub some : 0 < length text
  pub few : length text ≤ most_digits
  pub digits : AreDigits text

-- the text is the number of a document that may be the first: decimal digits, zeros in front or none
pub record IsFirst (text : List ℕ) (from : ℕ) : Type 0 where
  pub number : IsNumber text
  pub value : from ≡ digits_value 10 text
  pub small : from < 2 ^ 31

-- the words after the name of a command are a folder, a field, a text and a first document, and no options
pub record HasDirTermAndFrom (words : List (List ℕ)) (dir field text : List ℕ) (from : ℕ) : Type 0 where
  pub no_options : options_in words ≡ []
  pub number : List ℕ
  pub arguments : arguments_in words ≡ dir ∷ field ∷ text ∷ number ∷ []
  pub first : IsFirst number from
