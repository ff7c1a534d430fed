-- What the files of a writer stand for.
use Rattle.std.specs.Prelude.{◌≡◌, ℕ, ◌<◌, ◌^◌, List, length, take, slice_index_or, None}
use Rattle.lu_grammar.specs.Records.{first_broken}
use Rattle.lu_types.specs.Tables.{TableField}
use Rattle.term_dict.specs.Terms.{DictionaryTerm, no_term}
use Rattle.term_dict.specs.Dictionary.{Dictionary, within}
use Rattle.term_dict.specs.Canonical.{canonical_tis, starts_of}
use Rattle.term_dict.specs.Writing.{TermsWritten, numbers_written, AreIntervals, AreSpellable}

-- each term can stand in the segment after those before it, and its places are within a file
abbrev pub StandIn : List TableField → ℕ → List DictionaryTerm → Type 0
StandIn fields documents terms = (i : ℕ) → i < length terms → (first_broken (within fields documents (take i terms) (slice_index_or terms i no_term)) ≡ None)
    × ((slice_index_or terms i no_term).info.freq < 2 ^ 31) × ((slice_index_or terms i no_term).info.prox < 2 ^ 31)

-- what was written can be read in the segment
pub record IsReadable (fields : List TableField) (documents : ℕ) (w : TermsWritten) : Type 0 where
  pub intervals : AreIntervals w
  pub few : length w.terms < 2 ^ 31
  pub spellable : AreSpellable w.skip_interval no_term w.terms
  pub stands : StandIn fields documents w.terms

-- the terms, and where each starts in the canonical file
abbrev pub dictionary_written : TermsWritten → Dictionary
dictionary_written w = record {
  numbers = numbers_written w;
  terms = w.terms;
  starts = starts_of w.skip_interval w.terms (length w.terms);
  size = length (canonical_tis (numbers_written w) w.terms);
}

-- the index of what was written can be read: its file of terms has a length that a file can have
pub record IsIndexable (w : TermsWritten) : Type 0 where
  pub intervals : AreIntervals w
  pub spellable : AreSpellable w.skip_interval no_term w.terms
  pub small : length (canonical_tis (numbers_written w) w.terms) < 2 ^ 31
