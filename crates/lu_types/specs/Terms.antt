-- What the terms of a dictionary are read by.
use Rattle.std.specs.Prelude.{ℕ}
use Rattle.lu_types.specs.Bits as bit
use Rattle.lu_types.specs.declared.term.TermNumbers.{TermNumbers}
use Rattle.lu_types.specs.declared.term.TermRules.{TermRules}

-- the rules of the terms of a field with these bits, in a dictionary with these numbers and a segment of so many documents
abbrev pub term_rules : TermNumbers → ℕ → ℕ → TermRules
term_rules numbers bits documents = record {
  documents = documents;
  skip_interval = numbers.skip_interval;
  max_levels = numbers.max_levels;
  omit_tf = bit.has_bit bit.omit_tf bits;
  payloads = bit.has_bit bit.payloads bits;
}
