-- Lent pairs, and what they stand for (format page, "Term vectors").
use Rattle.std.specs.Prelude.{◌≡◌, ℕ, Option, Some, None}
use Rattle.lu_grammar.specs.Records.{first_broken}
use Rattle.lu_model.specs.Index.{Span}
use Rattle.term_vectors.specs.declared.occurrences.OffsetPair.{OffsetPair}
use Rattle.term_vectors.specs.Vectors.{pair, span_after, pair_conditions}

-- the pair of the program
abbrev pub span_of : OffsetPair → Span
span_of p = record { start = p.start; end = p.end }

-- what a pair is that starts so far behind an end and is so long, where it breaks no rule; none where it breaks one
abbrev pub IsPairAfter : ℕ → ℕ → ℕ → Option OffsetPair → Type 0
IsPairAfter last far long None = first_broken (pair_conditions last (pair far long)) ≡ Some 113
IsPairAfter last far long (Some p) = (first_broken (pair_conditions last (pair far long)) ≡ None) × (span_of p ≡ span_after last (pair far long))
