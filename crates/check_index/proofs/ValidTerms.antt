-- The terms of the index rise, and are fewer than 2^31.
use Rattle.std.proofs.Common.{◌≡◌, ◌≤◌, List, [], ◌∷◌, length, map, arith}
use Rattle.std.specs.List.{AllByRecursion}
use Rattle.std.specs.List.Sorted.{IsStrictlySortedBy}
use Rattle.std.specs.declared.cmp.Ordering.TheVariants.{Less}
use Rattle.lu_types.specs.Tables.{TableField}
use Rattle.lu_model.specs.Index.{term_cmp}
use Rattle.lu_model.specs.Contents.{term_of}
use Rattle.lu_model.proofs.Words.{Each, EachPair}
use Rattle.term_dict.specs.Terms.{DictionaryTerm, dictionary_term_cmp}
use Rattle.freq_skips.specs.Terms.{TermData}
use Rattle.check_index.specs.Positions.{TermOccurrences}
use Rattle.check_index.specs.Indexed.{indexed_term_of, indexed_terms}

module _ (fields : List TableField) where
  above-all : (t : DictionaryTerm) (v : TermData) (o : TermOccurrences) (ts : List DictionaryTerm) (vs : List TermData) (os : List TermOccurrences) → Each (λ u. dictionary_term_cmp fields t u ≡ Less) ts
      → AllByRecursion (λ k. term_cmp (term_of fields (indexed_term_of fields t v o)) k ≡ Less) (map (term_of fields) (indexed_terms fields ts vs os))
  above-all t v o [] vs os h = tt
  above-all t v o (u ∷ ts) [] os h = tt
  above-all t v o (u ∷ ts) (w ∷ vs) [] h = tt
  above-all t v o (u ∷ ts) (w ∷ vs) (q ∷ os) h = (h.0, above-all t v o ts vs os h.1)

  pub terms-rise : (ts : List DictionaryTerm) (vs : List TermData) (os : List TermOccurrences) → EachPair (λ a b. dictionary_term_cmp fields a b ≡ Less) ts → IsStrictlySortedBy term_cmp (map (term_of fields) (indexed_terms fields ts vs os))
  unfolding IsStrictlySortedBy
  terms-rise [] vs os h = tt
  terms-rise (t ∷ ts) [] os h = tt
  terms-rise (t ∷ ts) (v ∷ vs) [] h = tt
  terms-rise (t ∷ ts) (v ∷ vs) (o ∷ os) h = (above-all t v o ts vs os h.0, terms-rise ts vs os h.1)

  pub terms-few : (ts : List DictionaryTerm) (vs : List TermData) (os : List TermOccurrences) → length (indexed_terms fields ts vs os) ≤ length ts
  terms-few [] vs os = omega arith
  terms-few (t ∷ ts) [] os = omega arith
  terms-few (t ∷ ts) (v ∷ vs) [] = omega arith
  terms-few (t ∷ ts) (v ∷ vs) (o ∷ os) = omega (arith, terms-few ts vs os)
