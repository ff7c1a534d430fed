-- What a reader tells of the terms of a segment: what the dictionary says of each, and which one is found.
use Rattle.std.proofs.Common.{◌≡◌, ℕ, false, List, [], length, Option, Some, None, refl, sym, ap, subst, ◌∙◌}
use Rattle.std.specs.Prelude.{MatchOption, slice_get, slice_index_or, option_map}
use Rattle.std.specs.List.{find}
use Rattle.lu_types.specs.Bits as bit
use Rattle.lu_types.specs.Bits.{has_bit}
use Rattle.lu_types.specs.Tables.{bits_at}
use Rattle.lu_types.specs.declared.term.TermInfo.{TermInfo}
use Rattle.lu_model.specs.Index.{IndexedTerm}
use Rattle.term_dict.specs.Terms.{DictionaryTerm}
use Rattle.term_index.specs.Seeking.{names_of, is_sought}
use Rattle.check_index.specs.Segments.{SegmentValue}
use Rattle.check_index.specs.Indexed.{indexed_term_of, indexed_terms}
use Rattle.check_index.specs.Opened.{IsTermOf, data_of, occurrences_of}
use Rattle.check_index.specs.Known.{AreKnown}
use Rattle.seg_reader.specs.Terms.{no_term, term_at, has_name, term_named, IsSaidOf, AreSaid}
use Rattle.seg_reader.proofs.DictionaryTerms.{AreAsMany, length-indexed_entries, length-indexed_terms, indexed_terms-at, same_found}

-- what a search answered is so of the index
abbrev pub IsFound : SegmentValue → List ℕ → List ℕ → Option TermInfo → Type 0
IsFound s field text found = MatchOption found (term_named s.index field text ≡ None)
    (λ info. (n : ℕ) × IsTermOf s n info × (term_named s.index field text ≡ Some (term_at s n)))

module _ (s : SegmentValue) (indexed : s.index.terms ≡ indexed_terms s.index.fields s.dictionary.terms s.lists s.occurrences) (known : AreKnown s) where
  many : AreAsMany s.index.fields s.dictionary.terms s.lists s.occurrences
  many = (known.lists, known.occurrences)

  -- the term with a number, by what the dictionary says and the files hold of it
  term_at-is : (n : ℕ) (said : DictionaryTerm) → slice_get s.dictionary.terms n ≡ Some said → term_at s n ≡ indexed_term_of s.index.fields said (data_of s n) (occurrences_of s n)
  term_at-is n said there =
      ap (λ (ts : List IndexedTerm). slice_index_or ts n no_term) indexed ∙ indexed_terms-at s.index.fields s.dictionary.terms s.lists s.occurrences n said many there

  said-of : (n : ℕ) (said : DictionaryTerm) → slice_get s.dictionary.terms n ≡ Some said → IsSaidOf said (term_at s n)
  said-of n said there =
      let info = said.info in
      let is : IsTermOf s n info = ap (option_map (λ (t : DictionaryTerm). t.info)) there in
      let entries = known.entries n info is in
      let count = length-indexed_entries (bits_at s.index.fields info.field) (data_of s n).postings (occurrences_of s n) (λ kept. known.kept n info is kept ∙ sym entries) in
      subst (IsSaidOf said) (sym (term_at-is n said there)) (record { field = refl; text = refl; documents = count ∙ entries })

  pub are-said : AreSaid s
  are-said = record { count = ap length indexed ∙ length-indexed_terms s.index.fields s.dictionary.terms s.lists s.occurrences many; each = said-of }

  -- the term that is found in the dictionary is the one that is found in the index
  pub term-found : (field text : List ℕ) → IsFound s field text (option_map (λ (t : DictionaryTerm). t.info) (find (is_sought (names_of s.index.fields) field text) s.dictionary.terms))
  term-found field text =
      let found = option_map (λ (t : DictionaryTerm). t.info) (find (is_sought (names_of s.index.fields) field text) s.dictionary.terms) in
      subst (λ (terms : List IndexedTerm). MatchOption found (find (has_name s.index.fields field text) terms ≡ None)
      (λ info. (n : ℕ) × IsTermOf s n info × (find (has_name s.index.fields field text) terms ≡ Some (slice_index_or terms n no_term)))) (sym indexed)
      (same_found s.index.fields field text s.dictionary.terms s.lists s.occurrences many)
