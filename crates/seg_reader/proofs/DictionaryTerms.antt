-- The terms of the index of a segment, by those of its dictionary.
use Rattle.std.proofs.Common.{◌≡◌, ℕ, zero, suc, ◌<◌, ◌≤◌, Bool, true, false, cond, List, [], ◌∷◌, length, map, Option, Some, None, refl, sym, ap, subst, ◌∙◌, arith}
use Rattle.std.specs.Prelude.{◌&&◌, MatchOption, slice_get, slice_index_or, option_map}
use Rattle.std.specs.List.{find}
use Rattle.std.specs.Str.{bytes_eq}
use Rattle.std.proofs.lemmas.List.{length-map}
use Rattle.std.proofs.Math.ListN.{get_or-map}
use Rattle.lu_types.specs.Bits as bit
use Rattle.lu_types.specs.Bits.{has_bit}
use Rattle.lu_types.specs.Tables.{TableField, bits_at}
use Rattle.lu_types.specs.declared.term.TermInfo.{TermInfo}
use Rattle.lu_model.specs.Index.{IndexedEntry, IndexedTerm}
use Rattle.term_dict.specs.Terms.{DictionaryTerm}
use Rattle.term_index.specs.Seeking.{names_of, is_sought}
use Rattle.freq_skips.specs.Entries.{Posting}
use Rattle.freq_skips.specs.Terms.{TermData}
use Rattle.check_index.specs.Positions.{TermOccurrences}
use Rattle.check_index.specs.Indexed.{omitted_entry, given_entries, indexed_entries, indexed_term_of, indexed_terms}
use Rattle.check_index.specs.Opened.{no_data}
use Rattle.check_index.proofs.TurnLemmas.{one_element}
use Rattle.seg_reader.specs.Terms.{no_term, has_name}

-- ---- the entries of a term

-- where each of the postings has its occurrences, there are as many entries
length-given_entries : (ps : List Posting) (os : TermOccurrences) → length os ≡ length ps → length (given_entries ps os) ≡ length ps
length-given_entries [] os e = refl
length-given_entries (p ∷ ps) [] e = absurd (omega (arith, e))
length-given_entries (p ∷ ps) (o ∷ os) e = ap suc (length-given_entries ps os (omega (arith, e)))

pub length-indexed_entries : (bits : ℕ) (ps : List Posting) (os : TermOccurrences) → (has_bit bit.omit_tf bits ≡ false → length os ≡ length ps) → length (indexed_entries bits ps os) ≡ length ps
length-indexed_entries bits ps os kept = go (has_bit bit.omit_tf bits) refl
  where
    go : (b : Bool) → has_bit bit.omit_tf bits ≡ b → length (cond b (map omitted_entry ps) (given_entries ps os)) ≡ length ps
    go true omit = simp length-map
    go false keeps = length-given_entries ps os (kept keeps)

module _ (fields : List TableField) where
  -- ---- the terms by their numbers

  -- there are data and occurrences of each term
  abbrev pub AreAsMany : List DictionaryTerm → List TermData → List TermOccurrences → Type 0
  AreAsMany ts vs os = (length vs ≡ length ts) × (length os ≡ length ts)

  pub length-indexed_terms : (ts : List DictionaryTerm) (vs : List TermData) (os : List TermOccurrences) → AreAsMany ts vs os → length (indexed_terms fields ts vs os) ≡ length ts
  length-indexed_terms [] vs os many = refl
  length-indexed_terms (t ∷ ts) [] os many = absurd (omega (arith, many.0))
  length-indexed_terms (t ∷ ts) (v ∷ vs) [] many = absurd (omega (arith, many.1))
  length-indexed_terms (t ∷ ts) (v ∷ vs) (o ∷ os) many = ap suc (length-indexed_terms ts vs os (omega (arith, many.0), omega (arith, many.1)))

  pub indexed_terms-at : (ts : List DictionaryTerm) (vs : List TermData) (os : List TermOccurrences) (n : ℕ) (t : DictionaryTerm) → AreAsMany ts vs os → slice_get ts n ≡ Some t
      → slice_index_or (indexed_terms fields ts vs os) n no_term ≡ indexed_term_of fields t (slice_index_or vs n no_data) (slice_index_or os n [])
  indexed_terms-at [] vs os n t many e = absurd cc
  indexed_terms-at (u ∷ ts) [] os n t many e = absurd (omega (arith, many.0))
  indexed_terms-at (u ∷ ts) (v ∷ vs) [] n t many e = absurd (omega (arith, many.1))
  indexed_terms-at (u ∷ ts) (v ∷ vs) (o ∷ os) zero t many e = ap (λ (x : DictionaryTerm). indexed_term_of fields x v o) (one_element u t e)
  indexed_terms-at (u ∷ ts) (v ∷ vs) (o ∷ os) (suc n) t many e = indexed_terms-at ts vs os n t (omega (arith, many.0), omega (arith, many.1)) e

  -- ---- the term that is sought

  module _ (field text : List ℕ) where
    -- the term of the index that is found where the dictionary's is found
    abbrev pub IsSame : List DictionaryTerm → List IndexedTerm → Option TermInfo → Type 0
    IsSame ts terms found = MatchOption found (find (has_name fields field text) terms ≡ None)
        (λ info. (n : ℕ) × (option_map (λ (t : DictionaryTerm). t.info) (slice_get ts n) ≡ Some info) × (find (has_name fields field text) terms ≡ Some (slice_index_or terms n no_term)))

    abbrev Test : DictionaryTerm → Bool
    Test t = is_sought (names_of fields) field text t

    -- both are compared by the same name and text
    has_name-sought : (t : DictionaryTerm) (v : TermData) (o : TermOccurrences) → has_name fields field text (indexed_term_of fields t v o) ≡ Test t
    has_name-sought t v o =
        ap (λ (name : List ℕ). bytes_eq name field && bytes_eq t.text text) (sym (get_or-map (λ (f : TableField). f.name) fields t.info.field (record { name = []; bits = 0 })))

    further : (t : DictionaryTerm) (ts : List DictionaryTerm) (term : IndexedTerm) (terms : List IndexedTerm) (found : Option TermInfo) → has_name fields field text term ≡ false → IsSame ts terms found → IsSame (t ∷ ts) (term ∷ terms) found
    further t ts term terms None other h = ap (λ (b : Bool). cond b (Some term) (find (has_name fields field text) terms)) other ∙ h
    further t ts term terms (Some info) other (n, is, found) = (suc n, is, ap (λ (b : Bool). cond b (Some term) (find (has_name fields field text) terms)) other ∙ found)

    pub same_found : (ts : List DictionaryTerm) (vs : List TermData) (os : List TermOccurrences) → AreAsMany ts vs os
        → IsSame ts (indexed_terms fields ts vs os) (option_map (λ (t : DictionaryTerm). t.info) (find (is_sought (names_of fields) field text) ts))
    same_found [] vs os many = refl
    same_found (t ∷ ts) [] os many = absurd (omega (arith, many.0))
    same_found (t ∷ ts) (v ∷ vs) [] many = absurd (omega (arith, many.1))
    same_found (t ∷ ts) (v ∷ vs) (o ∷ os) many = go (same_found ts vs os (omega (arith, many.0), omega (arith, many.1))) (Test t) refl
      where
        go : IsSame ts (indexed_terms fields ts vs os) (option_map (λ (t : DictionaryTerm). t.info) (find (is_sought (names_of fields) field text) ts))
            → (b : Bool) → Test t ≡ b → IsSame (t ∷ ts) (indexed_terms fields (t ∷ ts) (v ∷ vs) (o ∷ os)) (option_map (λ (t : DictionaryTerm). t.info) (cond b (Some t) (find (is_sought (names_of fields) field text) ts)))
        go rest true is = (0, refl, ap (λ (b : Bool). cond b (Some (indexed_term_of fields t v o)) (find (has_name fields field text) (indexed_terms fields ts vs os))) (has_name-sought t v o ∙ is))
        go rest false is =
            further t ts (indexed_term_of fields t v o) (indexed_terms fields ts vs os) (option_map (λ (t : DictionaryTerm). t.info) (find (is_sought (names_of fields) field text) ts)) (has_name-sought t v o ∙ is) rest
