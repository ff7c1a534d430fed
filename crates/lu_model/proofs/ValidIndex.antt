-- The index of documents that can be written is valid.
use Rattle.std.proofs.Common.{◌≡◌, ℕ, suc, ◌+◌, ◌<◌, ◌≤◌, true, false, not, cond, List, [], ◌∷◌, Some, None, length, map, refl, sym, ap, ◌∙◌, subst, inl, inr, arith, lit<}
use Rattle.std.specs.Prelude.{filter, flat_map, is_some, unwrap_or, AllPairs, IfSome, All}
use Rattle.std.specs.List.{AllZip, find}
use Rattle.std.specs.List.Sorted.{IsStrictlySortedBy}
use Rattle.std.specs.Str.{bytes_eq}
use Rattle.std.proofs.lemmas.List.{length-map}
use Rattle.lu_types.specs.Tables.{TableField}
use Rattle.lu_types.specs.declared.document.Document.{Document}
use Rattle.lu_types.specs.declared.document.IndexedField.{IndexedField}
use Rattle.lu_types.specs.declared.document.Limits.{Limits}
use Rattle.lu_types.specs.declared.stored.StoredValue.{StoredValue}
use Rattle.lu_types.specs.Documents.{IsIndexedField, IsToken}
use Rattle.lu_types.specs.DocFaults.{IsSoundToken, IsSound}
use Rattle.lu_types.specs.Joins.{has_payloads, asked_bits}
use Rattle.lu_types.proofs.DocFaultLemmas.{IsSound-from_none}
use Rattle.lu_model.specs.Index.{Term, term_cmp, in_order, IndexedEntry, IndexedTerm}
use Rattle.lu_model.specs.Contents.{Content, missing_norm, bits_of, content_of, field_at, field_number, has_norms, index_of, indexed_term, term_of, under}
use Rattle.lu_model.specs.Valid.{IsSmall, IsKept, IsIndexedTerm, IsVector, AreNorms, IsValid, IsStorable}
use Rattle.lu_model.proofs.Words.{IsIn, Each, value_in, vector_in, has_vectors, norm_if_any, IsTerm, IsValue, CanBeWritten, Apart, norms_in, IsText}
use Rattle.lu_model.proofs.Among.{from_flat_map, from_map, in_map}
use Rattle.lu_model.proofs.Ordered.{rises-in_order}
use Rattle.lu_model.proofs.Bits.{Says}
use Rattle.lu_model.proofs.Tables.{named}
use Rattle.lu_model.proofs.Alike.{term_order}
use Rattle.lu_model.proofs.Held.{HasFields, HasFields-stored, HasFields-indexed, Says-indexed, stands_in, some-occurrences}
use Rattle.lu_model.proofs.Entries.{term_of-indexed}
use Rattle.lu_model.proofs.Under.{of_document, names}
use Rattle.lu_model.proofs.Merges.{covered, terms_are_texts}
use Rattle.lu_model.proofs.Each.{each_in, each_at, each_map, each-from_all, pairs-from_each, are_bytes, all-from_each}
use Rattle.lu_model.proofs.SoundTokens.{each_sound}
use Rattle.lu_model.proofs.ValidTerms.{small_bytes, entries_within, entries_rise, some_entry, sound_field, made_field, is_kept}
use Rattle.lu_model.proofs.ValidVectors.{vectors_few, vectors_are, vectors_apart}

-- the number of a field that the table has
pub number-lt : (name : List ℕ) (table : List TableField) (field : TableField) → named name table ≡ Some field → field_number name table < length table
number-lt name [] field e = cc
number-lt name (f ∷ table) field e =
    elim (bytes_eq name f.name) as (λ b. cond b (Some f) (named name table) ≡ Some field → cond (not b) (1 + field_number name table) 0 < suc (length table)) [
      | true ↦ λ e. omega arith
      | false ↦ λ e. let rest = number-lt name table field e in omega arith
    ] e

pub terms_again : (table : List TableField) (contents : List Content) (terms : List Term) → ((t : Term) → IsIn t terms → term_of table (indexed_term table contents t) ≡ t) → map (term_of table) (map (indexed_term table contents) terms) ≡ terms
terms_again table contents [] h = refl
terms_again table contents (t ∷ terms) h = λ i. h t (inl refl) i ∷ terms_again table contents terms (λ u k. h u (inr k)) i

norm_byte : (fields : List IndexedField) (name : List ℕ) → Each IsIndexedField fields → unwrap_or (norm_if_any (find (λ (field : IndexedField). bytes_eq name field.field) fields)) missing_norm < 256
norm_byte [] name h = lit< tt
norm_byte (f ∷ fields) name h =
    elim (bytes_eq name f.field) as (λ b. unwrap_or (norm_if_any (cond b (Some f) (find (λ (field : IndexedField). bytes_eq name field.field) fields))) missing_norm < 256) [
      | true ↦ elim f.norm as (λ o. IfSome o (λ norm. norm < 256) → unwrap_or o missing_norm < 256) [ None ↦ λ k. lit< tt | Some byte ↦ λ k. k ] h.0.norm
      | false ↦ norm_byte fields name h.1
    ]

module _ (table : List TableField) (docs : List Document) (limits : Limits) (ok : CanBeWritten table docs limits) where
  tokens : IsSmall limits.tokens
  tokens = let few = limits.few_tokens in omega (arith, few)

  fields : (doc : Document) → IsIn doc docs → HasFields table doc
  fields = covered table docs ok.covers

  sound : (doc : Document) → IsIn doc docs → IsSound doc limits
  sound doc h = IsSound-from_none doc limits (ok.sound doc h)

  abbrev contents : List Content
  contents = map content_of docs

  abbrev keys : List Term
  keys = in_order term_cmp (flat_map (λ content. content.terms) contents)

  texts : (t : Term) → IsIn t (flat_map (λ content. content.terms) contents) → IsTerm t
  texts t h =
      let c = from_flat_map (λ (content : Content). content.terms) t contents h in
      let d = from_map content_of c.0 docs c.1 in
      terms_are_texts d.0 (ok.documents d.0 d.1) t (subst (λ (w : Content). IsIn t w.terms) d.2 c.2)

  size_is : length contents ≡ length docs
  size_is = length-map docs content_of

  -- of each document what holds of what it holds
  each_content : (P : Content → Type 0) → ((doc : Document) → IsIn doc docs → P (content_of doc)) → Each P contents
  each_content P h = each_map P content_of docs (each_in (λ doc. P (content_of doc)) docs h)

  stored_small : (doc : Document) → IsIn doc docs → IsSmall (length (map (value_in table) doc.stored)) × Each (IsValue (length table)) (map (value_in table) doc.stored)
  stored_small doc h =
      let small = ok.short doc h in
      let few = small.stored in
      let count = length-map doc.stored (value_in table) in (
        omega (arith, few, count),
        each_map (IsValue (length table)) (value_in table) doc.stored (each_in (λ v. IsValue (length table) (value_in table v)) doc.stored (λ v k.
            let has = HasFields-stored table doc (fields doc h) v k in
            (number-lt v.field table has.field has.found, each_at (λ (v : StoredValue). IsStorable v.value) v doc.stored small.values k))),
      )

  term_is : (t : Term) → IsIn t keys → IsIndexedTerm (length contents) (bits_of t.field table) (indexed_term table contents t)
  term_is t h =
      let d = of_document table docs fields texts t h in
      let s = stands_in d.0 t d.2 in
      let says = subst (λ name. Says (bits_of name table) (asked_bits s.field.vector (is_some s.field.norm) s.field.omit_tf (has_payloads s.field))) (sym s.name) (Says-indexed table s.field (HasFields-indexed table d.0 (fields d.0 d.1) s.field s.inside)) in
      let right = sound_field table d.0 limits tokens (fields d.0 d.1) (sound d.0 d.1) (ok.documents d.0 d.1) s.field s.inside in
      let made = made_field table d.0 limits tokens (fields d.0 d.1) (sound d.0 d.1) (ok.documents d.0 d.1) s.field s.inside in
      let token = each_at IsSoundToken s.token s.field.tokens (each_sound 0 s.field.tokens right.tokens) s.in_tokens in
      let entries = (indexed_term table contents t).entries in
      let room : 0 + length contents ≤ length contents = omega arith in
      let within = entries_within table t (length contents) 0 contents room (λ c o k e.
      let d = from_map content_of c docs k in
      is_kept table d.0 limits tokens (fields d.0 d.1) (sound d.0 d.1) (ok.documents d.0 d.1) t o (ap (λ (w : Content). w.occurrences t) (sym d.2) ∙ e)) in
      record {
        indexed = says.indexed;
        text = subst IsText (sym s.text) ((each_at IsToken s.token s.field.tokens (each-from_all IsToken s.field.tokens made.tokens) s.in_tokens).text, small_bytes (length s.token.text) token.text);
        some = some_entry table t 0 (content_of d.0) contents (in_map content_of d.0 docs d.1) (some-occurrences d.0 t d.2);
        rise = entries_rise table t 0 contents;
        entries = all-from_each (λ (entry : IndexedEntry). (entry.document < length contents) × IsKept (bits_of t.field table) entry.occurrences) entries (each_in (λ (entry : IndexedEntry). (entry.document < length contents) × IsKept (bits_of t.field table) entry.occurrences) entries (λ entry k.
            let one = each_at (λ (entry : IndexedEntry). (0 ≤ entry.document) × (entry.document < length contents) × IsKept (bits_of t.field table) entry.occurrences) entry entries within k in
            (one.1, one.2)));
      }

  norms_are : (more : List TableField) → AllZip (AreNorms (length contents)) more (map (norms_in contents) more)
  norms_are [] = tt
  norms_are (f ∷ more) =
      let bytes = map (λ (content : Content). unwrap_or (content.norm f.name) missing_norm) contents in
      let one : AreNorms (length contents) f (norms_in contents f) =
      elim (has_norms f.bits) as (λ b. has_norms f.bits ≡ b → AreNorms (length contents) f (cond b (Some bytes) None)) [
        | true ↦ λ e. (
          e,
          length-map contents (λ (content : Content). unwrap_or (content.norm f.name) missing_norm),
          are_bytes bytes (each_map (λ byte. byte < 256) (λ (content : Content). unwrap_or (content.norm f.name) missing_norm) contents (each_content (λ content. unwrap_or (content.norm f.name) missing_norm < 256) (λ doc h. norm_byte doc.indexed f.name (each-from_all IsIndexedField doc.indexed (ok.documents doc h).indexed)))),
        )
        | false ↦ λ e. e
      ] refl in
      (one, norms_are more)

  -- the index of documents that can be written is valid
  pub is_valid : IsValid (under table docs)
  unfolding index_of IsStrictlySortedBy
  is_valid =
      let few = ok.few in
      let stored = λ (c : Content). map (value_in table) c.stored in
      let vectors = λ (c : Content). map (vector_in table) (filter (has_vectors table) c.vectors) in
      record {
        small = omega (arith, few, size_is);
        fields = ok.fields;
        names = all-from_each (λ (f : TableField). IsText f.name) table ok.names;
        stored = length-map contents stored;
        few_values = all-from_each (λ values. IsSmall (length values)) (map stored contents) (each_map (λ values. IsSmall (length values)) stored contents (each_content (λ c. IsSmall (length (stored c))) (λ doc h. (stored_small doc h).0)));
        values = all-from_each (All (IsValue (length table))) (map stored contents) (each_map (All (IsValue (length table))) stored contents (each_content (λ c. All (IsValue (length table)) (stored c)) (λ doc h. all-from_each (IsValue (length table)) (stored (content_of doc)) (stored_small doc h).1)));
        few_terms = ok.few_terms;
        rise = subst (IsStrictlySortedBy term_cmp) (sym (terms_again table contents keys (λ t k. term_of-indexed table contents t (names table docs fields texts t k)))) (rises-in_order term_cmp term_order (flat_map (λ content. content.terms) contents));
        terms = all-from_each (λ (term : IndexedTerm). IsIndexedTerm (length contents) (field_at term.field table).bits term) (map (indexed_term table contents) keys) (each_map (λ (term : IndexedTerm). IsIndexedTerm (length contents) (field_at term.field table).bits term) (indexed_term table contents) keys (each_in (λ t. IsIndexedTerm (length contents) (bits_of t.field table) (indexed_term table contents t)) keys term_is));
        norms = norms_are table;
        vectors = length-map contents vectors;
        few_vectors = all-from_each (λ vs. IsSmall (length vs)) (map vectors contents) (each_map (λ vs. IsSmall (length vs)) vectors contents (each_content (λ c. IsSmall (length (vectors c))) (λ doc h. vectors_few table doc limits tokens (fields doc h) (sound doc h) (ok.documents doc h) (ok.short doc h).fields)));
        apart = all-from_each (AllPairs Apart) (map vectors contents) (each_map (AllPairs Apart) vectors contents (each_content (λ c. AllPairs Apart (vectors c)) (λ doc h. pairs-from_each Apart (vectors (content_of doc)) (vectors_apart table doc limits tokens (fields doc h) (sound doc h) (ok.documents doc h)))));
        vector_fields = all-from_each (All (IsVector table)) (map vectors contents) (each_map (All (IsVector table)) vectors contents (each_content (λ c. All (IsVector table) (vectors c)) (λ doc h. all-from_each (IsVector table) (vectors (content_of doc)) (vectors_are table doc limits tokens (fields doc h) (sound doc h) (ok.documents doc h)))));
        deleted = tt;
        deleted_below = λ k d l. absurd (omega arith);
      }
