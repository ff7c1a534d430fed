-- Contents of which an index cannot tell one from the other.
use Rattle.std.proofs.Common.{◌≡◌, ℕ, suc, ◌+◌, true, false, cond, List, [], ◌∷◌, Option, Some, None, length, map, refl, sym, ap, ◌∙◌, inl, inr}
use Rattle.std.specs.Prelude.{filter, filter_map, flat_map, unwrap_or, option_map}
use Rattle.std.specs.List.{AllZip, enumerate_from, cons_option}
use Rattle.std.specs.declared.cmp.Ordering.{Ordering}
use Rattle.std.specs.declared.cmp.Ordering.TheVariants.{Less, Equal, Greater}
use Rattle.std.specs.Ordering.{ordering_then}
use Rattle.std.specs.Cmp.{IsTotalOrder}
use Rattle.std.proofs.lemmas.Cmp.{then_total, on_total}
use Rattle.lu_prims.specs.Order.{text_cmp}
use Rattle.lu_prims.proofs.Units.{level_same, text_order}
use Rattle.lu_types.specs.Tables.{TableField}
use Rattle.lu_model.specs.Index.{Term, term_cmp, in_order, KeptOccurrences, IndexedEntry}
use Rattle.lu_model.specs.Contents.{Content, missing_norm, bits_of, has_norms, index_of, indexed_term, kept}
use Rattle.lu_model.proofs.Words.{IsIn, HaveSame, IsTerm, value_in, vector_in, has_vectors, entry_of, norms_in}
use Rattle.lu_model.proofs.Ordered.{same-in_order}
use Rattle.lu_model.proofs.Among.{in_left, in_right, in_either}

pub term_order : IsTotalOrder term_cmp
term_order = then_total (on_total (λ (t : Term). t.field) text_order) (on_total (λ (t : Term). t.text) text_order)

level_parts : (p q : Ordering) → ordering_then p q ≡ Equal → (p ≡ Equal) × (q ≡ Equal)
level_parts Less q e = cc
level_parts Equal q e = (refl, e)
level_parts Greater q e = cc

-- terms that tie are the same
pub terms_level : (a b : Term) → IsTerm a → IsTerm b → term_cmp a b ≡ Equal → a ≡ b
terms_level a b ha hb e =
    let parts = level_parts (text_cmp a.field b.field) (text_cmp a.text b.text) e in
    let field : a.field ≡ b.field = level_same a.field b.field ha.field hb.field parts.0 in
    let text : a.text ≡ b.text = level_same a.text b.text ha.text hb.text parts.1 in
    λ i. record { field = field i; text = text i }

-- under the table an index holds the same of both
pub record AreAlike (table : List TableField) (a b : Content) : Type 0 where
  pub stored : a.stored ≡ b.stored
  pub terms : HaveSame a.terms b.terms
  pub occurrences : (term : Term) → option_map (kept (bits_of term.field table)) (a.occurrences term) ≡ option_map (kept (bits_of term.field table)) (b.occurrences term)
  pub norm : (field : TableField) → IsIn field table → has_norms field.bits ≡ true → unwrap_or (a.norm field.name) missing_norm ≡ unwrap_or (b.norm field.name) missing_norm
  pub vectors : a.vectors ≡ b.vectors

module _ (table : List TableField) where
  abbrev Alike : List Content → List Content → Type 0
  Alike cs ds = AllZip (AreAlike table) cs ds

  same_size : (cs ds : List Content) → Alike cs ds → length cs ≡ length ds
  same_size [] [] h = refl
  same_size [] (b ∷ ds) h = absurd h
  same_size (a ∷ cs) [] h = absurd h
  same_size (a ∷ cs) (b ∷ ds) h = ap suc (same_size cs ds h.1)

  same_map : {Y : Type 0} (f : Content → Y) → ((a b : Content) → AreAlike table a b → f a ≡ f b) → (cs ds : List Content) → Alike cs ds → map f cs ≡ map f ds
  same_map f each [] [] h = refl
  same_map f each [] (b ∷ ds) h = absurd h
  same_map f each (a ∷ cs) [] h = absurd h
  same_map f each (a ∷ cs) (b ∷ ds) h = λ i. each a b h.0 i ∷ same_map f each cs ds h.1 i

  terms_to : (cs ds : List Content) → Alike cs ds → (t : Term) → IsIn t (flat_map (λ c. c.terms) cs) → IsIn t (flat_map (λ c. c.terms) ds)
  terms_to [] [] h t k = k
  terms_to [] (b ∷ ds) h t k = absurd h
  terms_to (a ∷ cs) [] h t k = absurd h
  terms_to (a ∷ cs) (b ∷ ds) h t k = elim (in_either t a.terms (flat_map (λ c. c.terms) cs) k) [
    | inl p ↦ in_left t b.terms (flat_map (λ c. c.terms) ds) (h.0.terms.to t p)
    | inr p ↦ in_right t b.terms (flat_map (λ c. c.terms) ds) (terms_to cs ds h.1 t p)
  ]

  terms_from : (cs ds : List Content) → Alike cs ds → (t : Term) → IsIn t (flat_map (λ c. c.terms) ds) → IsIn t (flat_map (λ c. c.terms) cs)
  terms_from [] [] h t k = k
  terms_from [] (b ∷ ds) h t k = absurd h
  terms_from (a ∷ cs) [] h t k = absurd h
  terms_from (a ∷ cs) (b ∷ ds) h t k = elim (in_either t b.terms (flat_map (λ c. c.terms) ds) k) [
    | inl p ↦ in_left t a.terms (flat_map (λ c. c.terms) cs) (h.0.terms.from t p)
    | inr p ↦ in_right t a.terms (flat_map (λ c. c.terms) cs) (terms_from cs ds h.1 t p)
  ]

  -- an entry by what is kept
  abbrev entry_by : ℕ → KeptOccurrences → IndexedEntry
  entry_by n occurrences = record { document = n; occurrences = occurrences }

  entry_kept : (term : Term) (n : ℕ) (a : Content) → entry_of table term (n, a) ≡ option_map (entry_by n) (option_map (kept (bits_of term.field table)) (a.occurrences term))
  entry_kept term n a = twice (a.occurrences term)
    where
      twice : (o : Option KeptOccurrences) → option_map (λ o. entry_by n (kept (bits_of term.field table) o)) o ≡ option_map (entry_by n) (option_map (kept (bits_of term.field table)) o)
      twice None = refl
      twice (Some o) = refl

  same_entries : (term : Term) (n : ℕ) (cs ds : List Content) → Alike cs ds → filter_map (entry_of table term) (enumerate_from n cs) ≡ filter_map (entry_of table term) (enumerate_from n ds)
  same_entries term n [] [] h = refl
  same_entries term n [] (b ∷ ds) h = absurd h
  same_entries term n (a ∷ cs) [] h = absurd h
  same_entries term n (a ∷ cs) (b ∷ ds) h =
      let one : entry_of table term (n, a) ≡ entry_of table term (n, b) =
      entry_kept term n a ∙ ap (option_map (entry_by n)) (h.0.occurrences term) ∙ sym (entry_kept term n b) in
      λ i. cons_option (one i) (same_entries term (n + 1) cs ds h.1 i)

  same_terms : (cs ds : List Content) → Alike cs ds → (terms : List Term) → map (indexed_term table cs) terms ≡ map (indexed_term table ds) terms
  same_terms cs ds h [] = refl
  same_terms cs ds h (t ∷ terms) =
      let entries = same_entries t 0 cs ds h in
      λ i. record (indexed_term table cs t) { entries = entries i } ∷ same_terms cs ds h terms i

  same_norms : (cs ds : List Content) → Alike cs ds → (fields : List TableField) → ((f : TableField) → IsIn f fields → IsIn f table) → map (norms_in cs) fields ≡ map (norms_in ds) fields
  same_norms cs ds h [] inside = refl
  same_norms cs ds h (field ∷ fields) inside =
      let one : norms_in cs field ≡ norms_in ds field =
      elim (has_norms field.bits) as (λ b. has_norms field.bits ≡ b → cond b (Some (map (λ c. unwrap_or (c.norm field.name) missing_norm) cs)) None ≡ cond b (Some (map (λ c. unwrap_or (c.norm field.name) missing_norm) ds)) None) [
        | true ↦ λ t. ap Some (same_map (λ c. unwrap_or (c.norm field.name) missing_norm) (λ a b k. k.norm field (inside field (inl refl)) t) cs ds h)
        | false ↦ λ t. refl
      ] refl in
      λ i. one i ∷ same_norms cs ds h fields (λ f k. inside f (inr k)) i

  -- contents that are alike have the same index
  pub same_index : (cs ds : List Content) → Alike cs ds → ((t : Term) → IsIn t (flat_map (λ c. c.terms) ds) → IsTerm t) → index_of table cs ≡ index_of table ds
  unfolding index_of
  same_index cs ds h texts =
      let size : length cs ≡ length ds = same_size cs ds h in
      let stored = same_map (λ c. map (value_in table) c.stored) (λ a b k. ap (map (value_in table)) k.stored) cs ds h in
      let keys = same-in_order term_cmp term_order (flat_map (λ c. c.terms) cs) (flat_map (λ c. c.terms) ds) (λ x y p q. terms_level x y (texts x p) (texts y q)) (record { to = terms_to cs ds h; from = terms_from cs ds h }) in
      let terms = ap (map (indexed_term table cs)) keys ∙ same_terms cs ds h (in_order term_cmp (flat_map (λ c. c.terms) ds)) in
      let norms = same_norms cs ds h table (λ f k. k) in
      let vectors = same_map (λ c. map (vector_in table) (filter (has_vectors table) c.vectors)) (λ a b k. ap (λ vs. map (vector_in table) (filter (has_vectors table) vs)) k.vectors) cs ds h in
      λ i. record { size = size i; fields = table; stored = stored i; terms = terms i; norms = norms i; vectors = vectors i; deleted = [] }
