-- What a merge has of its sources: documents in turn, and the terms that have an entry.
use Rattle.std.proofs.Common.{◌≡◌, ◌+◌, ◌<◌, Bool, true, false, not, cond, List, [], ◌∷◌, ◌++◌, Some, None, length, map, refl, sym, ap, ◌∙◌, subst, arith, length-append}
use Rattle.std.specs.Prelude.{filter, flat_map, is_some, unwrap_or}
use Rattle.std.specs.declared.cmp.Ordering.TheVariants.{Equal}
use Rattle.std.proofs.lemmas.List.{length-map, map-append}
use Rattle.std.proofs.lemmas.List.Kept.{IsStrictlySortedBy-filter}
use mathlib.Core.Bool.{true≢false}
use Rattle.lu_types.specs.Joins.{is_empty}
use Rattle.lu_types.specs.Tables.{TableField}
use Rattle.lu_model.specs.Index.{Index, IndexedTerm, Term, in_order, term_cmp}
use Rattle.lu_model.specs.Contents.{Content, missing_norm, content_at, has_norms, joined_table, live, live_contents, merge_of, merged_term, term_of}
use Rattle.lu_model.specs.Valid.{IsValid}
use Rattle.lu_model.proofs.Words.{Each, IsIn, IsTerm, stands_at, norms_in}
use Rattle.lu_model.proofs.Among.{from_filter, from_flat_map, from_map, in_filter, in_flat_map, in_map}
use Rattle.lu_model.proofs.Alike.{term_order, terms_level}
use Rattle.lu_model.proofs.MergedParts.{knows_term, of_source, source_terms_are_texts}
use Rattle.lu_model.proofs.MergedTerms.{merged_in, merged_terms, same_entries}
use Rattle.lu_model.proofs.ValidTerms.{some_entry}
use Rattle.lu_model.proofs.Ordered.{in_in_order, only_in_order, rises-in_order}

-- ---- documents in turn

map-map : {A B C : Type 0} (f : B → C) (g : A → B) (xs : List A) → map f (map g xs) ≡ map (λ x. f (g x)) xs
map-map f g [] = refl
map-map f g (x ∷ xs) = λ i. f (g x) ∷ map-map f g xs i

map-same : {A B : Type 0} (f g : A → B) → ((x : A) → f x ≡ g x) → (xs : List A) → map f xs ≡ map g xs
map-same f g e [] = refl
map-same f g e (x ∷ xs) = λ i. e x i ∷ map-same f g e xs i

-- what is made of the contents of live documents, by their indexes and numbers
pub over_live : {X : Type 0} (f : Content → X) (indexes : List Index)
    → map f (flat_map live_contents indexes) ≡ flat_map (λ index. map (λ document. f (content_at index document)) (live index)) indexes
over_live f [] = refl
over_live f (index ∷ indexes) =
    map-append f (live_contents index) (flat_map live_contents indexes) ∙ (λ i. map-map f (content_at index) (live index) i ++ over_live f indexes i)

pub size-merge : (indexes : List Index) → length (flat_map live_contents indexes) ≡ length (flat_map live indexes)
size-merge [] = refl
size-merge (index ∷ indexes) =
    length-append (live_contents index) (flat_map live_contents indexes)
    ∙ (λ i. length-map (live index) (content_at index) i + size-merge indexes i) ∙ sym (length-append (live index) (flat_map live indexes))

pub norms-merge : (indexes : List Index) (table : List TableField) → map (norms_in (flat_map live_contents indexes)) table ≡ map (λ field. cond (has_norms field.bits)
    (Some (flat_map (λ index. map (λ document. unwrap_or ((content_at index document).norm field.name) missing_norm) (live index)) indexes)) None) table
norms-merge indexes table = map-same _ _ (λ field. ap (λ norms. cond (has_norms field.bits) (Some norms) None) (over_live (λ content. unwrap_or (content.norm field.name) missing_norm) indexes)) table

-- ---- terms that have an entry

some-from_test : {X : Type 0} (xs : List X) → not (is_empty xs) ≡ true → 0 < length xs
some-from_test [] e = absurd (true≢false (sym e))
some-from_test (x ∷ xs) e = omega arith

test-from_some : {X : Type 0} (xs : List X) → 0 < length xs → not (is_empty xs) ≡ true
test-from_some [] h = absurd (omega arith)
test-from_some (x ∷ xs) h = refl

filter-map : {X Y : Type 0} (p : Y → Bool) (f : X → Y) (xs : List X) → filter p (map f xs) ≡ map f (filter (λ x. p (f x)) xs)
filter-map p f [] = refl
filter-map p f (x ∷ xs) =
    elim (p (f x)) as (λ b. cond b (f x ∷ filter p (map f xs)) (filter p (map f xs)) ≡ map f (cond b (x ∷ filter (λ x. p (f x)) xs) (filter (λ x. p (f x)) xs))) [
      | true ↦ ap (λ w. f x ∷ w) (filter-map p f xs)
      | false ↦ filter-map p f xs
    ]

-- the term has an entry
abbrev pub has_entry : IndexedTerm → Bool
has_entry term = not (is_empty term.entries)

-- the names of the terms of all indexes
abbrev pub all_names : List Index → List Term
all_names indexes = flat_map (λ index. map (term_of index.fields) index.terms) indexes

module _ (indexes : List Index) (ok : Each IsValid indexes) where
  abbrev table : List TableField
  table = joined_table indexes

  abbrev contents : List Content
  contents = flat_map live_contents indexes

  abbrev live_terms : List Term
  live_terms = flat_map (λ content. content.terms) contents

  name_is_text : (t : Term) → IsIn t (all_names indexes) → IsTerm t
  name_is_text t h =
      let i = from_flat_map (λ (index : Index). map (term_of index.fields) index.terms) t indexes h in
      let it = from_map (term_of i.0.fields) t i.0.terms i.2 in
      subst IsTerm (sym it.2) (source_terms_are_texts indexes ok i.0 i.1 it.0 it.1)

  live_is_named : (t : Term) → IsIn t live_terms → IsIn t (all_names indexes)
  live_is_named t h =
      let c = from_flat_map (λ (content : Content). content.terms) t contents h in
      let s = of_source indexes ok c.0 c.1 in
      let from = from_map (term_of s.0.fields) t (filter (stands_at s.2.0) s.0.terms) (subst (λ (w : Content). IsIn t w.terms) s.2.2 c.2) in
      let it = from_filter (stands_at s.2.0) from.0 s.0.terms from.1 in
      in_flat_map (λ (index : Index). map (term_of index.fields) index.terms) s.0 t indexes s.1
      (subst (λ w. IsIn w (map (term_of s.0.fields) s.0.terms)) (sym from.2) (in_map (term_of s.0.fields) from.0 s.0.terms it.0))

  live_has_entry : (t : Term) → IsIn t live_terms → 0 < length (merged_term indexes t).entries
  live_has_entry t h =
      let c = from_flat_map (λ (content : Content). content.terms) t contents h in
      let s = of_source indexes ok c.0 c.1 in
      let inside : IsIn t (content_at s.0 s.2.0).terms = subst (λ (w : Content). IsIn t w.terms) s.2.2 c.2 in
      let known : is_some (c.0.occurrences t) ≡ true = ap (λ (w : Content). is_some (w.occurrences t)) s.2.2 ∙ knows_term indexes ok s.0 s.1 s.2.0 t inside in
      subst (λ es. 0 < length es) (same_entries indexes ok t) (some_entry table t 0 c.0 contents c.1 known)

  level : (x y : Term) → IsIn x (all_names indexes) → IsIn y (all_names indexes) → term_cmp x y ≡ Equal → x ≡ y
  level x y p q = terms_level x y (name_is_text x p) (name_is_text y q)

  names-left : filter (λ t. has_entry (merged_term indexes t)) (in_order term_cmp (all_names indexes)) ≡ in_order term_cmp live_terms
  names-left =
      let passes = λ (t : Term). has_entry (merged_term indexes t) in
      let names = in_order term_cmp (all_names indexes) in
      only_in_order term_cmp term_order live_terms (filter passes names)
      (λ x y p q. level x y (live_is_named x p) (live_is_named y q))
      (IsStrictlySortedBy-filter term_cmp passes names (rises-in_order term_cmp term_order (all_names indexes)))
      (record {
        to = λ t h. merged_in indexes ok t (some-from_test (merged_term indexes t).entries (from_filter passes t names h).1);
        from = λ t h. in_filter passes t names (in_in_order term_cmp term_order t (all_names indexes) level (live_is_named t h)) (test-from_some (merged_term indexes t).entries (live_has_entry t h));
      })

  -- the terms of a merge are the names in order that have an entry
  pub terms-merge : (merge_of indexes).terms ≡ filter has_entry (map (merged_term indexes) (in_order term_cmp (all_names indexes)))
  terms-merge =
      merged_terms indexes ok ∙ ap (map (merged_term indexes)) (sym names-left)
      ∙ sym (filter-map has_entry (merged_term indexes) (in_order term_cmp (all_names indexes)))
