-- What a merge of valid indexes has of its sources: stored values and terms.
use Rattle.std.proofs.Common.{◌≡◌, ℕ, ◌+◌, ◌<◌, ◌≤◌, true, not, List, [], Option, Some, None, length, map, get_or, refl, sym, ap, ◌∙◌, subst, arith, eqb}
use Rattle.std.specs.Prelude.{filter, flat_map, is_some, All}
use Rattle.std.specs.List.{find, range_with_len}
use Rattle.std.proofs.lemmas.List.{length-map}
use Rattle.lu_types.specs.Tables.{TableField}
use Rattle.lu_types.specs.Bits as bit
use Rattle.lu_types.specs.Joins.{join_all}
use Rattle.lu_model.specs.Index.{Term, term_cmp, in_order, KeptOccurrences, IndexedEntry, IndexedTerm, Index}
use Rattle.lu_model.specs.Contents.{Content, bits_of, content_at, field_at, indexed_term, is_deleted, kept, live, live_contents, name_of, occurrences_at, term_of}
use Rattle.lu_model.specs.Valid.{IsSmall, IsKept, IsIndexedTerm, IsValid}
use Rattle.lu_model.proofs.Words.{IsIn, Each, same_term, no_field, value_in, stands_at, entries_if_any, IsValue, IsTerm, stored_by_name, IsText}
use Rattle.lu_model.proofs.Among.{from_flat_map, from_map, in_map, from_filter}
use Rattle.lu_model.proofs.Ordered.{from_in_order}
use Rattle.lu_model.proofs.Bits.{Says}
use Rattle.lu_model.proofs.Tables.{Has, Has-joins, Says-Has, name_at-Has, find_in}
use Rattle.lu_model.proofs.Alike.{term_order}
use Rattle.lu_model.proofs.Held.{same_term-true}
use Rattle.lu_model.proofs.Entries.{HasName, any-found}
use Rattle.lu_model.proofs.Each.{each_in, each_at, each_map, all_at, all-from_each}
use Rattle.lu_model.proofs.ValidTerms.{entries_within, entries_rise, some_entry}
use Rattle.lu_model.proofs.ValidIndex.{number-lt}
use Rattle.lu_model.proofs.Found.{bit_within, found_entry, from_range, get_in, kept_above, one_found}

module _ (indexes : List Index) (ok : Each IsValid indexes) where
  abbrev pub tables : List (List TableField)
  tables = map (λ (index : Index). index.fields) indexes

  abbrev pub table : List TableField
  table = join_all tables

  abbrev pub contents : List Content
  contents = flat_map live_contents indexes

  abbrev pub keys : List Term
  keys = in_order term_cmp (flat_map (λ content. content.terms) contents)

  pub valid : (index : Index) → IsIn index indexes → IsValid index
  valid index h = each_at IsValid index indexes ok h

  pub has : (index : Index) → IsIn index indexes → (f : TableField) → IsIn f index.fields → Has table f
  has index h f k = Has-joins [] tables index.fields f (in_map (λ (index : Index). index.fields) index indexes h) k

  pub has_at : (index : Index) → IsIn index indexes → (n : ℕ) → n < length index.fields → Has table (field_at n index.fields)
  has_at index h n l = has index h (field_at n index.fields) (get_in index.fields n no_field l)

  -- a document of the merge is one of a source
  pub of_source : (c : Content) → IsIn c contents → (index : Index) × IsIn index indexes × ((n : ℕ) × (n < index.size) × (c ≡ content_at index n))
  of_source c h =
      let i = from_flat_map live_contents c indexes h in
      let n = from_map (content_at i.0) c (live i.0) i.2 in
      let k = from_filter (λ document. not (is_deleted i.0.deleted document)) n.0 (range_with_len 0 i.0.size) n.1 in
      let low : n.0 < 0 + i.0.size = from_range n.0 0 i.0.size k.0 in
      (i.0, i.1, (n.0, omega arith, n.2))

  pub each_content : (P : Content → Type 0) → ((index : Index) → IsIn index indexes → (n : ℕ) → n < index.size → P (content_at index n)) → Each P contents
  each_content P h = each_in P contents (λ c k. let s = of_source c k in subst P (sym s.2.2) (h s.0 s.1 s.2.0 s.2.1))

  pub stored_is : (index : Index) → IsIn index indexes → (n : ℕ) → n < index.size → IsSmall (length (map (value_in table) (content_at index n).stored)) × Each (IsValue (length table)) (map (value_in table) (content_at index n).stored)
  stored_is index h n l =
      let right = valid index h in
      let values = get_or index.stored n [] in
      let within : n < length index.stored = omega (arith, right.stored, l) in
      let few = all_at (λ values. IsSmall (length values)) values index.stored right.few_values (get_in index.stored n [] within) in
      let each = all_at (All (IsValue (length index.fields))) values index.stored right.values (get_in index.stored n [] within) in
      let a = length-map values (stored_by_name index.fields) in
      let b = length-map (map (stored_by_name index.fields) values) (value_in table) in (
        omega (arith, few, a, b),
        each_map (IsValue (length table)) (value_in table) (map (stored_by_name index.fields) values) (each_map (λ v. IsValue (length table) (value_in table v)) (stored_by_name index.fields) values (each_in (λ v. IsValue (length table) (value_in table (stored_by_name index.fields v))) values (λ v k.
            let field = all_at (IsValue (length index.fields)) v values each k in
            let there = has_at index h v.field field.0 in
            (number-lt (name_of index.fields v.field) table there.field there.found, field.1)))),
      )

  -- the term of the source that a term of the merge is
  pub record From (t : Term) : Type 0 where
    index : Index
    inside : IsIn index indexes
    n : ℕ
    low : n < index.size
    it : IndexedTerm
    in_terms : IsIn it index.terms
    stands : stands_at n it ≡ true
    is : t ≡ term_of index.fields it
    content : IsIn (content_at index n) contents

  pub of_term : (t : Term) → IsIn t keys → From t
  of_term t h =
      let flat = from_in_order term_cmp term_order t (flat_map (λ content. content.terms) contents) h in
      let c = from_flat_map (λ (content : Content). content.terms) t contents flat in
      let s = of_source c.0 c.1 in
      let inside : IsIn t (content_at s.0 s.2.0).terms = subst (λ (w : Content). IsIn t w.terms) s.2.2 c.2 in
      let it = from_map (term_of s.0.fields) t (filter (stands_at s.2.0) s.0.terms) inside in
      let stands = from_filter (stands_at s.2.0) it.0 s.0.terms it.1 in
      record { index = s.0; inside = s.1; n = s.2.0; low = s.2.1; it = it.0; in_terms = stands.0; stands = stands.1; is = it.2; content = subst (λ w. IsIn w contents) s.2.2 c.1 }

  term_right : (index : Index) → IsIn index indexes → (it : IndexedTerm) → IsIn it index.terms → IsIndexedTerm index.size (field_at it.field index.fields).bits it
  term_right index h it k = all_at (λ (term : IndexedTerm). IsIndexedTerm index.size (field_at term.field index.fields).bits term) it index.terms (valid index h).terms k

  term_has : (index : Index) → IsIn index indexes → (it : IndexedTerm) → IsIn it index.terms → Has table (field_at it.field index.fields)
  term_has index h it k = has_at index h it.field (bit_within bit.indexed index.fields it.field refl (term_right index h it k).indexed)

  term_says : (index : Index) → IsIn index indexes → (it : IndexedTerm) → IsIn it index.terms → Says (bits_of (name_of index.fields it.field) table) (field_at it.field index.fields).bits
  term_says index h it k = Says-Has table (field_at it.field index.fields) (term_has index h it k) (term_right index h it k).indexed

  pub has_name : (t : Term) → IsIn t keys → HasName table t
  has_name t h =
      let s = of_term t h in
      subst (HasName table) (sym s.is) (name_at-Has table (field_at s.it.field s.index.fields) (term_has s.index s.inside s.it s.in_terms))

  pub known : (t : Term) (index : Index) → IsIn index indexes → (n : ℕ) (o : KeptOccurrences) → (found : Option IndexedTerm) → find (λ u. same_term t (term_of index.fields u)) index.terms ≡ found → occurrences_at n (entries_if_any found) ≡ Some o → IsKept (bits_of t.field table) (kept (bits_of t.field table) o)
  known t index h n o None q e = cc
  known t index h n o (Some it) q e =
      let r = find_in (λ (u : IndexedTerm). same_term t (term_of index.fields u)) it index.terms q in
      let is : t ≡ term_of index.fields it = same_term-true t (term_of index.fields it) r.1 in
      let right = term_right index h it r.0 in
      let entry = found_entry n it.entries o e in
      let one = all_at (λ (entry : IndexedEntry). (entry.document < index.size) × IsKept (field_at it.field index.fields).bits entry.occurrences) entry.0 it.entries right.entries entry.1 in
      let says = subst (λ (w : Term). Says (bits_of w.field table) (field_at it.field index.fields).bits) (sym is) (term_says index h it r.0) in
      kept_above (field_at it.field index.fields).bits (bits_of t.field table) o says (subst (IsKept (field_at it.field index.fields).bits) entry.2 one.1)

  pub term_kept : (t : Term) (c : Content) (o : KeptOccurrences) → IsIn c contents → c.occurrences t ≡ Some o → IsKept (bits_of t.field table) (kept (bits_of t.field table) o)
  term_kept t c o h e =
      let s = of_source c h in
      known t s.0 s.1 s.2.0 o (find (λ u. same_term t (term_of s.0.fields u)) s.0.terms) refl (ap (λ (w : Content). w.occurrences t) (sym s.2.2) ∙ e)

  pub term_is : (t : Term) → IsIn t keys → IsIndexedTerm (length contents) (bits_of t.field table) (indexed_term table contents t)
  term_is t h =
      let s = of_term t h in
      let right = term_right s.index s.inside s.it s.in_terms in
      let says = subst (λ (w : Term). Says (bits_of w.field table) (field_at s.it.field s.index.fields).bits) (sym s.is) (term_says s.index s.inside s.it s.in_terms) in
      let found = one_found s.index.fields s.index.terms s.it t (valid s.index s.inside).rise s.in_terms s.is in
      let there : is_some ((content_at s.index s.n).occurrences t) ≡ true =
      ap (λ f. is_some (occurrences_at s.n (entries_if_any f))) found ∙ sym (any-found (λ (entry : IndexedEntry). eqb s.n entry.document) (λ (entry : IndexedEntry). entry.occurrences) s.it.entries) ∙ s.stands in
      let entries = (indexed_term table contents t).entries in
      let room : 0 + length contents ≤ length contents = omega arith in
      let within = entries_within table t (length contents) 0 contents room (λ c o k e. term_kept t c o k e) in
      record {
        indexed = says.indexed;
        text = subst (λ (w : Term). IsText w.text) (sym s.is) right.text;
        some = some_entry table t 0 (content_at s.index s.n) contents s.content there;
        rise = entries_rise table t 0 contents;
        entries = all-from_each (λ (entry : IndexedEntry). (entry.document < length contents) × IsKept (bits_of t.field table) entry.occurrences) entries (each_in (λ (entry : IndexedEntry). (entry.document < length contents) × IsKept (bits_of t.field table) entry.occurrences) entries (λ entry k.
            let one = each_at (λ (entry : IndexedEntry). (0 ≤ entry.document) × (entry.document < length contents) × IsKept (bits_of t.field table) entry.occurrences) entry entries within k in
            (one.1, one.2)));
      }

  -- names and texts of the terms of a source are texts
  pub source_terms_are_texts : (index : Index) → IsIn index indexes → (it : IndexedTerm) → IsIn it index.terms → IsTerm (term_of index.fields it)
  source_terms_are_texts index h it k =
      let right = term_right index h it k in
      let low = bit_within bit.indexed index.fields it.field refl right.indexed in
      let name = all_at (λ (field : TableField). IsText field.name) (field_at it.field index.fields) index.fields (valid index h).names (get_in index.fields it.field no_field low) in
      record { field = name.0; text = right.text.0 }

  pub terms_are_texts : (t : Term) → IsIn t (flat_map (λ content. content.terms) contents) → IsTerm t
  terms_are_texts t h =
      let c = from_flat_map (λ (content : Content). content.terms) t contents h in
      let s = of_source c.0 c.1 in
      let it = from_map (term_of s.0.fields) t (filter (stands_at s.2.0) s.0.terms) (subst (λ (w : Content). IsIn t w.terms) s.2.2 c.2) in
      subst IsTerm (sym it.2) (source_terms_are_texts s.0 s.1 it.0 (from_filter (stands_at s.2.0) it.0 s.0.terms it.1).0)

  -- something is known of each term of a document
  pub knows_term : (index : Index) → IsIn index indexes → (n : ℕ) (t : Term) → IsIn t (content_at index n).terms → is_some ((content_at index n).occurrences t) ≡ true
  knows_term index h n t k =
      let from = from_map (term_of index.fields) t (filter (stands_at n) index.terms) k in
      let it = from_filter (stands_at n) from.0 index.terms from.1 in
      let found = one_found index.fields index.terms from.0 t (valid index h).rise it.0 from.2 in
      ap (λ f. is_some (occurrences_at n (entries_if_any f))) found ∙ sym (any-found (λ (entry : IndexedEntry). eqb n entry.document) (λ (entry : IndexedEntry). entry.occurrences) from.0.entries) ∙ it.1
