-- The terms of a merge, by sources.
use Rattle.std.proofs.Common.{◌≡◌, ℕ, ◌+◌, ◌<◌, true, List, [], ◌∷◌, Option, Some, None, length, map, refl, sym, ap, ◌∙◌, subst, inl, inr, arith, eqb}
use Rattle.std.specs.Prelude.{filter, filter_map, flat_map, is_some, option_map}
use Rattle.std.specs.List.{find, enumerate_from, cons_option}
use Rattle.std.specs.List.Sorted.{IsStrictlySortedBy}
use Rattle.std.specs.Ordering.{nat_cmp}
use mathlib.Core.Bool.{true≢false}
use Rattle.lu_types.specs.Tables.{TableField}
use Rattle.lu_model.specs.Index.{Term, term_cmp, in_order, KeptOccurrences, IndexedEntry, IndexedTerm, Index}
use Rattle.lu_model.specs.Contents.{Content, bits_of, content_at, field_at, field_number, index_of, indexed_term, joined_table, kept, live, live_contents, merge_of, merged_term, occurrences_at, term_of}
use Rattle.lu_model.specs.Valid.{IsIndexedTerm, IsKept, IsValid}
use Rattle.lu_model.proofs.Words.{IsIn, Each, same_term, entries_if_any, stands_at, entry_of}
use Rattle.lu_model.proofs.Among.{from_flat_map, from_map, in_map, in_filter, in_flat_map}
use Rattle.lu_model.proofs.Each.{each_in, each_at, all_at}
use Rattle.lu_model.proofs.Tables.{find_in}
use Rattle.lu_model.proofs.Held.{same_term-true}
use Rattle.lu_model.proofs.Entries.{any-found}
use Rattle.lu_model.proofs.Renumbered.{HasEntries, entries-merged}

-- the entries of each term of a valid index rise below its size
pub has_entries : (term : Term) (index : Index) → IsValid index → HasEntries term index
unfolding IsStrictlySortedBy
has_entries term index ok = at (find (λ t. same_term term (term_of index.fields t)) index.terms) refl
  where
    at : (found : Option IndexedTerm) → find (λ t. same_term term (term_of index.fields t)) index.terms ≡ found
        → IsStrictlySortedBy nat_cmp (map (λ (entry : IndexedEntry). entry.document) (entries_if_any found)) × Each (λ (entry : IndexedEntry). entry.document < index.size) (entries_if_any found)
    at None q = (tt, tt)
    at (Some it) q =
        let inside = (find_in (λ (t : IndexedTerm). same_term term (term_of index.fields t)) it index.terms q).0 in
        let right = all_at (λ (t : IndexedTerm). IsIndexedTerm index.size (field_at t.field index.fields).bits t) it index.terms ok.terms inside in
        (right.rise, each_in (λ (entry : IndexedEntry). entry.document < index.size) it.entries (λ e k. (all_at (λ (entry : IndexedEntry). (entry.document < index.size) × IsKept (field_at it.field index.fields).bits entry.occurrences) e it.entries right.entries k).0))

-- the entries of a term in a merge of valid indexes are the renumbered entries of the sources
pub same_entries : (indexes : List Index) → Each IsValid indexes → (t : Term) → (indexed_term (joined_table indexes) (flat_map live_contents indexes) t).entries ≡ (merged_term indexes t).entries
same_entries indexes ok t = entries-merged (joined_table indexes) t 0 indexes (each_in (HasEntries t) indexes (λ index h. has_entries t index (each_at IsValid index indexes ok h)))

-- the terms of a merge of valid indexes are those of its live documents, each with the renumbered entries of the sources
pub merged_terms : (indexes : List Index) → Each IsValid indexes → (merge_of indexes).terms ≡ map (merged_term indexes) (in_order term_cmp (flat_map (λ content. content.terms) (flat_map live_contents indexes)))
unfolding index_of
merged_terms indexes ok = each (in_order term_cmp (flat_map (λ content. content.terms) (flat_map live_contents indexes)))
  where
    each : (terms : List Term) → map (indexed_term (joined_table indexes) (flat_map live_contents indexes)) terms ≡ map (merged_term indexes) terms
    each [] = refl
    each (t ∷ terms) =
        let entries = same_entries indexes ok t in
        λ i. record { field = field_number t.field (joined_table indexes); text = t.text; entries = entries i } ∷ each terms i

is_some-known : {X : Type 0} (o : Option X) → is_some o ≡ true → (x : X) × (o ≡ Some x)
is_some-known None e = absurd (true≢false (sym e))
is_some-known (Some x) e = (x, refl)

-- a document in which something is known of a term has the term
pub knows : (index : Index) (n : ℕ) (t : Term) → is_some ((content_at index n).occurrences t) ≡ true → IsIn t (content_at index n).terms
knows index n t e = at (find (λ u. same_term t (term_of index.fields u)) index.terms) refl e
  where
    at : (found : Option IndexedTerm) → find (λ u. same_term t (term_of index.fields u)) index.terms ≡ found → is_some (occurrences_at n (entries_if_any found)) ≡ true → IsIn t (content_at index n).terms
    at None q e = absurd (true≢false (sym e))
    at (Some it) q e =
        let r = find_in (λ (u : IndexedTerm). same_term t (term_of index.fields u)) it index.terms q in
        let is : t ≡ term_of index.fields it = same_term-true t (term_of index.fields it) r.1 in
        let stands : stands_at n it ≡ true = any-found (λ (entry : IndexedEntry). eqb n entry.document) (λ (entry : IndexedEntry). entry.occurrences) it.entries ∙ e in
        subst (λ w. IsIn w (content_at index n).terms) (sym is) (in_map (term_of index.fields) it (filter (stands_at n) index.terms) (in_filter (stands_at n) it index.terms r.0 stands))

pub some_source : (table : List TableField) (t : Term) (m : ℕ) (contents : List Content) → 0 < length (filter_map (entry_of table t) (enumerate_from m contents)) → (c : Content) × IsIn c contents × (is_some (c.occurrences t) ≡ true)
some_source table t m [] h = absurd (omega arith)
some_source table t m (c ∷ contents) h =
    elim (c.occurrences t) as (λ o. c.occurrences t ≡ o → 0 < length (cons_option (option_map (λ (occurrences : KeptOccurrences). let e : IndexedEntry = record { document = m; occurrences = kept (bits_of t.field table) occurrences } in e) o) (filter_map (entry_of table t) (enumerate_from (m + 1) contents))) → (d : Content) × IsIn d (c ∷ contents) × (is_some (d.occurrences t) ≡ true)) [
      | None ↦ λ q h. let r = some_source table t (m + 1) contents h in (r.0, inr r.1, r.2)
      | Some o ↦ λ q h. (c, inl refl, ap is_some q)
    ] refl h

-- a term that has an entry in the merge stands in a live document
pub merged_in : (indexes : List Index) → Each IsValid indexes → (t : Term) → 0 < length (merged_term indexes t).entries → IsIn t (flat_map (λ content. content.terms) (flat_map live_contents indexes))
merged_in indexes ok t h =
    let contents = flat_map live_contents indexes in
    let c = some_source (joined_table indexes) t 0 contents (subst (λ es. 0 < length es) (sym (same_entries indexes ok t)) h) in
    let i = from_flat_map live_contents c.0 indexes c.1 in
    let n = from_map (content_at i.0) c.0 (live i.0) i.2 in
    in_flat_map (λ (content : Content). content.terms) c.0 t contents c.1
    (subst (λ (w : Content). IsIn t w.terms) (sym n.2) (knows i.0 n.0 t (ap (λ (w : Content). is_some (w.occurrences t)) (sym n.2) ∙ c.2)))
