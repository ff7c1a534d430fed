-- The terms that whole indexes make are those of their merge.
use Rattle.std.proofs.Common.{◌≡◌, ℕ, suc, ◌+◌, ◌<◌, ◌≤◌, not, true, false, cond, List, [], ◌∷◌, ◌++◌, length, map, get_or, Some, None, refl, sym, ap, ◌∙◌, subst, inl, inr, arith}
use Rattle.std.specs.Prelude.{filter, filter_map, flat_map, option_map, unwrap_or, bytes_eq}
use Rattle.std.specs.Global.{Global}
use Rattle.std.specs.declared.vec.Vec.{Vec}
use Rattle.std.specs.List.{find, enumerate_from, cons_option}
use Rattle.std.specs.List.Sorted.{IsStrictlySortedBy}
use Rattle.std.proofs.lemmas.List.{get_or-map}
use Rattle.lu_types.specs.Bits as bit
use Rattle.lu_types.specs.Tables.{TableField}
use Rattle.lu_model.specs.Index.{Term, term_cmp, in_order, KeptOccurrences, IndexedEntry, IndexedTerm, Index}
use Rattle.lu_model.specs.Contents.{Content, bits_of, entries_in, field_at, field_number, index_of, indexed_term, joined_table, kept, live, live_contents, merge_of, merged_entries, merged_term, name_of, renumbered, term_of}
use Rattle.lu_model.specs.Valid.{IsIndexedTerm, IsKept, IsSmall, IsValid}
use Rattle.lu_model.proofs.Words.{Each, IsIn, entry_of, no_field}
use Rattle.lu_model.proofs.BySource.{all_names, has_entry, size-merge, terms-merge}
use Rattle.lu_model.proofs.Each.{all_at, each_at, each_in, each_map}
use Rattle.lu_model.proofs.Found.{bit_within}
use Rattle.lu_model.proofs.MergedParts.{has_at, source_terms_are_texts, term_kept}
use Rattle.lu_model.proofs.MergedTerms.{same_entries}
use Rattle.lu_model.proofs.Tables.{Has}
use Rattle.lu_model.proofs.ValidTerms.{entries_rise, entries_within}
use Rattle.seg_merger.specs.TermSources.{SourceTerm, name_of_term, source_term}
use Rattle.seg_merger.specs.TermRests.{AreEntries, AreNumbersIn, CanMerge, IsGood, IsName, IsNumbered, Rest, entries_for, entries_if_any, entries_of_all, names, same_term, term_of_all, terms_of_all, whole_rest, whole_rests}

-- ---- names

source-names : (fields : List TableField) (numbers : List ℕ) (ts : List IndexedTerm) → map name_of_term (map (source_term fields numbers) ts) ≡ map (term_of fields) ts
source-names fields numbers [] = refl
source-names fields numbers (t ∷ ts) = ap (λ w. term_of fields t ∷ w) (source-names fields numbers ts)

pub whole-names : (table : List TableField) (base : ℕ) (indexes : List Index) (numbers : List (Vec ℕ Global)) → AreNumbersIn table indexes numbers → names (whole_rests base indexes numbers) ≡ all_names indexes
whole-names table base [] numbers h = refl
whole-names table base (index ∷ indexes) [] h = absurd h
whole-names table base (index ∷ indexes) (ns ∷ numbers) h =
    ap (λ w. w ++ names (whole_rests (base + length (live index)) indexes numbers)) (source-names index.fields ns.items index.terms)
    ∙ ap (λ w. map (term_of index.fields) index.terms ++ w) (whole-names table (base + length (live index)) indexes numbers h.1)

-- ---- entries

found-named : (fields : List TableField) (numbers : List ℕ) (t : Term) (ts : List IndexedTerm) → entries_for t (map (source_term fields numbers) ts) ≡ unwrap_or (option_map (λ (u : IndexedTerm). u.entries) (find (λ u. same_term t (term_of fields u)) ts)) []
found-named fields numbers t [] = refl
found-named fields numbers t (x ∷ ts) = elim (same_term t (term_of fields x)) as (λ b. entries_if_any (cond b (Some (source_term fields numbers x)) (find (λ (u : SourceTerm). same_term t u.term) (map (source_term fields numbers) ts))) ≡ unwrap_or (option_map (λ (u : IndexedTerm). u.entries) (cond b (Some x) (find (λ u. same_term t (term_of fields u)) ts))) []) [ true ↦ refl | false ↦ found-named fields numbers t ts ]

pub whole-entries : (table : List TableField) (bits base : ℕ) (t : Term) (indexes : List Index) (numbers : List (Vec ℕ Global)) → AreNumbersIn table indexes numbers → entries_of_all bits (whole_rests base indexes numbers) t ≡ merged_entries bits t base indexes
whole-entries table bits base t [] numbers h = refl
whole-entries table bits base t (index ∷ indexes) [] h = absurd h
whole-entries table bits base t (index ∷ indexes) (ns ∷ numbers) h =
    ap (λ es. renumbered bits base index.deleted es ++ entries_of_all bits (whole_rests (base + length (live index)) indexes numbers) t) (found-named index.fields ns.items t index.terms)
    ∙ ap (λ w. renumbered bits base index.deleted (entries_in index t) ++ w) (whole-entries table bits (base + length (live index)) t indexes numbers h.1)

map-same : {X Y : Type 0} (f h : X → Y) → ((x : X) → f x ≡ h x) → (xs : List X) → map f xs ≡ map h xs
map-same f h e [] = refl
map-same f h e (x ∷ xs) = λ i. e x i ∷ map-same f h e xs i

-- the terms that whole indexes make are those of their merge
pub whole-terms : (table : List TableField) (indexes : List Index) (numbers : List (Vec ℕ Global)) → Each IsValid indexes → table ≡ joined_table indexes → AreNumbersIn table indexes numbers → terms_of_all table (whole_rests 0 indexes numbers) ≡ (merge_of indexes).terms
unfolding terms_of_all
whole-terms table indexes numbers ok is h =
    let each : (t : Term) → term_of_all table (whole_rests 0 indexes numbers) t ≡ merged_term indexes t = λ t.
    let entries = whole-entries table (bits_of t.field table) 0 t indexes numbers h in
    (λ i. record { field = field_number t.field table; text = t.text; entries = entries i }) ∙ ap (λ (w : List TableField). let m : IndexedTerm = record { field = field_number t.field w; text = t.text; entries = merged_entries (bits_of t.field w) t 0 indexes } in m) is in
    ap (λ ns. filter has_entry (map (term_of_all table (whole_rests 0 indexes numbers)) (in_order term_cmp ns))) (whole-names table 0 indexes numbers h)
    ∙ ap (filter has_entry) (map-same (term_of_all table (whole_rests 0 indexes numbers)) (merged_term indexes) each (in_order term_cmp (all_names indexes)))
    ∙ sym (terms-merge indexes ok)

-- ---- what is good of whole indexes

valid-term : (index : Index) → IsValid index → (it : IndexedTerm) → IsIn it index.terms → IsIndexedTerm index.size (field_at it.field index.fields).bits it
valid-term index ok it h = all_at (λ (t : IndexedTerm). IsIndexedTerm index.size (field_at t.field index.fields).bits t) it index.terms ok.terms h

good-whole : (base : ℕ) (index : Index) (numbers : List ℕ) → IsValid index → ((it : IndexedTerm) → IsIn it index.terms → IsName (term_of index.fields it)) → IsGood (whole_rest base index numbers)
good-whole base index numbers ok named = record {
  rise = subst (IsStrictlySortedBy term_cmp) (sym (source-names index.fields numbers index.terms)) ok.rise;
  named = each_map (λ (x : SourceTerm). IsName x.term) (source_term index.fields numbers) index.terms (each_in (λ (it : IndexedTerm). IsName (term_of index.fields it)) index.terms named);
  low = each_map (λ (x : SourceTerm). Each (λ (e : IndexedEntry). e.document < index.size) x.entries) (source_term index.fields numbers) index.terms (each_in (λ (it : IndexedTerm). Each (λ (e : IndexedEntry). e.document < index.size) it.entries) index.terms (λ it h.
      let right = valid-term index ok it h in
      each_in (λ (e : IndexedEntry). e.document < index.size) it.entries (λ e k. (all_at (λ (entry : IndexedEntry). (entry.document < index.size) × IsKept (field_at it.field index.fields).bits entry.occurrences) e it.entries right.entries k).0)));
}

-- a field that is found has a number
number-inside : (name : List ℕ) (table : List TableField) (f : TableField) → find (λ (field : TableField). bytes_eq name field.name) table ≡ Some f → field_number name table < length table
number-inside name [] f e = absurd (let none : None ≡ Some f = e in cc)
number-inside name (x ∷ table) f e = elim (bytes_eq name x.name) as (λ b. cond b (Some x) (find (λ (field : TableField). bytes_eq name field.name) table) ≡ Some f → cond (not b) (1 + field_number name table) 0 < suc (length table)) [
  | true ↦ λ q. omega arith
  | false ↦ λ q. let rest = number-inside name table f q in omega arith
] e

numbered-whole : (table : List TableField) (base : ℕ) (index : Index) (numbers : List ℕ) → IsValid index → numbers ≡ map (λ (field : TableField). field_number field.name table) index.fields
    → ((n : ℕ) → n < length index.fields → Has table (field_at n index.fields)) → Each (IsNumbered table) (whole_rest base index numbers).left
numbered-whole table base index numbers ok is has = each_map (IsNumbered table) (source_term index.fields numbers) index.terms (each_in (λ (it : IndexedTerm). IsNumbered table (source_term index.fields numbers it)) index.terms (λ it h.
    let inside = bit_within bit.indexed index.fields it.field refl (valid-term index ok it h).indexed in
    let number : get_or numbers it.field 0 ≡ field_number (name_of index.fields it.field) table = ap (λ ns. get_or ns it.field 0) is ∙ get_or-map (λ (field : TableField). field_number field.name table) index.fields it.field no_field 0 inside in
    (number, subst (λ n. n < length table) (sym number) (number-inside (name_of index.fields it.field) table (has it.field inside).field (has it.field inside).found))))

-- ---- entries of a merge

few-entries : (table : List TableField) (t : Term) (m : ℕ) (contents : List Content) → length (filter_map (entry_of table t) (enumerate_from m contents)) ≤ length contents
few-entries table t m [] = omega arith
few-entries table t m (c ∷ contents) =
    let rest = few-entries table t (m + 1) contents in
    elim (c.occurrences t) as (λ o. length (cons_option (option_map (λ (occurrences : KeptOccurrences). let e : IndexedEntry = record { document = m; occurrences = kept (bits_of t.field table) occurrences } in e) o) (filter_map (entry_of table t) (enumerate_from (m + 1) contents))) ≤ suc (length contents)) [ None ↦ omega arith | Some o ↦ omega arith ]

merged-are : (indexes : List Index) → Each IsValid indexes → IsSmall (length (flat_map live_contents indexes)) → (t : Term) → AreEntries (bits_of t.field (joined_table indexes)) (merged_entries (bits_of t.field (joined_table indexes)) t 0 indexes)
merged-are indexes ok small t =
    let table = joined_table indexes in
    let contents = flat_map live_contents indexes in
    let size = few-entries table t 0 contents in
    let room : 0 + length contents ≤ length contents = omega arith in
    subst (AreEntries (bits_of t.field table)) (same_entries indexes ok t) (record {
      rise = entries_rise table t 0 contents;
      few = omega (arith, size, small);
      kept = each_in (λ (e : IndexedEntry). IsSmall e.document × IsKept (bits_of t.field table) e.occurrences) (indexed_term table contents t).entries (λ e i.
          let within = each_at (λ (entry : IndexedEntry). (0 ≤ entry.document) × (entry.document < length contents) × IsKept (bits_of t.field table) entry.occurrences) e (indexed_term table contents t).entries (entries_within table t (length contents) 0 contents room (λ c o k q. term_kept indexes ok t c o k q)) i in
          let low = within.1 in
          (omega (arith, low, small), within.2));
    })

-- whole indexes can be merged
module _ (table : List TableField) (indexes : List Index) (ok : Each IsValid indexes) (is : table ≡ joined_table indexes) where
  named-term : (index : Index) → IsIn index indexes → (it : IndexedTerm) → IsIn it index.terms → IsName (term_of index.fields it)
  named-term index h it k =
      let text = source_terms_are_texts indexes ok index h it k in
      record { field = text.field; text = text.text; small = (valid-term index (each_at IsValid index indexes ok h) it k).text.1 }

  good-wholes : (base : ℕ) (some : List Index) (numbers : List (Vec ℕ Global)) → ((index : Index) → IsIn index some → IsIn index indexes) → Each IsGood (whole_rests base some numbers)
  good-wholes base [] numbers of = tt
  good-wholes base (index ∷ some) [] of = tt
  good-wholes base (index ∷ some) (ns ∷ numbers) of =
      let own = of index (inl refl) in
      (good-whole base index ns.items (each_at IsValid index indexes ok own) (named-term index own), good-wholes (base + length (live index)) some numbers (λ i h. of i (inr h)))

  numbered-wholes : (base : ℕ) (some : List Index) (numbers : List (Vec ℕ Global)) → ((index : Index) → IsIn index some → IsIn index indexes) → AreNumbersIn table some numbers → Each (λ (r : Rest). Each (IsNumbered table) r.left) (whole_rests base some numbers)
  numbered-wholes base [] numbers of h = tt
  numbered-wholes base (index ∷ some) [] of h = tt
  numbered-wholes base (index ∷ some) (ns ∷ numbers) of h =
      let own = of index (inl refl) in
      (numbered-whole table base index ns.items (each_at IsValid index indexes ok own) h.0 (subst (λ w. (n : ℕ) → n < length index.fields → Has w (field_at n index.fields)) (sym is) (has_at indexes ok index own)), numbered-wholes (base + length (live index)) some numbers (λ i k. of i (inr k)) h.1)

  pub whole-can : (numbers : List (Vec ℕ Global)) → AreNumbersIn table indexes numbers → IsSmall (length table) → IsSmall (length (flat_map live_contents indexes)) → CanMerge table (whole_rests 0 indexes numbers)
  whole-can numbers h few small = record {
    few = few;
    good = good-wholes 0 indexes numbers (λ index k. k);
    numbered = numbered-wholes 0 indexes numbers (λ index k. k) h;
    entries = each_in (λ (t : Term). AreEntries (bits_of t.field table) (entries_of_all (bits_of t.field table) (whole_rests 0 indexes numbers) t)) (names (whole_rests 0 indexes numbers)) (λ t k.
        subst (AreEntries (bits_of t.field table)) (sym (whole-entries table (bits_of t.field table) 0 t indexes numbers h))
        (subst (λ w. AreEntries (bits_of t.field w) (merged_entries (bits_of t.field w) t 0 indexes)) (sym is) (merged-are indexes ok small t)));
  }

-- how many documents a merge has
pub live-few : (indexes : List Index) → (merge_of indexes).size ≡ length (flat_map live indexes)
unfolding index_of
live-few indexes = size-merge indexes
