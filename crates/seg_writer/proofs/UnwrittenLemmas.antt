-- Where no field keeps positions, nothing is written of them.
use Rattle.std.proofs.Common.{◌≡◌, refl, ap, sym, ◌∙◌, subst, ℕ, ◌+◌, ◌++◌, Bool, true, false, not, cond, List, [], ◌∷◌, map, Option, None, Some, inl, inr}
use Rattle.std.specs.Prelude.{filter_map, flat_map, is_some, option_map, ◌&&◌, ◌||◌}
use Rattle.std.specs.List.{cons_option, enumerate_from}
use Rattle.std.specs.Str.{bytes_eq}
use Rattle.std.proofs.lemmas.Bool.{false≢true}
use Rattle.lu_types.specs.Bits as bit
use Rattle.lu_types.specs.Bits.{has_bit}
use Rattle.lu_types.specs.Joins.{fields_of, has_payloads, indexed_field, stored_field, table_of}
use Rattle.lu_types.specs.Tables.{TableField, bits_at}
use Rattle.lu_types.specs.declared.document.Document.{Document}
use Rattle.lu_types.specs.declared.document.IndexedField.{IndexedField}
use Rattle.lu_model.specs.Index.{IndexedEntry, KeptOccurrences, Term, in_order, omitted, term_cmp}
use Rattle.lu_model.specs.Contents.{Content, bits_of, content_of, field_number, index_of, index_of_documents, indexed_term, kept}
use Rattle.lu_model.proofs.Words.{Each, IsIn, entry_of}
use Rattle.lu_model.proofs.Alike.{term_order}
use Rattle.lu_model.proofs.Among.{from_flat_map, from_map, in_flat_map, in_map, in_right}
use Rattle.lu_model.proofs.Asked.{indexed-asked}
use Rattle.lu_model.proofs.Held.{stands_in}
use Rattle.lu_model.proofs.Ordered.{from_in_order}
use Rattle.lu_model.proofs.Tables.{Has, Has-join, Says-Has, bits-Has, find_in}
use Rattle.segment_files.specs.Parts.{keep_positions, postings_of}
use Rattle.segment_files.specs.Postings.{KeptTerm, PostingIntervals, PostingParts, kept_terms, no_parts, prx_bytes, with_all_postings, with_postings}
use Rattle.segment_files.proofs.PrxBytes.{prx_bytes-omitted}

-- ---- fields

neither : (a b : Bool) → (a || b) ≡ false → (a ≡ false) × (b ≡ false)
neither true true h = absurd (false≢true (sym h))
neither true false h = absurd (false≢true (sym h))
neither false true h = absurd (false≢true (sym h))
neither false false h = (refl, refl)

omits : (indexed omit : Bool) → indexed ≡ true → (indexed && not omit) ≡ false → omit ≡ true
omits true true i h = refl
omits true false i h = absurd (false≢true (sym h))
omits false true i h = refl
omits false false i h = absurd (false≢true i)

-- an indexed field of the table omits positions
pub field-omits : (table : List TableField) (f : TableField) → keep_positions table ≡ false → IsIn f table → has_bit bit.indexed f.bits ≡ true → has_bit bit.omit_tf f.bits ≡ true
field-omits [] f lacks h indexed = absurd h
field-omits (g ∷ table) f lacks (inl same) indexed =
    let here = neither (has_bit bit.indexed g.bits && not (has_bit bit.omit_tf g.bits)) (keep_positions table) lacks in
    omits (has_bit bit.indexed f.bits) (has_bit bit.omit_tf f.bits) indexed (subst (λ (x : TableField). (has_bit bit.indexed x.bits && not (has_bit bit.omit_tf x.bits)) ≡ false) (sym same) here.0)
field-omits (g ∷ table) f lacks (inr h) indexed =
    field-omits table f (neither (has_bit bit.indexed g.bits && not (has_bit bit.omit_tf g.bits)) (keep_positions table) lacks).1 h indexed

-- so does each indexed field of the documents
documents-omit : (docs : List Document) (doc : Document) (field : IndexedField) → keep_positions (table_of docs) ≡ false → IsIn doc docs → IsIn field doc.indexed → has_bit bit.omit_tf (bits_of field.field (table_of docs)) ≡ true
documents-omit docs doc field lacks inside own =
    let table = table_of docs in
    let asked = indexed_field field in
    let h : Has table asked = Has-join [] (flat_map fields_of docs) asked (in_flat_map fields_of doc asked docs inside (in_right asked (map stored_field doc.stored) (map indexed_field doc.indexed) (in_map indexed_field field doc.indexed own))) in
    let says = Says-Has table asked h (indexed-asked field.vector (is_some field.norm) field.omit_tf (has_payloads field)) in
    let indexed : has_bit bit.indexed h.field.bits ≡ true = subst (λ b. has_bit bit.indexed b ≡ true) (bits-Has table asked h) says.indexed in
    let inside-table = (find_in (λ (f : TableField). bytes_eq asked.name f.name) h.field table h.found).0 in
    subst (λ b. has_bit bit.omit_tf b ≡ true) (sym (bits-Has table asked h)) (field-omits table h.field lacks inside-table indexed)

-- ---- terms

entry-omitted : (table : List TableField) (term : Term) (m : ℕ) (found : Option KeptOccurrences) (rest : List IndexedEntry) → has_bit bit.omit_tf (bits_of term.field table) ≡ true → Each (λ (e : IndexedEntry). e.occurrences ≡ omitted) rest
    → Each (λ (e : IndexedEntry). e.occurrences ≡ omitted) (cons_option (option_map (λ (o : KeptOccurrences). let e : IndexedEntry = record { document = m; occurrences = kept (bits_of term.field table) o } in e) found) rest)
entry-omitted table term m None rest omit h = h
entry-omitted table term m (Some o) rest omit h = (ap (λ b. cond b omitted o) omit, h)

entries-omitted : (table : List TableField) (term : Term) (m : ℕ) (contents : List Content) → has_bit bit.omit_tf (bits_of term.field table) ≡ true → Each (λ (e : IndexedEntry). e.occurrences ≡ omitted) (filter_map (entry_of table term) (enumerate_from m contents))
entries-omitted table term m [] omit = tt
entries-omitted table term m (c ∷ contents) omit =
    entry-omitted table term m (c.occurrences term) (filter_map (entry_of table term) (enumerate_from (m + 1) contents)) omit (entries-omitted table term (m + 1) contents omit)

pub terms-unwritten : (table : List TableField) (contents : List Content) (terms : List Term) → ((t : Term) → IsIn t terms → has_bit bit.omit_tf (bits_of t.field table) ≡ true)
    → Each (λ (k : KeptTerm). prx_bytes k.payloads k.term.entries ≡ []) (kept_terms table (map (indexed_term table contents) terms))
terms-unwritten table contents [] h = tt
terms-unwritten table contents (t ∷ terms) h = (
  prx_bytes-omitted (has_bit bit.payloads (bits_at table (field_number t.field table))) (indexed_term table contents t).entries (entries-omitted table t 0 contents (h t (inl refl))),
  terms-unwritten table contents terms (λ u k. h u (inr k)),
)

pub parts-unwritten : (i : PostingIntervals) (terms : List KeptTerm) (parts : PostingParts) → parts.prx ≡ [] → Each (λ (k : KeptTerm). prx_bytes k.payloads k.term.entries ≡ []) terms → (with_all_postings i parts terms).prx ≡ []
parts-unwritten i [] parts is h = is
parts-unwritten i (t ∷ terms) parts is h = parts-unwritten i terms (with_postings i parts t) (ap (λ w. w ++ prx_bytes t.payloads t.term.entries) is ∙ h.0) h.1

pub positions-unwritten : (i : PostingIntervals) (docs : List Document) → keep_positions (table_of docs) ≡ false → (postings_of i (index_of_documents docs)).prx ≡ []
unfolding index_of
positions-unwritten i docs lacks =
    let table = table_of docs in
    let keys = flat_map (λ (content : Content). content.terms) (map content_of docs) in
    parts-unwritten i (kept_terms table (map (indexed_term table (map content_of docs)) (in_order term_cmp keys))) no_parts refl (terms-unwritten table (map content_of docs) (in_order term_cmp keys) (λ t k.
    let content = from_flat_map (λ (x : Content). x.terms) t (map content_of docs) (from_in_order term_cmp term_order t keys k) in
    let doc = from_map content_of content.0 docs content.1 in
    let s = stands_in doc.0 t (subst (λ (w : Content). IsIn t w.terms) doc.2 content.2) in
    subst (λ name. has_bit bit.omit_tf (bits_of name table) ≡ true) (sym s.name) (documents-omit docs doc.0 s.field lacks doc.1 s.inside)))
