-- The terms of an index of contents rise, and are exactly those with an entry.
use Rattle.std.proofs.Common.{◌≡◌, true, List, map, sym, subst}
use Rattle.std.specs.Prelude.{◌↔◌, flat_map, is_some}
use Rattle.lu_types.specs.Documents.{IsDocument}
use Rattle.lu_types.specs.Joins.{Covers}
use Rattle.lu_types.specs.Tables.{TableField}
use Rattle.lu_types.specs.declared.document.Document.{Document}
use Rattle.lu_model.specs.Index.{Term, term_cmp, in_order, Index}
use Rattle.lu_model.specs.Contents.{AreTerms, Content, content_of, index_of, indexed_term, joined_table, live_contents, merge_of, term_of, under}
use Rattle.lu_model.specs.Valid.{IsValid}
use Rattle.lu_model.proofs.Words.{IsIn, Each, IsTerm}
use Rattle.lu_model.proofs.Among.{contains-from_in, from_flat_map, from_map, in-from_contains, in_flat_map}
use Rattle.lu_model.proofs.Alike.{term_order, terms_level}
use Rattle.lu_model.proofs.Entries.{HasName, term_of-indexed}
use Rattle.lu_model.proofs.Held.{HasFields, occurrences-in_terms, some-occurrences}
use Rattle.lu_model.proofs.MergedParts.{has_name, knows_term, of_source, terms_are_texts as merged_are_texts}
use Rattle.lu_model.proofs.MergedTerms.{knows, some_source}
use Rattle.lu_model.proofs.Merges.{covered, terms_are_texts}
use Rattle.lu_model.proofs.Ordered.{from_in_order, in_in_order, one_rising, rises-in_order}
use Rattle.lu_model.proofs.Under.{names}
use Rattle.lu_model.proofs.ValidIndex.{terms_again}
use Rattle.lu_model.proofs.ValidTerms.{some_entry}

-- contents of which something is known of exactly their terms, under a table that has the names of these
module _ (table : List TableField) (contents : List Content) where
  abbrev all : List Term
  all = flat_map (λ content. content.terms) contents

  abbrev keys : List Term
  keys = in_order term_cmp all

  pub are_terms : ((t : Term) → IsIn t keys → HasName table t) → ((t : Term) → IsIn t all → IsTerm t)
      → ((c : Content) → IsIn c contents → (t : Term) → IsIn t c.terms ↔ (is_some (c.occurrences t) ≡ true))
      → AreTerms table contents (map (term_of table) (index_of table contents).terms)
  unfolding index_of
  are_terms names texts known =
      let again : map (term_of table) (map (indexed_term table contents) keys) ≡ keys = terms_again table contents keys (λ t k. term_of-indexed table contents t (names t k)) in
      subst (AreTerms table contents) (sym again) (record {
        rise = rises-in_order term_cmp term_order all;
        entries = λ t. (
          λ k.
              let c = from_flat_map (λ (content : Content). content.terms) t contents (from_in_order term_cmp term_order t all (in-from_contains t keys k)) in
              some_entry table t 0 c.0 contents c.1 ((known c.0 c.1 t).0 c.2),
          λ h.
              let c = some_source table t 0 contents h in
              let inside = in_flat_map (λ (content : Content). content.terms) c.0 t contents c.1 ((known c.0 c.1 t).1 c.2) in
              contains-from_in t keys (in_in_order term_cmp term_order t all (λ x y p q. terms_level x y (texts x p) (texts y q)) inside),
        );
      })

-- the terms of an index of documents
pub document_terms : (table : List TableField) (docs : List Document) → Covers table docs → ((doc : Document) → IsIn doc docs → IsDocument doc)
    → AreTerms table (map content_of docs) (map (term_of table) (under table docs).terms)
document_terms table docs covers made =
    let fields : (doc : Document) → IsIn doc docs → HasFields table doc = covered table docs covers in
    let texts : (t : Term) → IsIn t (flat_map (λ content. content.terms) (map content_of docs)) → IsTerm t = λ t h.
    let c = from_flat_map (λ (content : Content). content.terms) t (map content_of docs) h in
    let d = from_map content_of c.0 docs c.1 in
    terms_are_texts d.0 (made d.0 d.1) t (subst (λ (w : Content). IsIn t w.terms) d.2 c.2) in
    are_terms table (map content_of docs) (names table docs fields texts) texts (λ c k t.
    let d = from_map content_of c docs k in
    subst (λ (w : Content). IsIn t w.terms ↔ (is_some (w.occurrences t) ≡ true)) (sym d.2) (some-occurrences d.0 t, occurrences-in_terms d.0 t))

-- the terms of a merge of valid indexes
pub merge_terms : (indexes : List Index) → Each IsValid indexes
    → AreTerms (joined_table indexes) (flat_map live_contents indexes) (map (term_of (joined_table indexes)) (merge_of indexes).terms)
merge_terms indexes ok =
    are_terms (joined_table indexes) (flat_map live_contents indexes) (has_name indexes ok) (merged_are_texts indexes ok) (λ c k t.
    let s = of_source indexes ok c k in
    subst (λ (w : Content). IsIn t w.terms ↔ (is_some (w.occurrences t) ≡ true)) (sym s.2.2) (knows_term indexes ok s.0 s.1 s.2.0 t, knows s.0 s.2.0 t))

-- there is only one list of terms
pub one_list : (table : List TableField) (contents : List Content) (terms others : List Term) → AreTerms table contents terms → AreTerms table contents others → terms ≡ others
one_list table contents terms others a b = one_rising term_cmp term_order terms others a.rise b.rise (record {
  to = λ t h. in-from_contains t others ((b.entries t).1 ((a.entries t).0 (contains-from_in t terms h)));
  from = λ t h. in-from_contains t terms ((a.entries t).1 ((b.entries t).0 (contains-from_in t others h)));
})
