-- A merge of indexes of documents is the index of the documents that are left.
use Rattle.std.proofs.Common.{◌≡◌, ℕ, suc, ◌+◌, ◌<◌, Bool, true, false, not, cond, List, [], ◌∷◌, ◌++◌, Option, Some, None, length, map, refl, sym, ap, ◌∙◌, subst, inl, inr, arith, zero-add, add-zero}
use Rattle.std.specs.Prelude.{filter, flat_map, is_some, option_map, slice_get}
use Rattle.std.specs.List.{AllZip, enumerate_from, range_with_len}
use Rattle.std.proofs.lemmas.List.{length-map, map-append}
use Rattle.lu_types.specs.Bits.{has_bit}
use Rattle.lu_types.specs.Tables.{TableField}
use Rattle.lu_types.specs.Bits as bit
use Rattle.lu_types.specs.declared.document.Document.{Document}
use Rattle.lu_model.specs.Index.{Term, KeptOccurrences, omitted, Index}
use Rattle.lu_model.specs.Contents.{Content, bits_of, content_at, content_of, index_of, is_deleted, kept, live_contents, merge_of, under}
use Rattle.lu_model.proofs.Words.{Source, IsSource, source_index, left_docs, IsIn, IsTerm, IsClear}
use Rattle.lu_types.specs.Joins.{join, join_all, indexed_field, fields_of, has_payloads, asked_bits}
use Rattle.lu_model.proofs.Among.{in_flat_map, from_flat_map, from_map, from_filter, in_map}
use Rattle.lu_model.proofs.Bits.{Says}
use Rattle.lu_model.proofs.Tables.{Has, Has-join, Has-joins, Has-trans, bits-Has, name-Has, find_in}
use Rattle.lu_model.proofs.Alike.{AreAlike, same_index}
use Rattle.lu_model.proofs.Held.{HasFields, HasFields-indexed, Says-indexed, stands_in, occurrences-in_terms}
use Rattle.lu_model.proofs.Entries.{in_at}
use Rattle.lu_model.proofs.Under.{same_occurrences, same_terms, same_stored, same_vectors, same_norm}
use Rattle.std.specs.Str.{bytes_eq, IsUtf8}
use Rattle.lu_types.specs.Documents.{IsDocument, IsIndexedField, IsToken}
use Rattle.lu_model.proofs.Each.{each_at, each-from_all}
use Rattle.lu_types.specs.Joins.{Covers}
use Rattle.lu_model.proofs.Covering.{covers-from_fields, clear-joins}

-- the terms of a document are texts
pub terms_are_texts : (doc : Document) → IsDocument doc → (t : Term) → IsIn t (content_of doc).terms → IsTerm t
terms_are_texts doc h t k =
    let s = stands_in doc t k in
    let field = each_at IsIndexedField s.field doc.indexed (each-from_all IsIndexedField doc.indexed h.indexed) s.inside in
    let token = each_at IsToken s.token s.field.tokens (each-from_all IsToken s.field.tokens field.tokens) s.in_tokens in
    record { field = subst IsUtf8 (sym s.name) field.name; text = subst IsUtf8 (sym s.text) token.text }

-- a table has the fields of the documents that it covers
pub covered : (table : List TableField) (docs : List Document) → join table (flat_map fields_of docs) ≡ table → (doc : Document) → IsIn doc docs → HasFields table doc
covered table docs covers doc h f k = subst (λ t. Has t f) covers (Has-join table (flat_map fields_of docs) f (in_flat_map fields_of doc f docs h k))

-- what one table keeps, kept by another that omits wherever the first does
kept_twice : (below above : ℕ) (o : KeptOccurrences) → (has_bit bit.omit_tf below ≡ true → has_bit bit.omit_tf above ≡ true) → kept above (kept below o) ≡ kept above o
kept_twice below above o h =
    elim (has_bit bit.omit_tf below) as (λ b. has_bit bit.omit_tf below ≡ b → kept above (cond b omitted o) ≡ kept above o) [
      | true ↦ λ t. let up = h t in ap (λ b. cond b omitted omitted) up ∙ sym (ap (λ b. cond b omitted o) up)
      | false ↦ λ t. refl
    ] refl

module _ (all : List TableField) (source : Source) (ok : IsSource source) (above : (f : TableField) → IsIn f source.0 → Has all f) where
  fields : (doc : Document) → IsIn doc source.1 → HasFields source.0 doc
  fields = covered source.0 source.1 ok.1

  texts : (t : Term) → IsIn t (flat_map (λ content. content.terms) (map content_of source.1)) → IsTerm t
  texts t h =
      let c = from_flat_map (λ (content : Content). content.terms) t (map content_of source.1) h in
      let d = from_map content_of c.0 source.1 c.1 in
      terms_are_texts d.0 (each_at IsDocument d.0 source.1 (each-from_all IsDocument source.1 ok.2) d.1) t (subst (λ (w : Content). IsIn t w.terms) d.2 c.2)

  -- where a field omits frequencies and positions in one table, it does in all tables joined
  omits : (doc : Document) → IsIn doc source.1 → (t : Term) → IsIn t (content_of doc).terms → has_bit bit.omit_tf (bits_of t.field source.0) ≡ true → has_bit bit.omit_tf (bits_of t.field all) ≡ true
  omits doc h t k e =
      let s = stands_in doc t k in
      let has = HasFields-indexed source.0 doc (fields doc h) s.field s.inside in
      let below = bits-Has source.0 (indexed_field s.field) has in
      let inside : IsIn has.field source.0 = (find_in (λ (field : TableField). bytes_eq s.field.field field.name) has.field source.0 has.found).0 in
      let up = above has.field inside in
      let indexed = subst (λ b. Says b (asked_bits s.field.vector (is_some s.field.norm) s.field.omit_tf (has_payloads s.field))) below (Says-indexed source.0 s.field has) in
      let says = up.says indexed.indexed in
      let there : has_bit bit.omit_tf has.field.bits ≡ true = ap (has_bit bit.omit_tf) (sym below) ∙ ap (λ name. has_bit bit.omit_tf (bits_of name source.0)) (sym s.name) ∙ e in
      let name : has.field.name ≡ t.field = name-Has source.0 (indexed_field s.field) has ∙ sym s.name in
      ap (λ m. has_bit bit.omit_tf (bits_of m all)) (sym name) ∙ ap (has_bit bit.omit_tf) (bits-Has all has.field up) ∙ says.omit_tf there

  alike_at : (n : ℕ) (doc : Document) → slice_get source.1 n ≡ Some doc → AreAlike all (content_at (source_index source) n) (content_of doc)
  alike_at n doc e = record {
    stored = same_stored source.0 source.1 fields texts n doc e;
    terms = same_terms source.0 source.1 fields texts n doc e;
    occurrences = λ t. ap (option_map (kept (bits_of t.field all))) (same_occurrences source.0 source.1 fields texts n doc e t) ∙ twice t ((content_of doc).occurrences t) refl;
    norm = λ field h k. same_norm source.0 source.1 fields texts n doc e field.name;
    vectors = same_vectors source.0 source.1 fields texts n doc e;
  }
    where
      twice : (t : Term) (o : Option KeptOccurrences) → (content_of doc).occurrences t ≡ o → option_map (kept (bits_of t.field all)) (option_map (kept (bits_of t.field source.0)) o) ≡ option_map (kept (bits_of t.field all)) o
      twice t None q = refl
      twice t (Some o) q = ap Some (kept_twice (bits_of t.field source.0) (bits_of t.field all) o (omits doc (in_at source.1 n doc e) t (occurrences-in_terms doc t (ap is_some q))))

  abbrev stays : ℕ → Bool
  stays n = not (is_deleted source.2 n)

  alike_from : (m : ℕ) (docs : List Document) → ((k : ℕ) (doc : Document) → slice_get docs k ≡ Some doc → slice_get source.1 (m + k) ≡ Some doc)
      → AllZip (AreAlike all) (map (content_at (source_index source)) (filter stays (range_with_len m (length docs)))) (map content_of (map (λ numbered. numbered.1) (filter (λ numbered. stays numbered.0) (enumerate_from m docs))))
  alike_from m [] here = tt
  alike_from m (doc ∷ docs) here =
      let rest = alike_from (m + 1) docs (λ k d e. ap (slice_get source.1) (shifted m k) ∙ here (suc k) d e) in
      elim (stays m) as (λ b. AllZip (AreAlike all) (map (content_at (source_index source)) (cond b (m ∷ filter stays (range_with_len (m + 1) (length docs))) (filter stays (range_with_len (m + 1) (length docs))))) (map content_of (map (λ numbered. numbered.1) (cond b ((m, doc) ∷ filter (λ numbered. stays numbered.0) (enumerate_from (m + 1) docs)) (filter (λ numbered. stays numbered.0) (enumerate_from (m + 1) docs)))))) [
        | true ↦ (alike_at m doc (ap (slice_get source.1) (sym (add-zero m)) ∙ here 0 doc refl), rest)
        | false ↦ rest
      ]
    where
      shifted : (m k : ℕ) → (m + 1) + k ≡ m + suc k
      shifted m k = omega arith

  -- the live documents of an index hold what the documents hold that are left
  pub alike_source : AllZip (AreAlike all) (live_contents (source_index source)) (map content_of (left_docs source))
  unfolding index_of
  alike_source =
      subst (λ n. AllZip (AreAlike all) (map (content_at (source_index source)) (filter stays (range_with_len 0 n))) (map content_of (left_docs source))) (sym (length-map source.1 content_of))
      (alike_from 0 source.1 (λ k doc e. ap (slice_get source.1) (zero-add k) ∙ e))

zip_append : {X : Type 0} (R : X → X → Type 0) (xs ys us vs : List X) → AllZip R xs ys → AllZip R us vs → AllZip R (xs ++ us) (ys ++ vs)
zip_append R [] [] us vs h k = k
zip_append R [] (y ∷ ys) us vs h k = absurd h
zip_append R (x ∷ xs) [] us vs h k = absurd h
zip_append R (x ∷ xs) (y ∷ ys) us vs h k = (h.0, zip_append R xs ys us vs h.1 k)

alike_sources : (all : List TableField) (sources : List Source) → ((s : Source) → IsIn s sources → IsSource s × ((f : TableField) → IsIn f s.0 → Has all f))
    → AllZip (AreAlike all) (flat_map live_contents (map source_index sources)) (map content_of (flat_map left_docs sources))
alike_sources all [] h = tt
alike_sources all (s ∷ sources) h =
    subst (AllZip (AreAlike all) (flat_map live_contents (map source_index (s ∷ sources)))) (sym (map-append content_of (left_docs s) (flat_map left_docs sources)))
    (zip_append (AreAlike all) (live_contents (source_index s)) (map content_of (left_docs s)) (flat_map live_contents (map source_index sources)) (map content_of (flat_map left_docs sources))
    (alike_source all s (h s (inl refl)).0 (h s (inl refl)).1) (alike_sources all sources (λ t k. h t (inr k))))

from_numbered : (doc : Document) (m : ℕ) (docs : List Document) → IsIn doc (map (λ (numbered : ℕ × Document). numbered.1) (enumerate_from m docs)) → IsIn doc docs
from_numbered doc m [] h = h
from_numbered doc m (d ∷ docs) (inl e) = inl e
from_numbered doc m (d ∷ docs) (inr h) = inr (from_numbered doc (m + 1) docs h)

left_in : (source : Source) (doc : Document) → IsIn doc (left_docs source) → IsIn doc source.1
left_in source doc h =
    let n = from_map (λ (numbered : ℕ × Document). numbered.1) doc (filter (λ numbered. not (is_deleted source.2 numbered.0)) (enumerate_from 0 source.1)) h in
    let k = from_filter (λ (numbered : ℕ × Document). not (is_deleted source.2 numbered.0)) n.0 (enumerate_from 0 source.1) n.1 in
    from_numbered doc 0 source.1 (subst (λ d. IsIn d (map (λ (numbered : ℕ × Document). numbered.1) (enumerate_from 0 source.1))) (sym n.2) (in_map (λ (numbered : ℕ × Document). numbered.1) n.0 (enumerate_from 0 source.1) k.0))

same_fields : (sources : List Source) → map (λ (index : Index). index.fields) (map source_index sources) ≡ map (λ (source : Source). source.0) sources
unfolding index_of
same_fields [] = refl
same_fields (s ∷ sources) = λ i. s.0 ∷ same_fields sources i

-- a merge of indexes of documents is the index of the documents that are left, under the joined tables
pub merge_of-sources : (sources : List Source) → ((s : Source) → IsIn s sources → IsSource s) → merge_of (map source_index sources) ≡ under (join_all (map (λ source. source.0) sources)) (flat_map left_docs sources)
merge_of-sources sources ok =
    let all = join_all (map (λ (source : Source). source.0) sources) in
    let each : (s : Source) → IsIn s sources → IsSource s × ((f : TableField) → IsIn f s.0 → Has all f) =
    λ s h. (ok s h, λ f k. Has-joins [] (map (λ (source : Source). source.0) sources) s.0 f (in_map (λ (source : Source). source.0) s sources h) k) in
    let texts : (t : Term) → IsIn t (flat_map (λ (content : Content). content.terms) (map content_of (flat_map left_docs sources))) → IsTerm t = λ t h.
    let c = from_flat_map (λ (content : Content). content.terms) t (map content_of (flat_map left_docs sources)) h in
    let d = from_map content_of c.0 (flat_map left_docs sources) c.1 in
    let s = from_flat_map left_docs d.0 sources d.1 in
    terms_are_texts d.0 (each_at IsDocument d.0 s.0.1 (each-from_all IsDocument s.0.1 (ok s.0 s.1).2) (left_in s.0 d.0 s.2)) t (subst (λ (w : Content). IsIn t w.terms) d.2 c.2) in
    ap (λ tables. index_of (join_all tables) (flat_map live_contents (map source_index sources))) (same_fields sources)
    ∙ same_index all (flat_map live_contents (map source_index sources)) (map content_of (flat_map left_docs sources)) (alike_sources all sources each) texts

-- the joined tables cover the documents that are left
pub joined_covers : (sources : List Source) → ((s : Source) → IsIn s sources → IsSource s) → Covers (join_all (map (λ source. source.0) sources)) (flat_map left_docs sources)
joined_covers sources ok =
    let tables = map (λ (source : Source). source.0) sources in
    covers-from_fields (join_all tables) (flat_map left_docs sources)
    (clear-joins [] tables (λ f k. absurd k) (λ t k. let s = from_map (λ (source : Source). source.0) t sources k in subst IsClear (sym s.2) (λ f q. each_at (λ (g : TableField). g.bits < 128) f s.0.0 (each-from_all (λ (g : TableField). g.bits < 128) s.0.0 (ok s.0 s.1).0) q)))
    (λ doc h f k.
    let s = from_flat_map left_docs doc sources h in
    let one = ok s.0 s.1 in
    let below = covered s.0.0 s.0.1 one.1 doc (left_in s.0 doc s.2) f k in
    Has-trans (join_all tables) s.0.0 f (λ g q. Has-joins [] tables s.0.0 g (in_map (λ (source : Source). source.0) s.0 sources s.1) q) below)
