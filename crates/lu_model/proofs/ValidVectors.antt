-- The vectors of an index of documents that can be written.
use Rattle.std.proofs.Common.{◌≡◌, ◌≢◌, ℕ, ◌+◌, ◌<◌, ◌≤◌, Bool, true, false, cond, List, [], ◌∷◌, length, map, refl, sym, ap, ◌∙◌, subst, arith, lit<}
use Rattle.std.specs.Prelude.{filter}
use Rattle.std.specs.List.Sorted.{IsStrictlySortedBy}
use Rattle.std.specs.Str.{bytes_eq}
use Rattle.std.specs.Cmp.Lexicographic.{bytes_decides}
use Rattle.std.proofs.lemmas.List.{length-map}
use Rattle.lu_prims.specs.Order.{text_cmp}
use Rattle.lu_prims.proofs.Units.{text_order}
use mathlib.Core.Bool.{true≢false}
use Rattle.lu_types.specs.Bits.{has_bit}
use Rattle.lu_types.specs.Tables.{TableField}
use Rattle.lu_types.specs.declared.document.Document.{Document}
use Rattle.lu_types.specs.declared.document.IndexedField.{IndexedField}
use Rattle.lu_types.specs.declared.document.Token.{Token}
use Rattle.lu_types.specs.declared.document.Limits.{Limits}
use Rattle.lu_types.specs.Documents.{IsDocument, IsIndexedField, IsToken}
use Rattle.lu_types.specs.DocFaults.{IsSoundToken, IsSoundField, AreApart, IsSound}
use Rattle.lu_types.specs.Joins.{keeps_positions, keeps_offsets, bit_if, indexed_field}
use Rattle.lu_model.specs.Index.{in_order, Span, VectorTerm, FieldVector}
use Rattle.lu_model.specs.Contents.{field_number, name_of, tokens_with, vector_of}
use Rattle.lu_model.specs.Valid.{IsSmall, AreAsMany, IsVectorTerm, IsVector}
use Rattle.lu_model.proofs.Words.{IsIn, Each, EachPair, vector_in, has_vectors, term_with, has_vector_of, IsText}
use Rattle.lu_model.proofs.Among.{from_map, in_filter, from_filter}
use Rattle.lu_model.proofs.Ordered.{rises-in_order, from_in_order}
use Rattle.lu_model.proofs.Tables.{name_at-Has}
use Rattle.lu_model.proofs.Held.{HasFields, HasFields-indexed}
use Rattle.lu_model.proofs.Each.{each_in, each_at, each_by_recursion, each_filter, each_map, pair_filter, pair_map, pair_weaker, length_filter-le, length_in_order-le, each-from_all, non_decreasing, all-from_each}
use Rattle.lu_model.proofs.SoundTokens.{each_sound, do_not_fall}
use Rattle.lu_model.proofs.ValidTerms.{small_bytes, small_place, sound_field, made_field}

-- values kept or not, by a bit
as_many_where : {X : Type 0} (bit bits : ℕ) (wanted : Bool) (values : List X) → has_bit bit bits ≡ wanted → AreAsMany bit bits (length values) (cond wanted values [])
as_many_where bit bits true values e = (λ _. refl, λ q. absurd (true≢false (sym e ∙ q)))
as_many_where bit bits false values e = (λ q. absurd (true≢false (sym q ∙ e)), λ _. refl)

each_cond : {X : Type 0} (P : X → Type 0) (b : Bool) (xs : List X) → Each P xs → Each P (cond b xs [])
each_cond P true xs h = h
each_cond P false xs h = tt

pair_cond : {X : Type 0} (R : X → X → Type 0) (b : Bool) (xs : List X) → EachPair R xs → EachPair R (cond b xs [])
pair_cond R true xs h = h
pair_cond R false xs h = tt

abbrev vector_bits : Bool → Bool → ℕ
vector_bits positions offsets = bit_if positions 1 + bit_if offsets 2

vector_bits-lt : (p o : Bool) → vector_bits p o < 4
vector_bits-lt true true = lit< tt
vector_bits-lt true false = lit< tt
vector_bits-lt false true = lit< tt
vector_bits-lt false false = lit< tt

bit_1 : (p o : Bool) → has_bit 1 (vector_bits p o) ≡ p
bit_1 true true = refl
bit_1 true false = refl
bit_1 false true = refl
bit_1 false false = refl

bit_2 : (p o : Bool) → has_bit 2 (vector_bits p o) ≡ o
bit_2 true true = refl
bit_2 true false = refl
bit_2 false true = refl
bit_2 false false = refl

not_empty : {X : Type 0} (x : X) (xs : List X) → IsIn x xs → 0 < length xs
not_empty x [] h = absurd h
not_empty x (y ∷ xs) h = omega arith

AreAsMany-length : {X : Type 0} (bit bits n : ℕ) (values : List X) → n ≡ length values → (wanted : Bool) → has_bit bit bits ≡ wanted → AreAsMany bit bits n (cond wanted values [])
AreAsMany-length bit bits n values e wanted q = subst (λ m. AreAsMany bit bits m (cond wanted values [])) (sym e) (as_many_where bit bits wanted values q)

module _ (limits : Limits) (small : IsSmall limits.tokens) (f : IndexedField) (sound : IsSoundField limits f) (made : IsIndexedField f) where
  -- a term of a vector of a sound field
  is_term : (p o : Bool) (text : List ℕ) → IsIn text (map (λ (token : Token). token.text) f.tokens) → IsVectorTerm (vector_bits p o) (term_with p o f.tokens text)
  is_term p o text h =
      let test = λ (token : Token). bytes_eq text token.text in
      let found = tokens_with text f.tokens in
      let at = from_map (λ (token : Token). token.text) text f.tokens h in
      let one = each_at IsSoundToken at.0 f.tokens (each_sound 0 f.tokens sound.tokens) at.1 in
      let inside : IsIn at.0 found = in_filter test at.0 f.tokens at.1 ((bytes_decides text at.0.text).1 at.2) in
      let each = each_filter IsSoundToken test f.tokens (each_sound 0 f.tokens sound.tokens) in
      let fewer : length found ≤ length f.tokens = length_filter-le test f.tokens in
      let few : length f.tokens ≤ limits.tokens = sound.few in
      let position = λ (token : Token). token.position in
      let span : Token → Span = λ token. record { start = token.start; end = token.end } in
      record {
        text = subst IsText (sym at.2) ((each_at IsToken at.0 f.tokens (each-from_all IsToken f.tokens made.tokens) at.1).text, small_bytes (length at.0.text) one.text);
        some = not_empty at.0 found inside;
        few = omega (arith, fewer, few, small);
        positions = AreAsMany-length 1 (vector_bits p o) (length found) (map position found) (sym (length-map found position)) p (bit_1 p o);
        spans = AreAsMany-length 2 (vector_bits p o) (length found) (map span found) (sym (length-map found span)) o (bit_2 p o);
        rise = non_decreasing (cond p (map position found) []) (pair_cond (λ m n. m ≤ n) p (map position found) (pair_map (λ m n. m ≤ n) position found (pair_filter (λ (a b : Token). a.position ≤ b.position) test f.tokens (do_not_fall 0 f.tokens sound.tokens))));
        low = all-from_each IsSmall (cond p (map position found) []) (each_cond IsSmall p (map position found) (each_map IsSmall position found (each_in (λ (token : Token). IsSmall token.position) found (λ token k. small_place token.position (each_at IsSoundToken token found each k).position))));
        within = all-from_each (λ (s : Span). (s.start ≤ s.end) × IsSmall s.end) (cond o (map span found) []) (each_cond (λ (s : Span). (s.start ≤ s.end) × IsSmall s.end) o (map span found) (each_map (λ (s : Span). (s.start ≤ s.end) × IsSmall s.end) span found (each_in (λ (token : Token). (token.start ≤ token.end) × IsSmall token.end) found (λ token k.
            let right = each_at IsSoundToken token found each k in (right.start, small_place token.end right.end)))));
      }

  -- the vector of a sound field that has vectors in the table
  pub is_vector : (table : List TableField) → has_vectors table (vector_of f) ≡ true → IsVector table (vector_in table (vector_of f))
  is_vector table vectors =
      let p = keeps_positions f.vector in
      let o = keeps_offsets f.vector in
      let texts = map (λ (token : Token). token.text) f.tokens in
      let rising = in_order text_cmp texts in
      let count : length (map (term_with p o f.tokens) rising) ≡ length rising = length-map rising (term_with p o f.tokens) in
      let fewer : length rising ≤ length texts = length_in_order-le text_cmp texts in
      let same : length texts ≡ length f.tokens = length-map f.tokens (λ (token : Token). token.text) in
      let few : length f.tokens ≤ limits.tokens = sound.few in
      record {
        field = vectors;
        bits = vector_bits-lt p o;
        few = omega (arith, count, fewer, same, few, small);
        rise = subst (IsStrictlySortedBy text_cmp) (sym (again p o rising)) (rises-in_order text_cmp text_order texts);
        terms = all-from_each (IsVectorTerm (vector_bits p o)) (map (term_with p o f.tokens) rising) (each_map (IsVectorTerm (vector_bits p o)) (term_with p o f.tokens) rising (each_in (λ text. IsVectorTerm (vector_bits p o) (term_with p o f.tokens text)) rising (λ text k. is_term p o text (from_in_order text_cmp text_order text texts k))));
      }
    where
      again : (p o : Bool) (texts : List (List ℕ)) → map (λ (term : VectorTerm). term.text) (map (term_with p o f.tokens) texts) ≡ texts
      again p o [] = refl
      again p o (t ∷ texts) = λ i. t ∷ again p o texts i

apart_from : (name : List ℕ) (fields : List IndexedField) → Each (λ other. name ≢ other) (map (λ (field : IndexedField). field.field) fields) → Each (λ (g : IndexedField). name ≢ g.field) fields
apart_from name [] h = tt
apart_from name (g ∷ fields) h = (h.0, apart_from name fields h.1)

apart_pairs : (fields : List IndexedField) → AreApart (map (λ (field : IndexedField). field.field) fields) → EachPair (λ (f g : IndexedField). f.field ≢ g.field) fields
apart_pairs [] h = tt
apart_pairs (f ∷ fields) h = (apart_from f.field fields (each_by_recursion (λ other. f.field ≢ other) (map (λ (field : IndexedField). field.field) fields) h.0), apart_pairs fields h.1)

-- the vectors of a sound document
module _ (table : List TableField) (doc : Document) (limits : Limits) (small : IsSmall limits.tokens) (fields : HasFields table doc) (sound : IsSound doc limits) (made : IsDocument doc) where
  abbrev named : List (FieldVector (List ℕ))
  named = map vector_of (filter has_vector_of doc.indexed)

  pub vectors_few : IsSmall (length doc.indexed) → IsSmall (length (map (vector_in table) (filter (has_vectors table) named)))
  vectors_few few =
      let a : length (map (vector_in table) (filter (has_vectors table) named)) ≡ length (filter (has_vectors table) named) = length-map (filter (has_vectors table) named) (vector_in table) in
      let b = length_filter-le (has_vectors table) named in
      let c : length named ≡ length (filter has_vector_of doc.indexed) = length-map (filter has_vector_of doc.indexed) vector_of in
      let d = length_filter-le has_vector_of doc.indexed in
      omega (arith, a, b, c, d, few)

  pub vectors_are : Each (IsVector table) (map (vector_in table) (filter (has_vectors table) named))
  vectors_are = each_map (IsVector table) (vector_in table) (filter (has_vectors table) named) (each_in (λ v. IsVector table (vector_in table v)) (filter (has_vectors table) named) (λ v h.
      let kept = from_filter (has_vectors table) v named h in
      let from = from_map vector_of v (filter has_vector_of doc.indexed) kept.0 in
      let inside = from_filter has_vector_of from.0 doc.indexed from.1 in
      let right = sound_field table doc limits small fields sound made from.0 inside.0 in
      let of = made_field table doc limits small fields sound made from.0 inside.0 in
      subst (λ w. IsVector table (vector_in table w)) (sym from.2) (is_vector limits small from.0 right of table (ap (has_vectors table) (sym from.2) ∙ kept.1))))

  pub vectors_apart : EachPair (λ (v w : (FieldVector ℕ)). v.field ≢ w.field) (map (vector_in table) (filter (has_vectors table) named))
  vectors_apart =
      pair_map (λ (v w : (FieldVector ℕ)). v.field ≢ w.field) (vector_in table) (filter (has_vectors table) named)
      (pair_filter (λ (v w : (FieldVector (List ℕ))). field_number v.field table ≢ field_number w.field table) (has_vectors table) named
      (pair_map (λ (v w : (FieldVector (List ℕ))). field_number v.field table ≢ field_number w.field table) vector_of (filter has_vector_of doc.indexed)
      (pair_filter (λ (f g : IndexedField). field_number f.field table ≢ field_number g.field table) has_vector_of doc.indexed
      (pair_weaker (λ (f g : IndexedField). field_number f.field table ≢ field_number g.field table) (λ (f g : IndexedField). f.field ≢ g.field) doc.indexed
      (λ f g p q differ same. differ (sym (name_at-Has table (indexed_field f) (HasFields-indexed table doc fields f p)) ∙ ap (name_of table) same ∙ name_at-Has table (indexed_field g) (HasFields-indexed table doc fields g q)))
      (apart_pairs doc.indexed sound.apart)))))
