-- What documents hold, against the fields that a table has.
use Rattle.std.proofs.Common.{◌≡◌, ℕ, Bool, true, false, not, cond, List, [], ◌∷◌, Option, Some, None, map, refl, sym, ap, ◌∙◌, subst, inl}
use Rattle.std.specs.Prelude.{flat_map, is_some, ◌&&◌}
use Rattle.std.specs.List.{find}
use Rattle.std.specs.Str.{bytes_eq}
use Rattle.std.specs.Cmp.Lexicographic.{bytes_decides}
use mathlib.Core.Bool.{true≢false}
use Rattle.lu_types.specs.Bits.{has_bit}
use Rattle.lu_types.specs.Tables.{TableField}
use Rattle.lu_types.specs.Bits as bit
use Rattle.lu_types.specs.declared.document.Document.{Document}
use Rattle.lu_types.specs.declared.document.IndexedField.{IndexedField}
use Rattle.lu_types.specs.declared.document.Token.{Token}
use Rattle.lu_types.specs.declared.stored.StoredValue.{StoredValue}
use Rattle.lu_model.specs.Index.{Term}
use Rattle.lu_model.specs.Contents.{bits_of, content_of, given_if_any, has_norms, tokens_for, tokens_with}
use Rattle.lu_model.proofs.Words.{IsIn, same_term, terms_of, norm_if_any}
use Rattle.lu_types.specs.Joins.{is_empty, has_payloads, stored_field, indexed_field, fields_of, asked_bits}
use Rattle.lu_model.proofs.Among.{in_left, in_right, in_map, from_map, in_filter, from_filter, in_flat_map, from_flat_map}
use Rattle.lu_model.proofs.Asked.{indexed-asked, omit_norms-asked}
use Rattle.lu_model.proofs.Bits.{Says}
use Rattle.lu_model.proofs.Tables.{Has, Says-Has, find_in, same_name}

-- the table has each field of the document
abbrev pub HasFields : List TableField → Document → Type 0
HasFields table doc = (f : TableField) → IsIn f (fields_of doc) → Has table f

some_item : {X : Type 0} (xs : List X) → is_empty xs ≡ false → (x : X) × IsIn x xs
some_item [] e = absurd (true≢false e)
some_item (x ∷ xs) e = (x, inl refl)

not_empty : {X : Type 0} (x : X) (xs : List X) → IsIn x xs → is_empty xs ≡ false
not_empty x [] h = absurd h
not_empty x (y ∷ xs) h = refl

is_some-given : (tokens : List Token) → is_some (given_if_any tokens) ≡ not (is_empty tokens)
is_some-given [] = refl
is_some-given (t ∷ tokens) = refl

pub both_true : (a b : Bool) → (a && b) ≡ true → (a ≡ true) × (b ≡ true)
both_true true b e = (refl, e)
both_true false b e = absurd (true≢false (sym e))

-- whether two terms are the same decides that they are
pub same_term-true : (a b : Term) → same_term a b ≡ true → a ≡ b
same_term-true a b e =
    let parts = both_true (bytes_eq a.field b.field) (bytes_eq a.text b.text) e in
    let field = (bytes_decides a.field b.field).0 parts.0 in
    let text = (bytes_decides a.text b.text).0 parts.1 in
    λ i. record { field = field i; text = text i }

pub same_term-itself : (a : Term) → same_term a a ≡ true
same_term-itself a = ap (λ b. b && bytes_eq a.text a.text) (same_name a.field) ∙ same_name a.text

if_not : (b : Bool) → not b ≡ true → b ≡ false
if_not true e = absurd (true≢false (sym e))
if_not false e = refl

-- ---- terms

-- the field in which a term stands
pub record StandsIn (doc : Document) (term : Term) : Type 0 where
  pub field : IndexedField
  pub token : Token
  pub inside : IsIn field doc.indexed
  pub in_tokens : IsIn token field.tokens
  pub name : term.field ≡ field.field
  pub text : term.text ≡ token.text

pub stands_in : (doc : Document) (term : Term) → IsIn term (content_of doc).terms → StandsIn doc term
stands_in doc term h =
    let f = from_flat_map terms_of term doc.indexed h in
    let t = from_map (λ (token : Token). let one : Term = record { field = f.0.field; text = token.text } in one) term f.0.tokens f.2 in record {
      field = f.0;
      token = t.0;
      inside = f.1;
      in_tokens = t.1;
      name = ap (λ (w : Term). w.field) t.2;
      text = ap (λ (w : Term). w.text) t.2;
    }

pub in_terms : (doc : Document) (term : Term) → StandsIn doc term → IsIn term (content_of doc).terms
in_terms doc term s =
    let same : record { field = s.field.field; text = s.token.text } ≡ term = λ i. record { field = sym s.name i; text = sym s.text i } in
    in_flat_map terms_of s.field term doc.indexed s.inside
    (subst (λ (w : Term). IsIn w (terms_of s.field)) same (in_map (λ (token : Token). let one : Term = record { field = s.field.field; text = token.text } in one) s.token s.field.tokens s.in_tokens))

in_cond : {X : Type 0} (x : X) (b : Bool) (xs : List X) → IsIn x (cond b xs []) → (b ≡ true) × IsIn x xs
in_cond x true xs h = (refl, h)
in_cond x false xs h = absurd h

-- something is known of each term of a document, and of no other
pub some-occurrences : (doc : Document) (term : Term) → IsIn term (content_of doc).terms → is_some ((content_of doc).occurrences term) ≡ true
some-occurrences doc term h =
    let s = stands_in doc term h in
    let with_text = in_filter (λ (token : Token). bytes_eq term.text token.text) s.token s.field.tokens s.in_tokens ((bytes_decides term.text s.token.text).1 s.text) in
    let for_term : IsIn s.token (tokens_for term s.field) = subst (λ b. IsIn s.token (cond b (tokens_with term.text s.field.tokens) [])) (sym ((bytes_decides term.field s.field.field).1 s.name)) with_text in
    is_some-given (flat_map (tokens_for term) doc.indexed) ∙ ap not (not_empty s.token (flat_map (tokens_for term) doc.indexed) (in_flat_map (tokens_for term) s.field s.token doc.indexed s.inside for_term))

pub occurrences-in_terms : (doc : Document) (term : Term) → is_some ((content_of doc).occurrences term) ≡ true → IsIn term (content_of doc).terms
occurrences-in_terms doc term e =
    let any = some_item (flat_map (tokens_for term) doc.indexed) (if_not (is_empty (flat_map (tokens_for term) doc.indexed)) (sym (is_some-given (flat_map (tokens_for term) doc.indexed)) ∙ e)) in
    let f = from_flat_map (tokens_for term) any.0 doc.indexed any.1 in
    let here = in_cond any.0 (bytes_eq term.field f.0.field) (tokens_with term.text f.0.tokens) f.2 in
    let t = from_filter (λ (token : Token). bytes_eq term.text token.text) any.0 f.0.tokens here.1 in
    in_terms doc term (record {
      field = f.0;
      token = any.0;
      inside = f.1;
      in_tokens = t.0;
      name = (bytes_decides term.field f.0.field).0 here.0;
      text = (bytes_decides term.text any.0.text).0 t.1;
    })

-- ---- fields

pub HasFields-stored : (table : List TableField) (doc : Document) → HasFields table doc → (v : StoredValue) → IsIn v doc.stored → Has table (stored_field v)
HasFields-stored table doc h v k = h (stored_field v) (in_left (stored_field v) (map stored_field doc.stored) (map indexed_field doc.indexed) (in_map stored_field v doc.stored k))

pub HasFields-indexed : (table : List TableField) (doc : Document) → HasFields table doc → (f : IndexedField) → IsIn f doc.indexed → Has table (indexed_field f)
HasFields-indexed table doc h f k = h (indexed_field f) (in_right (indexed_field f) (map stored_field doc.stored) (map indexed_field doc.indexed) (in_map indexed_field f doc.indexed k))

pub Says-indexed : (table : List TableField) (f : IndexedField) → Has table (indexed_field f) → Says (bits_of f.field table) (asked_bits f.vector (is_some f.norm) f.omit_tf (has_payloads f))
Says-indexed table f h = Says-Has table (indexed_field f) h (indexed-asked f.vector (is_some f.norm) f.omit_tf (has_payloads f))

-- a document gives no norm for a field that has none in the table
pub no_norm : (table : List TableField) (doc : Document) → HasFields table doc → (name : List ℕ) → has_norms (bits_of name table) ≡ false → (content_of doc).norm name ≡ None
no_norm table doc h name e = at_found (find (λ field. bytes_eq name field.field) doc.indexed) refl
  where
    at_norm : (f : IndexedField) (norm : Option ℕ) → f.norm ≡ norm → IsIn f doc.indexed → name ≡ f.field → norm ≡ None
    at_norm f None q k n = refl
    at_norm f (Some byte) q k n =
        let says = Says-indexed table f (HasFields-indexed table doc h f k) in
        let asked : has_bit bit.omit_norms (asked_bits f.vector (is_some f.norm) f.omit_tf (has_payloads f)) ≡ false = omit_norms-asked f.vector (is_some f.norm) f.omit_tf (has_payloads f) ∙ ap (λ o. not (is_some o)) q in
        let indexed : has_bit bit.indexed (bits_of name table) ≡ true = ap (λ m. has_bit bit.indexed (bits_of m table)) n ∙ says.indexed in
        let with_norms : has_bit bit.omit_norms (bits_of name table) ≡ false = ap (λ m. has_bit bit.omit_norms (bits_of m table)) n ∙ says.norms asked in
        absurd (true≢false (sym (ap (λ b. b && not (has_bit bit.omit_norms (bits_of name table))) indexed ∙ ap not with_norms) ∙ e))

    at_found : (found : Option IndexedField) → find (λ field. bytes_eq name field.field) doc.indexed ≡ found → norm_if_any found ≡ None
    at_found None q = refl
    at_found (Some f) q =
        let r = find_in (λ (field : IndexedField). bytes_eq name field.field) f doc.indexed q in
        at_norm f f.norm refl r.0 ((bytes_decides name f.field).0 r.1)
