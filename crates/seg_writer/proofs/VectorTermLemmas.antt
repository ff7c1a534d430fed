-- The terms of a field, as its vector has them.
use Rattle.std.proofs.Common.{◌≡◌, refl, ap, sym, ◌∙◌, subst, ℕ, zero, suc, ◌<◌, ◌≤◌, ◌^◌, List, [], ◌∷◌, length, map, take, get_or, cond, All, arith}
use Rattle.std.proofs.lemmas.List.{append-nil, length-map, take_all}
use Rattle.lu_prims.specs.Order.{text_cmp}
use Rattle.lu_types.specs.DocFaults.{AreSoundTokens}
use Rattle.lu_types.specs.Joins.{keeps_positions, keeps_offsets}
use Rattle.lu_types.specs.declared.document.IndexedField.{IndexedField}
use Rattle.lu_types.specs.declared.document.Token.{Token}
use Rattle.lu_types.specs.declared.document.Vector.{Vector}
use Rattle.lu_types.specs.declared.document.Vector.TheVariants.{Off, Plain, Positions, Offsets, Both}
use Rattle.lu_model.specs.Index.{VectorTerm, in_order}
use Rattle.lu_model.specs.Contents.{tokens_with, vector_of}
use Rattle.lu_model.proofs.Words.{Each}
use Rattle.lu_model.proofs.Each.{each-from_all, each_map, length_in_order-le}
use Rattle.term_vectors.specs.VectorWriting.{VectorWriting, with_vector_begun}
use Rattle.seg_writer.specs.declared.appearance.Appearance.{Appearance}
use Rattle.seg_writer.specs.declared.inverted.Inverted.{Inverted}
use Rattle.seg_writer.specs.Columns.{tokens_in_field, uses_among, uses_of}
use Rattle.seg_writer.specs.Entries.{tokens_at, IsWritableField}
use Rattle.seg_writer.specs.Texts.{AreInverted, texts_in, texts_of}
use Rattle.seg_writer.specs.VectorSteps.{with_whole_terms, with_whole_vector, kept_positions, kept_spans, term_of_uses, token_span, kind_bits, numbered_vector, IsWritableText}
use Rattle.seg_writer.proofs.TextLemmas.{inverted-texts, texts-short}
use Rattle.seg_writer.proofs.TokenLemmas.{run-among, tokens-from, uses-few, uses-many}
use Rattle.seg_writer.proofs.VectorStepLemmas.{IsKept, IsKeptVector}

-- ---- one term

-- a term of a vector with these bits: its text, how often it stands there, and the tokens
abbrev term_from : ℕ → List ℕ → ℕ → List Token → VectorTerm
term_from bits text count found = record { text = text; frequency = count; positions = kept_positions bits found; spans = kept_spans bits found }

-- a term of a vector of this kind: its text, and the tokens
abbrev term_of_kind : Vector → List ℕ → List Token → VectorTerm
term_of_kind kind text found = record {
  text = text;
  frequency = length found;
  positions = cond (keeps_positions kind) (map (λ token. token.position) found) [];
  spans = cond (keeps_offsets kind) (map token_span found) [];
}

by-kind : (kind : Vector) (text : List ℕ) (found : List Token) → term_from (kind_bits kind) text (length found) found ≡ term_of_kind kind text found
by-kind Off text found = refl
by-kind Plain text found = refl
by-kind Positions text found = refl
by-kind Offsets text found = refl
by-kind Both text found = refl

kept-by-kind : (kind : Vector) (text : List ℕ) (found : List Token) → IsKept (kind_bits kind) (term_of_kind kind text found)
kept-by-kind Off text found = record { positions = refl; spans = refl }
kept-by-kind Plain text found = record { positions = refl; spans = refl }
kept-by-kind Positions text found = record { positions = length-map found (λ (token : Token). token.position); spans = refl }
kept-by-kind Offsets text found = record { positions = refl; spans = length-map found token_span }
kept-by-kind Both text found = record { positions = length-map found (λ (token : Token). token.position); spans = length-map found token_span }

-- the term of a text in the vector of a field
abbrev pub term_in_vector : IndexedField → List ℕ → VectorTerm
term_in_vector field text = term_of_kind field.vector text (tokens_with text field.tokens)

-- the tokens of a text of the field that stands alone in a column
module _ (a : Appearance) (t : Inverted) (uses : t.uses.now ≡ uses_of t.text.now (a ∷ [])) where
  alone : t.uses.now ≡ uses_among t.text.now a.doc 0 0 (tokens_in_field a)
  alone = uses ∙ append-nil (uses_among t.text.now a.doc 0 0 (tokens_in_field a))

  found : tokens_at (tokens_in_field a) t.uses.now ≡ tokens_with t.text.now (tokens_in_field a)
  found = ap (tokens_at (tokens_in_field a)) alone ∙ tokens-from t.text.now a.doc 0 0 (tokens_in_field a) (tokens_in_field a) refl

  count : length t.uses.now ≡ length (tokens_with t.text.now (tokens_in_field a))
  count = ap length alone ∙ uses-many t.text.now a.doc 0 (tokens_in_field a)

  pub term-of : term_of_uses (kind_bits a.field.now.vector) (tokens_in_field a) t ≡ term_in_vector a.field.now t.text.now
  term-of =
      ap (term_from (kind_bits a.field.now.vector) t.text.now (length t.uses.now)) found
      ∙ ap (λ n. term_from (kind_bits a.field.now.vector) t.text.now n (tokens_with t.text.now (tokens_in_field a))) count
      ∙ by-kind a.field.now.vector t.text.now (tokens_with t.text.now (tokens_in_field a))

  pub writable-text : IsWritableField a.field.now → length t.text.now < 2 ^ 31 → IsWritableText (tokens_in_field a) t
  writable-text field short =
      let most = uses-few t.text.now a.doc 0 (tokens_in_field a) in
      let same = ap length alone in
      let few = field.few in record {
        short = short;
        few = omega (arith, most, same, few);
        within = subst (All (λ here. here.token < length (tokens_in_field a))) (sym alone) (run-among t.text.now a.doc 0 (tokens_in_field a) field.sound).within;
      }

-- ---- all terms

terms-each : (a : Appearance) (ts : List Inverted) → Each (λ (t : Inverted). t.uses.now ≡ uses_of t.text.now (a ∷ [])) ts
    → map (term_of_uses (kind_bits a.field.now.vector) (tokens_in_field a)) ts ≡ map (term_in_vector a.field.now) (texts_in ts)
terms-each a [] uses = refl
terms-each a (t ∷ ts) uses =
    ap (λ u. u ∷ map (term_of_uses (kind_bits a.field.now.vector) (tokens_in_field a)) ts) (term-of a t uses.0)
    ∙ ap (λ us. term_in_vector a.field.now t.text.now ∷ us) (terms-each a ts uses.1)

texts-alone : (a : Appearance) → texts_of (a ∷ []) ≡ in_order text_cmp (map (λ (t : Token). t.text) (tokens_in_field a))
texts-alone a = ap (in_order text_cmp) (append-nil (map (λ (t : Token). t.text) (tokens_in_field a)))

-- the terms of a column of one field are those of the field's vector
pub terms-of : (a : Appearance) (ts : List Inverted) → AreInverted (a ∷ []) ts → map (term_of_uses (kind_bits a.field.now.vector) (tokens_in_field a)) ts ≡ (vector_of a.field.now).terms
terms-of a ts h =
    terms-each a ts (each-from_all (λ (t : Inverted). t.uses.now ≡ uses_of t.text.now (a ∷ [])) ts (λ k d lt. (h.uses k d lt).0))
    ∙ ap (map (term_in_vector a.field.now)) (inverted-texts (a ∷ []) ts h ∙ texts-alone a)

pub terms-writable : (a : Appearance) (ts : List Inverted) → IsWritableField a.field.now → AreInverted (a ∷ []) ts → All (IsWritableText (tokens_in_field a)) ts
terms-writable a ts field h k d lt =
    writable-text a (get_or ts k d) (h.uses k d lt).0 field (texts-short (a ∷ []) ts h sound k d lt)
  where
    sound : All (λ b. AreSoundTokens 0 (tokens_in_field b)) (a ∷ [])
    sound zero d lt = field.sound
    sound (suc k) d lt = absurd (omega (arith, lt))

pub terms-few : (a : Appearance) (ts : List Inverted) → IsWritableField a.field.now → AreInverted (a ∷ []) ts → length ts < 2 ^ 31
terms-few a ts field h =
    let texts = map (λ (t : Token). t.text) (tokens_in_field a) in
    let own = sym (length-map ts (λ (t : Inverted). t.text.now)) ∙ ap length (inverted-texts (a ∷ []) ts h ∙ texts-alone a) in
    let once = length_in_order-le text_cmp texts in
    let all = length-map (tokens_in_field a) (λ (t : Token). t.text) in
    let few = field.few in
    omega (arith, own, once, all, few)

-- a writer that was handed all of them, after so many were announced, was handed the vector
pub vector-handed : (a : Appearance) (ts : List Inverted) (number bits count k : ℕ) (before start w : VectorWriting) → AreInverted (a ∷ []) ts → bits ≡ kind_bits a.field.now.vector → count ≡ length ts → length ts ≤ k
    → start ≡ with_vector_begun number bits count before → w ≡ with_whole_terms (map (term_of_uses bits (tokens_in_field a)) (take k ts)) start → w ≡ with_whole_vector (numbered_vector number (vector_of a.field.now)) before
vector-handed a ts number bits count k before start w h kind many all begun was =
    let terms = (vector_of a.field.now).terms in
    let same = terms-of a ts h in
    let announced : count ≡ length terms = many ∙ sym (length-map ts (term_of_uses (kind_bits a.field.now.vector) (tokens_in_field a))) ∙ ap length same in
    was
    ∙ ap (λ us. with_whole_terms (map (term_of_uses bits (tokens_in_field a)) us) start) (take_all k ts all)
    ∙ ap (λ b. with_whole_terms (map (term_of_uses b (tokens_in_field a)) ts) start) kind
    ∙ ap (λ us. with_whole_terms us start) same
    ∙ ap (with_whole_terms terms) (begun ∙ ap (λ b. with_vector_begun number b count before) kind ∙ ap (λ n. with_vector_begun number (kind_bits a.field.now.vector) n before) announced)

-- each term of the vector of a field has what is kept
pub kept-vector : (number : ℕ) (field : IndexedField) → IsKeptVector (numbered_vector number (vector_of field))
kept-vector number field = each_map (IsKept (kind_bits field.vector)) (term_in_vector field) texts (each-kept texts)
  where
    texts : List (List ℕ)
    texts = in_order text_cmp (map (λ (t : Token). t.text) field.tokens)

    each-kept : (ts : List (List ℕ)) → Each (λ t. IsKept (kind_bits field.vector) (term_in_vector field t)) ts
    each-kept [] = tt
    each-kept (t ∷ ts) = (kept-by-kind field.vector t (tokens_with t field.tokens), each-kept ts)
