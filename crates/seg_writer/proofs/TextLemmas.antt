-- The texts of a column, each once, in their order.
use Rattle.std.proofs.Common.{◌≡◌, refl, ap, sym, subst, ℕ, zero, suc, ◌<◌, ◌≤◌, ◌^◌, ◌++◌, List, [], ◌∷◌, length, map, get_or, true, false, if◌then◌else◌, bytes_eq, All, IsUtf8, inl, inr, arith}
use Rattle.std.specs.Cmp.Lexicographic.{bytes_decides}
use Rattle.std.proofs.lemmas.List.{length-append}
use Rattle.lu_prims.specs.Order.{text_cmp}
use Rattle.lu_prims.proofs.Units.{level_same, text_order}
use Rattle.lu_types.specs.Bounds.{most_bytes}
use Rattle.lu_types.specs.DocFaults.{AreSoundTokens}
use Rattle.lu_types.specs.declared.document.Token.{Token}
use Rattle.lu_model.proofs.Words.{IsIn}
use Rattle.lu_model.proofs.Among.{in_left, in_right, in_either, in-from_contains}
use Rattle.lu_model.proofs.Ordered.{only_in_order}
use Rattle.seg_writer.specs.declared.appearance.Appearance.{Appearance}
use Rattle.seg_writer.specs.declared.inverted.Inverted.{Inverted}
use Rattle.seg_writer.specs.Columns.{use_of, tokens_in_field, uses_among, uses_from, uses_of}
use Rattle.seg_writer.specs.Texts.{AreInverted, column_texts, texts_in, texts_of}

used-token : (text : List ℕ) (doc entry n : ℕ) (ts : List Token) → 0 < length (uses_among text doc entry n ts) → IsIn text (map (λ (t : Token). t.text) ts)
used-token text doc entry n [] some = absurd (omega (arith, some))
used-token text doc entry n (t ∷ ts) some = elim (bytes_eq text t.text) as (λ b. bytes_eq text t.text ≡ b → 0 < length ((if b then use_of t doc entry n ∷ [] else []) ++ uses_among text doc entry (suc n) ts) → IsIn text (t.text ∷ map (λ (x : Token). x.text) ts)) [
  | true ↦ λ same more. inl ((bytes_decides text t.text).0 same)
  | false ↦ λ other more. inr (used-token text doc entry (suc n) ts more)
] refl some

token-used : (text : List ℕ) (doc entry n : ℕ) (ts : List Token) → IsIn text (map (λ (t : Token). t.text) ts) → 0 < length (uses_among text doc entry n ts)
token-used text doc entry n [] h = absurd h
token-used text doc entry n (t ∷ ts) (inl is) =
    let one : (if bytes_eq text t.text then use_of t doc entry n ∷ [] else []) ≡ use_of t doc entry n ∷ [] = ap (λ b. if b then use_of t doc entry n ∷ [] else []) ((bytes_decides text t.text).1 is) in
    let size = ap (λ w. length (w ++ uses_among text doc entry (suc n) ts)) one in
    omega (arith, size)
token-used text doc entry n (t ∷ ts) (inr h) =
    let rest = token-used text doc entry (suc n) ts h in
    let size = length-append (if bytes_eq text t.text then use_of t doc entry n ∷ [] else []) (uses_among text doc entry (suc n) ts) in
    omega (arith, rest, size)

used-by : (text : List ℕ) (n : ℕ) (a : Appearance) (column : List Appearance) (k : ℕ) → length (uses_among text a.doc n 0 (tokens_in_field a)) ≡ k → (0 < length (uses_from text (suc n) column) → IsIn text (column_texts column)) → 0 < length (uses_from text n (a ∷ column)) → IsIn text (column_texts (a ∷ column))
used-by text n a column zero none later some =
    let size = length-append (uses_among text a.doc n 0 (tokens_in_field a)) (uses_from text (suc n) column) in
    in_right text (map (λ (t : Token). t.text) (tokens_in_field a)) (column_texts column) (later (omega (arith, size, none, some)))
used-by text n a column (suc k) many later some = in_left text (map (λ (t : Token). t.text) (tokens_in_field a)) (column_texts column) (used-token text a.doc n 0 (tokens_in_field a) (omega (arith, many)))

pub used-in : (text : List ℕ) (n : ℕ) (column : List Appearance) → 0 < length (uses_from text n column) → IsIn text (column_texts column)
used-in text n [] some = absurd (omega (arith, some))
used-in text n (a ∷ column) some = used-by text n a column (length (uses_among text a.doc n 0 (tokens_in_field a))) refl (used-in text (suc n) column) some

pub in-used : (text : List ℕ) (n : ℕ) (column : List Appearance) → IsIn text (column_texts column) → 0 < length (uses_from text n column)
in-used text n [] h = absurd h
in-used text n (a ∷ column) h =
    let size = length-append (uses_among text a.doc n 0 (tokens_in_field a)) (uses_from text (suc n) column) in
    elim (in_either text (map (λ (t : Token). t.text) (tokens_in_field a)) (column_texts column) h) [
      | inl here ↦ (let own = token-used text a.doc n 0 (tokens_in_field a) here in omega (arith, own, size))
      | inr there ↦ (let rest = in-used text (suc n) column there in omega (arith, rest, size))
    ]

-- what holds of the text of each term holds of each text that is listed
each-listed : (P : List ℕ → Type 0) (terms : List Inverted) → All (λ (t : Inverted). P t.text.now) terms → (text : List ℕ) → IsIn text (texts_in terms) → P text
each-listed P [] all text h = absurd h
each-listed P (t ∷ terms) all text (inl is) = subst P (sym is) (all 0 t (omega arith))
each-listed P (t ∷ terms) all text (inr h) = each-listed P terms (λ k d lt. all (suc k) d (omega (arith, lt))) text h

pub listed-used : (column : List Appearance) (terms : List Inverted) → AreInverted column terms → (text : List ℕ) → IsIn text (texts_in terms) → 0 < length (uses_of text column)
listed-used column terms h = each-listed (λ text. 0 < length (uses_of text column)) terms (λ k d lt. let own = h.uses k d lt in subst (λ w. 0 < length w) own.0 own.1)

listed-utf8 : (column : List Appearance) (terms : List Inverted) → AreInverted column terms → (text : List ℕ) → IsIn text (column_texts column) → IsUtf8 text
listed-utf8 column terms h text is = each-listed IsUtf8 terms h.utf8 text (in-from_contains text (texts_in terms) (h.complete text (in-used text 0 column is)))

-- the texts of a column
pub inverted-texts : (column : List Appearance) (terms : List Inverted) → AreInverted column terms → texts_in terms ≡ texts_of column
inverted-texts column terms h =
    only_in_order text_cmp text_order (column_texts column) (texts_in terms)
    (λ x y p q e. level_same x y (listed-utf8 column terms h x p) (listed-utf8 column terms h y q) e)
    h.rise
    (record {
      to = λ text is. used-in text 0 column (listed-used column terms h text is);
      from = λ text is. in-from_contains text (texts_in terms) (h.complete text (in-used text 0 column is));
    })

-- ---- texts are short

token-short : (text : List ℕ) (before : ℕ) (ts : List Token) → AreSoundTokens before ts → IsIn text (map (λ (t : Token). t.text) ts) → length text ≤ most_bytes
token-short text before [] sound h = absurd h
token-short text before (t ∷ ts) (first, own, rest) (inl is) = subst (λ w. length w ≤ most_bytes) (sym is) own.text
token-short text before (t ∷ ts) (first, own, rest) (inr h) = token-short text t.position ts rest h

column-short : (text : List ℕ) (column : List Appearance) → All (λ a. AreSoundTokens 0 (tokens_in_field a)) column → IsIn text (column_texts column) → length text ≤ most_bytes
column-short text [] sound h = absurd h
column-short text (a ∷ column) sound h = elim (in_either text (map (λ (t : Token). t.text) (tokens_in_field a)) (column_texts column) h) [
  | inl here ↦ token-short text 0 (tokens_in_field a) (sound 0 a (omega arith)) here
  | inr there ↦ column-short text column (λ k d lt. sound (suc k) d (omega (arith, lt))) there
]

pub texts-short : (column : List Appearance) (terms : List Inverted) → AreInverted column terms → All (λ a. AreSoundTokens 0 (tokens_in_field a)) column → All (λ (t : Inverted). length t.text.now < 2 ^ 31) terms
texts-short column terms h sound k d lt =
    let own = h.uses k d lt in
    let text = (get_or terms k d).text.now in
    let short = column-short text column sound (used-in text 0 column (subst (λ w. 0 < length w) own.0 own.1)) in
    omega (arith, short)
