-- Sound tokens, and those of them that have a text.
use Rattle.std.proofs.Common.{◌≡◌, ◌≢◌, ℕ, ◌≤◌, Bool, true, false, not, cond, List, [], ◌∷◌, ◌++◌, map, refl, sym, ap, ◌∙◌, subst, inl, inr, arith}
use Rattle.std.specs.Prelude.{flat_map, ◌||◌}
use Rattle.std.specs.List.{list_any}
use Rattle.std.specs.Str.{bytes_eq}
use Rattle.std.specs.Cmp.Lexicographic.{bytes_decides}
use mathlib.Core.Bool.{true≢false}
use Rattle.lu_types.specs.declared.document.IndexedField.{IndexedField}
use Rattle.lu_types.specs.declared.document.Token.{Token}
use Rattle.lu_types.specs.DocFaults.{IsSoundToken, AreSoundTokens, AreApart}
use Rattle.lu_types.specs.Joins.{is_empty}
use Rattle.lu_model.specs.Index.{Term}
use Rattle.lu_model.specs.Contents.{tokens_for, tokens_with}
use Rattle.lu_model.proofs.Words.{IsIn, Each, EachPair}
use Rattle.lu_model.proofs.Among.{in_map}
use Rattle.lu_model.proofs.Each.{each_in, each_at, each_by_recursion}

-- each of them is sound
pub each_sound : (before : ℕ) (tokens : List Token) → AreSoundTokens before tokens → Each IsSoundToken tokens
each_sound before [] h = tt
each_sound before (t ∷ tokens) h = (h.1, each_sound t.position tokens h.2)

-- none stands before one before it
not_before : (before : ℕ) (tokens : List Token) → AreSoundTokens before tokens → Each (λ t. before ≤ t.position) tokens
not_before before [] h = tt
not_before before (t ∷ tokens) h = (h.0, each_in (λ u. before ≤ u.position) tokens (λ u k. let later : t.position ≤ u.position = each_at (λ w. t.position ≤ w.position) u tokens (not_before t.position tokens h.2) k in omega arith))

pub do_not_fall : (before : ℕ) (tokens : List Token) → AreSoundTokens before tokens → EachPair (λ a b. a.position ≤ b.position) tokens
do_not_fall before [] h = tt
do_not_fall before (t ∷ tokens) h = (not_before t.position tokens h.2, do_not_fall t.position tokens h.2)

pub differs : (a b : List ℕ) → a ≢ b → bytes_eq a b ≡ false
differs a b h = elim (bytes_eq a b) as (λ v. bytes_eq a b ≡ v → v ≡ false) [ true ↦ λ e. absurd (h ((bytes_decides a b).0 e)) | false ↦ λ e. refl ] refl

no_token : (term : Term) (fields : List IndexedField) → Each (λ name. term.field ≢ name) (map (λ (field : IndexedField). field.field) fields) → flat_map (tokens_for term) fields ≡ []
no_token term [] h = refl
no_token term (f ∷ fields) h =
    ap (λ b. cond b (tokens_with term.text f.tokens) [] ++ flat_map (tokens_for term) fields) (differs term.field f.field h.0) ∙ no_token term fields h.1

-- the tokens for a term are those with its text in the one field that has its name
pub one_field : (term : Term) (f : IndexedField) (fields : List IndexedField) → AreApart (map (λ field. field.field) fields) → IsIn f fields → term.field ≡ f.field → flat_map (tokens_for term) fields ≡ tokens_with term.text f.tokens
one_field term f [] apart h e = absurd h
one_field term f (g ∷ fields) apart (inl q) e =
    let name : term.field ≡ g.field = e ∙ ap (λ (w : IndexedField). w.field) q in
    let rest = no_token term fields (subst (λ n. Each (λ name. n ≢ name) (map (λ (field : IndexedField). field.field) fields)) (sym name) (each_by_recursion (λ other. g.field ≢ other) (map (λ (field : IndexedField). field.field) fields) apart.0)) in
    ap (λ b. cond b (tokens_with term.text g.tokens) [] ++ flat_map (tokens_for term) fields) ((bytes_decides term.field g.field).1 name)
    ∙ ap (λ ts. tokens_with term.text g.tokens ++ ts) rest ∙ append_none (tokens_with term.text g.tokens) ∙ ap (λ (w : IndexedField). tokens_with term.text w.tokens) (sym q)
  where
    append_none : (ts : List Token) → ts ++ [] ≡ ts
    append_none [] = refl
    append_none (t ∷ ts) = λ i. t ∷ append_none ts i
one_field term f (g ∷ fields) apart (inr k) e =
    let other : g.field ≢ f.field = each_at (λ name. g.field ≢ name) f.field (map (λ (field : IndexedField). field.field) fields) (each_by_recursion (λ other. g.field ≢ other) (map (λ (field : IndexedField). field.field) fields) apart.0) (in_map (λ (field : IndexedField). field.field) f fields k) in
    ap (λ b. cond b (tokens_with term.text g.tokens) [] ++ flat_map (tokens_for term) fields) (differs term.field g.field (λ q. other (sym q ∙ e)))
    ∙ one_field term f fields apart.1 k e

-- where no token has a payload, each payload is empty
pub no_payload : (tokens : List Token) → list_any (λ (token : Token). not (is_empty token.payload)) tokens ≡ false → Each (λ token. token.payload ≡ []) tokens
no_payload [] e = tt
no_payload (t ∷ tokens) e =
    let parts = neither (not (is_empty t.payload)) (list_any (λ (token : Token). not (is_empty token.payload)) tokens) e in
    (empty t.payload parts.0, no_payload tokens parts.1)
  where
    neither : (a b : Bool) → (a || b) ≡ false → (a ≡ false) × (b ≡ false)
    neither true b e = absurd (true≢false e)
    neither false b e = (refl, e)

    empty : (bytes : List ℕ) → not (is_empty bytes) ≡ false → bytes ≡ []
    empty [] e = refl
    empty (b ∷ bytes) e = absurd (true≢false e)
