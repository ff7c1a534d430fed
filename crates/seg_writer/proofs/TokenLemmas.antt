-- Uses of a text, and the tokens that they are.
use Rattle.std.proofs.Common.{◌≡◌, ◌≢◌, refl, ap, sym, ◌∙◌, subst, ℕ, suc, add-one, ◌+◌, ◌<◌, ◌≤◌, ◌++◌, List, [], ◌∷◌, length, drop, get_or, Bool, true, false, cond, if◌then◌else◌, bytes_eq, All, arith}
use Rattle.std.specs.List.{filter}
use Rattle.std.proofs.lemmas.List.{length-map, length-drop, drop_more}
use Rattle.std.proofs.lemmas.List.Elements.{All-cons}
use Rattle.std.proofs.lemmas.Bool.{eq-eqb, ne_eqb}
use Rattle.lu_types.specs.DocFaults.{AreSoundTokens}
use Rattle.lu_types.specs.Joins.{is_empty}
use Rattle.lu_types.specs.declared.document.Token.{Token}
use Rattle.lu_model.specs.Contents.{tokens_with}
use Rattle.seg_writer.specs.declared.inverted.Use.{Use}
use Rattle.seg_writer.specs.Columns.{use_of, uses_among}
use Rattle.seg_writer.specs.Entries.{no_token, tokens_at, run_length, IsRun}

abbrev head_or : Token → List Token → Token
head_or d [] = d
head_or d (t ∷ ts) = t

abbrev tail_of : List Token → List Token
tail_of [] = []
tail_of (t ∷ ts) = ts

-- tokens from a number on are a token and those from the next number on
from-next : (tokens : List Token) (n : ℕ) (t : Token) (ts : List Token) → drop n tokens ≡ t ∷ ts → (n < length tokens) × (get_or tokens n no_token ≡ t) × (drop (suc n) tokens ≡ ts)
from-next tokens n t ts is =
    let size = length-drop n tokens in
    let some = ap length is in
    let lt : n < length tokens = omega (arith, size, some) in
    let more = sym (drop_more tokens n no_token lt) ∙ is in
    (lt, ap (head_or no_token) more, ap (λ k. drop k tokens) (sym (add-one n)) ∙ ap tail_of more)

-- the uses of a text are its tokens
pub tokens-from : (text : List ℕ) (doc entry n : ℕ) (tokens ts : List Token) → drop n tokens ≡ ts → tokens_at tokens (uses_among text doc entry n ts) ≡ tokens_with text ts
tokens-from text doc entry n tokens [] is = refl
tokens-from text doc entry n tokens (t ∷ ts) is =
    let next = from-next tokens n t ts is in
    elim (bytes_eq text t.text) as (λ b. tokens_at tokens ((if b then use_of t doc entry n ∷ [] else []) ++ uses_among text doc entry (suc n) ts) ≡ cond b (t ∷ tokens_with text ts) (tokens_with text ts)) [
      | true ↦ ap (λ x. x ∷ tokens_at tokens (uses_among text doc entry (suc n) ts)) next.1 ∙ ap (λ w. t ∷ w) (tokens-from text doc entry (suc n) tokens ts next.2)
      | false ↦ tokens-from text doc entry (suc n) tokens ts next.2
    ]

-- what holds of each token as a use holds of the uses of a text
each-among : (P : Use → Type 0) (text : List ℕ) (doc entry n : ℕ) (tokens ts : List Token) → drop n tokens ≡ ts → ((k : ℕ) → k < length tokens → P (use_of (get_or tokens k no_token) doc entry k)) → All P (uses_among text doc entry n ts)
each-among P text doc entry n tokens [] is each = λ k d lt. absurd (omega (arith, lt))
each-among P text doc entry n tokens (t ∷ ts) is each =
    let next = from-next tokens n t ts is in
    let here : P (use_of t doc entry n) = subst (λ u. P (use_of u doc entry n)) next.1 (each n next.0) in
    let rest = each-among P text doc entry (suc n) tokens ts next.2 each in
    elim (bytes_eq text t.text) as (λ b. All P ((if b then use_of t doc entry n ∷ [] else []) ++ uses_among text doc entry (suc n) ts)) [
      | true ↦ All-cons P (use_of t doc entry n) (uses_among text doc entry (suc n) ts) here rest
      | false ↦ rest
    ]

-- they are of the document
pub docs-among : (text : List ℕ) (doc entry : ℕ) (tokens : List Token) → All (λ (here : Use). here.doc ≡ doc) (uses_among text doc entry 0 tokens)
docs-among text doc entry tokens = each-among (λ (here : Use). here.doc ≡ doc) text doc entry 0 tokens tokens refl (λ k lt. refl)

sound-lower : (below before : ℕ) (ts : List Token) → below ≤ before → AreSoundTokens before ts → AreSoundTokens below ts
sound-lower below before [] le h = tt
sound-lower below before (t ∷ ts) le h = let first = h.0 in (omega (arith, le, first), h.1, h.2)

sound-with : (text : List ℕ) (before : ℕ) (ts : List Token) → AreSoundTokens before ts → AreSoundTokens before (tokens_with text ts)
sound-with text before [] h = tt
sound-with text before (t ∷ ts) (first, own, rest) = elim (bytes_eq text t.text) as (λ b. AreSoundTokens before (cond b (t ∷ tokens_with text ts) (tokens_with text ts))) [
  | true ↦ (first, own, sound-with text t.position ts rest)
  | false ↦ sound-lower before t.position (tokens_with text ts) first (sound-with text t.position ts rest)
]

pub run-among : (text : List ℕ) (doc entry : ℕ) (tokens : List Token) → AreSoundTokens 0 tokens → IsRun tokens (uses_among text doc entry 0 tokens)
run-among text doc entry tokens sound = record {
  within = each-among (λ (here : Use). here.token < length tokens) text doc entry 0 tokens tokens refl (λ k lt. lt);
  sound = subst (AreSoundTokens 0) (sym (tokens-from text doc entry 0 tokens tokens refl)) (sound-with text 0 tokens sound);
  positions = each-among (λ (here : Use). here.position ≡ (get_or tokens here.token no_token).position) text doc entry 0 tokens tokens refl (λ k lt. refl);
}

pub uses-many : (text : List ℕ) (doc entry : ℕ) (tokens : List Token) → length (uses_among text doc entry 0 tokens) ≡ length (tokens_with text tokens)
uses-many text doc entry tokens = sym (length-map (uses_among text doc entry 0 tokens) (λ (here : Use). get_or tokens here.token no_token)) ∙ ap length (tokens-from text doc entry 0 tokens tokens refl)

filter-few : (p : Token → Bool) (ts : List Token) → length (filter p ts) ≤ length ts
filter-few p [] = omega arith
filter-few p (t ∷ ts) = let rest = filter-few p ts in elim (p t) as (λ b. length (cond b (t ∷ filter p ts) (filter p ts)) ≤ suc (length ts)) [ true ↦ omega (arith, rest) | false ↦ omega (arith, rest) ]

pub uses-few : (text : List ℕ) (doc entry : ℕ) (tokens : List Token) → length (uses_among text doc entry 0 tokens) ≤ length tokens
uses-few text doc entry tokens = let same = uses-many text doc entry tokens in let few = filter-few (λ (t : Token). bytes_eq text t.text) tokens in omega (arith, same, few)

pub empty-some : (ts : List Token) → 0 < length ts → is_empty ts ≡ false
empty-some [] some = absurd (omega (arith, some))
empty-some (t ∷ ts) some = refl

pub empty-none : (ts : List Token) → length ts ≡ 0 → is_empty ts ≡ true
empty-none [] none = refl
empty-none (t ∷ ts) none = absurd (omega (arith, none))

-- ---- runs

pub run-own : (text : List ℕ) (doc entry n : ℕ) (ts : List Token) (us : List Use) → run_length entry (uses_among text doc entry n ts ++ us) ≡ length (uses_among text doc entry n ts) + run_length entry us
run-own text doc entry n [] us = omega arith
run-own text doc entry n (t ∷ ts) us =
    let rest = run-own text doc entry (suc n) ts us in
    let next = uses_among text doc entry (suc n) ts in
    elim (bytes_eq text t.text) as (λ b. run_length entry (((if b then use_of t doc entry n ∷ [] else []) ++ next) ++ us) ≡ length ((if b then use_of t doc entry n ∷ [] else []) ++ next) + run_length entry us) [
      | true ↦
          let one : run_length entry (use_of t doc entry n ∷ (next ++ us)) ≡ suc (run_length entry (next ++ us)) = ap (λ b. cond b (suc (run_length entry (next ++ us))) 0) (eq-eqb entry entry refl) in
          omega (arith, one, rest)
      | false ↦ rest
    ]

pub run-other : (text : List ℕ) (doc entry other n : ℕ) (ts : List Token) (us : List Use) → other ≢ entry → run_length entry us ≡ 0 → run_length entry (uses_among text doc other n ts ++ us) ≡ 0
run-other text doc entry other n [] us differs none = none
run-other text doc entry other n (t ∷ ts) us differs none =
    let next = uses_among text doc other (suc n) ts in
    elim (bytes_eq text t.text) as (λ b. run_length entry (((if b then use_of t doc other n ∷ [] else []) ++ next) ++ us) ≡ 0) [
      | true ↦ ap (λ b. cond b (suc (run_length entry (next ++ us))) 0) (ne_eqb other entry differs)
      | false ↦ run-other text doc entry other (suc n) ts us differs none
    ]

-- a use among these is in their field
pub among-entry : (text : List ℕ) (doc entry n : ℕ) (ts : List Token) (first : Use) (more : List Use) → uses_among text doc entry n ts ≡ first ∷ more → first.entry ≡ entry
among-entry text doc entry n [] first more is = absurd (let size = ap length is in omega (arith, size))
among-entry text doc entry n (t ∷ ts) first more is = elim (bytes_eq text t.text) as (λ b. (if b then use_of t doc entry n ∷ [] else []) ++ uses_among text doc entry (suc n) ts ≡ first ∷ more → first.entry ≡ entry) [
  | true ↦ λ same. sym (ap (entry_in entry) same)
  | false ↦ λ same. among-entry text doc entry (suc n) ts first more same
] is
  where
    entry_in : ℕ → List Use → ℕ
    entry_in d [] = d
    entry_in d (u ∷ us) = u.entry
