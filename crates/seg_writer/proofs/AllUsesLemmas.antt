-- The uses of a column, all in order.
use Rattle.std.proofs.Common.{◌≡◌, refl, ap, sym, ◌∙◌, subst, ℕ, zero, suc, ◌+◌, ◌<◌, ◌++◌, List, [], ◌∷◌, length, take, get_or, Bool, true, false, cond, if◌then◌else◌, bytes_eq, All, IsUtf8, Some, slice_get, arith}
use Rattle.std.specs.List.{filter, AllByRecursion}
use Rattle.std.specs.List.Sorted.{IsStrictlySortedBy}
use Rattle.std.specs.declared.cmp.Ordering.TheVariants.{Less}
use Rattle.std.specs.Cmp.{nat_cmp_total, tied_itself}
use Rattle.std.specs.Ordering.{nat_cmp, ordering_then}
use Rattle.std.specs.Option.{option_map_or}
use Rattle.std.proofs.lemmas.List.{append_assoc, append-nil, take_more, length-take}
use Rattle.std.proofs.lemmas.List.Elements.{All-append, All-cons, All-tail, filter-append}
use Rattle.std.proofs.lemmas.Option.{none-some, same_Some}
use Rattle.lu_prims.proofs.OrderLemmas.{nat_less}
use Rattle.lu_types.specs.declared.document.Token.{Token}
use Rattle.seg_writer.specs.declared.appearance.Appearance.{Appearance}
use Rattle.seg_writer.specs.declared.inverted.Use.{Use}
use Rattle.seg_writer.specs.Columns.{all_uses, field_uses, token_uses, tokens_in_field, use_of, uses_among, uses_from, uses_of}
use Rattle.seg_writer.specs.Heads.{text_head}
use Rattle.seg_writer.specs.SortedUses.{is_of, place_cmp, text_at}

-- ---- one token or field more

token_uses-push : (doc entry n : ℕ) (ts : List Token) (t : Token) → token_uses doc entry n (ts ++ t ∷ []) ≡ token_uses doc entry n ts ++ use_of t doc entry (n + length ts) ∷ []
token_uses-push doc entry n [] t =
    let e : n ≡ n + 0 = omega arith in
    ap (λ k. use_of t doc entry k ∷ []) e
token_uses-push doc entry n (s ∷ ts) t =
    let e : suc n + length ts ≡ n + suc (length ts) = omega arith in
    ap (λ w. use_of s doc entry n ∷ w) (token_uses-push doc entry (suc n) ts t ∙ ap (λ k. token_uses doc entry (suc n) ts ++ use_of t doc entry k ∷ []) e)

pub token_uses-more : (doc entry : ℕ) (ts : List Token) (i : ℕ) (d : Token) → i < length ts → token_uses doc entry 0 (take (i + 1) ts) ≡ token_uses doc entry 0 (take i ts) ++ use_of (get_or ts i d) doc entry i ∷ []
token_uses-more doc entry ts i d lt =
    let n : 0 + length (take i ts) ≡ i = grind (arith, length-take) in
    ap (token_uses doc entry 0) (take_more ts i d lt) ∙ token_uses-push doc entry 0 (take i ts) (get_or ts i d) ∙ ap (λ k. token_uses doc entry 0 (take i ts) ++ use_of (get_or ts i d) doc entry k ∷ []) n

field_uses-push : (entry : ℕ) (fs : List Appearance) (f : Appearance) → field_uses entry (fs ++ f ∷ []) ≡ field_uses entry fs ++ token_uses f.doc (entry + length fs) 0 (tokens_in_field f)
field_uses-push entry [] f =
    let e : entry ≡ entry + 0 = omega arith in
    append-nil _ ∙ ap (λ k. token_uses f.doc k 0 (tokens_in_field f)) e
field_uses-push entry (g ∷ fs) f =
    let e : suc entry + length fs ≡ entry + suc (length fs) = omega arith in
    ap (λ w. token_uses g.doc entry 0 (tokens_in_field g) ++ w) (field_uses-push (suc entry) fs f ∙ ap (λ k. field_uses (suc entry) fs ++ token_uses f.doc k 0 (tokens_in_field f)) e)
    ∙ sym (append_assoc (token_uses g.doc entry 0 (tokens_in_field g)) (field_uses (suc entry) fs) (token_uses f.doc (entry + suc (length fs)) 0 (tokens_in_field f)))

pub field_uses-more : (fs : List Appearance) (i : ℕ) (d : Appearance) → i < length fs → all_uses (take (i + 1) fs) ≡ all_uses (take i fs) ++ token_uses (get_or fs i d).doc i 0 (tokens_in_field (get_or fs i d))
field_uses-more fs i d lt =
    let n : 0 + length (take i fs) ≡ i = grind (arith, length-take) in
    ap (field_uses 0) (take_more fs i d lt) ∙ field_uses-push 0 (take i fs) (get_or fs i d) ∙ ap (λ k. all_uses (take i fs) ++ token_uses (get_or fs i d).doc k 0 (tokens_in_field (get_or fs i d))) n

-- ---- what holds of each

each-token : (P : Use → Type 0) (doc entry n : ℕ) (ts : List Token) → ((k : ℕ) (t : Token) → slice_get ts k ≡ Some t → P (use_of t doc entry (n + k))) → All P (token_uses doc entry n ts)
each-token P doc entry n [] h = λ k d lt. absurd (omega (arith, lt))
each-token P doc entry n (t ∷ ts) h =
    let e : n + 0 ≡ n = omega arith in
    All-cons P (use_of t doc entry n) (token_uses doc entry (suc n) ts) (subst (λ m. P (use_of t doc entry m)) e (h zero t refl))
    (each-token P doc entry (suc n) ts (λ k u is. let f : n + suc k ≡ suc n + k = omega arith in subst (λ m. P (use_of u doc entry m)) f (h (suc k) u is)))

first-tokens : (P : Use → Type 0) (doc entry : ℕ) (ts : List Token) → ((k : ℕ) (t : Token) → slice_get ts k ≡ Some t → P (use_of t doc entry k)) → All P (token_uses doc entry 0 ts)
first-tokens P doc entry ts h = each-token P doc entry 0 ts (λ k t is. let e : k ≡ 0 + k = omega arith in subst (λ m. P (use_of t doc entry m)) e (h k t is))

each-field : (P : Use → Type 0) (entry : ℕ) (fs : List Appearance) → ((j k : ℕ) (a : Appearance) (t : Token) → slice_get fs j ≡ Some a → slice_get (tokens_in_field a) k ≡ Some t → P (use_of t a.doc (entry + j) k)) → All P (field_uses entry fs)
each-field P entry [] h = λ k d lt. absurd (omega (arith, lt))
each-field P entry (f ∷ fs) h =
    let e : entry + 0 ≡ entry = omega arith in
    All-append P (token_uses f.doc entry 0 (tokens_in_field f)) (field_uses (suc entry) fs)
    (first-tokens P f.doc entry (tokens_in_field f) (λ k t is. subst (λ m. P (use_of t f.doc m k)) e (h zero k f t refl is)))
    (each-field P (suc entry) fs (λ j k a t at is. let g : entry + suc j ≡ suc entry + j = omega arith in subst (λ m. P (use_of t a.doc m k)) g (h (suc j) k a t at is)))

first-fields : (P : Use → Type 0) (fs : List Appearance) → ((j k : ℕ) (a : Appearance) (t : Token) → slice_get fs j ≡ Some a → slice_get (tokens_in_field a) k ≡ Some t → P (use_of t a.doc j k)) → All P (all_uses fs)
first-fields P fs h = each-field P 0 fs (λ j k a t at is. let e : j ≡ 0 + j = omega arith in subst (λ m. P (use_of t a.doc m k)) e (h j k a t at is))

-- the text of a use of a token is the token's
text_at-own : (column : List Appearance) (j k : ℕ) (a : Appearance) (t : Token) → slice_get column j ≡ Some a → slice_get (tokens_in_field a) k ≡ Some t → text_at column (use_of t a.doc j k) ≡ t.text
text_at-own column j k a t at is =
    ap (λ o. option_map_or (λ (b : Appearance). option_map_or (λ (u : Token). u.text) (slice_get (tokens_in_field b) k) []) o []) at ∙ ap (λ o. option_map_or (λ (u : Token). u.text) o []) is

pub all-own : (column : List Appearance) → All (λ (here : Use). here.head ≡ text_head (text_at column here)) (all_uses column)
all-own column = first-fields (λ (here : Use). here.head ≡ text_head (text_at column here)) column (λ j k a t at is. ap text_head (sym (text_at-own column j k a t at is)))

all-at : {X : Type 0} (P : X → Type 0) (xs : List X) (k : ℕ) (x : X) → All P xs → slice_get xs k ≡ Some x → P x
all-at P [] k x all is = absurd (none-some x is)
all-at P (y ∷ ys) zero x all is = subst P (same_Some y x is) (all 0 y (omega arith))
all-at P (y ∷ ys) (suc k) x all is = all-at P ys k x (All-tail P y ys all) is

pub all-utf8 : (column : List Appearance) → All (λ a. All (λ (t : Token). IsUtf8 t.text) (tokens_in_field a)) column → All (λ here. IsUtf8 (text_at column here)) (all_uses column)
all-utf8 column utf8 = first-fields (λ here. IsUtf8 (text_at column here)) column (λ j k a t at is.
    subst IsUtf8 (sym (text_at-own column j k a t at is)) (all-at (λ (u : Token). IsUtf8 u.text) (tokens_in_field a) k t (all-at (λ b. All (λ (u : Token). IsUtf8 u.text) (tokens_in_field b)) column j a utf8 at) is))

-- ---- those of a text

filter-tokens : (test : Use → Bool) (q : List ℕ) (doc entry n : ℕ) (ts : List Token) → ((k : ℕ) (t : Token) → slice_get ts k ≡ Some t → test (use_of t doc entry (n + k)) ≡ bytes_eq q t.text)
    → filter test (token_uses doc entry n ts) ≡ uses_among q doc entry n ts
filter-tokens test q doc entry n [] h = refl
filter-tokens test q doc entry n (t ∷ ts) h =
    let e : n + 0 ≡ n = omega arith in
    let here : test (use_of t doc entry n) ≡ bytes_eq q t.text = subst (λ m. test (use_of t doc entry m) ≡ bytes_eq q t.text) e (h zero t refl) in
    let later = filter test (token_uses doc entry (suc n) ts) in
    let rest : later ≡ uses_among q doc entry (suc n) ts = filter-tokens test q doc entry (suc n) ts (λ k u is. let f : n + suc k ≡ suc n + k = omega arith in subst (λ m. test (use_of u doc entry m) ≡ bytes_eq q u.text) f (h (suc k) u is)) in
    elim (bytes_eq q t.text) as (λ b. bytes_eq q t.text ≡ b → filter test (token_uses doc entry n (t ∷ ts)) ≡ (if b then use_of t doc entry n ∷ [] else []) ++ uses_among q doc entry (suc n) ts) [
      | true ↦ λ same. ap (λ b. cond b (use_of t doc entry n ∷ later) later) (here ∙ same) ∙ ap (λ w. use_of t doc entry n ∷ w) rest
      | false ↦ λ other. ap (λ b. cond b (use_of t doc entry n ∷ later) later) (here ∙ other) ∙ rest
    ] refl

filter-first : (test : Use → Bool) (q : List ℕ) (doc entry : ℕ) (ts : List Token) → ((k : ℕ) (t : Token) → slice_get ts k ≡ Some t → test (use_of t doc entry k) ≡ bytes_eq q t.text) → filter test (token_uses doc entry 0 ts) ≡ uses_among q doc entry 0 ts
filter-first test q doc entry ts h = filter-tokens test q doc entry 0 ts (λ k t is. let e : k ≡ 0 + k = omega arith in subst (λ m. test (use_of t doc entry m) ≡ bytes_eq q t.text) e (h k t is))

filter-fields : (test : Use → Bool) (q : List ℕ) (entry : ℕ) (fs : List Appearance) → ((j k : ℕ) (a : Appearance) (t : Token) → slice_get fs j ≡ Some a → slice_get (tokens_in_field a) k ≡ Some t → test (use_of t a.doc (entry + j) k) ≡ bytes_eq q t.text)
    → filter test (field_uses entry fs) ≡ uses_from q entry fs
filter-fields test q entry [] h = refl
filter-fields test q entry (f ∷ fs) h =
    let e : entry + 0 ≡ entry = omega arith in
    filter-append test (token_uses f.doc entry 0 (tokens_in_field f)) (field_uses (suc entry) fs)
    ∙ ap (λ w. w ++ filter test (field_uses (suc entry) fs)) (filter-first test q f.doc entry (tokens_in_field f) (λ k t is. subst (λ m. test (use_of t f.doc m k) ≡ bytes_eq q t.text) e (h zero k f t refl is)))
    ∙ ap (λ w. uses_among q f.doc entry 0 (tokens_in_field f) ++ w) (filter-fields test q (suc entry) fs (λ j k a t at is. let g : entry + suc j ≡ suc entry + j = omega arith in subst (λ m. test (use_of t a.doc m k) ≡ bytes_eq q t.text) g (h (suc j) k a t at is)))

-- among all uses those of a text are its uses
pub filter-all : (q : List ℕ) (column : List Appearance) → filter (is_of column q) (all_uses column) ≡ uses_of q column
filter-all q column = filter-fields (is_of column q) q 0 column (λ j k a t at is.
    let e : j ≡ 0 + j = omega arith in subst (λ m. is_of column q (use_of t a.doc m k) ≡ bytes_eq q t.text) e (ap (bytes_eq q) (text_at-own column j k a t at is)))

-- ---- their order

entry-before : (a b : Use) → a.entry < b.entry → place_cmp a b ≡ Less
entry-before a b lt = ap (λ o. ordering_then o (nat_cmp a.token b.token)) (nat_less a.entry b.entry lt)

token-before : (a b : Use) → a.entry ≡ b.entry → a.token < b.token → place_cmp a b ≡ Less
token-before a b same lt = ap (λ o. ordering_then o (nat_cmp a.token b.token)) (ap (λ n. nat_cmp a.entry n) (sym same) ∙ tied_itself nat_cmp_total a.entry) ∙ nat_less a.token b.token lt

pub recursion : {X : Type 0} (P : X → Type 0) (xs : List X) → All P xs → AllByRecursion P xs
recursion P [] h = tt
recursion P (x ∷ xs) h = (h 0 x (omega arith), recursion P xs (All-tail P x xs h))

tokens-rise : (doc entry n : ℕ) (ts : List Token) → IsStrictlySortedBy place_cmp (token_uses doc entry n ts)
unfolding IsStrictlySortedBy
tokens-rise doc entry n [] = tt
tokens-rise doc entry n (t ∷ ts) =
    let first = use_of t doc entry n in (
      recursion (λ w. place_cmp first w ≡ Less) (token_uses doc entry (suc n) ts) (each-token (λ w. place_cmp first w ≡ Less) doc entry (suc n) ts (λ k u is. token-before first (use_of u doc entry (suc n + k)) refl (omega arith))),
      tokens-rise doc entry (suc n) ts,
    )

both-rise : (xs ys : List Use) → IsStrictlySortedBy place_cmp xs → IsStrictlySortedBy place_cmp ys → AllByRecursion (λ x. AllByRecursion (λ y. place_cmp x y ≡ Less) ys) xs → IsStrictlySortedBy place_cmp (xs ++ ys)
unfolding IsStrictlySortedBy
both-rise [] ys a b h = b
both-rise (x ∷ xs) ys a b h = (after x xs ys a.0 h.0, both-rise xs ys a.1 b h.1)
  where
    after : (x : Use) (xs ys : List Use) → AllByRecursion (λ y. place_cmp x y ≡ Less) xs → AllByRecursion (λ y. place_cmp x y ≡ Less) ys → AllByRecursion (λ y. place_cmp x y ≡ Less) (xs ++ ys)
    after x [] ys p q = q
    after x (z ∷ xs) ys p q = (p.0, after x xs ys p.1 q)

fields-rise : (entry : ℕ) (fs : List Appearance) → IsStrictlySortedBy place_cmp (field_uses entry fs)
unfolding IsStrictlySortedBy
fields-rise entry [] = tt
fields-rise entry (f ∷ fs) =
    both-rise (token_uses f.doc entry 0 (tokens_in_field f)) (field_uses (suc entry) fs) (tokens-rise f.doc entry 0 (tokens_in_field f)) (fields-rise (suc entry) fs)
    (recursion (λ x. AllByRecursion (λ y. place_cmp x y ≡ Less) (field_uses (suc entry) fs)) (token_uses f.doc entry 0 (tokens_in_field f))
    (first-tokens (λ x. AllByRecursion (λ y. place_cmp x y ≡ Less) (field_uses (suc entry) fs)) f.doc entry (tokens_in_field f) (λ k t is.
    recursion (λ y. place_cmp (use_of t f.doc entry k) y ≡ Less) (field_uses (suc entry) fs) (each-field (λ y. place_cmp (use_of t f.doc entry k) y ≡ Less) (suc entry) fs (λ j i a u at here. entry-before (use_of t f.doc entry k) (use_of u a.doc (suc entry + j) i) (omega arith))))))

pub all-rise : (column : List Appearance) → IsStrictlySortedBy place_cmp (all_uses column)
all-rise column = fields-rise 0 column

-- what holds of the first so many and of the next
pub all-more : {X : Type 0} (P : X → Type 0) (xs : List X) (i : ℕ) (d : X) → i < length xs → All P (take i xs) → P (get_or xs i d) → All P (take (i + 1) xs)
all-more P xs i d lt all here = subst (All P) (sym (take_more xs i d lt)) (All-append P (take i xs) (get_or xs i d ∷ []) all (All-cons P (get_or xs i d) [] here (λ k e no. absurd (omega (arith, no)))))
