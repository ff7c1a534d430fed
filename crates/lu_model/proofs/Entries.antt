-- What the entries of a term say of a document.
use Rattle.std.proofs.Common.{◌≡◌, ℕ, zero, suc, ◌+◌, ◌<◌, Bool, true, false, cond, List, [], ◌∷◌, Option, Some, None, map, refl, sym, ap, ◌∙◌, inl, inr, eqb, eq-eqb, get_or, arith}
use Rattle.std.specs.Prelude.{filter_map, is_some, option_map, slice_get, ◌||◌}
use Rattle.std.specs.List.{find, list_any, enumerate_from, cons_option}
use borrow.Author.Tests.{eqb-true}
use mathlib.Core.Bool.{true≢false}
use Rattle.lu_types.specs.Tables.{TableField}
use Rattle.lu_model.specs.Index.{Term, KeptOccurrences, IndexedEntry}
use Rattle.lu_model.specs.Contents.{Content, bits_of, field_number, indexed_term, kept, name_of, occurrences_at, term_of}
use Rattle.lu_model.proofs.Words.{IsIn, same_term, entry_of}
use Rattle.lu_model.proofs.Held.{same_term-true, same_term-itself}

-- the item at a place of a list that is made of another
pub get-map : {X Y : Type 0} (f : X → Y) (xs : List X) (n : ℕ) (x : X) (d : Y) → slice_get xs n ≡ Some x → get_or (map f xs) n d ≡ f x
get-map f [] n x d e = cc
get-map f (y ∷ xs) zero x d e = let same : y ≡ x = cc in ap f same
get-map f (y ∷ xs) (suc n) x d e = get-map f xs n x d e

pub slice_get-map : {X Y : Type 0} (f : X → Y) (xs : List X) (n : ℕ) (x : X) → slice_get xs n ≡ Some x → slice_get (map f xs) n ≡ Some (f x)
slice_get-map f [] n x e = cc
slice_get-map f (y ∷ xs) zero x e = let same : y ≡ x = cc in ap (λ w. Some (f w)) same
slice_get-map f (y ∷ xs) (suc n) x e = slice_get-map f xs n x e

pub in_at : {X : Type 0} (xs : List X) (n : ℕ) (x : X) → slice_get xs n ≡ Some x → IsIn x xs
in_at [] n x e = cc
in_at (y ∷ xs) zero x e = let same : y ≡ x = cc in inl (sym same)
in_at (y ∷ xs) (suc n) x e = inr (in_at xs n x e)

-- some item passes just where one is found
pub any-found : {X Y : Type 0} (p : X → Bool) (f : X → Y) (xs : List X) → list_any p xs ≡ is_some (option_map f (find p xs))
any-found p f [] = refl
any-found p f (x ∷ xs) = elim (p x) as (λ b. (b || list_any p xs) ≡ is_some (option_map f (cond b (Some x) (find p xs)))) [ true ↦ refl | false ↦ any-found p f xs ]

apart : (m n : ℕ) → m < n → eqb m n ≡ false
apart m n h = elim (eqb m n) as (λ b. eqb m n ≡ b → b ≡ false) [
  | true ↦ λ e. let same : m ≡ n = eqb-true m n e in absurd (omega arith)
  | false ↦ λ e. refl
] refl

module _ (table : List TableField) (term : Term) where
  abbrev keeps : Option KeptOccurrences → Option KeptOccurrences
  keeps o = option_map (kept (bits_of term.field table)) o

  abbrev entries_from : ℕ → List Content → List IndexedEntry
  entries_from m contents = filter_map (entry_of table term) (enumerate_from m contents)

  -- the entry of a document before these entries, or not
  first_entry : (m k : ℕ) (c : Content) (rest : List IndexedEntry) (answer : Option KeptOccurrences)
      → (eqb k m ≡ true → keeps (c.occurrences term) ≡ answer) → (eqb k m ≡ true → occurrences_at k rest ≡ None) → (eqb k m ≡ false → occurrences_at k rest ≡ answer)
      → occurrences_at k (cons_option (entry_of table term (m, c)) rest) ≡ answer
  first_entry m k c rest answer here none later =
      elim (c.occurrences term) as (λ o. keeps o ≡ keeps (c.occurrences term) → occurrences_at k (cons_option (option_map (λ (occurrences : KeptOccurrences). let e : IndexedEntry = record { document = m; occurrences = kept (bits_of term.field table) occurrences } in e) o) rest) ≡ answer) [
        | None ↦ λ q. elim (eqb k m) as (λ b. eqb k m ≡ b → occurrences_at k rest ≡ answer) [ true ↦ λ t. none t ∙ q ∙ here t | false ↦ λ t. later t ] refl
        | Some o ↦ λ q. elim (eqb k m) as (λ b. eqb k m ≡ b → option_map (λ (entry : IndexedEntry). entry.occurrences) (cond b (Some (record { document = m; occurrences = kept (bits_of term.field table) o })) (find (λ (entry : IndexedEntry). eqb k entry.document) rest)) ≡ answer) [
          | true ↦ λ t. q ∙ here t
          | false ↦ λ t. later t
        ] refl
      ] refl

  none_before : (m k : ℕ) (contents : List Content) → k < m → occurrences_at k (entries_from m contents) ≡ None
  none_before m k [] h = refl
  none_before m k (c ∷ contents) h =
      first_entry m k c (entries_from (m + 1) contents) None
      (λ t. absurd (true≢false (sym t ∙ apart k m h)))
      (λ t. none_before (m + 1) k contents (omega arith))
      (λ t. none_before (m + 1) k contents (omega arith))

  -- the entries say of a document what is kept of it
  pub occurrences-entries : (m n : ℕ) (contents : List Content) (c : Content) → slice_get contents n ≡ Some c → occurrences_at (m + n) (entries_from m contents) ≡ keeps (c.occurrences term)
  occurrences-entries m n [] c e = cc
  occurrences-entries m zero (d ∷ contents) c e =
      let same : d ≡ c = cc in
      first_entry m (m + 0) d (entries_from (m + 1) contents) (keeps (c.occurrences term))
      (λ t. ap (λ (w : Content). keeps (w.occurrences term)) same)
      (λ t. none_before (m + 1) (m + 0) contents (omega arith))
      (λ t. absurd (true≢false (sym (eq-eqb (m + 0) m (omega arith)) ∙ t)))
  occurrences-entries m (suc n) (d ∷ contents) c e =
      let later : m + suc n ≡ (m + 1) + n = omega arith in
      let rest = ap (λ k. occurrences_at k (entries_from (m + 1) contents)) later ∙ occurrences-entries (m + 1) n contents c e in
      first_entry m (m + suc n) d (entries_from (m + 1) contents) (keeps (c.occurrences term))
      (λ t. let same : m + suc n ≡ m = eqb-true (m + suc n) m t in absurd (omega arith))
      (λ t. let same : m + suc n ≡ m = eqb-true (m + suc n) m t in absurd (omega arith))
      (λ t. rest)

-- the name of the field of a term, by its number
abbrev pub HasName : List TableField → Term → Type 0
HasName table term = name_of table (field_number term.field table) ≡ term.field

pub term_of-indexed : (table : List TableField) (contents : List Content) (term : Term) → HasName table term → term_of table (indexed_term table contents term) ≡ term
term_of-indexed table contents term h = λ i. record { field = h i; text = term.text }

-- a term is found by its name just where it is among the terms
pub found-term : (table : List TableField) (contents : List Content) (term : Term) (terms : List Term) → ((t : Term) → IsIn t terms → HasName table t)
    → find (λ t. same_term term (term_of table t)) (map (indexed_term table contents) terms) ≡ cond (list_any (same_term term) terms) (Some (indexed_term table contents term)) None
found-term table contents term [] names = refl
found-term table contents term (t ∷ terms) names =
    let head : term_of table (indexed_term table contents t) ≡ t = term_of-indexed table contents t (names t (inl refl)) in
    let rest = found-term table contents term terms (λ u k. names u (inr k)) in
    ap (λ u. cond (same_term term u) (Some (indexed_term table contents t)) (find (λ t. same_term term (term_of table t)) (map (indexed_term table contents) terms))) head
    ∙ elim (same_term term t) as (λ b. same_term term t ≡ b → cond b (Some (indexed_term table contents t)) (find (λ t. same_term term (term_of table t)) (map (indexed_term table contents) terms)) ≡ cond (b || list_any (same_term term) terms) (Some (indexed_term table contents term)) None) [
      | true ↦ λ e. ap (λ u. Some (indexed_term table contents u)) (sym (same_term-true term t e))
      | false ↦ λ e. rest
    ] refl

-- a term is among terms just where one of them is the same
pub any-in : (term : Term) (terms : List Term) → IsIn term terms → list_any (same_term term) terms ≡ true
any-in term [] h = absurd h
any-in term (t ∷ terms) (inl e) = ap (λ b. b || list_any (same_term term) terms) (ap (same_term term) (sym e) ∙ same_term-itself term)
any-in term (t ∷ terms) (inr h) = ap (λ b. same_term term t || b) (any-in term terms h) ∙ or_true (same_term term t)
  where
    or_true : (b : Bool) → (b || true) ≡ true
    or_true true = refl
    or_true false = refl
