-- One term of all segments less.
use Rattle.std.proofs.Common.{◌≡◌, ◌⊎◌, ℕ, zero, suc, ◌<◌, true, false, cond, List, [], ◌∷◌, ◌++◌, length, map, get_or, refl, sym, ap, ◌∙◌, subst, inl, inr, arith}
use Rattle.std.specs.Prelude.{filter, flat_map, slice_set, Some}
use Rattle.std.specs.List.{find, AllByRecursion}
use Rattle.std.specs.List.Sorted.{IsStrictlySortedBy}
use Rattle.std.specs.declared.cmp.Ordering.{Ordering}
use Rattle.std.specs.declared.cmp.Ordering.TheVariants.{Less, Equal, Greater}
use Rattle.std.specs.Ordering.{is_gt}
use mathlib.Core.Bool.{true≢false}
use Rattle.lu_types.specs.Tables.{TableField}
use Rattle.lu_model.specs.Index.{Term, term_cmp, in_order, IndexedEntry}
use Rattle.lu_model.specs.Contents.{bits_of, field_number, renumbered}
use Rattle.lu_model.proofs.Words.{IsIn, Each, IsTerm}
use Rattle.lu_model.proofs.Alike.{term_order, terms_level}
use Rattle.lu_model.proofs.Among.{from_flat_map, in_flat_map, in_map, from_map}
use Rattle.lu_model.proofs.Each.{each_at}
use Rattle.lu_model.proofs.Held.{same_term-true, same_term-itself}
use Rattle.lu_model.proofs.Ordered.{only_in_order, rises-in_order, from_in_order, in_in_order, least, not_below_itself}
use Rattle.seg_merger.specs.TermSources.{SourceTerm, name_of_term}
use Rattle.seg_merger.specs.TermRests.{Rest, IsGood, IsLeast, IsName, entries_for, entries_if_any, entries_of_all, given_by, has_entries, names, past, same_term, term_of_all, terms_of_all, without_first}

-- what comes after a term is not that term
pub same-less : (t u : Term) → term_cmp t u ≡ Less → same_term t u ≡ false
same-less t u e = elim (same_term t u) as (λ b. same_term t u ≡ b → b ≡ false) [
  | true ↦ λ s. absurd (not_below_itself term_cmp term_order t (ap (term_cmp t) (same_term-true t u s) ∙ e))
  | false ↦ λ s. refl
] refl

-- a term before all of a segment is not in it
pub none-found : (t : Term) (ts : List SourceTerm) → AllByRecursion (λ u. term_cmp t u ≡ Less) (map name_of_term ts) → entries_for t ts ≡ []
none-found t [] h = refl
none-found t (x ∷ ts) h = ap (λ b. entries_if_any (cond b (Some x) (find (λ (u : SourceTerm). same_term t u.term) ts))) (same-less t x.term h.0) ∙ none-found t ts h.1

all-less : (t u : Term) (us : List Term) → term_cmp t u ≡ Less → AllByRecursion (λ v. term_cmp u v ≡ Less) us → AllByRecursion (λ v. term_cmp t v ≡ Less) us
all-less t u [] e h = tt
all-less t u (v ∷ us) e h = (term_order.trans t u v e h.0, all-less t u us e h.1)

-- before the first of a segment that rises is before all of it
pub before-all : (t : Term) (ts : List SourceTerm) → IsStrictlySortedBy term_cmp (map name_of_term ts) → ((x : SourceTerm) (us : List SourceTerm) → ts ≡ x ∷ us → term_cmp t x.term ≡ Less) → AllByRecursion (λ u. term_cmp t u ≡ Less) (map name_of_term ts)
unfolding IsStrictlySortedBy
before-all t [] rise first = tt
before-all t (x ∷ ts) rise first = let e = first x ts refl in (e, all-less t x.term (map name_of_term ts) e rise.0)

pub absent : (t : Term) (ts : List SourceTerm) → IsStrictlySortedBy term_cmp (map name_of_term ts) → ((x : SourceTerm) (us : List SourceTerm) → ts ≡ x ∷ us → term_cmp t x.term ≡ Less) → entries_for t ts ≡ []
absent t ts rise first = none-found t ts (before-all t ts rise first)

-- a segment goes past a term once
pub past-absent : (t : Term) (ts : List SourceTerm) → ((x : SourceTerm) (us : List SourceTerm) → ts ≡ x ∷ us → term_cmp t x.term ≡ Less) → without_first t ts ≡ ts
past-absent t [] first = refl
past-absent t (x ∷ ts) first = ap (λ b. cond b ts (x ∷ ts)) (same-less t x.term (first x ts refl))

-- what is left after a term that was first comes after it
pub after-less : (t : Term) (ts : List SourceTerm) → IsStrictlySortedBy term_cmp (map name_of_term ts) → ((x : SourceTerm) (us : List SourceTerm) → ts ≡ x ∷ us → (same_term t x.term ≡ true) ⊎ (term_cmp t x.term ≡ Less)) → AllByRecursion (λ u. term_cmp t u ≡ Less) (map name_of_term (without_first t ts))
unfolding IsStrictlySortedBy
after-less t [] rise first = tt
after-less t (x ∷ ts) rise first = elim (first x ts refl) [
  | inl s ↦ subst (λ b. AllByRecursion (λ u. term_cmp t u ≡ Less) (map name_of_term (cond b ts (x ∷ ts)))) (sym s) (subst (λ w. AllByRecursion (λ u. term_cmp w u ≡ Less) (map name_of_term ts)) (sym (same_term-true t x.term s)) rise.0)
  | inr e ↦ subst (λ b. AllByRecursion (λ u. term_cmp t u ≡ Less) (map name_of_term (cond b ts (x ∷ ts)))) (sym (same-less t x.term e)) (e, all-less t x.term (map name_of_term ts) e rise.0)
]

-- ---- lists of segments

-- one item is changed: those before it and its new form give nothing
pub flat_map-set : {X Y : Type 0} (f : X → List Y) (xs : List X) (k : ℕ) (x d : X) → k < length xs → ((j : ℕ) → j < k → f (get_or xs j d) ≡ []) → f x ≡ [] → flat_map f xs ≡ f (get_or xs k d) ++ flat_map f (slice_set xs k x)
flat_map-set f [] k x d h before new = absurd (omega arith)
flat_map-set f (y ∷ xs) zero x d h before new = ap (λ w. f y ++ (w ++ flat_map f xs)) (sym new)
flat_map-set f (y ∷ xs) (suc k) x d h before new =
    ap (λ w. w ++ flat_map f xs) (before 0 (omega arith))
    ∙ flat_map-set f xs k x d (omega arith) (λ j i. before (suc j) (omega arith)) new
    ∙ ap (λ w. f (get_or xs k d) ++ (w ++ flat_map f (slice_set xs k x))) (sym (before 0 (omega arith)))

pub flat_map-none : {X Y : Type 0} (f : X → List Y) (xs : List X) → Each (λ x. f x ≡ []) xs → flat_map f xs ≡ []
flat_map-none f [] h = refl
flat_map-none f (x ∷ xs) h = ap (λ w. w ++ flat_map f xs) h.0 ∙ flat_map-none f xs h.1

pub map-set : {X Y : Type 0} (f : X → Y) (xs : List X) (k : ℕ) (x d : X) → k < length xs → f x ≡ f (get_or xs k d) → map f (slice_set xs k x) ≡ map f xs
map-set f [] k x d h e = absurd (omega arith)
map-set f (y ∷ xs) zero x d h e = ap (λ w. w ∷ map f xs) e
map-set f (y ∷ xs) (suc k) x d h e = ap (λ w. f y ∷ w) (map-set f xs k x d (omega arith) e)

-- ---- one term of all

-- the term is the first of a segment or comes before it
abbrev pub First : Term → List SourceTerm → Type 0
First t ts = (x : SourceTerm) (us : List SourceTerm) → ts ≡ x ∷ us → (same_term t x.term ≡ true) ⊎ (term_cmp t x.term ≡ Less)

-- a term with names is one of texts
pub text-of : (u : Term) → IsName u → IsTerm u
text-of u h = record { field = h.field; text = h.text }

-- the names of the terms that are left, one by one
pub named-in : (rests : List Rest) → Each IsGood rests → (u : Term) → IsIn u (names rests) → IsName u
named-in rests good u h =
    let r = from_flat_map (λ (rest : Rest). map name_of_term rest.left) u rests h in
    let x = from_map name_of_term u r.0.left r.2 in
    subst IsName (sym x.2) (each_at (λ (y : SourceTerm). IsName y.term) x.0 r.0.left (each_at IsGood r.0 rests good r.1).named x.1)

pub texts-in : (rests : List Rest) → Each IsGood rests → (u : Term) → IsIn u (names rests) → IsTerm u
texts-in rests good u h = text-of u (named-in rests good u h)

pub firsts : (t : Term) (rests : List Rest) → Each IsGood rests → IsTerm t → IsLeast t rests → (rest : Rest) → IsIn rest rests → First t rest.left
firsts t rests good text least_one rest h x us e =
    let here : IsIn x.term (names rests) = in_flat_map (λ (r : Rest). map name_of_term r.left) rest x.term rests h (subst (λ w. IsIn x.term (map name_of_term w)) (sym e) (inl refl)) in
    at (term_cmp t x.term) refl (each_at (λ u. is_gt (term_cmp t u) ≡ false) x.term (names rests) least_one here) (texts-in rests good x.term here)
  where
    at : (o : Ordering) → term_cmp t x.term ≡ o → is_gt (term_cmp t x.term) ≡ false → IsTerm x.term → (same_term t x.term ≡ true) ⊎ (term_cmp t x.term ≡ Less)
    at Less q g k = inr q
    at Equal q g k = inl (ap (same_term t) (sym (terms_level t x.term text k q)) ∙ same_term-itself t)
    at Greater q g k = absurd (true≢false (sym (ap is_gt q) ∙ g))

-- what is left of a segment after the term comes after it
pub left-less : (t : Term) (rests : List Rest) → Each IsGood rests → IsTerm t → IsLeast t rests → (u : Term) → IsIn u (names (map (past t) rests)) → term_cmp t u ≡ Less
left-less t rests good text least_one u h =
    let p = from_flat_map (λ (rest : Rest). map name_of_term rest.left) u (map (past t) rests) h in
    let r = from_map (past t) p.0 rests p.1 in
    let inside : IsIn u (map name_of_term (without_first t r.0.left)) = subst (λ (w : Rest). IsIn u (map name_of_term w.left)) r.2 p.2 in
    least term_cmp term_order t u (map name_of_term (without_first t r.0.left)) (after-less t r.0.left (each_at IsGood r.0 rests good r.1).rise (firsts t rests good text least_one r.0 r.1)) inside

pub from_without : (t u : Term) (ts : List SourceTerm) → IsIn u (map name_of_term (without_first t ts)) → IsIn u (map name_of_term ts)
from_without t u [] h = h
from_without t u (x ∷ ts) h = elim (same_term t x.term) as (λ b. IsIn u (map name_of_term (cond b ts (x ∷ ts))) → IsIn u (map name_of_term (x ∷ ts))) [ true ↦ λ k. inr k | false ↦ λ k. k ] h

to_without : (t u : Term) (ts : List SourceTerm) → IsIn u (map name_of_term ts) → (u ≡ t) ⊎ IsIn u (map name_of_term (without_first t ts))
to_without t u [] h = absurd h
to_without t u (x ∷ ts) h = elim (same_term t x.term) as (λ b. same_term t x.term ≡ b → (u ≡ t) ⊎ IsIn u (map name_of_term (cond b ts (x ∷ ts)))) [
  | true ↦ λ s. elim h [ inl e ↦ inl (e ∙ sym (same_term-true t x.term s)) | inr k ↦ inr k ]
  | false ↦ λ s. inr h
] refl

pub from_past : (t u : Term) (rests : List Rest) → IsIn u (names (map (past t) rests)) → IsIn u (names rests)
from_past t u rests h =
    let p = from_flat_map (λ (rest : Rest). map name_of_term rest.left) u (map (past t) rests) h in
    let r = from_map (past t) p.0 rests p.1 in
    in_flat_map (λ (rest : Rest). map name_of_term rest.left) r.0 u rests r.1 (from_without t u r.0.left (subst (λ (w : Rest). IsIn u (map name_of_term w.left)) r.2 p.2))

to_past : (t u : Term) (rests : List Rest) → IsIn u (names rests) → (u ≡ t) ⊎ IsIn u (names (map (past t) rests))
to_past t u rests h =
    let p = from_flat_map (λ (rest : Rest). map name_of_term rest.left) u rests h in
    elim (to_without t u p.0.left p.2) [
      | inl e ↦ inl e
      | inr k ↦ inr (in_flat_map (λ (rest : Rest). map name_of_term rest.left) (past t p.0) u (map (past t) rests) (in_map (past t) p.0 rests p.1) k)
    ]

above-each : (t : Term) (us : List Term) → ((u : Term) → IsIn u us → term_cmp t u ≡ Less) → AllByRecursion (λ u. term_cmp t u ≡ Less) us
above-each t [] h = tt
above-each t (u ∷ us) h = (h u (inl refl), above-each t us (λ v k. h v (inr k)))

-- the names in order are the least one and the others
in_order-step : (t : Term) (rests : List Rest) → Each IsGood rests → IsTerm t → IsLeast t rests → IsIn t (names rests) → t ∷ in_order term_cmp (names (map (past t) rests)) ≡ in_order term_cmp (names rests)
unfolding IsStrictlySortedBy
in_order-step t rests good text least_one has =
    let rest = names (map (past t) rests) in
    only_in_order term_cmp term_order (names rests) (t ∷ in_order term_cmp rest)
    (λ x y p q. terms_level x y (texts-in rests good x p) (texts-in rests good y q))
    (above-each t (in_order term_cmp rest) (λ u h. left-less t rests good text least_one u (from_in_order term_cmp term_order u rest h)), rises-in_order term_cmp term_order rest)
    (record {
      to = λ u h. elim h [ inl e ↦ subst (λ w. IsIn w (names rests)) (sym e) has | inr k ↦ from_past t u rests (from_in_order term_cmp term_order u rest k) ];
      from = λ u h. elim (to_past t u rests h) [
        | inl e ↦ inl e
        | inr k ↦ inr (in_in_order term_cmp term_order u rest (λ x y p q. terms_level x y (texts-in rests good x (from_past t x rests p)) (texts-in rests good y (from_past t y rests q))) k)
      ];
    })

-- other terms have the same entries
other-kept : (t u : Term) (ts : List SourceTerm) → term_cmp t u ≡ Less → entries_for u (without_first t ts) ≡ entries_for u ts
other-kept t u [] e = refl
other-kept t u (x ∷ ts) e = elim (same_term t x.term) as (λ b. same_term t x.term ≡ b → entries_for u (cond b ts (x ∷ ts)) ≡ entries_for u (x ∷ ts)) [
  | true ↦ λ s. sym (ap (λ b. entries_if_any (cond b (Some x) (find (λ (v : SourceTerm). same_term u v.term) ts))) (apart (same_term-true t x.term s)))
  | false ↦ λ s. refl
] refl
  where
    apart : t ≡ x.term → same_term u x.term ≡ false
    apart q = elim (same_term u x.term) as (λ b. same_term u x.term ≡ b → b ≡ false) [
      | true ↦ λ s. absurd (not_below_itself term_cmp term_order t (ap (term_cmp t) (q ∙ sym (same_term-true u x.term s)) ∙ e))
      | false ↦ λ s. refl
    ] refl

pub given-kept : (bits : ℕ) (t u : Term) (rests : List Rest) → term_cmp t u ≡ Less → entries_of_all bits (map (past t) rests) u ≡ entries_of_all bits rests u
given-kept bits t u [] e = refl
given-kept bits t u (rest ∷ rests) e =
    ap (λ es. renumbered bits rest.base rest.deleted es ++ entries_of_all bits (map (past t) rests) u) (other-kept t u rest.left e)
    ∙ ap (λ w. given_by bits u rest ++ w) (given-kept bits t u rests e)

terms-kept : (table : List TableField) (t : Term) (rests : List Rest) (us : List Term) → ((u : Term) → IsIn u us → term_cmp t u ≡ Less) → map (term_of_all table rests) us ≡ map (term_of_all table (map (past t) rests)) us
terms-kept table t rests [] h = refl
terms-kept table t rests (u ∷ us) h =
    let entries = sym (given-kept (bits_of u.field table) t u rests (h u (inl refl))) in
    let rest = terms-kept table t rests us (λ v k. h v (inr k)) in
    λ i. record { field = field_number u.field table; text = u.text; entries = entries i } ∷ rest i

-- the terms that the segments make are the least one, if it has an entry, and those of what is left
pub terms-step : (table : List TableField) (t : Term) (rests : List Rest) → Each IsGood rests → IsTerm t → IsLeast t rests → IsIn t (names rests) → terms_of_all table rests ≡ filter has_entries (term_of_all table rests t ∷ []) ++ terms_of_all table (map (past t) rests)
unfolding terms_of_all
terms-step table t rests good text least_one has =
    let rest = in_order term_cmp (names (map (past t) rests)) in
    ap (λ us. filter has_entries (map (term_of_all table rests) us)) (sym (in_order-step t rests good text least_one has))
    ∙ ap (λ us. filter has_entries (term_of_all table rests t ∷ us)) (terms-kept table t rests rest (λ u h. left-less t rests good text least_one u (from_in_order term_cmp term_order u (names (map (past t) rests)) h)))
    ∙ elim (has_entries (term_of_all table rests t)) as (λ b. cond b (term_of_all table rests t ∷ filter has_entries (map (term_of_all table (map (past t) rests)) rest)) (filter has_entries (map (term_of_all table (map (past t) rests)) rest)) ≡ cond b (term_of_all table rests t ∷ []) [] ++ filter has_entries (map (term_of_all table (map (past t) rests)) rest)) [ true ↦ refl | false ↦ refl ]

-- segments that have no term left make none
pub terms-none : (table : List TableField) (rests : List Rest) → names rests ≡ [] → terms_of_all table rests ≡ []
unfolding terms_of_all in_order
terms-none table rests e = ap (λ us. filter has_entries (map (term_of_all table rests) (in_order term_cmp us))) e

-- what is so of each term is so of each but the first
pub each-without : (P : SourceTerm → Type 0) (t : Term) (ts : List SourceTerm) → Each P ts → Each P (without_first t ts)
each-without P t [] h = h
each-without P t (x ∷ ts) h = elim (same_term t x.term) as (λ b. Each P (cond b ts (x ∷ ts))) [ true ↦ h.1 | false ↦ h ]

-- a good segment stays good
pub good-past : (t : Term) (rest : Rest) → IsGood rest → IsGood (past t rest)
unfolding IsStrictlySortedBy
good-past t rest good = record {
  rise = rise rest.left good.rise;
  named = each-without (λ (x : SourceTerm). IsName x.term) t rest.left good.named;
  low = each-without (λ (x : SourceTerm). Each (λ (entry : IndexedEntry). entry.document < rest.size) x.entries) t rest.left good.low;
}
  where
    rise : (ts : List SourceTerm) → IsStrictlySortedBy term_cmp (map name_of_term ts) → IsStrictlySortedBy term_cmp (map name_of_term (without_first t ts))
    rise [] h = h
    rise (x ∷ ts) h = elim (same_term t x.term) as (λ b. IsStrictlySortedBy term_cmp (map name_of_term (cond b ts (x ∷ ts)))) [ true ↦ h.1 | false ↦ h ]
