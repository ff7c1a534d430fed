-- The live documents of an index, one more, and how many they are.
use Rattle.std.proofs.Common.{◌≡◌, refl, ap, sym, ◌∙◌, subst, ℕ, zero, suc, add-one, ◌+◌, ◌<◌, ◌≤◌, ◌++◌, ◌||◌, Bool, true, false, not, cond, eqb, List, [], ◌∷◌, length, map, inl, inr, arith}
use Rattle.std.specs.Cmp.{nat_eq_equiv}
use Rattle.std.specs.List.{AllByRecursion}
use Rattle.std.specs.List.Sorted.{IsStrictlySortedBy}
use Rattle.std.specs.Ordering.{nat_cmp}
use Rattle.std.specs.declared.cmp.Ordering.TheVariants.{Less}
use Rattle.std.proofs.lemmas.Bool.{cases_lt, eq-eqb, ne_eqb}
use Rattle.std.proofs.lemmas.List.{append-nil, map-append}
use Rattle.doc_marks.specs.Marking.{is_in}
use Rattle.lu_prims.proofs.OrderLemmas.{nat_greater, nat_level}
use Rattle.lu_model.specs.Contents.{is_deleted, live, live_from}
use Rattle.lu_model.specs.Index.{Index}
use Rattle.lu_model.specs.Valid.{IsValid}
use Rattle.lu_model.proofs.Each.{each-from_all}
use Rattle.lu_model.proofs.Words.{Each}

is_in-deleted : (document : ℕ) (deleted : List ℕ) → is_in document deleted ≡ is_deleted deleted document
unfolding is_in
is_in-deleted document [] = refl
is_in-deleted document (d ∷ deleted) = λ i. nat_eq_equiv.symm d document i || is_in-deleted document deleted i

-- ---- one more document

live-more : (deleted : List ℕ) (a n : ℕ) → live_from deleted a (suc n) ≡ live_from deleted a n ++ cond (not (is_deleted deleted (a + n))) ((a + n) ∷ []) []
live-more deleted a zero = let same : a ≡ a + 0 = omega arith in ap (λ d. cond (not (is_deleted deleted d)) (d ∷ []) []) same
live-more deleted a (suc n) =
    let last = cond (not (is_deleted deleted (a + suc n))) ((a + suc n) ∷ []) [] in
    let front = live_from deleted (a + 1) n in
    let same : a + 1 + n ≡ a + suc n = omega arith in
    let rest : live_from deleted (a + 1) (suc n) ≡ front ++ last = live-more deleted (a + 1) n ∙ ap (λ d. front ++ cond (not (is_deleted deleted d)) (d ∷ []) []) same in
    elim (not (is_deleted deleted a)) as (λ b. cond b (a ∷ live_from deleted (a + 1) (suc n)) (live_from deleted (a + 1) (suc n)) ≡ cond b (a ∷ front) front ++ last) [
      | true ↦ ap (λ ds. a ∷ ds) rest
      | false ↦ rest
    ]

module _ {X : Type 0} (f : ℕ → X) (deleted : List ℕ) (n : ℕ) where
  abbrev mapped_more : Bool → List X
  mapped_more b = map f (live_from deleted 0 n ++ cond b (n ∷ []) [])

  mapped : map f (live_from deleted 0 (n + 1)) ≡ mapped_more (not (is_in n deleted))
  mapped =
      let same : 0 + n ≡ n = omega arith in
      ap (λ k. map f (live_from deleted 0 k)) (add-one n)
      ∙ ap (map f) (live-more deleted 0 n)
      ∙ ap (λ k. map f (live_from deleted 0 n ++ cond (not (is_deleted deleted k)) (k ∷ []) [])) same
      ∙ ap (λ b. mapped_more (not b)) (sym (is_in-deleted n deleted))

  -- what is made of the live documents, where the next is live
  pub live-next : not (is_in n deleted) ≡ true → map f (live_from deleted 0 n) ++ f n ∷ [] ≡ map f (live_from deleted 0 (n + 1))
  live-next is = sym (mapped ∙ ap mapped_more is ∙ map-append f (live_from deleted 0 n) (n ∷ []))

  -- and where it is deleted
  pub live-passed : not (is_in n deleted) ≡ false → map f (live_from deleted 0 n) ≡ map f (live_from deleted 0 (n + 1))
  live-passed is = sym (mapped ∙ ap mapped_more is ∙ ap (map f) (append-nil (live_from deleted 0 n)))

-- ---- how many are live

less-nat : (m n : ℕ) → nat_cmp m n ≡ Less → m < n
less-nat m n is = elim (cases_lt m n) [
  | inl less ↦ less
  | inr le ↦ elim (cases_lt n m) [
    | inl more ↦ (let other = sym is ∙ nat_greater m n more in cc)
    | inr most ↦ (let same : m ≡ n = omega (arith, le, most) in let other = sym is ∙ nat_level m n same in cc)
  ]
]

not-among : (a : ℕ) (ds : List ℕ) → Each (λ d. a < d) ds → is_deleted ds a ≡ false
not-among a [] above = refl
not-among a (d ∷ ds) above = let low = above.0 in ap (λ b. b || is_deleted ds a) (ne_eqb a d (omega (arith, low))) ∙ not-among a ds above.1

passed-by : (d : ℕ) (ds : List ℕ) (a n : ℕ) → d < a → live_from (d ∷ ds) a n ≡ live_from ds a n
passed-by d ds a zero low = refl
passed-by d ds a (suc n) low =
    let rest = passed-by d ds (a + 1) n (omega (arith, low)) in
    ap (λ b. cond (not (b || is_deleted ds a)) (a ∷ live_from (d ∷ ds) (a + 1) n) (live_from (d ∷ ds) (a + 1) n)) (ne_eqb a d (omega (arith, low)))
    ∙ ap (λ more. cond (not (is_deleted ds a)) (a ∷ more) more) rest

each-above : (a : ℕ) (ds : List ℕ) → AllByRecursion (λ d. nat_cmp a d ≡ Less) ds → Each (λ d. a < d) ds
each-above a [] h = tt
each-above a (d ∷ ds) h = (less-nat a d h.0, each-above a ds h.1)

each-later : (a : ℕ) (ds : List ℕ) → Each (λ d. a < d) ds → Each (λ d. a + 1 ≤ d) ds
each-later a [] h = tt
each-later a (d ∷ ds) h = let low = h.0 in (omega (arith, low), each-later a ds h.1)

each-below : (m n : ℕ) (ds : List ℕ) → m ≡ n → Each (λ d. d < m) ds → Each (λ d. d < n) ds
each-below m n ds same h = subst (λ k. Each (λ d. d < k) ds) same h

length-live_from : (ds : List ℕ) (a n : ℕ) → IsStrictlySortedBy nat_cmp ds → Each (λ d. a ≤ d) ds → Each (λ d. d < a + n) ds → length (live_from ds a n) + length ds ≡ n
unfolding IsStrictlySortedBy
length-live_from [] a zero rise low below = refl
length-live_from [] a (suc n) rise low below = let rest = length-live_from [] (a + 1) n rise tt tt in omega (arith, rest)
length-live_from (d ∷ ds) a zero rise low below = let l = low.0 in let b = below.0 in absurd (omega (arith, l, b))
length-live_from (d ∷ ds) a (suc n) rise low below =
    let above = each-above d ds rise.0 in
    let move : a + suc n ≡ a + 1 + n = omega arith in
    elim (cases_lt a d) [
      | inl less ↦
          let rest = length-live_from (d ∷ ds) (a + 1) n rise (omega (arith, less), each-later a ds (each-more a d ds less above)) (each-below (a + suc n) (a + 1 + n) (d ∷ ds) move below) in
          let here = ap (λ b. length (cond (not b) (a ∷ live_from (d ∷ ds) (a + 1) n) (live_from (d ∷ ds) (a + 1) n))) (not-among a (d ∷ ds) (less, each-more a d ds less above)) in
          omega (arith, rest, here)
      | inr le ↦
          let l = low.0 in
          let same : a ≡ d = omega (arith, le, l) in
          let rest = length-live_from ds (a + 1) n rise.1 (subst (λ k. Each (λ e. k + 1 ≤ e) ds) (sym same) (each-later d ds above)) (each-below (a + suc n) (a + 1 + n) ds move below.1) in
          let here = ap (λ b. length (cond (not (b || is_deleted ds a)) (a ∷ live_from (d ∷ ds) (a + 1) n) (live_from (d ∷ ds) (a + 1) n))) (eq-eqb a d same) in
          let by = ap length (passed-by d ds (a + 1) n (omega (arith, same))) in
          omega (arith, rest, here, by)
    ]
  where
    each-more : (a d : ℕ) (ds : List ℕ) → a < d → Each (λ e. d < e) ds → Each (λ e. a < e) ds
    each-more a d [] less h = tt
    each-more a d (e ∷ ds) less h = let one = h.0 in (omega (arith, less, one), each-more a d ds less h.1)

-- the live documents of a valid index, and those that are deleted
pub length-live : (index : Index) → IsValid index → length (live index) + length index.deleted ≡ index.size
length-live index ok = length-live_from index.deleted 0 index.size ok.deleted (each-low index.deleted)
    (each-below index.size (0 + index.size) index.deleted (omega arith) (each-from_all (λ d. d < index.size) index.deleted ok.deleted_below))
  where
    each-low : (ds : List ℕ) → Each (λ d. 0 ≤ d) ds
    each-low [] = tt
    each-low (d ∷ ds) = (omega arith, each-low ds)
