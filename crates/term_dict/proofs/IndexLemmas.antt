-- The index of terms, while terms are added.
use Rattle.std.proofs.Common.{◌≡◌, ℕ, zero, suc, ◌+◌, ◌-◌, ◌*◌, ◌/◌, ◌%◌, ◌<◌, ◌≤◌, Bool, false, eqb, List, [], ◌∷◌, ◌++◌, length, get_or, refl, ap, ◌∙◌, arith, inl, inr}
use Rattle.std.specs.Prelude.{if◌then◌else◌}
use Rattle.std.proofs.lemmas.Bool.{ne_eqb, cases_lt}
use Rattle.std.proofs.lemmas.Nat.{div-add-mod'}
use Rattle.std.proofs.Math.Nat.{add-div_right, mul-add-div_right, div-eq_of_lt, mod-lt, le-div_iff_mul-le, suc-mul, le-mul_of_pos_right}
use Rattle.std.proofs.lemmas.List.{take-append-le, get_or_append_left}
use Rattle.lu_types.specs.declared.term.TermInfo.{TermInfo}
use Rattle.term_dict.specs.Terms.{DictionaryTerm, no_term, last_term}
use Rattle.term_dict.specs.Index.{blank, point_after}
use Rattle.term_dict.specs.Canonical.{TermPoint, intervals_begun, terms_bytes, start_of_term, point_before, point_bytes, points_bytes}
use Rattle.term_dict.specs.Writing.{term_before}

-- ---- how many intervals have intervals_begun

pub intervals_begun-next : (interval n : ℕ) → 1 ≤ interval → intervals_begun interval (n + 1) ≡ n / interval + 1
intervals_begun-next interval n some =
    ap (λ (m : ℕ). m / interval) (let e : n + 1 + (interval - 1) ≡ n + interval = omega arith in e) ∙ add-div_right n (omega arith)

-- where the number is a multiple
pub intervals_begun-at : (interval n : ℕ) → 1 ≤ interval → n % interval ≡ 0 → (intervals_begun interval n ≡ n / interval) × (n / interval * interval ≡ n)
intervals_begun-at interval n some none =
    let q = n / interval in
    let whole : q * interval ≡ n = omega (arith, div-add-mod' n interval, none) in (
      ap (λ (m : ℕ). m / interval) (let e : n + (interval - 1) ≡ q * interval + (interval - 1) = omega (arith, whole) in e)
          ∙ mul-add-div_right (omega arith) q (interval - 1) ∙ ap (λ (m : ℕ). q + m) (div-eq_of_lt (omega arith)) ∙ omega arith,
      whole,
    )

-- and where it is not
pub intervals_begun-inside : (interval n : ℕ) → 1 ≤ interval → (n % interval ≡ 0 → ⊥) → intervals_begun interval n ≡ n / interval + 1
intervals_begun-inside interval n some more =
    let q = n / interval in
    let r = n % interval in
    let low : r < interval = mod-lt n (omega arith) in
    let split : n + (interval - 1) ≡ q * interval + ((r - 1) + interval) = omega (arith, div-add-mod' n interval, more, low) in
    ap (λ (m : ℕ). m / interval) split ∙ mul-add-div_right (omega arith) q ((r - 1) + interval)
    ∙ ap (λ (m : ℕ). q + m) (add-div_right (r - 1) (omega arith) ∙ ap (λ (m : ℕ). m + 1) (div-eq_of_lt (omega (arith, low)))) ∙ omega arith

-- an interval that has intervals_begun has its first term
pub intervals_begun-first : (interval n i : ℕ) → 1 ≤ interval → i < intervals_begun interval n → i * interval < n
intervals_begun-first interval n i some lt =
    let above : 0 < interval = omega arith in
    let whole : suc i * interval ≤ n + (interval - 1) = (le-div_iff_mul-le above).0 (omega arith) in
    omega (arith, whole, suc-mul i interval)

-- ---- one term more

pub point_after-push : (ts : List DictionaryTerm) (t : DictionaryTerm) (n : ℕ) → n ≤ length ts → point_after (ts ++ t ∷ []) n ≡ point_after ts n
point_after-push ts t zero le = refl
point_after-push ts t (suc n) le = get_or_append_left ts (t ∷ []) no_term n (omega arith)

start_of_term-push : (interval : ℕ) (ts : List DictionaryTerm) (t : DictionaryTerm) (n : ℕ) → n ≤ length ts → start_of_term interval (ts ++ t ∷ []) n ≡ start_of_term interval ts n
start_of_term-push interval ts t n le = ap (λ (us : List DictionaryTerm). 24 + length (terms_bytes interval no_term us)) (take-append-le n ts (t ∷ []) le)

abbrev pub index_point_of : DictionaryTerm → ℕ → TermPoint
index_point_of t place = record { term = t; place = place }

pub point_before-push : (index_interval interval : ℕ) (ts : List DictionaryTerm) (t : DictionaryTerm) (i : ℕ) → 1 ≤ index_interval → i ≤ intervals_begun index_interval (length ts) → point_before index_interval interval (ts ++ t ∷ []) i ≡ point_before index_interval interval ts i
point_before-push index_interval interval ts t zero some le = refl
point_before-push index_interval interval ts t (suc i) some le =
    let inside : i * index_interval ≤ length ts = omega (arith, intervals_begun-first index_interval (length ts) i some (omega (arith, le))) in
    ap (λ (x : DictionaryTerm). index_point_of x (start_of_term interval (ts ++ t ∷ []) (i * index_interval))) (point_after-push ts t (i * index_interval) inside)
    ∙ ap (index_point_of (point_after ts (i * index_interval))) (start_of_term-push interval ts t (i * index_interval) inside)

pub points_bytes-push : (index_interval interval : ℕ) (ts : List DictionaryTerm) (t : DictionaryTerm) (i : ℕ) → 1 ≤ index_interval → i ≤ intervals_begun index_interval (length ts) → points_bytes index_interval interval (ts ++ t ∷ []) i ≡ points_bytes index_interval interval ts i
points_bytes-push index_interval interval ts t zero some le = refl
points_bytes-push index_interval interval ts t (suc i) some le =
    let us = ts ++ t ∷ [] in
    ap (λ (b : List ℕ). b ++ point_bytes interval (point_before index_interval interval us i) (point_before index_interval interval us (suc i))) (points_bytes-push index_interval interval ts t i some (omega (arith, le)))
    ∙ ap (λ (p : TermPoint). points_bytes index_interval interval ts i ++ point_bytes interval p (point_before index_interval interval us (suc i))) (point_before-push index_interval interval ts t i some (omega (arith, le)))
    ∙ ap (λ (p : TermPoint). points_bytes index_interval interval ts i ++ point_bytes interval (point_before index_interval interval ts i) p) (point_before-push index_interval interval ts t (suc i) some le)

abbrev with_info : List ℕ → TermInfo → DictionaryTerm
with_info text info = record { text = text; info = info }

-- the last of so many terms is what the next entry stands for
pub term_before-is : (ts : List DictionaryTerm) → term_before (length ts) (last_term ts) ≡ point_after ts (length ts)
term_before-is [] = refl
term_before-is (t ∷ ts) =
    ap (λ (k : ℕ). term_before (suc (length ts)) (get_or (t ∷ ts) k no_term)) (let e : length (t ∷ ts) - 1 ≡ length ts = omega arith in e) ∙ same (get_or (t ∷ ts) (length ts) no_term)
  where
    same : (x : DictionaryTerm) → term_before (suc (length ts)) x ≡ x
    same x = let f : eqb (suc (length ts)) 0 ≡ false = ne_eqb _ _ (λ e. absurd (omega (arith, e))) in ap (λ (b : Bool). with_info x.text (if b then blank.info else x.info)) f

-- no more intervals have intervals_begun than there are terms
abbrev pub begun_by : ℕ → ℕ → ℕ
begun_by n interval = intervals_begun interval n

pub intervals_begun-few : (interval n : ℕ) → 1 ≤ interval → intervals_begun interval n ≤ n
intervals_begun-few interval n some = elim (cases_lt n (intervals_begun interval n)) [
  | inl lt ↦ absurd (omega (arith, below lt))
  | inr le ↦ le
]
  where
    below : n < intervals_begun interval n → n < n
    below lt = let above : 0 < interval = omega (arith, some) in let first = intervals_begun-first interval n n some lt in omega (arith, first, le-mul_of_pos_right n above)
