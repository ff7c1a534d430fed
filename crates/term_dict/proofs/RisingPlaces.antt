-- The places of terms that are written rise, and so does what is said of them.
use Rattle.std.proofs.Common.{◌≡◌, ℕ, zero, suc, ◌+◌, ◌-◌, ◌<◌, ◌≤◌, List, [], length, take, get_or, sym, ap, subst, ◌∙◌, add-one, arith, inl, inr}
use Rattle.std.proofs.lemmas.Bool.{cases_lt}
use Rattle.std.proofs.lemmas.List.{length-append, take_all, take_more}
use Rattle.lu_types.specs.declared.term.TermInfo.{TermInfo}
use Rattle.term_dict.specs.Terms.{DictionaryTerm, no_term, last_term}
use Rattle.term_dict.specs.Index.{point_after}
use Rattle.term_dict.specs.Canonical.{entry_between, terms_bytes, term_record_bytes, start_of_term}
use Rattle.term_dict.specs.Writing.{FollowsTerm, AreSpellable}
use Rattle.term_dict.proofs.LoopLemmas.{last_term-push}
use Rattle.term_dict.proofs.WriteLemmas.{SpellableAt, spellable-at, last_after, last_after-last, terms_bytes-push}

-- ---- places rise

start-next : (interval : ℕ) (ts : List DictionaryTerm) (n : ℕ) → start_of_term interval ts n ≤ start_of_term interval ts (n + 1)
start-next interval ts n = elim (cases_lt n (length ts)) [
  | inl lt ↦
      let t = get_or ts n no_term in
      let more = ap (terms_bytes interval no_term) (take_more ts n no_term lt) ∙ terms_bytes-push interval no_term (take n ts) t in
      omega (arith, ap length more, length-append (terms_bytes interval no_term (take n ts)) (term_record_bytes interval (entry_between (last_after no_term (take n ts)) t) []))
  | inr ge ↦
      let same : take n ts ≡ take (n + 1) ts = take_all n ts ge ∙ sym (take_all (n + 1) ts (omega arith)) in
      omega (arith, ap (λ (us : List DictionaryTerm). length (terms_bytes interval no_term us)) same)
]

pub start-rises : (interval : ℕ) (ts : List DictionaryTerm) (m n : ℕ) → start_of_term interval ts m ≤ start_of_term interval ts (m + n)
start-rises interval ts m zero = let e : m ≡ m + 0 = omega arith in omega (arith, ap (start_of_term interval ts) e)
start-rises interval ts m (suc n) =
    let e : m + n + 1 ≡ m + suc n = omega arith in omega (arith, start-rises interval ts m n, start-next interval ts (m + n), ap (start_of_term interval ts) e)

-- ---- what is said of the last of so many terms

-- its numbers are small, and no place falls
pub record Rises (a b : TermInfo) : Type 0 where
  pub freq : a.freq ≤ b.freq
  pub prox : a.prox ≤ b.prox

rises-next : (interval : ℕ) (ts : List DictionaryTerm) (n : ℕ) → AreSpellable interval no_term ts → n < length ts → Rises (point_after ts n).info (point_after ts (n + 1)).info
rises-next interval ts n h lt =
    let at = spellable-at interval no_term ts n h lt in
    let t_is : point_after ts (n + 1) ≡ get_or ts n no_term = ap (point_after ts) (add-one n) in
    subst (λ (t : DictionaryTerm). Rises (point_after ts n).info t.info) (sym t_is) (first n lt at)
  where
    first : (n : ℕ) → n < length ts → SpellableAt interval no_term ts n → Rises (point_after ts n).info (get_or ts n no_term).info
    first zero lt at = record { freq = omega arith; prox = omega arith }
    first (suc m) lt at =
        let is : last_after no_term (take (suc m) ts) ≡ get_or ts m no_term = last_after-last (take (suc m) ts) ∙ last_of_take m (omega arith) in
        let follows : FollowsTerm (get_or ts m no_term).info (get_or ts (suc m) no_term).info = subst (λ (b : DictionaryTerm). FollowsTerm b.info (get_or ts (suc m) no_term).info) is at.follows in
        record { freq = follows.freq; prox = follows.prox }
      where
        last_of_take : (m : ℕ) → m < length ts → last_term (take (suc m) ts) ≡ get_or ts m no_term
        last_of_take m lt = ap last_term (ap (λ (k : ℕ). take k ts) (sym (add-one m)) ∙ take_more ts m no_term lt) ∙ last_term-push (take m ts) (get_or ts m no_term)

pub rises : (interval : ℕ) (ts : List DictionaryTerm) (m n : ℕ) → AreSpellable interval no_term ts → m + n ≤ length ts → Rises (point_after ts m).info (point_after ts (m + n)).info
rises interval ts m zero h le =
    let e : m ≡ m + 0 = omega arith in
    record { freq = omega (arith, ap (λ (k : ℕ). (point_after ts k).info.freq) e); prox = omega (arith, ap (λ (k : ℕ). (point_after ts k).info.prox) e) }
rises interval ts m (suc n) h le =
    let before = rises interval ts m n h (omega arith) in
    let next = rises-next interval ts (m + n) h (omega arith) in
    let e : m + n + 1 ≡ m + suc n = omega arith in
    record {
      freq = omega (arith, before.freq, next.freq, ap (λ (k : ℕ). (point_after ts k).info.freq) e);
      prox = omega (arith, before.prox, next.prox, ap (λ (k : ℕ). (point_after ts k).info.prox) e);
    }
