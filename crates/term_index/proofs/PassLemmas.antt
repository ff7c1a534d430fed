-- Terms that a walk passes.
use Rattle.std.proofs.Common.{◌≡◌, ℕ, zero, suc, min, [], ◌∷◌, ◌+◌, ◌-◌, ◌<◌, ◌≤◌, List, length, take, Option, Some, None, refl, sym, ap, ◌∙◌, arith}
use Rattle.std.specs.Prelude.{slice_get, slice_index_or}
use Rattle.std.specs.Option.{option_map}
use Rattle.std.proofs.lemmas.Option.{slice_get-get_or}
use Rattle.lu_types.specs.declared.term.TermInfo.{TermInfo}
use Rattle.term_dict.specs.Terms.{DictionaryTerm, no_term}
use Rattle.term_dict.proofs.LoopLemmas.{last_term-push}
use Rattle.term_dict.specs.declared.cursor.NextTerm.{NextTerm}
use Rattle.term_dict.specs.Shared.{next_after}
use Rattle.term_dict.specs.Walk.{TermWalk, term_passed, passed_on, walk_to}
use Rattle.term_dict.proofs.JumpLemmas.{last_term-take}
use Rattle.term_dict.proofs.SpellingLemmas.{take-shared}
use Rattle.term_index.specs.Points.{ShareFront}

take-of_take : (n m : ℕ) (x : List ℕ) → n ≤ m → take n (take m x) ≡ take n x
take-of_take zero m x le = refl
take-of_take (suc n) zero x le = absurd (omega arith)
take-of_take (suc n) (suc m) [] le = refl
take-of_take (suc n) (suc m) (b ∷ bs) le = ap (λ (t : List ℕ). b ∷ t) (take-of_take n m bs (omega arith))

-- texts that begin alike begin alike in fewer bytes
pub take-fewer : (n m : ℕ) (x y : List ℕ) → n ≤ m → take m x ≡ take m y → take n x ≡ take n y
take-fewer n m x y le e = sym (take-of_take n m x le) ∙ ap (take n) e ∙ take-of_take n m y le

abbrev some_next : NextTerm → Option NextTerm
some_next next = Some next

abbrev none_next : Option NextTerm
none_next = None

-- so many terms were passed
pub record HasPassed (start : TermWalk) (n : ℕ) (w : TermWalk) (info : TermInfo) (shared : ℕ) : Type 0 where
  pub walk : w ≡ walk_to start.dictionary (start.passed + n)
  pub is_last : 0 < n → info ≡ (term_passed w).info
  pub front : ShareFront shared (term_passed start).text w

pub HasPassed-none : (start : TermWalk) (info : TermInfo) (shared : ℕ) → HasPassed start 0 start info shared
HasPassed-none start info shared = record {
  walk = ap (walk_to start.dictionary) (let e : start.passed ≡ start.passed + 0 = omega arith in e);
  is_last = λ some. absurd (omega (arith, some));
  front = refl;
}

-- one term more
pub HasPassed-more : (start : TermWalk) (n : ℕ) (w new : TermWalk) (info : TermInfo) (before : ℕ) (found : NextTerm) (shared : ℕ) → HasPassed start n w info before → start.passed + n < length start.dictionary.terms
    → some_next found ≡ option_map (next_after w) (slice_get w.dictionary.terms w.passed) → new ≡ passed_on w → shared ≡ min before found.shared → HasPassed start (n + 1) new found.info shared
HasPassed-more start n w new info before found shared h lt is to least =
    let d = start.dictionary in
    let p = start.passed + n in
    let here = found.shared in
    let walk : new ≡ walk_to d (p + 1) = to ∙ ap passed_on h.walk in
    let at = slice_get-get_or d.terms p no_term lt in
    let term : term_passed new ≡ slice_index_or d.terms p no_term = ap term_passed walk ∙ last_term-take d.terms p lt in
    let found_is : some_next found ≡ some_next (next_after w (slice_index_or d.terms p no_term)) =
    is ∙ ap (λ (x : TermWalk). option_map (next_after w) (slice_get x.dictionary.terms x.passed)) h.walk ∙ ap (option_map (next_after w)) at in
    let same = some_same found (next_after w (slice_index_or d.terms p no_term)) found_is in
    let shares : take here (term_passed w).text ≡ take here (term_passed new).text =
    ap (λ (k : ℕ). take k (term_passed w).text) (ap (λ (x : NextTerm). x.shared) same) ∙ take-shared (term_passed w).text (slice_index_or d.terms p no_term).text
    ∙ ap (λ (k : ℕ). take k (slice_index_or d.terms p no_term).text) (sym (ap (λ (x : NextTerm). x.shared) same)) ∙ ap (λ (t : DictionaryTerm). take here t.text) (sym term) in
    let later : take shared (term_passed w).text ≡ take shared (term_passed new).text =
    take-fewer shared here (term_passed w).text (term_passed new).text (omega (arith, least)) shares in
    record {
      walk = walk ∙ ap (walk_to d) (let e : p + 1 ≡ start.passed + (n + 1) = omega arith in e);
      is_last = λ some. ap (λ (x : NextTerm). x.info) same ∙ ap (λ (t : DictionaryTerm). t.info) (sym term);
      front = take-fewer shared before (term_passed start).text (term_passed w).text (omega (arith, least)) h.front ∙ later;
    }
  where
    some_same : (a b : NextTerm) → some_next a ≡ some_next b → a ≡ b
    some_same a b e = cc

-- there is a term more
pub HasPassed-there : (start : TermWalk) (n : ℕ) (w : TermWalk) (info : TermInfo) (shared : ℕ) → HasPassed start n w info shared → start.passed + n < length start.dictionary.terms
    → none_next ≡ option_map (next_after w) (slice_get w.dictionary.terms w.passed) → ⊥
HasPassed-there start n w info shared h lt is =
    let d = start.dictionary in
    let p = start.passed + n in
    let e : none_next ≡ some_next (next_after w (slice_index_or d.terms p no_term)) =
    is ∙ ap (λ (x : TermWalk). option_map (next_after w) (slice_get x.dictionary.terms x.passed)) h.walk ∙ ap (option_map (next_after w)) (slice_get-get_or d.terms p no_term lt) in
    cc

pub ruleset pushing = (last_term-push)
