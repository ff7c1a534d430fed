-- Written pairs, one after another.
use Rattle.std.proofs.Common.{◌≡◌, ◌≢◌, ℕ, suc, ◌+◌, ◌-◌, ◌<◌, ◌≤◌, false, eqb, List, [], ◌∷◌, ◌++◌, length, drop, drop-cons, get_or, refl, sym, ap, ◌∙◌, append_assoc, arith}
use Rattle.std.proofs.Math.ListN.{drop_of_length-le}
use Rattle.std.proofs.lemmas.Bool.{ne_eqb}
use Rattle.std.proofs.lemmas.List.{append-nil}
use Rattle.lu_grammar.specs.Parts.{groups}
use Rattle.doc_marks.specs.Spelling.{pairs_bytes}

next-byte : (i : ℕ) (found : List ℕ) → i < length found → drop i found ≡ get_or found i 0 ∷ drop (i + 1) found
next-byte i found lt = drop-cons found i 0 lt ∙ ap (λ (m : ℕ). get_or found i 0 ∷ drop m found) (let e : suc i ≡ i + 1 = omega arith in e)

pub pairs_bytes-zero : (last i : ℕ) (more : List ℕ) → pairs_bytes last i (0 ∷ more) ≡ pairs_bytes last (suc i) more
unfolding pairs_bytes
pairs_bytes-zero last i more = refl

pub pairs_bytes-some : (last i b : ℕ) (more : List ℕ) → b ≢ 0 → pairs_bytes last i (b ∷ more) ≡ groups 4 (i - last) ++ b ∷ pairs_bytes i (suc i) more
unfolding pairs_bytes
pairs_bytes-some last i b more some = let not_none : eqb b 0 ≡ false = ne_eqb b 0 some in rw not_none refl

-- a byte that is 0 is passed over
pub pass-zero : (written all : List ℕ) (last i b : ℕ) (found : List ℕ) → i < length found → b ≡ get_or found i 0 → b ≡ 0 → written ++ pairs_bytes last i (drop i found) ≡ all → written ++ pairs_bytes last (i + 1) (drop (i + 1) found) ≡ all
pass-zero written all last i b found lt is none h =
    let t = drop (i + 1) found in
    ap (λ (n : ℕ). written ++ pairs_bytes last n t) (let e : i + 1 ≡ suc i = omega arith in e)
    ∙ ap (λ (s : List ℕ). written ++ s) (sym (pairs_bytes-zero last i t) ∙ ap (λ (n : ℕ). pairs_bytes last i (n ∷ t)) (sym none ∙ is) ∙ ap (pairs_bytes last i) (sym (next-byte i found lt)))
    ∙ h

-- another is written, after its gap
pub put-some : (written all : List ℕ) (last i b : ℕ) (found : List ℕ) → i < length found → b ≡ get_or found i 0 → b ≢ 0 → written ++ pairs_bytes last i (drop i found) ≡ all
    → ((written ++ groups 4 (i - last)) ++ b ∷ []) ++ pairs_bytes i (i + 1) (drop (i + 1) found) ≡ all
put-some written all last i b found lt is some h =
    let t = drop (i + 1) found in
    let gap = groups 4 (i - last) in
    append_assoc (written ++ gap) (b ∷ []) (pairs_bytes i (i + 1) t)
    ∙ append_assoc written gap (b ∷ pairs_bytes i (i + 1) t)
    ∙ ap (λ (n : ℕ). written ++ (gap ++ b ∷ pairs_bytes i n t)) (let e : i + 1 ≡ suc i = omega arith in e)
    ∙ ap (λ (s : List ℕ). written ++ s) (sym (pairs_bytes-some last i b t some) ∙ ap (λ (n : ℕ). pairs_bytes last i (n ∷ t)) is ∙ ap (pairs_bytes last i) (sym (next-byte i found lt)))
    ∙ h

-- nothing is left
pub all-put : (written all : List ℕ) (last i : ℕ) (found : List ℕ) → length found ≤ i → written ++ pairs_bytes last i (drop i found) ≡ all → written ≡ all
unfolding pairs_bytes
all-put written all last i found le h = sym (append-nil written) ∙ ap (λ (t : List ℕ). written ++ pairs_bytes last i t) (sym (drop_of_length-le found le)) ∙ h
