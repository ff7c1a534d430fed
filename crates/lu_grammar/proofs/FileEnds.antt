-- The end of a file: what is read where nothing is left, and where bytes are.
use Rattle.std.proofs.Common.{◌≡◌, ℕ, ◌<◌, List, length, true, false, eqb, Ok, Err, ap, refl, ◌∙◌, sym, arith, inl, inr}
use Rattle.std.proofs.lemmas.Bool.{eq-eqb, ne_eqb, cases_eq}
use Rattle.lu_grammar.specs.Bytes.{Cursor, start_of}
use Rattle.lu_grammar.specs.Plans.{Plan, Broken, read_plan, ended, read_file}
use Rattle.lu_grammar.specs.RuleNumbers as rules
use Rattle.lu_grammar.proofs.Records.{ok_pair}
use Rattle.lu_grammar.proofs.Plans.{ok_of, err_is_not_ok}
use Rattle.lu_grammar.proofs.Loops.{then_ok}

pub nothing_left : {V : Type 0} (v : V) (here : Cursor) → length here.rest ≡ 0 → ended (v, here) ≡ Ok v
nothing_left v here none = let t : eqb (length here.rest) 0 ≡ true = eq-eqb _ _ none in rw t refl

pub trailing : {V : Type 0} (v : V) (here : Cursor) → 0 < length here.rest → ended (v, here) ≡ Err (record { offset = here.place; rule = rules.trailing })
trailing v here some = let f : eqb (length here.rest) 0 ≡ false = ne_eqb _ _ (omega arith) in rw f refl

-- a file that was read: its plan was, and nothing is left
pub file_was : {V R : Type 0} (plan : Plan V R) (bytes : List ℕ) (v : V) → read_file plan bytes ≡ ok_of v → (d : Cursor) × (read_plan plan (start_of bytes) ≡ ok_pair v d) × (length d.rest ≡ 0)
file_was {V} {R} plan bytes v e =
    let first = then_ok (read_plan plan (start_of bytes)) ended v e in
    let end = at_end first.0 first.2 in
    (first.0.1, first.1 ∙ ap (λ (w : V). ok_pair w first.0.1) end.0, end.1)
  where
    at_end : (x : V × Cursor) → ended x ≡ ok_of v → (x.0 ≡ v) × (length x.1.rest ≡ 0)
    at_end x h = elim (cases_eq (length x.1.rest) 0) [
      | inl none ↦ (same_ok (sym (nothing_left x.0 x.1 none) ∙ h), none)
      | inr some ↦ let lt : 0 < length x.1.rest = omega arith in absurd (err_is_not_ok (sym (trailing x.0 x.1 lt) ∙ h))
    ]
      where
        same_ok : {w : V} → ok_of {E = Broken} w ≡ ok_of v → w ≡ v
        same_ok q = cc
