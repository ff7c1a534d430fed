-- A loop that reads so many turns of a plan: what is left of all, after some.
use Rattle.std.proofs.Common.{◌≡◌, ℕ, suc, ◌+◌, ◌-◌, ◌<◌, List, [], Result, Ok, Err, sym, ap, subst, ◌∙◌, arith}
use Rattle.lu_types.specs.declared.kind.FileKind.{FileKind}
use Rattle.lu_types.specs.declared.fault.CodecFault.{CodecFault}
use Rattle.lu_types.specs.Judging.{IsBrokenSo}
use Rattle.lu_grammar.specs.Bytes.{Cursor}
use Rattle.lu_grammar.specs.Plans.{Broken}
use Rattle.term_vectors.proofs.Steps.{Continues, Continues-same, Continues-then, Continues-ok, Continues-err, Continues-broken_so}

module _ {A S : Type 0} (reads : ℕ → S → Cursor → Result (List A × Cursor) Broken) (total : ℕ) (first : S) (start : Cursor) where
  -- after so many turns the others are left, from this state and place
  pub record AreLeft (i : ℕ) (s : S) (here : Cursor) : Type 0 where
    pub left : Continues (reads total first start) (reads (total - i) s here)

  pub none-passed : AreLeft 0 first start
  none-passed = let all : total - 0 ≡ total = omega arith in record { left = Continues-same (reads total first start) (reads (total - 0) first start) (ap (λ (k : ℕ). reads k first start) (sym all)) }

  pub one-passed : (i : ℕ) (s t : S) (here next : Cursor) → AreLeft i s here → i < total → ((n : ℕ) → Continues (reads (suc n) s here) (reads n t next)) → AreLeft (i + 1) t next
  one-passed i s t here next h lt turn =
      let more : total - i ≡ suc (total - (i + 1)) = omega arith in
      let step = subst (λ (k : ℕ). Continues (reads k s here) (reads (total - (i + 1)) t next)) (sym more) (turn (total - (i + 1))) in
      record { left = Continues-then (reads total first start) (reads (total - i) s here) (reads (total - (i + 1)) t next) h.left step }

  pub turn-broken : (i : ℕ) (s : S) (here : Cursor) (b : Broken) → AreLeft i s here → i < total → ((n : ℕ) → reads (suc n) s here ≡ Err b) → reads total first start ≡ Err b
  turn-broken i s here b h lt turn =
      let more : total - i ≡ suc (total - (i + 1)) = omega arith in
      Continues-err (reads total first start) (reads (total - i) s here) b h.left (ap (λ (k : ℕ). reads k s here) more ∙ turn (total - (i + 1)))

  pub turn-broken_so : (kind : FileKind) (i : ℕ) (s : S) (here : Cursor) (fault : CodecFault) → AreLeft i s here → i < total → ((n : ℕ) → IsBrokenSo kind (reads (suc n) s here) fault) → IsBrokenSo kind (reads total first start) fault
  turn-broken_so kind i s here fault h lt turn =
      let more : total - i ≡ suc (total - (i + 1)) = omega arith in
      Continues-broken_so kind (reads total first start) (reads (total - i) s here) fault h.left (subst (λ (k : ℕ). IsBrokenSo kind (reads k s here) fault) (sym more) (turn (total - (i + 1))))

  pub all-passed : (i : ℕ) (s : S) (here : Cursor) → AreLeft i s here → i ≡ total → reads 0 s here ≡ Ok ([], here) → (v : List A) × (reads total first start ≡ Ok (v, here))
  all-passed i s here h is none =
      let nothing : total - i ≡ 0 = omega arith in
      (h.left.make [], Continues-ok (reads total first start) (reads (total - i) s here) [] here h.left (ap (λ (k : ℕ). reads k s here) nothing ∙ none))
