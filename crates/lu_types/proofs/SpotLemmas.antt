-- Spots, and what the checks answer by them.
use Rattle.std.proofs.Common.{◌≡◌, ℕ, Result, Err, sym, ap, ◌∙◌}
use Rattle.lu_grammar.specs.Plans.{Broken}
use Rattle.lu_types.specs.declared.kind.FileKind.{FileKind}
use Rattle.lu_types.specs.declared.fault.Spot.{Spot}
use Rattle.lu_types.specs.Judging.{IsBroken}

-- the spot of these parts
abbrev pub spot_of : FileKind → ℕ → ℕ → Spot
spot_of kind offset rule = record { kind = kind; offset = offset; rule = rule }

-- spots with the same parts are one
pub same_spot : (a b : Spot) → a.kind ≡ b.kind → a.offset ≡ b.offset → a.rule ≡ b.rule → a ≡ b
same_spot a b kind offset rule = ap (λ k. spot_of k a.offset a.rule) kind ∙ ap (λ n. spot_of b.kind n a.rule) offset ∙ ap (spot_of b.kind b.offset) rule

-- what reading answers, as its spot says it
pub spot-broken : {A : Type 0} (kind : FileKind) (offset rule : ℕ) (s : Spot) (expected : Result A Broken) → s ≡ spot_of kind offset rule → expected ≡ Err (record { offset = offset; rule = rule }) → IsBroken kind expected s
spot-broken {A} kind offset rule s expected is e = (ap (λ (t : Spot). t.kind) is, e ∙ ap (λ (t : Spot). fault_of t.offset t.rule) (sym is))
  where
    fault_of : ℕ → ℕ → Result A Broken
    fault_of o r = Err (record { offset = o; rule = r })
