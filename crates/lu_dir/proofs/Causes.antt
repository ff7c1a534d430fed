-- Counts of faults over several calls.
use Rattle.std.proofs.Common.{ℕ, ◌≤◌, inl, inr, arith}
use Rattle.lu_dir.specs.Faults.{Rose, IsCaused}

-- a count that rose since a later moment rose since an earlier one
pub Rose-earlier : (before between after : ℕ) → before ≤ between → Rose between after → Rose before after
Rose-earlier before between after later (inl rose) = inl (omega arith)
Rose-earlier before between after later (inr last) = inr last

-- what caused the answer of a later call is a cause since an earlier moment
pub IsCaused-earlier : {Failure : Type 0} (before between after : ℕ) → before ≤ between → IsCaused between after Failure → IsCaused before after Failure
IsCaused-earlier before between after later caused = record {
  later = omega (arith, caused.later);
  rose = λ failure. Rose-earlier before between after later (caused.rose failure);
}

-- where nothing failed there is nothing to show but that the count did not fall
pub IsCaused-no_failure : {Failure : Type 0} (before after : ℕ) → before ≤ after → (Failure → ⊥) → IsCaused before after Failure
IsCaused-no_failure before after later none = record { later = later; rose = λ failure. absurd (none failure) }

-- a count that rose stays so
pub Rose-later : (before between after : ℕ) → between ≤ after → before ≤ between → Rose before between → Rose before after
Rose-later before between after later earlier (inl rose) = inl (omega arith)
Rose-later before between after later earlier (inr last) = grind arith
