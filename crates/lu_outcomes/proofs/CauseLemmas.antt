-- Counts of failures that say nothing of an answer.
use Rattle.std.proofs.Common.{ℕ, arith}
use Rattle.lu_dir.specs.Faults.{IsCaused}

-- a count that an answer says nothing of only stays or rises
pub IsCaused-never : (before after : ℕ) {A B : Type 0} → IsCaused before after A → (B → ⊥) → IsCaused before after B
IsCaused-never before after cause never = record { later = cause.later; rose = λ b. absurd (never b) }

-- and where an answer comes only with a failure, it is caused as that is
pub IsCaused-when : (before after : ℕ) {A B : Type 0} → IsCaused before after A → (B → A) → IsCaused before after B
IsCaused-when before after cause only = record { later = cause.later; rose = λ b. cause.rose (only b) }

-- a count that stays is later than itself
pub IsCaused-same : (count : ℕ) {B : Type 0} → (B → ⊥) → IsCaused count count B
IsCaused-same count never = record { later = omega arith; rose = λ b. absurd (never b) }
