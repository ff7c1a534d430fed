-- What an answer says of the count of faults of the object that gave it.
use Rattle.std.specs.Prelude.{◌≡◌, ℕ, ◌<◌, ◌≤◌, ◌⊎◌}

-- the last value of a count of faults, that of a u64
abbrev pub last_count : ℕ
last_count = 18446744073709551615

-- the count is greater than before, or stands at its last value
abbrev pub Rose : ℕ → ℕ → Type 0
Rose before after = (before < after) ⊎ (after ≡ last_count)

-- the count did not fall, and where the device failed it rose
pub record IsCaused (before after : ℕ) (Failure : Type 0) : Type 0 where
  pub later : before ≤ after
  pub rose : Failure → Rose before after
