-- Stored values by the numbers of their fields (format page, "Stored documents").
use Rattle.std.specs.Prelude.{ℕ, Bool}
use Rattle.lu_types.specs.declared.stored.Stored.{Stored}

-- a value that a document stores: the number of its field, whether it was tokenized, and what it is
pub record StoredField : Type 0 where
  pub field : ℕ
  pub tokenized : Bool
  pub value : Stored
