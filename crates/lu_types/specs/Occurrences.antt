-- An occurrence of a term in a document (format page, "Positions").
use Rattle.std.specs.Prelude.{ℕ, List}

-- where a term stands in a document, and its payload there, empty where it has none
pub record Occurrence : Type 0 where
  pub position : ℕ
  pub payload : List ℕ
