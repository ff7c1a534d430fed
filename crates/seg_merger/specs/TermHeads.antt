-- Which of several terms comes first.
use Rattle.std.specs.Prelude.{◌≡◌, ◌⊎◌, ℕ, zero, suc, ◌+◌, ◌*◌, ◌/◌, ◌<◌, ◌≤◌, false, List, [], length, slice_index, slice_index_or, Option, Some, None}
use Rattle.std.specs.declared.cmp.Ordering.{Ordering}
use Rattle.std.specs.Ordering.{nat_cmp, ordering_then, is_gt}
use Rattle.lu_model.specs.Index.{Term, term_cmp}

-- a term comes before none
abbrev pub rank : Option Term → ℕ
rank None = 1
rank (Some term) = 0

-- the term, or one without names
abbrev pub name_or_empty : Option Term → Term
name_or_empty None = record { field = []; text = [] }
name_or_empty (Some term) = term

-- how two terms stand to each other that may be there
abbrev pub head_order : Option Term → Option Term → Ordering
head_order p q = ordering_then (nat_cmp (rank p) (rank q)) (term_cmp (name_or_empty p) (name_or_empty q))

-- a term that may be there, and the number of its segment
pub record Head : Type 0 where
  pub term : Option Term
  pub source : ℕ

-- that of the segment with a number
abbrev pub at_source : List (Option Term) → ℕ → Head
at_source heads k = record { term = slice_index_or heads k None; source = k }

-- terms that tie go by their segments
abbrev pub place_order : Head → Head → Ordering
place_order p q = ordering_then (head_order p.term q.term) (nat_cmp p.source q.source)

-- the term of the one segment comes before that of the other, or is it
abbrev pub IsBefore : List (Option Term) → ℕ → ℕ → Type 0
IsBefore heads a b = is_gt (place_order (at_source heads a) (at_source heads b)) ≡ false

-- so many nodes up
abbrev pub up : ℕ → ℕ → ℕ
up zero node = node
up (suc m) node = up m node / 2

-- a node is another, or above it
abbrev pub IsOver : ℕ → ℕ → Type 0
IsOver i j = (m : ℕ) × (i ≡ up m j)

-- what a node has comes before what the two below it have
pub record IsFirst (heads : List (Option Term)) (tree : List ℕ) (j : ℕ) : Type 0 where
  pub left : IsBefore heads (slice_index tree j) (slice_index tree (2 * j))
  pub right : IsBefore heads (slice_index tree j) (slice_index tree (2 * j + 1))

-- node 1 is the root, 2j and 2j + 1 are below j, and the last are the segments; from a node on each has the first of the segments below it
pub record IsBuilt (heads : List (Option Term)) (tree : List ℕ) (i : ℕ) : Type 0 where
  pub all : length tree ≡ 2 * length heads
  pub below : (j : ℕ) → i ≤ j → j < length tree → slice_index tree j < length heads
  pub over : (j : ℕ) → i ≤ j → j < length tree → IsOver j (length heads + slice_index tree j)
  pub first : (j : ℕ) → i ≤ j → j < length heads → IsFirst heads tree j

-- all nodes have
abbrev pub IsTournament : List (Option Term) → List ℕ → Type 0
IsTournament heads tree = IsBuilt heads tree 1

-- all nodes have, but those from one on upward
pub record IsNearly (heads : List (Option Term)) (tree : List ℕ) (i : ℕ) : Type 0 where
  pub all : length tree ≡ 2 * length heads
  pub below : (j : ℕ) → 1 ≤ j → j < length tree → slice_index tree j < length heads
  pub over : (j : ℕ) → 1 ≤ j → j < length tree → IsOver j (length heads + slice_index tree j)
  pub first : (j : ℕ) → 1 ≤ j → j < length heads → IsFirst heads tree j ⊎ IsOver j i
