-- The plans of some things in turn, over a file: what the check of one after another has passed.
use Rattle.std.specs.Prelude.{◌≡◌, ℕ, ◌<◌, ◌≤◌, List, length, take, Some, slice_get}
use Rattle.lu_grammar.specs.Bytes.{start_of, place_in}
use Rattle.lu_grammar.specs.Plans.{Plan, in_turn}
use Rattle.lu_grammar.specs.Meaning.{Reads, ReadsTo}

-- so many of the things stand one after another up to this place, and what each stands for is so of it
pub record HavePassed {C V R : Type 0} (plan : C → Plan V R) (IsSo : C → V → Type 0) (cs : List C) (bytes : List ℕ) (passed place : ℕ) : Type 0 where
  pub values : List V
  pub so_far : ReadsTo (in_turn plan (take passed cs)) (start_of bytes) values (place_in bytes place)
  pub count : length values ≡ passed
  pub each : (n : ℕ) (c : C) → n < passed → slice_get cs n ≡ Some c → (v : V) × (slice_get values n ≡ Some v) × IsSo c v
  pub few : passed ≤ length cs
  pub within : place ≤ length bytes

-- the things are the whole file, which stands for these values, each of which is so of its thing
pub record AreTaken {C V R : Type 0} (plan : C → Plan V R) (IsSo : C → V → Type 0) (cs : List C) (bytes : List ℕ) (values : List V) : Type 0 where
  pub reads : Reads (in_turn plan cs) bytes values
  pub count : length values ≡ length cs
  pub each : (n : ℕ) (c : C) → slice_get cs n ≡ Some c → (v : V) × (slice_get values n ≡ Some v) × IsSo c v
