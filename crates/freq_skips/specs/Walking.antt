-- What the walks of the check keep: where they stand in the level above.
use Rattle.std.specs.Prelude.{◌≡◌, ◌≤◌, ℕ, ◌/◌, List, [], ◌∷◌, Option, Some, None, Ok, length}
use Rattle.lu_grammar.specs.Bytes.{Cursor, place_in}
use Rattle.lu_grammar.specs.Plans.{read_plan}
use Rattle.freq_skips.specs.declared.rules.RuledTerm.{RuledTerm}
use Rattle.freq_skips.specs.declared.datum.Point.{Point}
use Rattle.freq_skips.specs.declared.following.Following.{Following}
use Rattle.freq_skips.specs.Entries.{Posting}
use Rattle.freq_skips.specs.Levels.{Along, level_of, level_plan, level_count, levels, no_point, Follows, AreData}

-- a walk along a level whose data are good has passed one for every so many data of the level below
pub record FollowsPoints (t : RuledTerm) (postings : List Posting) (level : ℕ) (points : List Point) (rest : List (List Point)) (passed : ℕ) (f : Following) : Type 0 where
  pub stated : Option ℕ
  pub begin : Cursor
  pub end : Cursor
  pub all : AreData t postings (level_of level stated rest) begin points end
  pub follows : Follows t postings (level_of level stated rest) begin f.count f.last f.cur
  pub number : f.count ≡ passed / t.rules.skip_interval

-- the walk along the level above, where there is one
abbrev pub FollowsAbove : RuledTerm → List Posting → ℕ → List (List Point) → ℕ → Option Following → Type 0
FollowsAbove t postings level [] passed None = Unit {0}
FollowsAbove t postings level [] passed (Some f) = ⊥
FollowsAbove t postings level (points ∷ rest) passed None = ⊥
FollowsAbove t postings level (points ∷ rest) passed (Some f) = FollowsPoints t postings level points rest passed f

-- a walk is before the first datum of a level, which is to stand here
pub record IsStart (frq : List ℕ) (place : ℕ) (f : Following) : Type 0 where
  pub cur : f.cur ≡ place_in frq place
  pub count : f.count ≡ 0
  pub last : f.last ≡ no_point

-- the walk along the level above, where there is one, is before its first datum
abbrev pub StartsAbove : List ℕ → Option ℕ → Option Following → Type 0
StartsAbove frq None None = Unit {0}
StartsAbove frq None (Some f) = ⊥
StartsAbove frq (Some place) None = ⊥
StartsAbove frq (Some place) (Some f) = IsStart frq place f

-- the data of the level above start here and are good, where there is one
pub record StandPoints (t : RuledTerm) (postings : List Posting) (level : ℕ) (points : List Point) (rest : List (List Point)) (frq : List ℕ) (place : ℕ) : Type 0 where
  pub stated : Option ℕ
  pub end : Cursor
  pub all : AreData t postings (level_of level stated rest) (place_in frq place) points end

-- there is a level above exactly where there are points
abbrev pub StandAbove : RuledTerm → List Posting → ℕ → List (List Point) → List ℕ → Option ℕ → Type 0
StandAbove t postings level [] frq None = Unit {0}
StandAbove t postings level [] frq (Some place) = ⊥
StandAbove t postings level (points ∷ rest) frq None = ⊥
StandAbove t postings level (points ∷ rest) frq (Some place) = StandPoints t postings level points rest frq place

-- a level is good that is to start at a place: its data start at another, and it ends at a third
pub record IsGoodLevel (t : RuledTerm) (postings : List Posting) (number : ℕ) (points : List (List Point)) (frq : List ℕ) (place begin end : ℕ) : Type 0 where
  pub along : Along
  pub reads : read_plan (level_plan t postings number points) (place_in frq place) ≡ Ok (along, place_in frq end)
  pub data_stand : StandPoints t postings number along.points points frq begin
  pub begin_within : begin ≤ length frq
  pub end_within : end ≤ length frq

-- the skip levels are good that are to start at a place, and end at another
pub record AreGoodLevels (t : RuledTerm) (postings : List Posting) (frq : List ℕ) (place end : ℕ) : Type 0 where
  pub points : List (List Point)
  pub reads : read_plan (levels t postings (level_count t) []) (place_in frq place) ≡ Ok (points, place_in frq end)
  pub end_within : end ≤ length frq
