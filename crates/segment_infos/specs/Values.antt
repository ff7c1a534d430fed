-- What a commit says (docs/FORMAT.md, "segments_N").
use Rattle.std.specs.Prelude.{◌≡◌, ◌≢◌, ℕ, ◌^◌, ◌<◌, ◌≤◌, List, length, Option, Some, None, ℤ, pos, negsuc, All, AllPairs, sum_by}
use Rattle.lu_grammar.specs.Parts.{text, IsValue}
use Rattle.lu_types.specs.declared.stored.SharedStore.{SharedStore}
use Rattle.lu_types.specs.Names.{greatest_segment}
use Rattle.segment_infos.specs.declared.infos.MapPair.{MapPair}
use Rattle.segment_infos.specs.declared.infos.SegInfo.{SegInfo}
use Rattle.segment_infos.specs.declared.record.TheConstants.{MOST_DOCUMENTS}

-- the version, the name counter, the segments with what their lines say, and the pairs of the user data
pub record CommitValue : Type 0 where
  pub version : ℕ
  pub counter : ℕ
  pub segments : List SegInfo
  pub user : List MapPair

-- both texts of a pair are such as a file can hold
abbrev pub IsPair : MapPair → Type 0
IsPair p = IsValue text p.key × IsValue text p.value

-- a Map can hold the pairs
abbrev pub IsMap : List MapPair → Type 0
IsMap pairs = (length pairs < 2 ^ 31) × All IsPair pairs

-- the number of a generation, if there is one
abbrev pub IsGeneration : Option ℕ → Type 0
IsGeneration None = Unit {0}
IsGeneration (Some g) = (1 ≤ g) × (g < 2 ^ 63)

-- a place in a shared store, if there is one
abbrev pub IsStore : Option SharedStore → Type 0
IsStore None = Unit {0}
IsStore (Some store) = (store.offset < 2 ^ 31) × (store.number ≤ greatest_segment)

-- -1, or the number of a generation
abbrev pub IsNormGen : ℤ → Type 0
IsNormGen (pos n) = (1 ≤ n) × (n < 2 ^ 63)
IsNormGen (negsuc n) = n ≡ 0

-- norm generations, if they are counted
abbrev pub AreNormGens : Option (List ℤ) → Type 0
AreNormGens None = Unit {0}
AreNormGens (Some gens) = (length gens < 2 ^ 31) × All IsNormGen gens

-- there are no more deleted documents than documents, and none where there is no file of them
abbrev pub AreDeleted : Option ℕ → ℕ → ℕ → Type 0
AreDeleted None size deleted = deleted ≡ 0
AreDeleted (Some g) size deleted = deleted ≤ size

-- a line of a commit can say so
pub record IsLine (s : SegInfo) : Type 0 where
  pub number : s.number ≤ greatest_segment
  pub size : s.size ≤ MOST_DOCUMENTS
  pub del_gen : IsGeneration s.del_gen
  pub store : IsStore s.store
  pub norm_gens : AreNormGens s.norm_gens
  pub deleted : AreDeleted s.del_gen s.size s.deleted
  pub diagnostics : IsMap s.diagnostics

-- how many documents the segments have, deleted ones included
abbrev pub total_size : List SegInfo → ℕ
total_size segments = sum_by (λ s. s.size) segments

-- these are lines, no two are of one segment, and together they have no more documents than a commit may
pub record AreLines (segments : List SegInfo) : Type 0 where
  pub lines : All IsLine segments
  pub apart : AllPairs (λ s later. s.number ≢ later.number) segments
  pub sizes : total_size segments ≤ MOST_DOCUMENTS

-- a commit can say so
pub record IsCommit (c : CommitValue) : Type 0 where
  pub version : c.version < 2 ^ 63
  pub counter : c.counter < 2 ^ 31
  pub count : length c.segments < 2 ^ 31
  pub segments : AreLines c.segments
  pub user : IsMap c.user
