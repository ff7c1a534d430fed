-- The generations of the commits among names (docs/FORMAT.md, "Names of files").
use Rattle.std.specs.Prelude.{ℕ, ◌≤◌, List, Option, Some, None, filter_map, AllPairs, IsPermutation}
use Rattle.segment_infos.specs.declared.naming.LuceneName.{LuceneName}
use Rattle.segment_infos.specs.declared.naming.LuceneName.TheVariants.{Commit, Part, Del, Sep}
use Rattle.segment_infos.specs.LuceneNames.{lucene_name_in}

-- the generation of the commit; none where the name is that of none
abbrev pub generation_of : LuceneName → Option ℕ
generation_of (Commit generation) = Some generation
generation_of (Part segment kind) = None
generation_of (Del segment generation) = None
generation_of (Sep segment generation field) = None

-- the same of a name, if there is one
abbrev pub generation_named : Option LuceneName → Option ℕ
generation_named None = None
generation_named (Some name) = generation_of name

-- the generation of the commit that a text names; none where it names none
abbrev pub generation_in : List ℕ → Option ℕ
generation_in text = generation_named (lucene_name_in text)

-- the generations of all names of commits, as the names stand
abbrev pub listed_generations : List (List ℕ) → List ℕ
listed_generations names = filter_map generation_in names

-- these are the generations of all names of commits, the greatest first
pub record AreGenerations (names : List (List ℕ)) (found : List ℕ) : Type 0 where
  pub all : IsPermutation (listed_generations names) found
  pub fall : AllPairs (λ generation later. later ≤ generation) found
