-- The numbers that a new commit and its new files draw (docs/FORMAT.md, "Commits in a folder").
use Rattle.std.specs.Prelude.{ℕ, ◌+◌, ◌^◌, List, [], ◌∷◌, Option, Some, None, option_and_then, option_to_list}
use Rattle.std.specs.List.{filter_map, flat_map}
use Rattle.lu_types.specs.declared.stored.SharedStore.{SharedStore}
use Rattle.lu_types.specs.Names.{greatest_segment}
use Rattle.segment_infos.specs.declared.infos.SegInfo.{SegInfo}
use Rattle.segment_infos.specs.declared.naming.LuceneName.{LuceneName}
use Rattle.segment_infos.specs.Generations.{generation_of}
use Rattle.segment_infos.specs.LuceneNames.{lucene_name_in}
use Rattle.segment_infos.specs.Values.{CommitValue}
use Rattle.lu_folder.specs.Numbers.{above, if_below, segment_of_name, del_generation_of}

-- the numbers of the names that have one
abbrev pub numbers_in : (LuceneName → Option ℕ) → List (List ℕ) → List ℕ
numbers_in counted_number names = filter_map (λ text. option_and_then counted_number (lucene_name_in text)) names

-- the generation of the next commit: above all listed ones, and at least 1; none where that is no generation
abbrev pub next_generation : List (List ℕ) → Option ℕ
next_generation names = if_below (2 ^ 63) (above 1 (numbers_in generation_of names))

-- the number of a shared store
abbrev pub store_numbers : Option SharedStore → List ℕ
store_numbers None = []
store_numbers (Some store) = store.number ∷ []

-- the numbers that the line of a segment has: its own, and that of its store
abbrev pub line_numbers : SegInfo → List ℕ
line_numbers line = line.number ∷ store_numbers line.store

-- the number of the first new segment: at least the name counter of the commit, and above the number of every segment and store of
-- the commit and of every listed file of a segment; none where no segment may have it
abbrev pub next_segment : List (List ℕ) → CommitValue → Option ℕ
next_segment names commit =
    if_below (greatest_segment + 1) (above (above commit.counter (flat_map line_numbers commit.segments)) (numbers_in segment_of_name names))

-- the generation of a new file of deleted documents of the segment: above that of its line and all listed ones of the segment, and
-- at least 1; none where that is no generation
abbrev pub next_del : List (List ℕ) → SegInfo → Option ℕ
next_del names line =
    if_below (2 ^ 63) (above (above 1 (option_to_list line.del_gen)) (numbers_in (del_generation_of line.number) names))
