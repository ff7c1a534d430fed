-- Numbers of names that count, and the least number above them.
use Rattle.std.specs.Prelude.{ℕ, List, Option, option_and_then}
use Rattle.std.specs.List.{filter_map}
use Rattle.segment_infos.specs.declared.naming.LuceneName.{LuceneName}
use Rattle.segment_infos.specs.Generations.{generation_of}
use Rattle.segment_infos.specs.LuceneNames.{lucene_name_in}
use Rattle.lu_folder.specs.Numbers.{above, segment_of_name, del_generation_of}
use Rattle.lu_folder.specs.declared.numbering.Counted.{Counted}
use Rattle.lu_folder.specs.declared.numbering.Counted.TheVariants.{Commits, Segments, Deletions}

-- the number of a name that counts
abbrev pub counted_number : Counted → LuceneName → Option ℕ
counted_number Commits name = generation_of name
counted_number Segments name = segment_of_name name
counted_number (Deletions number) name = del_generation_of number name

-- the number of a text that counts, where it is a name
abbrev pub counted_number_in : Counted → List ℕ → Option ℕ
counted_number_in counted text = option_and_then (counted_number counted) (lucene_name_in text)

-- the least number that is at least this one, and above each number of the names that counts
abbrev pub drawn : Counted → ℕ → List (List ℕ) → ℕ
drawn counted least names = above least (filter_map (counted_number_in counted) names)
