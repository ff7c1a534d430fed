-- The texts that answers print.
use Rattle.std.specs.Prelude.{ℕ, List, [], ◌++◌, codes, unwrap_or}
use Rattle.std.specs.Fmt.{decimal}
use Rattle.lu_types.specs.Kinds.{extension}
use Rattle.lu_types.specs.Names.{part_name}
use Rattle.lu_types.specs.Rules.{name_of_rule}
use Rattle.lu_types.specs.declared.kind.FileKind.{FileKind}
use Rattle.lu_types.specs.declared.fault.Spot.{Spot}
use Rattle.lu_listing.specs.Lines.{line, ◌▹◌}

-- the line of words without a meaning
abbrev pub usage_text : List ℕ
usage_text = line (codes "usage: lucene3 COMMAND [DIR] [ARGUMENTS]")

-- the line of a fault: the file's name, the offset, the rule and the rule's name
abbrev pub spot_text : List ℕ → Spot → List ℕ
spot_text name spot = line (codes "fault" ▹ name ▹ decimal spot.offset ▹ decimal spot.rule ▹ unwrap_or (name_of_rule spot.rule) [])

-- the line of a fault of a segment's file, which is named by its extension
abbrev pub fault_text : List ℕ → Spot → List ℕ
fault_text segment spot = spot_text (part_name segment spot.kind) spot

-- the line of a folder without commits
abbrev pub no_index_text : List ℕ
no_index_text = line (codes "no index")

-- the line that follows the text where names without use may be left
abbrev pub left_behind_text : List ℕ
left_behind_text = line (codes "left behind")

-- the line of a commit that stands: the name of its file, and how many segments, documents and deleted documents it has
abbrev pub stands_text : List ℕ → ℕ → ℕ → ℕ → List ℕ
stands_text name segments documents deleted =
    name ++ (codes " stands: " ++ (decimal segments ++ (codes " segments, " ++ (decimal documents ++ (codes " documents, " ++ (decimal deleted ++ codes " deleted\n"))))))

-- the line of a file that is too long
abbrev pub too_large_text : FileKind → List ℕ
too_large_text kind = line (codes "refused:" ▹ codes "FileTooLarge" ▹ extension kind)
