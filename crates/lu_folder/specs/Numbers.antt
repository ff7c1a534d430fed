-- Numbers in names of files, and the least number above others (docs/FORMAT.md, "Commits in a folder").
use Rattle.std.specs.Prelude.{ℕ, ◌+◌, ◌==◌, max, List, Option, Some, None, if◌then◌else◌, nat_lt, fold}
use Rattle.segment_infos.specs.declared.naming.LuceneName.{LuceneName}
use Rattle.segment_infos.specs.declared.naming.LuceneName.TheVariants.{Commit, Part, Del, Sep}

-- the number of the segment whose file it is
abbrev pub segment_of_name : LuceneName → Option ℕ
segment_of_name (Commit generation) = None
segment_of_name (Part segment kind) = Some segment
segment_of_name (Del segment generation) = Some segment
segment_of_name (Sep segment generation field) = Some segment

-- the generation of a file of deleted documents of the segment with this number
abbrev pub del_generation_of : ℕ → LuceneName → Option ℕ
del_generation_of number (Commit generation) = None
del_generation_of number (Part segment kind) = None
del_generation_of number (Del segment generation) = (if segment == number then Some generation else None)
del_generation_of number (Sep segment generation field) = None

-- the least number that is at least this one, and above each of these
abbrev pub above : ℕ → List ℕ → ℕ
above least numbers = fold (λ number used. max number (used + 1)) least numbers

-- the number, where it is below the limit
abbrev pub if_below : ℕ → ℕ → Option ℕ
if_below limit number = (if nat_lt number limit then Some number else None)
