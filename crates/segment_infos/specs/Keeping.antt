-- Commits that are kept, and the names that they keep, as the code has them.
use Rattle.std.specs.Prelude.{ℕ, ◌^◌, ◌<◌, ◌↔◌, Bool, not, ◌&&◌, List, Contains, is_some}
use Rattle.lu_types.specs.Names.{IsPart}
use Rattle.segment_infos.specs.declared.removing.Kept.{Kept}
use Rattle.segment_infos.specs.declared.naming.LuceneName.{LuceneName}
use Rattle.segment_infos.specs.declared.naming.LuceneName.TheVariants.{Commit, Part, Del, Sep}
use Rattle.segment_infos.specs.LuceneNames.{lucene_name_in}
use Rattle.segment_infos.specs.Referring.{KeptValue, is_spelled_among}

-- the generation, and the commit that is lent
abbrev pub kept_value : Kept → KeptValue
kept_value kept = record { generation = kept.generation; commit = kept.commit.now }

-- no other such name has the spelling of this one
abbrev pub HasOwnSpelling : LuceneName → Type 0
HasOwnSpelling (Commit generation) = Unit {0}
HasOwnSpelling (Part segment kind) = IsPart kind
HasOwnSpelling (Del segment generation) = Unit {0}
HasOwnSpelling (Sep segment generation field) = field < 2 ^ 64

-- the keys of a set are these names
abbrev pub HasNames : List LuceneName → List LuceneName → Type 0
HasNames keys names = (name : LuceneName) → Contains keys name ↔ Contains names name

-- the text is a Lucene name that is none of these
abbrev pub is_free : List LuceneName → List ℕ → Bool
is_free names text = is_some (lucene_name_in text) && not (is_spelled_among names text)
