-- The segments of a commit in memory: the files of each, and what they stand for (docs/FORMAT.md, "How a fault is found").
use Rattle.std.specs.Prelude.{◌≡◌, List, [], ◌∷◌, All, Option, Some, None}
use Rattle.std.specs.Option.{ForSome}
use Rattle.lu_dir.specs.Files.{Files}
use Rattle.lu_dir.specs.Loading.{IsLoadable}
use Rattle.lu_types.specs.FilePlans.{StandFor}
use Rattle.lu_types.specs.declared.kind.FileKind.{FileKind}
use Rattle.segment_infos.specs.declared.infos.SegInfo.{SegInfo}
use Rattle.segment_infos.specs.Values.{IsLine}
use Rattle.lu_folder.specs.Limits.{file_limit}
use Rattle.lu_folder.specs.Reading.{read_names, first_too_large}
use Rattle.check_index.specs.Files.{FolderFiles}
use Rattle.check_index.specs.Segments.{SegmentValue, segment_files}
use Rattle.lu_reads.specs.declared.holding.Held.{Held}
use Rattle.lu_reads.specs.Finding.{spelled_names, AreRead}

-- the files in memory are files that are read for the segment
pub record IsHeld (held : Held) : Type 0 where
  pub line : IsLine held.line.now
  pub names : held.files.names ≡ spelled_names held.line.now
  pub each : All (IsLoadable file_limit) held.files.found

-- this is held of the segment with this line: what the folder has of its files
pub record IsHeldOf (files : Option Files) (line : SegInfo) (held : Held) : Type 0 where
  pub same : held.line.now ≡ line
  pub read : AreRead files line held.files.found
  pub in_memory : IsHeld held

-- the first file of the segment that is too long is of this kind
abbrev pub IsTooLarge : Option Files → SegInfo → Option FileKind → Type 0
IsTooLarge files line None = ⊥
IsTooLarge files line (Some kind) = ForSome files (λ told. first_too_large told (read_names line) ≡ Some kind)

-- so much is held of the segments with these lines, in order: of all of them, or up to the first of which a file is too long
abbrev pub AreHeldOf : Option Files → List SegInfo → List Held → Option FileKind → Type 0
AreHeldOf files [] [] kind = kind ≡ None
AreHeldOf files [] (held ∷ helds) kind = ⊥
AreHeldOf files (line ∷ lines) [] kind = IsTooLarge files line kind
AreHeldOf files (line ∷ lines) (held ∷ helds) kind = IsHeldOf files line held × AreHeldOf files lines helds kind

-- some files of a segment stand for this
pub record IsMade (x : SegmentValue) : Type 0 where
  pub folder : FolderFiles
  pub line : SegInfo
  pub stands : StandFor (segment_files folder line) x
