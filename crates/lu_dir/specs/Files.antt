-- The files of a folder, and what each call makes of them.
use Rattle.std.specs.Prelude.{◌≡◌, ℕ, ◌+◌, ◌≤◌, List, [], ◌++◌, length, take, drop, Option, Some, Result, Err, unwrap_or, IsSomeAnd, IfSome}
use Rattle.std.specs.Ordering.{nat_cmp}
use Rattle.std.specs.Cmp.Lexicographic.{slice_cmp}
use Rattle.std.specs.Option.{ForSome}
use Rattle.std.specs.FinMap.{FinMap, get, insert, remove}
use Rattle.lu_grammar.specs.Bytes.{IsBytes}
use Rattle.lu_dir.specs.declared.fail.DirFail.{DirFail}
use Rattle.lu_dir.specs.declared.fail.DirFail.TheVariants.{OutOfMemory}

-- the files of a folder: the bytes of each name
abbrev pub Files : Type 0
Files = FinMap (slice_cmp nat_cmp) (List ℕ)

-- the bytes of the file with this name, where there is one
abbrev pub contents : Files → List ℕ → Option (List ℕ)
contents files name = get files name

-- each file is made of bytes
abbrev pub AreMadeOfBytes : Files → Type 0
AreMadeOfBytes files = (name : List ℕ) → IfSome (contents files name) IsBytes

-- the files with this one made or replaced
abbrev pub with_file : List ℕ → List ℕ → Files → Files
with_file name bytes files = insert files name bytes

-- the files without this one
abbrev pub without_file : List ℕ → Files → Files
without_file name files = remove files name

-- so many bytes of the file, from this place on
abbrev pub range_of : Files → List ℕ → ℕ → ℕ → List ℕ
range_of files name at count = take count (drop at (unwrap_or (contents files name) []))

-- the file is there, and has so many bytes from this place on
abbrev pub HasRange : Files → List ℕ → ℕ → ℕ → Type 0
HasRange files name at count = IsSomeAnd (contents files name) (λ bytes. at + count ≤ length bytes)

-- the bytes with these written over them, from this place on
abbrev pub written_over : ℕ → List ℕ → List ℕ → List ℕ
written_over at bytes old = take at old ++ bytes ++ drop (at + length bytes) old

-- the files with these bytes written over those of this one
abbrev pub with_patch : List ℕ → ℕ → List ℕ → Files → Files
with_patch name at bytes files = with_file name (written_over at bytes (unwrap_or (contents files name) [])) files

-- a failed `create` left the files as before, without the named one, or with a prefix of the bytes in it
pub data CreateLeaves (name bytes : List ℕ) (old new : Files) : Type 0 where
  before : new ≡ old → CreateLeaves name bytes old new
  absent : new ≡ without_file name old → CreateLeaves name bytes old new
  prefix : (count : ℕ) → new ≡ with_file name (take count bytes) old → CreateLeaves name bytes old new

-- a failed `patch` wrote a prefix of the bytes, maybe none
pub data PatchLeaves (name : List ℕ) (at : ℕ) (bytes : List ℕ) (old new : Files) : Type 0 where
  prefix : (count : ℕ) → new ≡ with_patch name at (take count bytes) old → PatchLeaves name at bytes old new

-- a failed `remove` left the files as before, or without the named one
pub data RemoveLeaves (name : List ℕ) (old new : Files) : Type 0 where
  before : new ≡ old → RemoveLeaves name old new
  absent : new ≡ without_file name old → RemoveLeaves name old new

-- where the files were told they still are, and the call left this of them
abbrev pub Leaves : (Files → Files → Type 0) → Option Files → Option Files → Type 0
Leaves Left old new = ForSome old (λ files. (now : Files) × (new ≡ Some now) × Left files now)

-- the path last asked for, after an answer to `enter`
abbrev pub asked_after : {T : Type 0} → Result T DirFail → List ℕ → Option (List ℕ) → Option (List ℕ)
asked_after (Err OutOfMemory) path last = last
asked_after _ path last = Some path
