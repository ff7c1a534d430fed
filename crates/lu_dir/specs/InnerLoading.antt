-- Files that are loaded one after another: what a map holds of those that were asked for so far.
use Rattle.std.specs.Prelude.{◌≡◌, ℕ, ◌≤◌, Bool, false, List, length, Option, None, if◌then◌else◌, IfSome}
use Rattle.std.specs.List.{list_any}
use Rattle.std.specs.Str.{bytes_eq}
use Rattle.lu_dir.specs.Files.{Files, contents}

-- whether the name is one of these
abbrev pub is_named : List (List ℕ) → List ℕ → Bool
is_named names name = list_any (bytes_eq name) names

-- the file of a name that was asked for, where there is one
abbrev pub file_if_named : Files → List (List ℕ) → List ℕ → Option (List ℕ)
file_if_named told names name = (if is_named names name then contents told name else None)

-- these are the files of a folder that were asked for, and no others
abbrev pub AreLoaded : Files → List (List ℕ) → Files → Type 0
AreLoaded told names loaded = (name : List ℕ) → contents loaded name ≡ file_if_named told names name

-- no other files than those that were asked for
abbrev pub AreOnly : List (List ℕ) → Files → Type 0
AreOnly names loaded = (name : List ℕ) → is_named names name ≡ false → contents loaded name ≡ None

-- no file has more bytes than the limit
abbrev pub HaveAtMost : ℕ → Files → Type 0
HaveAtMost limit loaded = (name : List ℕ) → IfSome (contents loaded name) (λ bytes. length bytes ≤ limit)
