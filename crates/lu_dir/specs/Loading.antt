-- Files that were loaded by their names.
use Rattle.std.specs.Prelude.{ℕ, ◌+◌, ◌≤◌, Bool, false, List, [], ◌∷◌, length, Option, Some, None, if◌then◌else◌, nat_lt, option_map, IfSome, map, string_bytes, String, refl}
use Rattle.std.specs.Coded.{Coded, code_by, coded_ℕ, coded_list, coded_option, coded×}
use Rattle.std.specs.Str.{bytes_eq}
use Rattle.lu_grammar.specs.Bytes.{IsBytes}
use Rattle.lu_dir.specs.Files.{Files, contents}

-- the bytes of some texts
abbrev pub texts : {A : Type 0} → List (String A) → List (List ℕ)
texts names = map string_bytes names

-- the names that were asked for, and beside each what was found: the bytes of its file, where there is one
pub record Loading : Type 0 where
  pub names : List (List ℕ)
  pub found : List (Option (List ℕ))

-- what was found beside the first of these names that is the one asked for
abbrev pub found_at : List (List ℕ) → List (Option (List ℕ)) → List ℕ → Option (List ℕ)
found_at (name ∷ names) (found ∷ rest) asked = (if bytes_eq asked name then found else found_at names rest asked)
found_at (name ∷ names) [] asked = None
found_at [] found asked = None

-- what was found is made of bytes, of so many at most
pub record IsLoadable (limit : ℕ) (found : Option (List ℕ)) : Type 0 where
  pub bytes : IfSome found IsBytes
  pub within : IfSome found (λ bytes. length bytes ≤ limit)

-- whether a file is there and has more bytes than the limit
abbrev pub is_over : ℕ → Option (List ℕ) → Bool
is_over limit None = false
is_over limit (Some bytes) = nat_lt limit (length bytes)

-- the place of the first of these names whose file has more bytes than the limit
abbrev pub first_over : Files → ℕ → List (List ℕ) → Option ℕ
first_over told limit [] = None
first_over told limit (name ∷ names) = (if is_over limit (contents told name) then Some 0 else option_map (λ place. place + 1) (first_over told limit names))

-- names and what was found are stored as a pair
abbrev pub loading_code : Coded Loading
loading_code = code_by (List (List ℕ) × List (Option (List ℕ))) (coded× (coded_list (coded_list coded_ℕ)) (coded_list (coded_option (coded_list coded_ℕ)))) (λ loaded. (loaded.names, loaded.found)) (λ pair. record { names = pair.0; found = pair.1 }) (λ _. refl)
