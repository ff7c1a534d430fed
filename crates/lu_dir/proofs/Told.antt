-- Files that are told over several calls: what changes make of them, and what failures leave.
use Rattle.std.proofs.Common.{◌≡◌, ℕ, List, length, Option, Some, None, sym, ap, ◌∙◌, arith}
use Rattle.std.specs.Option.{option_map}
use Rattle.std.proofs.lemmas.List.{take_all}
use Rattle.lu_dir.specs.Files.{Files, with_file, CreateLeaves, Leaves, prefix}

-- a change of the files, and then what was left
pub Leaves-after : (f : Files → Files) (P Q : Files → Files → Type 0) (old mid new : Option Files) → mid ≡ option_map f old → ((F G : Files) → P (f F) G → Q F G) → Leaves P mid new → Leaves Q old new
Leaves-after f P Q old mid new changed follows left told is =
    let here : mid ≡ Some (f told) = changed ∙ ap (option_map f) is in
    let then : (now : Files) × (new ≡ Some now) × P (f told) now = left (f told) here in
    (then.0, then.1, follows told then.0 then.2)

-- what was left, seen as what more calls may leave
pub Leaves-wider : (P Q : Files → Files → Type 0) (old new : Option Files) → ((F G : Files) → P F G → Q F G) → Leaves P old new → Leaves Q old new
Leaves-wider P Q old new follows left told is = let then = left told is in (then.0, then.1, follows told then.0 then.2)

-- what was left, and then what was left of that
pub Leaves-join : (P Q R : Files → Files → Type 0) (old mid new : Option Files) → ((F G H : Files) → P F G → Q G H → R F H) → Leaves P old mid → Leaves Q mid new → Leaves R old new
Leaves-join P Q R old mid new follows first second told is =
    let one : (now : Files) × (mid ≡ Some now) × P told now = first told is in
    let two : (now : Files) × (new ≡ Some now) × Q one.0 now = second one.0 one.1 in
    (two.0, two.1, follows told one.0 two.0 one.2 two.2)

-- a change of the files is left
pub Leaves-changed : (f : Files → Files) (Q : Files → Files → Type 0) (old new : Option Files) → new ≡ option_map f old → ((F : Files) → Q F (f F)) → Leaves Q old new
Leaves-changed f Q old new changed follows told is = (f told, changed ∙ ap (option_map f) is, follows told)

-- nothing changed
pub Leaves-same : (Q : Files → Files → Type 0) (old new : Option Files) → new ≡ old → ((F : Files) → Q F F) → Leaves Q old new
Leaves-same Q old new same follows told is = (told, same ∙ is, follows told)

-- two changes are one
pub changed-changed : (f g h : Files → Files) (old mid new : Option Files) → mid ≡ option_map f old → new ≡ option_map g mid → ((F : Files) → g (f F) ≡ h F) → new ≡ option_map h old
changed-changed f g h None mid new first second follows = second ∙ ap (option_map g) first
changed-changed f g h (Some F) mid new first second follows = second ∙ ap (option_map g) first ∙ ap Some (follows F)

-- no change is one
pub changed-none : (f : Files → Files) (old new : Option Files) → new ≡ old → ((F : Files) → f F ≡ F) → new ≡ option_map f old
changed-none f None new same follows = same
changed-none f (Some F) new same follows = same ∙ ap Some (sym (follows F))

-- a file that was made holds a prefix of its bytes, the whole
pub CreateLeaves-whole : (name bytes : List ℕ) (files : Files) → CreateLeaves name bytes files (with_file name bytes files)
CreateLeaves-whole name bytes files = prefix (length bytes) (ap (λ (all : List ℕ). with_file name all files) (sym (take_all (length bytes) bytes (omega arith))))
