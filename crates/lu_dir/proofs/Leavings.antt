-- What a planned failure leaves is what a failure may leave.
use Rattle.std.proofs.Common.{◌≡◌, ℕ, ◌+◌, ◌≤◌, List, [], length, cond, Option, Some, None, refl, sym, ap, subst, ◌∙◌, unwrap_or, IsSome, IsSomeAnd, Result, Ok, Err, IsErrOf, OnErr, is_ok, append-nil, add-zero}
use Rattle.lu_dir.specs.declared.fail.DirFail.{DirFail}
use Rattle.lu_dir.specs.declared.fail.DirFail.TheVariants.{Failed, OutOfMemory}
use Rattle.std.specs.Option.{ForSome}
use Rattle.std.proofs.lemmas.List.{take-append-drop}
use Rattle.lu_dir.specs.Files.{Files, contents, with_file, with_patch, written_over, HasRange, CreateLeaves, PatchLeaves, RemoveLeaves, Leaves, before, absent, prefix}
use Rattle.lu_dir.specs.Planned.{PlannedCreate, left_as_planned, no_room, left_by_patch, left_by_remove}
use Rattle.lu_dir.specs.declared.plan.Left.{Left}
use Rattle.lu_dir.specs.declared.plan.Left.TheVariants.{Before, Absent, Prefix}
use Rattle.lu_dir.proofs.TwoChanges.{with_file-same}

-- where both states of the files are told, what was left of them
pub Leaves-told : (Left : Files → Files → Type 0) (old new : Files) → Left old new → Leaves Left (Some old) (Some new)
Leaves-told Left old new left = λ told is.
    let same : old ≡ told = cc in
    (new, refl, subst (λ (files : Files). Left files new) same left)

-- after any error, where a failure leaves this and want of memory leaves all as it was
pub left-told : {T : Type 0} (Left : Files → Files → Type 0) (result : Result T DirFail) (old new : Files) → (IsErrOf result Failed → Left old new) → (IsErrOf result OutOfMemory → new ≡ old) → Left old old → OnErr result (Leaves Left (Some old) (Some new))
left-told Left (Ok value) old new failed memory same = tt
left-told Left (Err Failed) old new failed memory same = Leaves-told Left old new (failed refl)
left-told Left (Err OutOfMemory) old new failed memory same = Leaves-told Left old new (subst (λ (files : Files). Left old files) (sym (memory refl)) same)

-- a file is made, or all is as it was
pub CreateLeaves-made_or_not : {T : Type 0} (result : Result T DirFail) (name bytes : List ℕ) (old new : Files) → new ≡ cond (is_ok result) (with_file name bytes old) old → OnErr result (Leaves (CreateLeaves name bytes) (Some old) (Some new))
CreateLeaves-made_or_not (Ok value) name bytes old new is = tt
CreateLeaves-made_or_not (Err fail) name bytes old new is = Leaves-told (CreateLeaves name bytes) old new (before is)

pub CreateLeaves-planned : (left : Option Left) (name bytes : List ℕ) (old new : Files) → IsSome left → ForSome left (λ left. PlannedCreate left name bytes old new) → CreateLeaves name bytes old new
CreateLeaves-planned None name bytes old new some is = absurd (cc)
CreateLeaves-planned (Some left) name bytes old new some is = by_plan left (is left refl)
  where
    by_plan : (left : Left) → PlannedCreate left name bytes old new → CreateLeaves name bytes old new
    by_plan Before (left_as_planned as_before) = before as_before
    by_plan Absent (left_as_planned gone) = absent gone
    by_plan (Prefix count) (left_as_planned made) = prefix count made
    by_plan left (no_room keeps same) = before same

pub RemoveLeaves-planned : (left : Option Left) (name : List ℕ) (old new : Files) → IsSome left → ForSome left (λ left. new ≡ left_by_remove left name old) → RemoveLeaves name old new
RemoveLeaves-planned None name old new some is = absurd (cc)
RemoveLeaves-planned (Some Before) name old new some is = before (is Before refl)
RemoveLeaves-planned (Some Absent) name old new some is = absent (is Absent refl)
RemoveLeaves-planned (Some (Prefix count)) name old new some is = before (is (Prefix count) refl)

written_over-nothing : (at : ℕ) (bytes : List ℕ) → written_over at [] bytes ≡ bytes
written_over-nothing at bytes = rw (add-zero, append-nil) (take-append-drop at bytes)

-- a patch of no bytes changes nothing
pub with_patch-nothing : (name : List ℕ) (at count : ℕ) (files : Files) → HasRange files name at count → with_patch name at [] files ≡ files
with_patch-nothing name at count files range = patched (contents files name) refl range
  where
    patched : (there : Option (List ℕ)) → contents files name ≡ there → IsSomeAnd there (λ bytes. at + count ≤ length bytes) → with_patch name at [] files ≡ files
    patched None is missing = absurd missing
    patched (Some bytes) is within =
        ap (λ (there : Option (List ℕ)). with_file name (written_over at [] (unwrap_or there [])) files) is
        ∙ ap (λ (all : List ℕ). with_file name all files) (written_over-nothing at bytes)
        ∙ with_file-same name bytes files is

-- a patch that wrote nothing
pub PatchLeaves-same : (name : List ℕ) (at : ℕ) (bytes : List ℕ) (files : Files) → HasRange files name at (length bytes) → PatchLeaves name at bytes files files
PatchLeaves-same name at bytes files range = prefix 0 (sym (with_patch-nothing name at (length bytes) files range))

pub PatchLeaves-planned : (left : Option Left) (name : List ℕ) (at : ℕ) (bytes : List ℕ) (old new : Files) → HasRange old name at (length bytes) → IsSome left → ForSome left (λ left. new ≡ left_by_patch left name at bytes old) → PatchLeaves name at bytes old new
PatchLeaves-planned None name at bytes old new range some is = absurd (cc)
PatchLeaves-planned (Some Before) name at bytes old new range some is = subst (λ (files : Files). PatchLeaves name at bytes old files) (sym (is Before refl)) (PatchLeaves-same name at bytes old range)
PatchLeaves-planned (Some Absent) name at bytes old new range some is = subst (λ (files : Files). PatchLeaves name at bytes old files) (sym (is Absent refl)) (PatchLeaves-same name at bytes old range)
PatchLeaves-planned (Some (Prefix count)) name at bytes old new range some is = prefix count (is (Prefix count) refl)
