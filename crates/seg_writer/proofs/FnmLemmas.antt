-- The bytes of a field table are at least as many as its fields.
use Rattle.std.proofs.Common.{◌≡◌, ap, ◌∙◌, ℕ, ◌<◌, ◌≤◌, ◌^◌, List, [], ◌∷◌, length, Some, arith}
use Rattle.std.specs.Prelude.{cond, None}
use Rattle.std.specs.List.{flat_map}
use Rattle.std.proofs.lemmas.List.{length-append}
use Rattle.std.proofs.lemmas.List.Concat.{flat_map-cons}
use Rattle.std.proofs.lemmas.Bool.{lt-ltb, le-ltb}
use Rattle.lu_types.specs.declared.kind.FileKind.{FileKind}
use Rattle.lu_types.specs.Tables.{TableField}
use Rattle.lu_grammar.specs.Parts.{byte, text, spelling}
use Rattle.field_infos.specs.Spelling.{fnm_spelling, field_spelling, header_spelling}
use Rattle.segment_files.specs.Written.{first_past}
use Rattle.posting_files.specs.States.{named}

-- a list of lists of which none is empty is at least as long as there are
pub spread : {X : Type 0} (f : X → List ℕ) (xs : List X) → ((x : X) → 0 < length (f x)) → length xs ≤ length (flat_map f xs)
spread f [] some = omega arith
spread f (x ∷ xs) some =
    let rest = spread f xs some in
    let own = some x in
    let size = ap length (flat_map-cons f x xs) ∙ length-append (f x) (flat_map f xs) in
    omega (arith, rest, own, size)

field-some : (field : TableField) → 0 < length (field_spelling field)
field-some field = let size = length-append (spelling text field.name) (spelling byte field.bits) in omega (arith, size)

fnm-long : (fields : List TableField) → length fields ≤ length (fnm_spelling fields)
fnm-long fields =
    let all = spread field_spelling fields field-some in
    let size = length-append (header_spelling (length fields)) (flat_map field_spelling fields) in
    omega (arith, all, size)

-- one file passes the limit
pub past-alone : (limit : ℕ) (kind : FileKind) (bytes : List ℕ) → limit < length bytes → first_past limit (named kind bytes ∷ []) ≡ Some kind
past-alone limit kind bytes long = ap (λ b. cond b (Some kind) None) (lt-ltb limit (length bytes) long)

pub within-alone : (limit : ℕ) (kind : FileKind) (bytes : List ℕ) → length bytes ≤ limit → first_past limit (named kind bytes ∷ []) ≡ None
within-alone limit kind bytes short = ap (λ b. cond b (Some kind) None) (le-ltb limit (length bytes) short)

pub fnm-past : (limit : ℕ) (kind : FileKind) (fields : List TableField) → limit < 2 ^ 31 → 2 ^ 31 ≤ length fields → first_past limit (named kind (fnm_spelling fields) ∷ []) ≡ Some kind
fnm-past limit kind fields small many = let long = fnm-long fields in past-alone limit kind (fnm_spelling fields) (omega (arith, long, small, many))
