-- What the check of one file shows of those that are needed.
use Rattle.std.proofs.Common.{◌≡◌, ℕ, Bool, true, false, List, Option, None, Result, Err, refl, sym, subst}
use Rattle.lu_grammar.specs.Plans.{Plan}
use Rattle.lu_types.specs.FilePlans.{FilePlan, needs, where_needed, missing, StandFor, Judges}
use Rattle.lu_types.specs.declared.kind.FileKind.{FileKind}
use Rattle.lu_types.specs.declared.fault.CodecFault.{CodecFault}
use Rattle.lu_types.specs.declared.fault.CodecFault.TheVariants as faults

-- a needed file is not there
pub judges-missing : {X Y V R : Type 0} (seen : Y → X) (kind : FileKind) (found : Option (List ℕ)) (plan : List ℕ → Plan V R) (after : List ℕ → V → FilePlan X) (fault : CodecFault) → found ≡ None → fault ≡ faults.Spot (missing kind)
    → Judges seen (needs kind found plan after) (Err fault)
judges-missing {X} {Y} seen kind found plan after fault absent is =
    let none : Judges {Y = Y} seen (needs kind None plan after) (Err (faults.Spot (missing kind))) = refl in
    let here = subst (λ (o : Option (List ℕ)). Judges {Y = Y} seen (needs kind o plan after) (Err (faults.Spot (missing kind)))) (sym absent) none in
    subst (λ (f : CodecFault). Judges {Y = Y} seen (needs kind found plan after) (Err f)) (sym is) here

-- files that the test asks for
pub judges-asked : {X Y : Type 0} (seen : Y → X) (test : Bool) (otherwise : X) (files : FilePlan X) (r : Result Y CodecFault) → test ≡ true → Judges seen files r → Judges seen (where_needed test otherwise files) r
judges-asked seen test otherwise files r is h = subst (λ (b : Bool). Judges seen (where_needed b otherwise files) r) (sym is) h

-- and that it does not
pub stand-unasked : {X : Type 0} (test : Bool) (otherwise x : X) (files : FilePlan X) → test ≡ false → x ≡ otherwise → StandFor (where_needed test otherwise files) x
stand-unasked test otherwise x files is same = subst (λ (b : Bool). StandFor (where_needed b otherwise files) x) (sym is) same
