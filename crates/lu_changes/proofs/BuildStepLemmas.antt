-- What comes of each step of `build` by that of the next one.
use Rattle.std.proofs.Common.{◌≡◌, ◌≢◌, ℕ, ◌<◌, Bool, List, [], ◌∷◌, length, Option, Result, Ok, Err, refl, sym, subst, arith}
use Rattle.lu_types.specs.declared.document.Document.{Document}
use Rattle.lu_input.specs.Lines.{input_documents}
use Rattle.lu_input.specs.declared.fault.InputFault.{InputFault}
use Rattle.lu_input.specs.declared.fault.InputFault.TheVariants as inputs
use Rattle.lu_input.specs.declared.fault.LineFault.{LineFault}
use Rattle.lu_folder.specs.Drawing.{next_segment}
use Rattle.lu_folder.specs.declared.fault.FolderFault.{FolderFault}
use Rattle.lu_folder.specs.declared.fault.FolderFault.TheVariants.{Failed, NoIndex, FileTooLarge, NotStanding, OutOfMemory}
use Rattle.lu_outcomes.specs.declared.outcome.Outcome.{Outcome}
use Rattle.lu_changes.specs.Building.{BasisValue, no_segment_outcome, DocumentsGive, NumberGives, BytesGive, CurrentGives}
use Rattle.lu_reads.specs.Checking.{Refuses}
use Rattle.lu_changes.specs.Inputs.{AnswersInput, JudgesInput}

-- no documents make a commit without a new segment
pub DocumentsGive-none : (basis : BasisValue) (docs : List Document) (outcome : Outcome) → length docs ≡ 0 → outcome ≡ no_segment_outcome basis → DocumentsGive basis (Ok docs) outcome
DocumentsGive-none basis [] outcome none is = is
DocumentsGive-none basis (doc ∷ docs) outcome none is = absurd (omega (arith, none))

-- others make one with a new segment
pub DocumentsGive-some : (basis : BasisValue) (docs : List Document) (outcome : Outcome) → 0 < length docs → NumberGives basis docs (next_segment basis.names basis.before) outcome → DocumentsGive basis (Ok docs) outcome
DocumentsGive-some basis [] outcome some gives = absurd (omega (arith, some))
DocumentsGive-some basis (doc ∷ docs) outcome some gives = gives

-- a refusal that is not that of a folder without a commit is that of the current one
pub CurrentGives-refused : (names : List (List ℕ)) (compound : Bool) (input : Option (List ℕ)) (fault : FolderFault) (outcome : Outcome) → fault ≢ NoIndex → Refuses fault outcome → CurrentGives names compound input (Err fault) outcome
CurrentGives-refused names compound input NoIndex outcome other refuses = absurd (other refl)
CurrentGives-refused names compound input (FileTooLarge kind) outcome other refuses = refuses
CurrentGives-refused names compound input (NotStanding generation fault) outcome other refuses = refuses
CurrentGives-refused names compound input Failed outcome other refuses = refuses
CurrentGives-refused names compound input OutOfMemory outcome other refuses = refuses

-- what comes of bytes by what is answered of them
pub BytesGive-answered : {V : Type 0} (view : V → List Document) (basis : BasisValue) (bytes : List ℕ) (documents : V) (outcome : Outcome) → JudgesInput view bytes (Ok documents) → DocumentsGive basis (Ok (view documents)) outcome → BytesGive basis bytes outcome
BytesGive-answered view basis bytes documents outcome (limits, program, is) gives = (limits, program, subst (λ (read : Result (List Document) InputFault). DocumentsGive basis read outcome) (sym is) gives)

pub BytesGive-faulty : {V : Type 0} (view : V → List Document) (basis : BasisValue) (bytes : List ℕ) (told : InputFault) (number : ℕ) (fault : LineFault) (outcome : Outcome) → told ≡ inputs.Line number fault → JudgesInput view bytes (Err told) → DocumentsGive basis (Err (inputs.Line number fault)) outcome → BytesGive basis bytes outcome
BytesGive-faulty view basis bytes told number fault outcome same (limits, program, is) gives =
    let line : AnswersInput view (input_documents limits bytes) (Err (inputs.Line number fault)) = subst (λ (f : InputFault). AnswersInput view (input_documents limits bytes) (Err f)) same is in
    (limits, program, subst (λ (read : Result (List Document) InputFault). DocumentsGive basis read outcome) (sym line) gives)
