-- What reading an input answers, under the limits of the program.
use Rattle.std.specs.Prelude.{◌≡◌, ℕ, List, [], All, Option, Some, None, Result, Ok, Err}
use Rattle.std.specs.Option.{ForSome}
use Rattle.lu_types.specs.DocFaults.{doc_fault}
use Rattle.lu_types.specs.declared.document.Document.{Document}
use Rattle.lu_types.specs.declared.document.Limits.{Limits}
use Rattle.lu_input.specs.Lines.{input_documents}
use Rattle.lu_input.specs.declared.fault.InputFault.{InputFault}
use Rattle.lu_input.specs.declared.fault.InputFault.TheVariants as inputs
use Rattle.lu_dir.specs.declared.fail.DirFail.{DirFail}
use Rattle.lu_dir.specs.declared.fail.DirFail.TheVariants as fails
use Rattle.lu_outcomes.specs.declared.halt.Halt.{Halt}
use Rattle.lu_outcomes.specs.declared.halt.Halt.TheVariants as halts
use Rattle.lu_changes.specs.Building.{AreProgramLimits}

-- what is expected of an input is answered, documents seen so, or that there was no memory
abbrev pub AnswersInput : {V : Type 0} → (V → List Document) → Result (List Document) InputFault → Result V InputFault → Type 0
AnswersInput view expected (Ok documents) = expected ≡ Ok (view documents)
AnswersInput view expected (Err (inputs.Line number fault)) = expected ≡ Err (inputs.Line number fault)
AnswersInput view expected (Err inputs.OutOfMemory) = Unit {0}

-- the documents of the bytes, seen so, or their first faulty line, under the limits of the program
abbrev pub JudgesInput : {V : Type 0} → (V → List Document) → List ℕ → Result V InputFault → Type 0
JudgesInput view bytes answer = (limits : Limits) × AreProgramLimits limits × AnswersInput view (input_documents limits bytes) answer

-- none of the documents has a fault under the limits of the program
abbrev pub AreSoundDocuments : List Document → Type 0
AreSoundDocuments docs = (limits : Limits) → AreProgramLimits limits → All (λ doc. doc_fault doc limits ≡ None) docs

-- nothing is left of an input that told what was left
abbrev pub IsEmptied : Option (List ℕ) → Option (List ℕ) → Type 0
IsEmptied before after = ForSome before (λ left. after ≡ Some [])

-- why a command came to no outcome, by how a thing answered whose failure is told so
abbrev pub halt_of : Halt → DirFail → Halt
halt_of failed fails.Failed = failed
halt_of failed fails.OutOfMemory = halts.OutOfMemory
