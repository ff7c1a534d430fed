-- Steps of `build`.
use Rattle.std.proofs.Common.{◌≡◌, ◌⊎◌, List, Result, Ok, Err, IfOk, inl, inr}
use Rattle.std.specs.Prelude.{IfErr}
use Rattle.lu_types.specs.declared.document.Document.{Document}
use Rattle.lu_input.specs.declared.fault.InputFault.{InputFault}
use Rattle.lu_input.specs.declared.fault.InputFault.TheVariants as inputs
use Rattle.lu_changes.specs.Inputs.{AnswersInput}

-- an answer about an input, by what it says of documents and of faults
pub AnswersInput-by : {V : Type 0} (view : V → List Document) (expected : Result (List Document) InputFault) (answer : Result V InputFault) → IfOk answer (λ documents. expected ≡ Ok (view documents)) → IfErr answer (λ fault. (fault ≡ inputs.OutOfMemory) ⊎ (expected ≡ Err fault))
    → AnswersInput view expected answer
AnswersInput-by view expected (Ok documents) read faulty = read
AnswersInput-by view expected (Err inputs.OutOfMemory) read faulty = tt
AnswersInput-by view expected (Err (inputs.Line number fault)) read (inl none) = let no : inputs.Line number fault ≡ inputs.OutOfMemory = none in absurd (cc)
AnswersInput-by view expected (Err (inputs.Line number fault)) read (inr is) = is
