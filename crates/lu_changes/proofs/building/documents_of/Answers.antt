use Rattle.std.proofs.Common.{ℕ, List, subst}
use Rattle.std.proofs.lemmas.Result.{IfOk-weaker}
use Rattle.lu_input.specs.Lines.{input_documents}
use Rattle.lu_changes.specs.Inputs.{AnswersInput, AreSoundDocuments}
use Rattle.lu_changes.proofs.BuildLemmas.{AnswersInput-by}
use Rattle.lu_changes.proofs.BuildFilesLemmas.{input-sound_documents}
use Rattle.lu_changes.proofs.building.documents_of.Goals as goal

pub returns-clause-judges : goal.returns-clause-judges
returns-clause-judges c = (
  c.program.result,
  record { documents = c.program.ensures.documents; tokens = c.program.ensures.tokens; file_bytes = c.program.ensures.file_bytes },
  subst (λ (bytes : List ℕ). AnswersInput (λ docs. docs.items) (input_documents c.program.result bytes) c.read_documents.result) c.as_slice.ensures.value
      (AnswersInput-by (λ docs. docs.items) (input_documents c.program.result c.as_slice.result.now) c.read_documents.result c.read_documents.ensures.ok c.read_documents.ensures.err),
)

pub returns-clause-sound : goal.returns-clause-sound
returns-clause-sound c =
    IfOk-weaker c.read_documents.result _ (λ docs. AreSoundDocuments docs.items)
    (λ docs is. input-sound_documents c.program.result c.as_slice.result.now docs.items (record { documents = c.program.ensures.documents; tokens = c.program.ensures.tokens; file_bytes = c.program.ensures.file_bytes }) is)
    c.read_documents.ensures.ok
