use Rattle.lu_changes.proofs.DeleteStanding.{delete-marks}
use Rattle.lu_changes.proofs.delete_laws.delete_marks_documents.Goals as goal

pub returns : goal.returns
returns c = delete-marks
