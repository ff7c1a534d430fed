use Rattle.segment_infos.proofs.OwnFiles.{line_names-Del, line_names-Sep}
use Rattle.segment_infos.proofs.laws.files_are_own.Goals as goal

pub returns-clause-deletions : goal.returns-clause-deletions
returns-clause-deletions c = line_names-Del

pub returns-clause-norms : goal.returns-clause-norms
returns-clause-norms c = line_names-Sep
