use Rattle.std.proofs.Common.{Option, sym, subst}
use Rattle.lu_types.specs.FilePlans.{Judges}
use Rattle.lu_types.specs.declared.stored.SharedStore.{SharedStore}
use Rattle.check_index.specs.Files.{folder_of}
use Rattle.check_index.specs.Locating.{document_parts, document_files_of}
use Rattle.check_index.proofs.locating.locate_documents.Goals as goal

pub returns-in-Some : goal.returns-in-Some
returns-in-Some c =
    let own = document_files_of c.args.own in
    subst (λ (store : Option SharedStore). Judges document_files_of (document_parts (folder_of c.args.parts.now) store own) c.locate_shared.result) (sym c.in-Some.is) (c.locate_shared.ensures own)
