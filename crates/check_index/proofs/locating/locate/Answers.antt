use Rattle.std.proofs.Common.{refl}
use Rattle.lu_types.specs.FilePlans.{stands, followed_by}
use Rattle.lu_types.proofs.FileLaws.{followed_by-stand}
use Rattle.check_index.specs.Files.{DocumentFiles, PartFiles, folder_of}
use Rattle.check_index.specs.Locating.{own_part_files, document_parts, document_files_of, part_files_of}
use Rattle.check_index.proofs.LocatedLemmas.{with_documents}
use Rattle.check_index.proofs.locating.locate.Goals as goal

pub returns-in-Ok-locate_documents : goal.returns-in-Ok-locate_documents
returns-in-Ok-locate_documents c =
    let folder = folder_of c.args.parts.now in
    let line = c.args.info.now in
    let own = part_files_of c.in-Ok.own in
    let documents = document_files_of c.in-Ok-locate_documents.documents in
    followed_by-stand (own_part_files folder line) (λ (own : PartFiles). followed_by (document_parts folder line.store own.documents) (λ (documents : DocumentFiles). stands (with_documents own documents))) own (with_documents own documents) c.in-Ok.ensures
    (followed_by-stand (document_parts folder line.store own.documents) (λ (documents : DocumentFiles). stands (with_documents own documents)) documents (with_documents own documents) c.in-Ok-locate_documents.ensures refl)
