-- The parts that a segment is read from are no longer than files may be.
use Rattle.std.proofs.Common.{ℕ, Bool, true, false, List, length, Option, Some, None, sym, subst}
use Rattle.lu_types.specs.FilePlans.{stands, followed_by, where_needed, StandFor}
use Rattle.lu_types.specs.Names.{segment_name}
use Rattle.lu_types.specs.declared.kind.FileKind.{FileKind}
use Rattle.lu_types.specs.declared.kind.FileKind.TheVariants.{Cfs, Cfx, Fdx, Tis, Frq, Prx, Tvx, Tvd, Tvf}
use Rattle.lu_types.specs.declared.stored.SharedStore.{SharedStore}
use Rattle.lu_types.proofs.FileLaws.{followed_by-was}
use Rattle.compound_file.specs.Entries.{NamedPart}
use Rattle.compound_file.specs.Cfs.{cfs_plan}
use Rattle.segment_infos.specs.declared.infos.SegInfo.{SegInfo}
use Rattle.lu_types.specs.Names.{part_name}
use Rattle.check_index.specs.Files.{DocumentFiles, PartFiles, FolderFiles, IsShort, AreShort, AreShortParts}
use Rattle.check_index.specs.Locating.{packed_part, packed_documents, packed_files, compound_files, own_part_files, document_parts, located_parts}
use Rattle.check_index.proofs.ReadBytes.{read-bytes}
use Rattle.check_index.proofs.PartLemmas.{file-within, named-within}

-- these parts, with other files of documents
abbrev pub with_documents : PartFiles → DocumentFiles → PartFiles
with_documents parts documents = record { index = parts.index; documents = documents }

-- no part of a compound file that was read is too long
part-short : (kind : FileKind) (file : Option (List ℕ)) (parts : List NamedPart) (segment : List ℕ) (of : FileKind) → IsShort file → StandFor (compound_files kind file) parts → IsShort (packed_part segment parts of)
part-short kind None parts segment of short h = absurd h
part-short kind (Some bytes) parts segment of short (v, reads, is) =
    let all = file-within bytes v (read-bytes (cfs_plan (length bytes)) bytes v reads) reads in
    subst (λ (ps : List NamedPart). IsShort (packed_part segment ps of)) (sym is) (named-within (length bytes) (part_name segment of) v all short)

-- files of documents are no longer than files may be
pub record AreShortDocuments (files : DocumentFiles) : Type 0 where
  pub fdx : IsShort files.fdx
  pub tvx : IsShort files.tvx
  pub tvd : IsShort files.tvd
  pub tvf : IsShort files.tvf

packed-documents-short : (kind : FileKind) (file : Option (List ℕ)) (parts : List NamedPart) (segment : List ℕ) → IsShort file → StandFor (compound_files kind file) parts → AreShortDocuments (packed_documents segment parts)
packed-documents-short kind file parts segment short h = record {
  fdx = part-short kind file parts segment Fdx short h;
  tvx = part-short kind file parts segment Tvx short h;
  tvd = part-short kind file parts segment Tvd short h;
  tvf = part-short kind file parts segment Tvf short h;
}

documents-short : (parts : PartFiles) → AreShortParts parts → AreShortDocuments parts.documents
documents-short parts short = record { fdx = short.fdx; tvx = short.tvx; tvd = short.tvd; tvf = short.tvf }

own-short : (folder : FolderFiles) (line : SegInfo) (parts : PartFiles) → AreShort folder → StandFor (own_part_files folder line) parts → AreShortParts parts
own-short folder line parts short h = go line.compound h
  where
    go : (b : Bool) → StandFor (where_needed b folder.parts (followed_by (compound_files Cfs folder.cfs) (λ held. stands (packed_files (segment_name line.number) held)))) parts → AreShortParts parts
    go true h =
        let segment = segment_name line.number in
        let was = followed_by-was (compound_files Cfs folder.cfs) (λ held. stands (packed_files segment held)) parts h in
        let documents = packed-documents-short Cfs folder.cfs was.0 segment short.cfs was.1 in
        let all : AreShortParts (packed_files segment was.0) = record {
          tis = part-short Cfs folder.cfs was.0 segment Tis short.cfs was.1;
          frq = part-short Cfs folder.cfs was.0 segment Frq short.cfs was.1;
          prx = part-short Cfs folder.cfs was.0 segment Prx short.cfs was.1;
          fdx = documents.fdx;
          tvx = documents.tvx;
          tvd = documents.tvd;
          tvf = documents.tvf;
        } in
        subst AreShortParts (sym was.2) all
    go false is = subst AreShortParts (sym is) short.parts

shared-short : (folder : FolderFiles) (store : Option SharedStore) (own documents : DocumentFiles) → AreShort folder → AreShortDocuments own → StandFor (document_parts folder store own) documents → AreShortDocuments documents
shared-short folder None own documents short held h = subst AreShortDocuments (sym h) held
shared-short folder (Some store) own documents short held h = go store.compound h
  where
    go : (b : Bool) → StandFor (where_needed b folder.parts.documents (followed_by (compound_files Cfx folder.cfx) (λ held. stands (packed_documents (segment_name store.number) held)))) documents → AreShortDocuments documents
    go true h =
        let segment = segment_name store.number in
        let was = followed_by-was (compound_files Cfx folder.cfx) (λ held. stands (packed_documents segment held)) documents h in
        subst AreShortDocuments (sym was.2) (packed-documents-short Cfx folder.cfx was.0 segment short.cfx was.1)
    go false is = subst AreShortDocuments (sym is) (documents-short folder.parts short.parts)

-- no part that is found is too long
pub located-short : (folder : FolderFiles) (line : SegInfo) (files : PartFiles) → AreShort folder → StandFor (located_parts folder line) files → AreShortParts files
located-short folder line files short h =
    let first = followed_by-was (own_part_files folder line) (λ own. followed_by (document_parts folder line.store own.documents) (λ documents. stands (record { index = own.index; documents = documents }))) files h in
    let own = own-short folder line first.0 short first.1 in
    let next = followed_by-was (document_parts folder line.store first.0.documents) (λ (documents : DocumentFiles). stands (with_documents first.0 documents)) files first.2 in
    let held = shared-short folder line.store first.0.documents next.0 short (documents-short first.0 own) next.1 in
    let all : AreShortParts (with_documents first.0 next.0) = record { tis = own.tis; frq = own.frq; prx = own.prx; fdx = held.fdx; tvx = held.tvx; tvd = held.tvd; tvf = held.tvf } in
    subst AreShortParts (sym next.2) all
