-- Where the parts of a segment are found: files of their own, or parts of a compound file; its documents may be those of a shared
-- store (format page, "How a fault is found").
use Rattle.std.specs.Prelude.{ℕ, List, length, Option, Some, None, option_copied}
use Rattle.lu_types.specs.Names.{segment_name, part_name}
use Rattle.lu_types.specs.FilePlans.{FilePlan, stands, needs, followed_by, where_needed}
use Rattle.lu_types.specs.declared.kind.FileKind.{FileKind}
use Rattle.lu_types.specs.declared.kind.FileKind.TheVariants.{Cfs, Cfx, Fnm, Fdx, Fdt, Tis, Tii, Frq, Prx, Nrm, Tvx, Tvd, Tvf}
use Rattle.lu_types.specs.declared.stored.SharedStore.{SharedStore}
use Rattle.compound_file.specs.Entries.{NamedPart, part_named}
use Rattle.compound_file.specs.Cfs.{cfs_plan}
use Rattle.segment_infos.specs.declared.infos.SegInfo.{SegInfo}
use Rattle.check_index.specs.declared.locating.IndexParts.{IndexParts}
use Rattle.check_index.specs.declared.locating.DocumentParts.{DocumentParts}
use Rattle.check_index.specs.declared.locating.Located.{Located}
use Rattle.check_index.specs.Files.{DocumentFiles, IndexFiles, PartFiles, FolderFiles}

-- ---- what a compound file holds

-- the part of the segment of this name that has the kind; none where the file lacks it
abbrev pub packed_part : List ℕ → List NamedPart → FileKind → Option (List ℕ)
packed_part segment parts kind = part_named (part_name segment kind) parts

-- the files of stored values and of vectors that it holds
abbrev pub packed_documents : List ℕ → List NamedPart → DocumentFiles
packed_documents segment parts = record {
  fdx = packed_part segment parts Fdx;
  fdt = packed_part segment parts Fdt;
  tvx = packed_part segment parts Tvx;
  tvd = packed_part segment parts Tvd;
  tvf = packed_part segment parts Tvf;
}

-- the other parts that it holds
abbrev pub packed_index : List ℕ → List NamedPart → IndexFiles
packed_index segment parts = record {
  fnm = packed_part segment parts Fnm;
  tis = packed_part segment parts Tis;
  tii = packed_part segment parts Tii;
  frq = packed_part segment parts Frq;
  prx = packed_part segment parts Prx;
  nrm = packed_part segment parts Nrm;
}

-- all parts that it holds
abbrev pub packed_files : List ℕ → List NamedPart → PartFiles
packed_files segment parts = record { index = packed_index segment parts; documents = packed_documents segment parts }

-- ---- where the parts are

-- the parts of the compound file of this kind
abbrev pub compound_files : FileKind → Option (List ℕ) → FilePlan (List NamedPart)
compound_files kind file = needs kind file (λ bytes. cfs_plan (length bytes)) (λ _ parts. stands parts)

-- the parts of the segment: files of their own, or parts of its compound file
abbrev pub own_part_files : FolderFiles → SegInfo → FilePlan PartFiles
own_part_files folder line = where_needed line.compound folder.parts
    (followed_by (compound_files Cfs folder.cfs) (λ parts. stands (packed_files (segment_name line.number) parts)))

-- the files of documents: those of the segment, or those of a shared store, which are files of their own, or parts of its compound file
abbrev pub document_parts : FolderFiles → Option SharedStore → DocumentFiles → FilePlan DocumentFiles
document_parts folder None own = stands own
document_parts folder (Some store) own = where_needed store.compound folder.parts.documents
    (followed_by (compound_files Cfx folder.cfx) (λ parts. stands (packed_documents (segment_name store.number) parts)))

-- all parts that the segment is read from
abbrev pub located_parts : FolderFiles → SegInfo → FilePlan PartFiles
located_parts folder line =
    followed_by (own_part_files folder line) (λ own.
    followed_by (document_parts folder line.store own.documents) (λ documents.
    stands (record { index = own.index; documents = documents })))

-- ---- as the program has them

abbrev pub document_files_of : DocumentParts → DocumentFiles
document_files_of parts = record {
  fdx = option_copied parts.fdx;
  fdt = option_copied parts.fdt;
  tvx = option_copied parts.tvx;
  tvd = option_copied parts.tvd;
  tvf = option_copied parts.tvf;
}

abbrev pub index_files_of : IndexParts → IndexFiles
index_files_of parts = record {
  fnm = option_copied parts.fnm;
  tis = option_copied parts.tis;
  tii = option_copied parts.tii;
  frq = option_copied parts.frq;
  prx = option_copied parts.prx;
  nrm = option_copied parts.nrm;
}

abbrev pub part_files_of : Located → PartFiles
part_files_of located = record { index = index_files_of located.index; documents = document_files_of located.documents }
