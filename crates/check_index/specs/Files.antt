-- The files that a segment is checked by (format page, "How a fault is found").
use Rattle.std.specs.Prelude.{ℕ, ◌<◌, ◌^◌, List, length, Option, None, slice_get, IfSome, option_copied, unwrap_or}
use Rattle.std.specs.Option.{ForSome}
use Rattle.lu_grammar.specs.Bytes.{IsBytes}
use Rattle.check_index.specs.declared.parts.Parts.{Parts}

-- the files of stored values and of vectors: the bytes of each, where it is there
pub record DocumentFiles : Type 0 where
  pub fdx : Option (List ℕ)
  pub fdt : Option (List ℕ)
  pub tvx : Option (List ℕ)
  pub tvd : Option (List ℕ)
  pub tvf : Option (List ℕ)

-- the other parts of a segment
pub record IndexFiles : Type 0 where
  pub fnm : Option (List ℕ)
  pub tis : Option (List ℕ)
  pub tii : Option (List ℕ)
  pub frq : Option (List ℕ)
  pub prx : Option (List ℕ)
  pub nrm : Option (List ℕ)

-- all parts of a segment
pub record PartFiles : Type 0 where
  pub index : IndexFiles
  pub documents : DocumentFiles

-- the files of the folder: both compound files, the parts that are files of their own, the separate norms of each field, and the deletions
pub record FolderFiles : Type 0 where
  pub cfs : Option (List ℕ)
  pub cfx : Option (List ℕ)
  pub parts : PartFiles
  pub separate : List (Option (List ℕ))
  pub del : Option (List ℕ)

-- those that the program was handed
abbrev pub folder_of : Parts → FolderFiles
folder_of parts = record {
  cfs = option_copied parts.cfs;
  cfx = option_copied parts.cfx;
  parts = record {
    index = record {
      fnm = option_copied parts.fnm;
      tis = option_copied parts.tis;
      tii = option_copied parts.tii;
      frq = option_copied parts.frq;
      prx = option_copied parts.prx;
      nrm = option_copied parts.nrm;
    };
    documents = record {
      fdx = option_copied parts.fdx;
      fdt = option_copied parts.fdt;
      tvx = option_copied parts.tvx;
      tvd = option_copied parts.tvd;
      tvf = option_copied parts.tvf;
    };
  };
  separate = parts.separate;
  del = option_copied parts.del;
}

-- the file of a place in a list of files; none where there is no such place
abbrev pub file_at : List (Option (List ℕ)) → ℕ → Option (List ℕ)
file_at files place = unwrap_or (slice_get files place) None

-- the file has as many bytes as a file may have, where it is there
abbrev pub IsShort : Option (List ℕ) → Type 0
IsShort file = IfSome file (λ bytes. length bytes < 2 ^ 31)

-- so have the files of a segment that lengths are counted in
pub record AreShortParts (parts : PartFiles) : Type 0 where
  pub tis : IsShort parts.index.tis
  pub frq : IsShort parts.index.frq
  pub prx : IsShort parts.index.prx
  pub fdx : IsShort parts.documents.fdx
  pub tvx : IsShort parts.documents.tvx
  pub tvd : IsShort parts.documents.tvd
  pub tvf : IsShort parts.documents.tvf

-- and those of a folder
pub record AreShort (folder : FolderFiles) : Type 0 where
  pub cfs : IsShort folder.cfs
  pub cfx : IsShort folder.cfx
  pub parts : AreShortParts folder.parts

-- the files of documents are made of bytes
pub record AreDocumentBytes (files : DocumentFiles) : Type 0 where
  pub fdx : ForSome files.fdx IsBytes
  pub fdt : ForSome files.fdt IsBytes
  pub tvx : ForSome files.tvx IsBytes
  pub tvd : ForSome files.tvd IsBytes
  pub tvf : ForSome files.tvf IsBytes

-- so are the other parts
pub record AreIndexBytes (files : IndexFiles) : Type 0 where
  pub fnm : ForSome files.fnm IsBytes
  pub tis : ForSome files.tis IsBytes
  pub tii : ForSome files.tii IsBytes
  pub frq : ForSome files.frq IsBytes
  pub prx : ForSome files.prx IsBytes
  pub nrm : ForSome files.nrm IsBytes

-- and all files of a folder
pub record AreBytes (folder : FolderFiles) : Type 0 where
  pub cfs : ForSome folder.cfs IsBytes
  pub cfx : ForSome folder.cfx IsBytes
  pub index : AreIndexBytes folder.parts.index
  pub documents : AreDocumentBytes folder.parts.documents
  pub separate : (place : ℕ) → ForSome (file_at folder.separate place) IsBytes
  pub del : ForSome folder.del IsBytes
