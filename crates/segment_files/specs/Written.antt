-- The canonical files of an index under options, in the order in which they are checked and in that in which they are written, and the
-- first that is too large (format page, "Canonical files").
use Rattle.std.specs.Prelude.{ℕ, Bool, true, false, cond, nat_lt, List, [], ◌∷◌, ◌++◌, length, Option, Some, None}
use Rattle.lu_types.specs.declared.kind.FileKind.{FileKind}
use Rattle.lu_types.specs.declared.kind.FileKind.TheVariants.{Cfs, Fnm, Fdx, Fdt, Tis, Tii, Frq, Prx, Nrm, Tvx, Tvd, Tvf}
use Rattle.lu_types.specs.declared.named_file.NamedFile.{NamedFile}
use Rattle.lu_model.specs.Index.{Index}
use Rattle.compound_file.specs.Packing.{packed_parts, cfs_bytes}
use Rattle.check_index.specs.Files.{PartFiles}
use Rattle.segment_files.specs.declared.options.WriteOptions.{WriteOptions}
use Rattle.segment_files.specs.declared.options.SegmentFiles.{SegmentFiles}
use Rattle.segment_files.specs.Parts.{keep_positions, intervals_of, canonical_parts_of}

-- the file of a kind, where it is there
abbrev pub file_if_there : FileKind → Option (List ℕ) → List NamedFile
file_if_there kind None = []
file_if_there kind (Some bytes) = (record { kind = kind; bytes = bytes }) ∷ []

-- the parts in the order in which they are checked
abbrev pub checked_in_order : PartFiles → List NamedFile
checked_in_order parts =
    file_if_there Fnm parts.index.fnm
    ++ file_if_there Fdx parts.documents.fdx
    ++ file_if_there Fdt parts.documents.fdt
    ++ file_if_there Tis parts.index.tis
    ++ file_if_there Tii parts.index.tii
    ++ file_if_there Frq parts.index.frq
    ++ file_if_there Prx parts.index.prx
    ++ file_if_there Nrm parts.index.nrm
    ++ file_if_there Tvx parts.documents.tvx
    ++ file_if_there Tvd parts.documents.tvd
    ++ file_if_there Tvf parts.documents.tvf

-- the parts in the order in which they are written: each depends only on those before it
abbrev pub written_in_order : PartFiles → List NamedFile
written_in_order parts =
    file_if_there Fnm parts.index.fnm
    ++ file_if_there Fdt parts.documents.fdt
    ++ file_if_there Fdx parts.documents.fdx
    ++ file_if_there Prx parts.index.prx
    ++ file_if_there Frq parts.index.frq
    ++ file_if_there Tis parts.index.tis
    ++ file_if_there Tii parts.index.tii
    ++ file_if_there Nrm parts.index.nrm
    ++ file_if_there Tvf parts.documents.tvf
    ++ file_if_there Tvd parts.documents.tvd
    ++ file_if_there Tvx parts.documents.tvx

-- the file that the parts of the segment with a number are packed into
abbrev pub packed_file : ℕ → PartFiles → NamedFile
packed_file number parts = record { kind = Cfs; bytes = cfs_bytes (packed_parts number (checked_in_order parts)) }

-- the files of a segment: its parts, or the file that they are packed into
abbrev pub packed_if : Bool → ℕ → PartFiles → List NamedFile
packed_if true number parts = packed_file number parts ∷ []
packed_if false number parts = checked_in_order parts

-- the files of an index, and what the line of its segment says
abbrev pub canonical_files : WriteOptions → Index → SegmentFiles
canonical_files options index = record {
  files = packed_if options.compound options.number (canonical_parts_of (intervals_of options) index);
  size = index.size;
  has_prox = keep_positions index.fields;
  compound = options.compound;
}

-- ---- too large

-- all files that are written of parts, one after another: the one that they are packed into comes last
abbrev pub all_written : Bool → ℕ → PartFiles → List NamedFile
all_written compound number parts = written_in_order parts ++ cond compound (packed_file number parts ∷ []) []

-- the kind of the first file that is longer than the limit
abbrev pub first_past : ℕ → List NamedFile → Option FileKind
first_past limit [] = None
first_past limit (file ∷ files) = cond (nat_lt limit (length file.bytes)) (Some file.kind) (first_past limit files)

-- the first file of an index that passes the limit, in the order in which they are written
abbrev pub too_large_file : WriteOptions → Index → Option FileKind
too_large_file options index =
    first_past options.limits.file_bytes (all_written options.compound options.number (canonical_parts_of (intervals_of options) index))
