-- The parts of a segment that were written, in the order in which files are checked.
use Rattle.std.specs.Prelude.{◌≡◌, Bool, cond, List, [], ◌∷◌, None, Some, option_map}
use Rattle.lu_types.specs.declared.kind.FileKind.TheVariants.{Tis, Tii, Frq, Prx, Tvx, Tvd, Tvf}
use Rattle.lu_types.specs.declared.named_file.NamedFile.{NamedFile}
use Rattle.check_index.specs.Files.{PartFiles}
use Rattle.segment_files.specs.Written.{checked_in_order}
use Rattle.posting_files.specs.States.{named}
use Rattle.posting_files.specs.declared.writer.PostingFiles.{PostingFiles}
use Rattle.term_vectors.specs.declared.writer.VectorFiles.{VectorFiles}
use Rattle.seg_writer.specs.declared.packing.WrittenParts.{WrittenParts}

-- the files of terms, that of positions only where it is wanted
abbrev pub posting_files_checked : Bool → PostingFiles → List NamedFile
posting_files_checked has_prox f = named Tis f.tis ∷ named Tii f.tii ∷ named Frq f.frq ∷ cond has_prox (named Prx f.prx ∷ []) []

-- the files of vectors
abbrev pub vector_files_checked : VectorFiles → List NamedFile
vector_files_checked f = named Tvx f.tvx ∷ named Tvd f.tvd ∷ named Tvf f.tvf ∷ []

-- the parts as files of a segment
abbrev pub part_files : WrittenParts → PartFiles
part_files p = record {
  index = record {
    fnm = Some p.fnm;
    tis = Some p.postings.tis;
    tii = Some p.postings.tii;
    frq = Some p.postings.frq;
    prx = cond p.has_prox (Some p.postings.prx) None;
    nrm = p.nrm;
  };
  documents = record {
    fdx = Some p.stored.fdx;
    fdt = Some p.stored.fdt;
    tvx = option_map (λ (v : VectorFiles). v.tvx) p.vectors;
    tvd = option_map (λ (v : VectorFiles). v.tvd) p.vectors;
    tvf = option_map (λ (v : VectorFiles). v.tvf) p.vectors;
  };
}

-- these are the parts of a segment in the order in which they are checked
abbrev pub AreChecked : List NamedFile → Type 0
AreChecked files = (parts : PartFiles) × (files ≡ checked_in_order parts)
