-- The files of all terms are written, or the first of them that passes the limit is told.
use Rattle.std.proofs.Common.{◌≡◌, ap, sym, ◌∙◌, subst, ℕ, List, [], ◌∷◌, length, cond, Some, Ok, Err}
use Rattle.std.proofs.lemmas.Bool.{lt-ltb}
use Rattle.lu_types.specs.declared.named_file.NamedFile.{NamedFile}
use Rattle.lu_types.specs.declared.kind.FileKind.TheVariants.{Prx, Frq, Tis, Tii}
use Rattle.segment_files.specs.Postings.{PostingIntervals, KeptTerm, parts_of, lines_written, tis_bytes, tii_bytes}
use Rattle.segment_files.specs.Written.{first_past}
use Rattle.posting_files.specs.States.{PostingState, ArePostings, Finishes, canonical_postings, given_files, held_files, named, no_postings}
use Rattle.posting_files.specs.declared.fault.PostingFault.{PostingFault}
use Rattle.posting_files.specs.declared.fault.PostingFault.TheVariants as posting
use Rattle.posting_files.specs.declared.writer.PostingFiles.{PostingFiles}
use Rattle.posting_files.proofs.PostingLemmas.{postings-none, postings-end}
use Rattle.seg_writer.specs.declared.fault.WriteFault.{WriteFault}
use Rattle.seg_writer.specs.declared.fault.WriteFault.TheVariants.{Doc, TooLarge, OutOfMemory}
use Rattle.seg_writer.specs.Answers.{Wrote, write_fault}
use Rattle.seg_writer.specs.Entries.{AddsTerms, IsBetweenTerms}

-- nothing is written yet
pub none-written : (i : PostingIntervals) (limit : ℕ) (s : PostingState) → s ≡ no_postings limit i → ArePostings i limit [] s
none-written i limit s is = subst (ArePostings i limit []) (sym is) (postings-none i limit)

pub between-none : (i : PostingIntervals) (limit : ℕ) (s : PostingState) → s ≡ no_postings limit i → IsBetweenTerms s
between-none i limit s is = (i, limit, [], none-written i limit s is)

-- some term was not written
pub terms-past : (i : PostingIntervals) (limit : ℕ) (ts : List KeptTerm) (s : PostingState) (fault : WriteFault) → AddsTerms i limit ts s (Err fault) → Wrote given_files limit (canonical_postings i ts) (Err fault)
terms-past i limit ts s (Doc number fault) h = absurd h
terms-past i limit ts s (TooLarge kind) (is, long) =
    let parts = parts_of i ts in
    let written = lines_written i parts.lines in
    let behind : List NamedFile = named Frq parts.frq ∷ named Tis (tis_bytes written) ∷ named Tii (tii_bytes written) ∷ [] in
    ap (λ b. cond b (Some Prx) (first_past limit behind)) (lt-ltb limit (length parts.prx) long) ∙ ap Some (sym is)
terms-past i limit ts s OutOfMemory h = tt

-- all terms were, and the writer's end answers
pub files-told : (i : PostingIntervals) (limit : ℕ) (ts : List KeptTerm) (s : PostingState) (f : PostingFiles) → ArePostings i limit ts s → Finishes s.lists.limit (held_files s) (Ok f) → Wrote given_files limit (canonical_postings i ts) (Ok f)
files-told i limit ts s f h end = postings-end i limit ts s (Ok f) h end

fault-told : (limit : ℕ) (files : List NamedFile) (fault : PostingFault) → Finishes limit files (Err fault) → Wrote given_files limit files (Err (write_fault fault))
fault-told limit files (posting.TooLarge kind) h = h
fault-told limit files posting.OutOfMemory h = tt

pub files-past : (i : PostingIntervals) (limit : ℕ) (ts : List KeptTerm) (s : PostingState) (fault : PostingFault) (told : WriteFault) → told ≡ write_fault fault → ArePostings i limit ts s → Finishes s.lists.limit (held_files s) (Err fault) → Wrote given_files limit (canonical_postings i ts) (Err told)
files-past i limit ts s fault told is h end = subst (λ w. Wrote given_files limit (canonical_postings i ts) (Err w)) (sym is) (fault-told limit (canonical_postings i ts) fault (postings-end i limit ts s (Err fault) h end))
