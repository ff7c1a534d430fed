-- Steps of marking the segments of a commit, one after another.
use Rattle.std.proofs.Common.{◌≡◌, ℕ, ◌+◌, ◌≤◌, List, [], ◌∷◌, ◌++◌, length, drop, Option, None, refl, sym, ap, subst, ◌∙◌, inr, append_assoc}
use Rattle.std.specs.List.{flat_map}
use Rattle.std.proofs.lemmas.List.{drop_all}
use Rattle.lu_dir.specs.Files.{Files}
use Rattle.segment_infos.specs.declared.infos.SegInfo.{SegInfo}
use Rattle.check_index.specs.Segments.{SegmentValue}
use Rattle.lu_folder.specs.declared.new_file.NewFile.{NewFile}
use Rattle.lu_changes.specs.declared.marking.Marking.{Marking}
use Rattle.lu_reads.specs.Checking.{SegmentSays}
use Rattle.lu_reads.specs.Segments.{IsReadAs}
use Rattle.lu_changes.specs.Deleting.{marking_of, marked_line, marked_lines, file_of}
use Rattle.lu_changes.specs.Marked.{AreMarked}

-- one segment more, in front of those that are left
pub marked-more : (files : Option Files) (names : List (List ℕ)) (field text : List ℕ) (lines : List SegInfo) (place : ℕ) (line : SegInfo) (marking : Marking) (rest : List Marking) → drop place lines ≡ line ∷ drop (place + 1) lines
    → (x : SegmentValue) × IsReadAs files line x × (marking ≡ marking_of names field text line x.index)
    → AreMarked files names field text (drop (place + 1) lines) rest → AreMarked files names field text (drop place lines) (marking ∷ rest)
marked-more files names field text lines place line marking rest split (x, read, is) (xs, reads, are) =
    subst (λ (ls : List SegInfo). AreMarked files names field text ls (marking ∷ rest)) (sym split)
    ((x ∷ xs, (read, reads), ap (λ (m : Marking). m ∷ rest) is ∙ ap (λ (ms : List Marking). marking_of names field text line x.index ∷ ms) are))

-- where no segment is left nothing more becomes
pub marked-none : (files : Option Files) (names : List (List ℕ)) (field text : List ℕ) (place : ℕ) (lines : List SegInfo) → length lines ≤ place → AreMarked files names field text (drop place lines) []
marked-none files names field text place lines over = subst (λ (ls : List SegInfo). AreMarked files names field text ls []) (sym (drop_all place lines over)) ([], tt, refl)

-- a segment that is marked stands
pub marked-unsaid : (files : Option Files) (generation place : ℕ) (line : SegInfo) (x : SegmentValue) → IsReadAs files line x → SegmentSays files generation place line None
marked-unsaid files generation place line x read = inr (read.found, read.read, (x, read.stands))

-- one line more is marked, and one less is left
pub lines-more : (lines after : List SegInfo) (line : SegInfo) (left rest : List SegInfo) (marking : Marking) (markings later : List Marking) (all : List SegInfo) → left ≡ line ∷ rest → markings ≡ marking ∷ later
    → after ≡ lines ++ marked_line line marking ∷ [] → lines ++ marked_lines left markings ≡ all → after ++ marked_lines rest later ≡ all
lines-more lines after line left rest marking markings later all split split_too pushed was =
    ap (λ (ls : List SegInfo). ls ++ marked_lines rest later) pushed
    ∙ append_assoc lines (marked_line line marking ∷ []) (marked_lines rest later)
    ∙ ap (λ (ls : List SegInfo). lines ++ marked_lines ls (marking ∷ later)) (sym split)
    ∙ ap (λ (ms : List Marking). lines ++ marked_lines left ms) (sym split_too)
    ∙ was

-- the files of one marking more
pub files-more : (files after : List NewFile) (marking : Marking) (left rest : List Marking) (all : List NewFile) → left ≡ marking ∷ rest → after ≡ files ++ file_of marking
    → files ++ flat_map file_of left ≡ all → after ++ flat_map file_of rest ≡ all
files-more files after marking left rest all split pushed was =
    ap (λ (fs : List NewFile). fs ++ flat_map file_of rest) pushed
    ∙ append_assoc files (file_of marking) (flat_map file_of rest)
    ∙ ap (λ (ms : List Marking). files ++ flat_map file_of ms) (sym split)
    ∙ was
