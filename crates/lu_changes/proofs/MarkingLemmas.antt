-- What becomes of a segment, by how many documents are deleted then.
use Rattle.std.proofs.Common.{◌≡◌, ℕ, ◌<◌, ◌≤◌, Bool, List, length, if◌then◌else◌, Result, Ok, Err, IfOk, sym, ap, ◌∙◌}
use Rattle.std.proofs.lemmas.Bool.{lt-ltb, le-ltb}
use Rattle.lu_model.specs.Index.{Index}
use Rattle.segment_infos.specs.declared.infos.SegInfo.{SegInfo}
use Rattle.lu_folder.specs.Drawing.{next_del}
use Rattle.lu_changes.specs.declared.marking.Marking.TheVariants.{Same}
use Rattle.lu_changes.specs.Deleting.{deleted_with, marking_by, marking_to, marking_of}

-- more are deleted
pub marking-grown : (names : List (List ℕ)) (field text : List ℕ) (line : SegInfo) (x : Index) (documents : List ℕ) → documents ≡ deleted_with field text x
    → length x.deleted < length documents → marking_by line x documents (next_del names line) ≡ marking_of names field text line x
marking-grown names field text line x documents is more =
    sym (ap (λ (b : Bool). if b then marking_by line x documents (next_del names line) else Same) (lt-ltb (length x.deleted) (length documents) more))
    ∙ ap (marking_to names line x) is

-- no more are
pub marking-same : (names : List (List ℕ)) (field text : List ℕ) (line : SegInfo) (x : Index) (documents : List ℕ) → documents ≡ deleted_with field text x
    → length documents ≤ length x.deleted → Same ≡ marking_of names field text line x
marking-same names field text line x documents is few =
    sym (ap (λ (b : Bool). if b then marking_by line x documents (next_del names line) else Same) (le-ltb (length x.deleted) (length documents) few))
    ∙ ap (marking_to names line x) is

-- what holds of an answer holds of it when it says less
pub ok-less : {A E : Type 0} (P Q : A → Type 0) → ((a : A) → P a → Q a) → (r : Result A E) → IfOk r P → IfOk r Q
ok-less P Q less (Ok a) says = less a says
ok-less P Q less (Err e) says = tt
