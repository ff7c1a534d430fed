-- What a command comes to by the files of a segment is one outcome.
use Rattle.std.proofs.Common.{◌≡◌, ℕ, ℤ, zero, suc, true, List, [], ◌∷◌, length, All, Option, Some, None, sym, subst, ap, ◌∙◌, inl, inr}
use Rattle.std.specs.Prelude.{IfSome}
use Rattle.std.specs.Option.{ForSome}
use Rattle.std.proofs.lemmas.List.Elements.{All-head, All-tail}
use Rattle.lu_grammar.specs.Bytes.{IsBytes}
use Rattle.lu_grammar.specs.Meaning.{Reads}
use Rattle.lu_dir.specs.Loading.{IsLoadable}
use Rattle.lu_types.specs.Tables.{TableField}
use Rattle.lu_types.specs.FilePlans.{FilePlan, stands, needs, followed_by, missing, IsFaultAmong, HoldBytes}
use Rattle.lu_types.specs.Judging.{IsFirstFault}
use Rattle.lu_types.proofs.FileLaws.{one_meaning, no_fault_if_they_stand, one_fault_among, made_of_bytes}
use Rattle.lu_types.specs.declared.kind.FileKind.TheVariants.{Fnm, Fdx, Fdt}
use Rattle.lu_types.specs.declared.fault.Spot.{Spot}
use Rattle.lu_types.specs.Stores.{whole_store, windowed}
use Rattle.field_infos.specs.Fnm.{fnm_plan}
use Rattle.stored_fields.specs.Places.{fdx_plan}
use Rattle.stored_fields.specs.Documents.{fdt_plan}
use Rattle.stored_fields.specs.Stores.{total_of, own_files, all_files}
use Rattle.lu_outcomes.specs.declared.outcome.Outcome.{Outcome}
use Rattle.lu_listing.specs.Lines.{field_lines, doc_lines}
use Rattle.lu_folder.specs.Limits.{file_limit}
use Rattle.check_index.specs.Files.{file_at}
use Rattle.lu_reads.specs.Needs.{table_files, document_files}
use Rattle.lu_outcomes.specs.Outcomes.{printing, faulty_outcome}
use Rattle.lu_reads.specs.FilesDue.{FilesSay, FieldsSay, DocsSay}

-- by files that are made of bytes a command comes to one outcome
pub FilesSay-one : {X : Type 0} (segment : List ℕ) (files : FilePlan X) (lines : X → List ℕ) (one other : Outcome) → HoldBytes files → FilesSay segment files lines one → FilesSay segment files lines other → one ≡ other
FilesSay-one segment files lines one other made (inl a) (inl b) = a.2 ∙ ap (λ x. printing (lines x)) (one_meaning files a.0 b.0 a.1 b.1) ∙ sym b.2
FilesSay-one segment files lines one other made (inl a) (inr b) = absurd (no_fault_if_they_stand files a.0 b.0 made a.1 b.1)
FilesSay-one segment files lines one other made (inr a) (inl b) = absurd (no_fault_if_they_stand files b.0 a.0 made b.1 a.1)
FilesSay-one segment files lines one other made (inr a) (inr b) = a.2 ∙ ap (faulty_outcome segment) (one_fault_among files a.0 b.0 made a.1 b.1) ∙ sym b.2

-- what was found at a place may be loaded
pub file_at-loadable : (found : List (Option (List ℕ))) (place : ℕ) → All (IsLoadable file_limit) found → IsLoadable file_limit (file_at found place)
file_at-loadable [] place each = record { bytes = tt; within = tt }
file_at-loadable (file ∷ found) zero each = All-head (IsLoadable file_limit) file found each
file_at-loadable (file ∷ found) (suc place) each = file_at-loadable found place (All-tail (IsLoadable file_limit) file found each)

-- what may be loaded is made of bytes
pub held : (file : Option (List ℕ)) → IsLoadable file_limit file → ForSome file IsBytes
held file loadable bytes is = let P : Option (List ℕ) → Type 0 = λ there. IfSome there IsBytes in subst P is loadable.bytes

-- the files that `fields` needs are made of bytes
table_bytes : (fnm : Option (List ℕ)) → ForSome fnm IsBytes → HoldBytes (table_files fnm)
table_bytes fnm made = made_of_bytes Fnm fnm (λ _. fnm_plan true None) (λ _ table. stands table) made (λ _ table. tt)

-- and those that a store needs
store_bytes : (fields : ℕ) (fdx fdt : Option (List ℕ)) → ForSome fdx IsBytes → ForSome fdt IsBytes → HoldBytes (all_files fields fdx fdt)
store_bytes fields fdx fdt places documents =
    made_of_bytes Fdx fdx (λ bytes. fdx_plan (total_of bytes) (whole_store (total_of bytes)))
    (λ bytes ps. needs Fdt fdt (λ _. fdt_plan (whole_store (total_of bytes)) fields ps) (λ _ all. stands (windowed (whole_store (total_of bytes)) all))) places
    (λ bytes ps. made_of_bytes Fdt fdt (λ _. fdt_plan (whole_store (total_of bytes)) fields ps) (λ _ all. stands (windowed (whole_store (total_of bytes)) all)) documents (λ _ all. tt))

-- and those that `docs` needs
document_bytes : (fnm fdx fdt : Option (List ℕ)) → ForSome fnm IsBytes → ForSome fdx IsBytes → ForSome fdt IsBytes → HoldBytes (document_files fnm fdx fdt)
document_bytes fnm fdx fdt table places documents =
    made_of_bytes Fnm fnm (λ _. fnm_plan true None) (λ _ fields. followed_by (stands fields) (λ fields. all_files (length fields) fdx fdt)) table (λ _ fields. store_bytes (length fields) fdx fdt places documents)

-- what `fields` comes to is one outcome
pub FieldsSay-one : (segment : List ℕ) (found : List (Option (List ℕ))) (one other : Outcome) → All (IsLoadable file_limit) found → FieldsSay segment found one → FieldsSay segment found other → one ≡ other
FieldsSay-one segment found one other each = FilesSay-one segment (table_files (file_at found 0)) (field_lines 0) one other (table_bytes (file_at found 0) (held (file_at found 0) (file_at-loadable found 0 each)))

-- what `docs` comes to is one outcome
pub DocsSay-one : (segment : List ℕ) (found : List (Option (List ℕ))) (one other : Outcome) → All (IsLoadable file_limit) found → DocsSay segment found one → DocsSay segment found other → one ≡ other
DocsSay-one segment found one other each =
    FilesSay-one segment (document_files (file_at found 0) (file_at found 1) (file_at found 2)) (doc_lines 0) one other
    (document_bytes (file_at found 0) (file_at found 1) (file_at found 2)
    (held (file_at found 0) (file_at-loadable found 0 each)) (held (file_at found 1) (file_at-loadable found 1 each)) (held (file_at found 2) (file_at-loadable found 2 each)))
