-- The outcome that is due is one and proper, and it is answered where nothing failed.
use Rattle.std.proofs.Common.{◌≡◌, ℕ, Bool, false, List, [], ◌∷◌, map, All, cond, Option, Some, None, IsSome, refl, sym, subst, ap, ◌∙◌, inl, inr, ◌⊎◌, arith}
use Rattle.std.proofs.lemmas.List.Elements.{All-head, All-tail}
use Rattle.lu_dir.specs.Files.{Files, contents}
use Rattle.lu_dir.specs.Loading.{IsLoadable, is_over}
use Rattle.lu_types.specs.Names.{part_name}
use Rattle.lu_types.specs.declared.kind.FileKind.{FileKind}
use Rattle.lu_outcomes.specs.declared.status.Status.{Status}
use Rattle.lu_outcomes.specs.declared.outcome.Outcome.{Outcome}
use Rattle.lu_command.specs.Commands.{Meaning, docs, fields, check, show, build, delete, postings, merge}
use Rattle.lu_folder.specs.Limits.{file_limit}
use Rattle.check_index.specs.Files.{file_at}
use Rattle.lu_reads.specs.Files.{first_too_long, part_names, AreFound}
use Rattle.lu_reads.specs.Needs.{fields_kinds, docs_kinds, table_files, document_files}
use Rattle.lu_listing.specs.Lines.{field_lines, doc_lines}
use Rattle.lu_outcomes.specs.Outcomes.{too_large_outcome, IsProper, IsAnswerOf, AreAlike}
use Rattle.lu_changes.specs.Building.{BuildDue}
use Rattle.lu_reads.specs.FilesDue.{FieldsSay, DocsSay, FilesDue}
use Rattle.lu_command.specs.Due.{MeaningDue, Due}
use Rattle.lu_outcomes.specs.Answers.{Scene, Answers}
use Rattle.lu_outcomes.specs.Halting.{GaveUp, IsAnswered}
use Rattle.lu_command.specs.Asking.{Completes, ReadsInput, CountsSteps, MakesCommit, AskFor}
use Rattle.lu_outcomes.proofs.AnswerLemmas.{IsAnswered-answers}
use Rattle.lu_command.proofs.MeaningLemmas.{only_meaning, asks-not}
use Rattle.lu_changes.proofs.BuildOne.{build-one}
use Rattle.lu_changes.proofs.BuildProper.{build-proper}
use Rattle.lu_changes.proofs.DeleteOne.{delete-one}
use Rattle.lu_changes.proofs.DeleteProper.{delete-proper}
use Rattle.lu_changes.proofs.MergeOne.{merge-one}
use Rattle.lu_changes.proofs.MergeProper.{merge-proper}
use Rattle.lu_reads.proofs.FilesSayLemmas.{FieldsSay-one, DocsSay-one}
use Rattle.lu_reads.proofs.CheckLemmas.{CheckDue-one, CheckDue-idle}
use Rattle.lu_reads.proofs.ShowingLemmas.{ShowDue-one, ShowDue-idle, alike-same, PostingsDue-alike, PostingsDue-idle}
use Rattle.lu_reads.proofs.IdleLemmas.{IsIdle, idle-proper, idle-without_effect, FilesSay-idle}

-- a file that may be loaded is not too long
not_over : (found : Option (List ℕ)) → IsLoadable file_limit found → is_over file_limit found ≡ false
not_over None loadable = refl
not_over (Some bytes) loadable = let within = loadable.within in grind arith

-- where all of them may be loaded none is too long
none_too_long : (told : Files) (segment : List ℕ) (kinds : List FileKind) → All (IsLoadable file_limit) (map (contents told) (part_names segment kinds)) → first_too_long told segment kinds ≡ None
none_too_long told segment [] each = refl
none_too_long told segment (kind ∷ kinds) each =
    ap (λ over. cond over (Some kind) (first_too_long told segment kinds))
    (not_over (contents told (part_name segment kind)) (All-head (IsLoadable file_limit) (contents told (part_name segment kind)) (map (contents told) (part_names segment kinds)) each))
    ∙ none_too_long told segment kinds (All-tail (IsLoadable file_limit) (contents told (part_name segment kind)) (map (contents told) (part_names segment kinds)) each)

-- files that were found are not too long
not_both : (told : Files) (segment : List ℕ) (kinds : List FileKind) (found : List (Option (List ℕ))) (kind : FileKind) → AreFound (Some told) segment kinds found → first_too_long told segment kinds ≡ Some kind → ⊥
not_both told segment kinds found kind are first =
    let none = none_too_long told segment kinds (subst (λ (files : List (Option (List ℕ))). All (IsLoadable file_limit) files) (are.told told refl) are.each) in
    let both : None ≡ Some kind = sym none ∙ first in
    cc

same_kind : {j k : FileKind} → Some j ≡ Some k → j ≡ k
same_kind e = cc

-- the outcome of files that is due is one, where what the command comes to by them is one
FilesDue-one : (told : Files) (segment : List ℕ) (kinds : List FileKind) (Say : List (Option (List ℕ)) → Outcome → Type 0) (one other : Outcome)
    → ((found : List (Option (List ℕ))) → All (IsLoadable file_limit) found → Say found one → Say found other → one ≡ other)
    → FilesDue segment kinds Say (Some told) one → FilesDue segment kinds Say (Some told) other → one ≡ other
FilesDue-one told segment kinds Say one other alone (inl a) (inl b) = a.2 ∙ ap too_large_outcome (same_kind (sym (a.1 told refl) ∙ b.1 told refl)) ∙ sym b.2
FilesDue-one told segment kinds Say one other alone (inl a) (inr b) = absurd (not_both told segment kinds b.0 a.0 b.1 (a.1 told refl))
FilesDue-one told segment kinds Say one other alone (inr a) (inl b) = absurd (not_both told segment kinds a.0 b.0 a.1 (b.1 told refl))
FilesDue-one told segment kinds Say one other alone (inr a) (inr b) =
    let same : b.0 ≡ a.0 = b.1.told told refl ∙ sym (a.1.told told refl) in
    alone a.0 a.1.each a.2 (subst (λ (found : List (Option (List ℕ))). Say found other) same b.2)

-- the outcome of `build` that is due is one, where the input tells what it holds
BuildDue-one : (files : Files) (compound : Bool) (input : Option (List ℕ)) → IsSome input → (one other : Outcome) → BuildDue compound (Some files) input one → BuildDue compound (Some files) input other → one ≡ other
BuildDue-one files compound (Some left) tells one other first second = build-one files left compound one other first second
BuildDue-one files compound None tells one other first second = absurd (cc)

module _ (files : Files) (input : Option (List ℕ)) where
  -- the outcome of a meaning that is due is one, where it counts no steps, and the input tells what it holds if it is read
  MeaningDue-one : (meaning another : Meaning) → ¬ CountsSteps meaning → meaning ≡ another → (ReadsInput meaning → IsSome input) → (one other : Outcome)
      → MeaningDue meaning (Some files) input one → MeaningDue another (Some files) input other → one ≡ other
  MeaningDue-one (docs dir segment) another none same tells one other first second =
      FilesDue-one files segment docs_kinds (DocsSay segment) one other (λ found. DocsSay-one segment found one other) first (subst (λ m. MeaningDue m (Some files) input other) (sym same) second)
  MeaningDue-one (fields dir segment) another none same tells one other first second =
      FilesDue-one files segment fields_kinds (FieldsSay segment) one other (λ found. FieldsSay-one segment found one other) first (subst (λ m. MeaningDue m (Some files) input other) (sym same) second)
  MeaningDue-one (check dir) another none same tells one other first second = CheckDue-one files one other first (subst (λ m. MeaningDue m (Some files) input other) (sym same) second)
  MeaningDue-one (show dir) another none same tells one other first second = ShowDue-one files one other first (subst (λ m. MeaningDue m (Some files) input other) (sym same) second)
  MeaningDue-one (build dir compound) another none same tells one other first second =
      BuildDue-one files compound input (tells tt) one other first (subst (λ m. MeaningDue m (Some files) input other) (sym same) second)
  MeaningDue-one (delete dir field text) another none same tells one other first second = delete-one files field text one other first (subst (λ m. MeaningDue m (Some files) input other) (sym same) second)
  MeaningDue-one (postings dir field text from) another none same tells one other first second = absurd (none tt)
  MeaningDue-one (merge dir compound) another none same tells one other first second = merge-one files compound one other first (subst (λ m. MeaningDue m (Some files) input other) (sym same) second)

  -- outcomes of a meaning that are due are alike, whatever is counted
  MeaningDue-alike : (meaning another : Meaning) → meaning ≡ another → (ReadsInput meaning → IsSome input) → (one other : Outcome)
      → MeaningDue meaning (Some files) input one → MeaningDue another (Some files) input other → AreAlike one other
  MeaningDue-alike (docs dir segment) another same tells one other first second = alike-same one other (MeaningDue-one (docs dir segment) another (λ no. no) same tells one other first second)
  MeaningDue-alike (fields dir segment) another same tells one other first second = alike-same one other (MeaningDue-one (fields dir segment) another (λ no. no) same tells one other first second)
  MeaningDue-alike (check dir) another same tells one other first second = alike-same one other (MeaningDue-one (check dir) another (λ no. no) same tells one other first second)
  MeaningDue-alike (show dir) another same tells one other first second = alike-same one other (MeaningDue-one (show dir) another (λ no. no) same tells one other first second)
  MeaningDue-alike (build dir compound) another same tells one other first second = alike-same one other (MeaningDue-one (build dir compound) another (λ no. no) same tells one other first second)
  MeaningDue-alike (delete dir field text) another same tells one other first second = alike-same one other (MeaningDue-one (delete dir field text) another (λ no. no) same tells one other first second)
  MeaningDue-alike (merge dir compound) another same tells one other first second = alike-same one other (MeaningDue-one (merge dir compound) another (λ no. no) same tells one other first second)
  MeaningDue-alike (postings dir field text from) another same tells one other first second =
      PostingsDue-alike field text from files one other first (subst (λ m. MeaningDue m (Some files) input other) (sym same) second)

  -- the outcome that is due is one, where no steps are counted, and the input tells what it holds if the words ask for reading it
  pub Due-one : (words : List (List ℕ)) → ¬ AskFor CountsSteps words → (AskFor ReadsInput words → IsSome input) → (one other : Outcome) → Due words (Some files) input one → Due words (Some files) input other → one ≡ other
  Due-one words none tells one other (inl a) (inl b) = a.1 ∙ sym b.1
  Due-one words none tells one other (inl a) (inr b) = absurd (a.0 b.0 b.1)
  Due-one words none tells one other (inr a) (inl b) = absurd (b.0 a.0 a.1)
  Due-one words none tells one other (inr a) (inr b) =
      MeaningDue-one a.0 b.0 (asks-not CountsSteps words a.0 a.1 none) (only_meaning words a.0 b.0 a.1 b.1) (λ reads. tells (a.0, a.1, reads)) one other a.2 b.2

  -- outcomes that are due are alike, where the input tells what it holds if the words ask for reading it
  pub Due-alike : (words : List (List ℕ)) → (AskFor ReadsInput words → IsSome input) → (one other : Outcome) → Due words (Some files) input one → Due words (Some files) input other → AreAlike one other
  Due-alike words tells one other (inl a) (inl b) = alike-same one other (a.1 ∙ sym b.1)
  Due-alike words tells one other (inl a) (inr b) = absurd (a.0 b.0 b.1)
  Due-alike words tells one other (inr a) (inl b) = absurd (b.0 a.0 a.1)
  Due-alike words tells one other (inr a) (inr b) = MeaningDue-alike a.0 b.0 (only_meaning words a.0 b.0 a.1 b.1) (λ reads. tells (a.0, a.1, reads)) one other a.2 b.2

-- what is due of files changes nothing
FilesDue-idle : (segment : List ℕ) (kinds : List FileKind) (Say : List (Option (List ℕ)) → Outcome → Type 0) (files : Option Files) (outcome : Outcome) → ((found : List (Option (List ℕ))) → Say found outcome → IsIdle outcome)
    → FilesDue segment kinds Say files outcome → IsIdle outcome
FilesDue-idle segment kinds Say files outcome idle (inl a) = subst IsIdle (sym a.2) (idle-without_effect _ _ tt)
FilesDue-idle segment kinds Say files outcome idle (inr a) = idle a.0 a.2

-- what is due of `fields` changes nothing
pub FieldsDue-idle : (segment : List ℕ) (files : Option Files) (outcome : Outcome) → FilesDue segment fields_kinds (FieldsSay segment) files outcome → IsIdle outcome
FieldsDue-idle segment files outcome = FilesDue-idle segment fields_kinds (FieldsSay segment) files outcome (λ found. FilesSay-idle segment (table_files (file_at found 0)) (field_lines 0) outcome)

-- nor does what is due of `docs`
pub DocsDue-idle : (segment : List ℕ) (files : Option Files) (outcome : Outcome) → FilesDue segment docs_kinds (DocsSay segment) files outcome → IsIdle outcome
DocsDue-idle segment files outcome = FilesDue-idle segment docs_kinds (DocsSay segment) files outcome (λ found. FilesSay-idle segment (document_files (file_at found 0) (file_at found 1) (file_at found 2)) (doc_lines 0) outcome)

module _ (files : Option Files) (input : Option (List ℕ)) (outcome : Outcome) where
  -- nor does what is due of a meaning that makes no commit
  MeaningDue-idle : (meaning : Meaning) → ¬ MakesCommit meaning → MeaningDue meaning files input outcome → IsIdle outcome
  MeaningDue-idle (fields dir segment) makes_none due = FieldsDue-idle segment files outcome due
  MeaningDue-idle (docs dir segment) makes_none due = DocsDue-idle segment files outcome due
  MeaningDue-idle (check dir) makes_none due = CheckDue-idle files outcome due
  MeaningDue-idle (show dir) makes_none due = ShowDue-idle files outcome due
  MeaningDue-idle (build dir compound) makes_none due = absurd (makes_none tt)
  MeaningDue-idle (delete dir field text) makes_none due = absurd (makes_none tt)
  MeaningDue-idle (merge dir compound) makes_none due = absurd (makes_none tt)
  MeaningDue-idle (postings dir field text from) makes_none due = PostingsDue-idle field text from files outcome due

  -- nor does what is due of words that ask for no commit
  pub Due-idle : (words : List (List ℕ)) → ¬ AskFor MakesCommit words → Due words files input outcome → IsIdle outcome
  Due-idle words ask_none (inl a) = subst IsIdle (sym a.1) (idle-without_effect _ _ tt)
  Due-idle words ask_none (inr a) = MeaningDue-idle a.0 (asks-not MakesCommit words a.0 a.1 ask_none) a.2

  -- what is due of a meaning is proper
  pub MeaningDue-proper : (meaning : Meaning) → MeaningDue meaning files input outcome → IsProper files outcome
  MeaningDue-proper (fields dir segment) due = idle-proper files outcome (MeaningDue-idle (fields dir segment) (λ no. no) due)
  MeaningDue-proper (docs dir segment) due = idle-proper files outcome (MeaningDue-idle (docs dir segment) (λ no. no) due)
  MeaningDue-proper (check dir) due = idle-proper files outcome (MeaningDue-idle (check dir) (λ no. no) due)
  MeaningDue-proper (show dir) due = idle-proper files outcome (MeaningDue-idle (show dir) (λ no. no) due)
  MeaningDue-proper (build dir compound) due = build-proper files input compound outcome due
  MeaningDue-proper (delete dir field text) due = delete-proper files field text outcome due
  MeaningDue-proper (merge dir compound) due = merge-proper files compound outcome due
  MeaningDue-proper (postings dir field text from) due = idle-proper files outcome (MeaningDue-idle (postings dir field text from) (λ no. no) due)

  -- and so is what is due of words
  pub Due-proper : (words : List (List ℕ)) → Due words files input outcome → IsProper files outcome
  Due-proper words (inl a) = idle-proper files outcome (subst IsIdle (sym a.1) (idle-without_effect _ _ tt))
  Due-proper words (inr a) = MeaningDue-proper a.0 a.2

-- outcomes that are alike have the same answers
IsAnswerOf-alike : (one other : Outcome) (answer : Status) → AreAlike one other → IsAnswerOf one answer → IsAnswerOf other answer
IsAnswerOf-alike one other answer alike (inl is) = inl (is ∙ alike.status)
IsAnswerOf-alike one other answer alike (inr is) = inr ((λ none. is.0 (alike.effect ∙ none)), is.1)

-- a call that answers by what is due answers it, where it did not give up
pub Completes-answers : (words : List (List ℕ)) (files : Option Files) (input : Option (List ℕ)) (Failed : Type 0) (before after : Scene) (answer : Status) → Answers (Due words files input) Failed before after answer
    → Completes words files input answer
Completes-answers words files input Failed before after answer answers told is tells outcome due =
    judge (IsAnswered-answers (Due words files input) Failed before after answer answers)
  where
    judge : IsAnswered (Due words files input) answer → IsAnswerOf outcome answer ⊎ GaveUp answer
    judge (inl a) = inl (IsAnswerOf-alike a.0 outcome answer (Due-alike told input words tells a.0 outcome (subst (λ o. Due words o input a.0) is a.1) due) a.2)
    judge (inr gave) = inr gave
