-- At most one answer is due where a commit is chosen.
use Rattle.std.proofs.Common.{◌≡◌, ◌⊎◌, ℕ, ◌<◌, ◌≤◌, true, false, List, Option, Some, None, IfSome, Result, Ok, Err, refl, sym, ap, subst, ◌∙◌, inl, inr, arith}
use Rattle.std.proofs.lemmas.Bool.{cases_lt}
use Rattle.lu_grammar.specs.Bytes.{IsBytes}
use Rattle.lu_grammar.proofs.LawLemmas.{value_is_one, fault_is_one}
use Rattle.lu_dir.specs.Files.{Files, AreMadeOfBytes}
use Rattle.lu_types.specs.declared.fault.Fault.{Fault}
use Rattle.lu_types.specs.declared.fault.Spot.{Spot}
use Rattle.lu_types.specs.declared.kind.FileKind.{FileKind}
use Rattle.segment_infos.specs.Format.{commit_plan}
use Rattle.segment_infos.specs.Values.{CommitValue}
use Rattle.lu_folder.specs.ChangeValues.{commit_name}
use Rattle.lu_folder.specs.Commits.{commit_file, Says, IsGoodCommit, IsCurrent, HasCommitFile, IsNewest}
use Rattle.lu_folder.specs.Choosing.{IsFaulty, HasFault, is_too_large, IsPassedOver, AnswersCurrent, AnswersNewest, IsTold}
use Rattle.lu_folder.specs.declared.choosing.Chosen.{Chosen}
use Rattle.lu_folder.specs.declared.fault.FolderFault.{FolderFault}
use Rattle.lu_folder.specs.declared.fault.FolderFault.TheVariants.{Failed, NoIndex, FileTooLarge, NotStanding, OutOfMemory}
use Rattle.lu_folder.proofs.UnmadeLemmas.{good-there}

there-of_good : (files : Files) (generation : ℕ) (commit : CommitValue) → IsGoodCommit files generation commit → HasCommitFile files generation
there-of_good files generation commit good = record { is = good.is; there = good-there files generation commit good.says }

not_both : {A : Type 0} (files : Files) (generation : ℕ) → is_too_large files generation ≡ false → is_too_large files generation ≡ true → A
not_both files generation fits over = absurd (true_is_not (sym fits ∙ over))
  where
    true_is_not : false ≡ true → ⊥
    true_is_not e = cc

-- a commit says one thing
says-one : (found : Option (List ℕ)) (one other : CommitValue) → Says found one → Says found other → one ≡ other
says-one None one other first second = absurd first
says-one (Some bytes) one other first second = value_is_one (commit_plan bytes) bytes one other first second

-- it has one first fault
spot-one : (found : Option (List ℕ)) (one other : Spot) → IfSome found IsBytes → IsFaulty found one → IsFaulty found other → one ≡ other
spot-one None one other fits first second = first ∙ sym second
spot-one (Some bytes) one other fits first second =
    let (place, rule) : (one.offset ≡ other.offset) × (one.rule ≡ other.rule) = fault_is_one (commit_plan bytes) bytes one.offset one.rule other.offset other.rule fits first.1 second.1 in
    ap (λ (kind : FileKind). record { kind = kind; offset = one.offset; rule = one.rule }) (first.0 ∙ sym second.0)
    ∙ ap (λ (offset : ℕ). record { kind = other.kind; offset = offset; rule = one.rule }) place
    ∙ ap (λ (rule : ℕ). record { kind = other.kind; offset = other.offset; rule = rule }) rule

fault-one : (one other : Fault) → one.segment ≡ 0 → other.segment ≡ 0 → one.spot ≡ other.spot → one ≡ other
fault-one one other first second same =
    ap (λ (segment : ℕ). record { segment = segment; spot = one.spot }) (first ∙ sym second) ∙ ap (λ (spot : Spot). record { segment = other.segment; spot = spot }) same

-- there is one current commit, and one newest
current-one : (files : Files) (one other : ℕ) (v w : CommitValue) → IsCurrent files one v → IsCurrent files other w → one ≡ other
current-one files one other v w first second = by_order (cases_lt one other) (cases_lt other one)
  where
    by_order : (one < other) ⊎ (other ≤ one) → (other < one) ⊎ (one ≤ other) → one ≡ other
    by_order (inl less) which = absurd (first.last other w less second.good)
    by_order (inr most) (inl less) = absurd (second.last one v less first.good)
    by_order (inr most) (inr least) = omega arith

newest-one : (files : Files) (one other : ℕ) → IsNewest files one → IsNewest files other → one ≡ other
newest-one files one other first second = by_order (cases_lt one other) (cases_lt other one)
  where
    by_order : (one < other) ⊎ (other ≤ one) → (other < one) ⊎ (one ≤ other) → one ≡ other
    by_order (inl less) which = absurd (first.last other less second.here)
    by_order (inr most) (inl less) = absurd (second.last one less first.here)
    by_order (inr most) (inr least) = omega arith

chosen-one : (files : Files) (one other : Chosen) → one.generation ≡ other.generation → IsGoodCommit files one.generation one.commit → IsGoodCommit files other.generation other.commit → one ≡ other
chosen-one files one other same first second =
    ap (λ (generation : ℕ). record { generation = generation; commit = one.commit }) same
    ∙ ap (λ (commit : CommitValue). record { generation = other.generation; commit = commit })
    (says-one (commit_file files other.generation) one.commit other.commit (subst (λ (n : ℕ). Says (commit_file files n) one.commit) same first.says) second.says)

standing-one : (files : Files) (one other : ℕ) (a b : Fault) → AreMadeOfBytes files → one ≡ other → HasFault files one a → HasFault files other b → NotStanding one a ≡ NotStanding other b
standing-one files one other a b made same first second =
    ap (λ (n : ℕ). NotStanding n a) same
    ∙ ap (λ (f : Fault). NotStanding other f)
    (fault-one a b first.0 second.0 (spot-one (commit_file files other) a.spot b.spot (made (commit_name other)) (subst (λ (n : ℕ). IsFaulty (commit_file files n) a.spot) same first.1) second.1))

module _ (files : Files) (made : AreMadeOfBytes files) where
  -- one current commit, and a file too large, are not both before any good one
  good-large : {A : Type 0} (chosen : Chosen) (kind : FileKind) → AnswersCurrent files (Ok chosen) → AnswersCurrent files (Err (FileTooLarge kind)) → A
  good-large {A} chosen kind (current, fits) (is, (generation, there, over, passed)) = by_order (cases_lt generation chosen.generation)
    where
      by_order : (generation < chosen.generation) ⊎ (chosen.generation ≤ generation) → A
      by_order (inl less) = absurd ((passed chosen.generation less (there-of_good files chosen.generation chosen.commit current.good)).not_good chosen.commit current.good)
      by_order (inr le) = not_both files generation (fits generation le there) over

  pub current-answer : (one other : Result Chosen FolderFault) → IsTold one → IsTold other → AnswersCurrent files one → AnswersCurrent files other → one ≡ other
  current-answer (Ok a) (Ok b) told also first second = ap (λ (c : Chosen). Ok c) (chosen-one files a b (current-one files a.generation b.generation a.commit b.commit first.0 second.0) first.0.good second.0.good)
  current-answer (Ok a) (Err NoIndex) told also first second = absurd (second a.generation (there-of_good files a.generation a.commit first.0.good))
  current-answer (Ok a) (Err (FileTooLarge kind)) told also first second = good-large a kind first second
  current-answer (Ok a) (Err (NotStanding n fault)) told also first second = absurd ((second.2 a.generation (there-of_good files a.generation a.commit first.0.good)).not_good a.commit first.0.good)
  current-answer (Err NoIndex) (Ok b) told also first second = absurd (first b.generation (there-of_good files b.generation b.commit second.0.good))
  current-answer (Err NoIndex) (Err NoIndex) told also first second = refl
  current-answer (Err NoIndex) (Err (FileTooLarge kind)) told also first second = absurd (first second.1.0 second.1.1)
  current-answer (Err NoIndex) (Err (NotStanding n fault)) told also first second = absurd (first n second.0.here)
  current-answer (Err (FileTooLarge kind)) (Ok b) told also first second = good-large b kind second first
  current-answer (Err (FileTooLarge kind)) (Err NoIndex) told also first second = absurd (second first.1.0 first.1.1)
  current-answer (Err (FileTooLarge kind)) (Err (FileTooLarge other)) told also first second = ap (λ (k : FileKind). Err (FileTooLarge k)) (first.0 ∙ sym second.0)
  current-answer (Err (FileTooLarge kind)) (Err (NotStanding n fault)) told also first second = not_both files first.1.0 (second.2 first.1.0 first.1.1).fits first.1.2
  current-answer (Err (NotStanding n fault)) (Ok b) told also first second = absurd ((first.2 b.generation (there-of_good files b.generation b.commit second.0.good)).not_good b.commit second.0.good)
  current-answer (Err (NotStanding n fault)) (Err NoIndex) told also first second = absurd (second n first.0.here)
  current-answer (Err (NotStanding n fault)) (Err (FileTooLarge kind)) told also first second = not_both files second.1.0 (first.2 second.1.0 second.1.1).fits second.1.2
  current-answer (Err (NotStanding n fault)) (Err (NotStanding m other)) told also first second = ap (λ (f : FolderFault). Err f) (standing-one files n m fault other made (newest-one files n m first.0 second.0) first.1 second.1)
  current-answer (Err Failed) other told also first second = absurd told
  current-answer (Err OutOfMemory) other told also first second = absurd told
  current-answer (Ok a) (Err Failed) told also first second = absurd also
  current-answer (Ok a) (Err OutOfMemory) told also first second = absurd also
  current-answer (Err NoIndex) (Err Failed) told also first second = absurd also
  current-answer (Err NoIndex) (Err OutOfMemory) told also first second = absurd also
  current-answer (Err (FileTooLarge kind)) (Err Failed) told also first second = absurd also
  current-answer (Err (FileTooLarge kind)) (Err OutOfMemory) told also first second = absurd also
  current-answer (Err (NotStanding n fault)) (Err Failed) told also first second = absurd also
  current-answer (Err (NotStanding n fault)) (Err OutOfMemory) told also first second = absurd also

  pub newest-answer : (one other : Result Chosen FolderFault) → IsTold one → IsTold other → AnswersNewest files one → AnswersNewest files other → one ≡ other
  newest-answer (Ok a) (Ok b) told also first second = ap (λ (c : Chosen). Ok c) (chosen-one files a b (newest-one files a.generation b.generation first.0 second.0) first.1 second.1)
  newest-answer (Ok a) (Err NoIndex) told also first second = absurd (second a.generation first.0.here)
  newest-answer (Ok a) (Err (FileTooLarge kind)) told also first second =
      not_both files second.1.0 (subst (λ (n : ℕ). is_too_large files n ≡ false) (newest-one files a.generation second.1.0 first.0 second.1.1) first.2) second.1.2
  newest-answer (Ok a) (Err (NotStanding n fault)) told also first second =
      absurd (second.2.not_good a.commit (subst (λ (m : ℕ). IsGoodCommit files m a.commit) (newest-one files a.generation n first.0 second.0) first.1))
  newest-answer (Err NoIndex) (Ok b) told also first second = absurd (first b.generation second.0.here)
  newest-answer (Err NoIndex) (Err NoIndex) told also first second = refl
  newest-answer (Err NoIndex) (Err (FileTooLarge kind)) told also first second = absurd (first second.1.0 second.1.1.here)
  newest-answer (Err NoIndex) (Err (NotStanding n fault)) told also first second = absurd (first n second.0.here)
  newest-answer (Err (FileTooLarge kind)) (Ok b) told also first second =
      not_both files first.1.0 (subst (λ (n : ℕ). is_too_large files n ≡ false) (newest-one files b.generation first.1.0 second.0 first.1.1) second.2) first.1.2
  newest-answer (Err (FileTooLarge kind)) (Err NoIndex) told also first second = absurd (second first.1.0 first.1.1.here)
  newest-answer (Err (FileTooLarge kind)) (Err (FileTooLarge other)) told also first second = ap (λ (k : FileKind). Err (FileTooLarge k)) (first.0 ∙ sym second.0)
  newest-answer (Err (FileTooLarge kind)) (Err (NotStanding n fault)) told also first second =
      not_both files first.1.0 (subst (λ (m : ℕ). is_too_large files m ≡ false) (newest-one files n first.1.0 second.0 first.1.1) second.2.fits) first.1.2
  newest-answer (Err (NotStanding n fault)) (Ok b) told also first second =
      absurd (first.2.not_good b.commit (subst (λ (m : ℕ). IsGoodCommit files m b.commit) (newest-one files b.generation n second.0 first.0) second.1))
  newest-answer (Err (NotStanding n fault)) (Err NoIndex) told also first second = absurd (second n first.0.here)
  newest-answer (Err (NotStanding n fault)) (Err (FileTooLarge kind)) told also first second =
      not_both files second.1.0 (subst (λ (m : ℕ). is_too_large files m ≡ false) (newest-one files n second.1.0 first.0 second.1.1) first.2.fits) second.1.2
  newest-answer (Err (NotStanding n fault)) (Err (NotStanding m other)) told also first second = ap (λ (f : FolderFault). Err f) (standing-one files n m fault other made (newest-one files n m first.0 second.0) first.1 second.1)
  newest-answer (Err Failed) other told also first second = absurd told
  newest-answer (Err OutOfMemory) other told also first second = absurd told
  newest-answer (Ok a) (Err Failed) told also first second = absurd also
  newest-answer (Ok a) (Err OutOfMemory) told also first second = absurd also
  newest-answer (Err NoIndex) (Err Failed) told also first second = absurd also
  newest-answer (Err NoIndex) (Err OutOfMemory) told also first second = absurd also
  newest-answer (Err (FileTooLarge kind)) (Err Failed) told also first second = absurd also
  newest-answer (Err (FileTooLarge kind)) (Err OutOfMemory) told also first second = absurd also
  newest-answer (Err (NotStanding n fault)) (Err Failed) told also first second = absurd also
  newest-answer (Err (NotStanding n fault)) (Err OutOfMemory) told also first second = absurd also
