-- What is due of a command that makes a commit by what the segments of the current one stand for: one outcome, a proper one, and what it follows.
use Rattle.std.proofs.Common.{◌≡◌, ℕ, ◌+◌, ◌^◌, ◌<◌, Bool, true, false, List, Option, Some, None, Result, Ok, Err, refl, sym, ap, subst, ◌∙◌, inl, inr}
use Rattle.std.specs.Prelude.{nat_lt}
use Rattle.std.specs.Option.{ForSome}
use Rattle.std.specs.FinMap.{keys}
use Rattle.std.proofs.lemmas.Bool.{ltb-true}
use Rattle.lu_dir.specs.Files.{Files, AreMadeOfBytes}
use Rattle.segment_infos.specs.Values.{CommitValue, IsCommit}
use Rattle.check_index.specs.Segments.{SegmentValue}
use Rattle.lu_folder.specs.ChangeValues.{ChangeValue}
use Rattle.lu_folder.specs.Choosing.{AnswersCurrent, IsTold}
use Rattle.lu_folder.specs.Commits.{commit_file, IsCurrent}
use Rattle.lu_folder.specs.Drawing.{next_generation}
use Rattle.lu_folder.specs.declared.choosing.Chosen.{Chosen}
use Rattle.lu_folder.specs.declared.fault.FolderFault.{FolderFault}
use Rattle.lu_folder.specs.declared.fault.FolderFault.TheVariants.{Failed, NoIndex, FileTooLarge, NotStanding, OutOfMemory}
use Rattle.lu_folder.proofs.OneAnswer.{current-answer}
use Rattle.lu_outcomes.specs.declared.outcome.Effect.TheVariants.{Commit}
use Rattle.lu_outcomes.specs.declared.outcome.Outcome.{Outcome}
use Rattle.lu_outcomes.specs.Outcomes.{IsProper}
use Rattle.lu_reads.specs.Segments.{AreReadAs}
use Rattle.lu_reads.specs.Checking.{Refuses}
use Rattle.lu_changes.specs.Following.{SegmentsFollow, VersionFollows, GenerationFollows, CurrentFollows, FollowDue}
use Rattle.lu_reads.proofs.IdleLemmas.{idle-proper, idle-without_effect}
use Rattle.lu_reads.proofs.CheckLemmas.{segments-idle, refuses-one, refuses-idle}
use Rattle.lu_reads.proofs.ReadAsLemmas.{give-one}
use Rattle.lu_changes.proofs.BuildProper.{refusal-proper, says-commit}
use Rattle.lu_changes.proofs.StandingDueLemmas.{idle}

module _ (Give : List (List ℕ) → CommitValue → ℕ → List SegmentValue → Outcome → Type 0) where
  -- ---- the outcome is one

  module _ (told : Files) (names : List (List ℕ)) (one other : Outcome) (alone : (before : CommitValue) (generation : ℕ) (xs : List SegmentValue) → Give names before generation xs one → Give names before generation xs other → one ≡ other) where
    version-one : (chosen : Chosen) (generation : ℕ) (fits : Bool) → VersionFollows Give (Some told) names chosen generation fits one → VersionFollows Give (Some told) names chosen generation fits other → one ≡ other
    version-one chosen generation true a b = give-one told chosen.generation chosen.commit.segments (Give names chosen.commit generation) one other (alone chosen.commit generation) a b
    version-one chosen generation false a b = a ∙ sym b

    generation-one : (chosen : Chosen) (drawn : Option ℕ) → GenerationFollows Give (Some told) names chosen drawn one → GenerationFollows Give (Some told) names chosen drawn other → one ≡ other
    generation-one chosen (Some generation) a b = version-one chosen generation (nat_lt (chosen.commit.version + 1) (2 ^ 63)) a b
    generation-one chosen None a b = a ∙ sym b

    current-one : (answer : Result Chosen FolderFault) → CurrentFollows Give (Some told) names answer one → CurrentFollows Give (Some told) names answer other → one ≡ other
    current-one (Ok chosen) a b = generation-one chosen (next_generation names) a b
    current-one (Err fault) a b = refuses-one fault one other a b

  -- what is followed is told
  follows-told : (files : Option Files) (names : List (List ℕ)) (answer : Result Chosen FolderFault) (outcome : Outcome) → CurrentFollows Give files names answer outcome → IsTold answer
  follows-told files names (Ok chosen) outcome follows = tt
  follows-told files names (Err NoIndex) outcome follows = tt
  follows-told files names (Err (FileTooLarge kind)) outcome follows = tt
  follows-told files names (Err (NotStanding generation fault)) outcome follows = tt
  follows-told files names (Err Failed) outcome never = never
  follows-told files names (Err OutOfMemory) outcome never = never

  -- the outcome that is due is one, where it is one by what the segments stand for
  pub follow-one : (told : Files) (one other : Outcome) → ((names : List (List ℕ)) (before : CommitValue) (generation : ℕ) (xs : List SegmentValue) → Give names before generation xs one → Give names before generation xs other → one ≡ other)
      → FollowDue Give (Some told) one → FollowDue Give (Some told) other → one ≡ other
  follow-one told one other alone (made, (names, named, (answer, answers, follows))) (_, (others, also_named, (second, also_answers, also_follows))) =
      let listed : others ≡ names = also_named told refl ∙ sym (named told refl) in
      let same : second ≡ answer = current-answer told (made told refl) second answer (follows-told (Some told) others second other also_follows) (follows-told (Some told) names answer one follows) (also_answers told refl) (answers told refl) in
      current-one told names one other (alone names) answer follows
      (subst (λ (a : Result Chosen FolderFault). CurrentFollows Give (Some told) names a other) same (subst (λ (ns : List (List ℕ)). CurrentFollows Give (Some told) ns second other) listed also_follows))

  -- ---- what the program finds out

  -- what comes of the current commit is due
  pub follow-chosen : (files : Option Files) (names : List (List ℕ)) (chosen : Chosen) (outcome : Outcome) → ForSome files AreMadeOfBytes → ForSome files (λ told. names ≡ keys told) → ForSome files (λ told. AnswersCurrent told (Ok chosen))
      → GenerationFollows Give files names chosen (next_generation names) outcome → FollowDue Give files outcome
  follow-chosen files names chosen outcome made named answers follows = (made, (names, named, (Ok chosen, answers, follows)))

  -- what is said of a folder without one is due
  pub follow-refused : (files : Option Files) (names : List (List ℕ)) (fault : FolderFault) (outcome : Outcome) → ForSome files AreMadeOfBytes → ForSome files (λ told. names ≡ keys told) → ForSome files (λ told. AnswersCurrent told (Err fault))
      → Refuses fault outcome → FollowDue Give files outcome
  follow-refused files names fault outcome made named answers refuses = (made, (names, named, (Err fault, answers, refuses)))

  -- ---- it is proper

  -- it is so by what the segments of this commit stand for
  abbrev pub IsProperBy : Option Files → Outcome → List (List ℕ) → CommitValue → Type 0
  IsProperBy files outcome names before = ForSome files (λ told. IsCommit before) → (generation : ℕ) → next_generation names ≡ Some generation → before.version + 1 < 2 ^ 63
      → (xs : List SegmentValue) → AreReadAs files before.segments xs → Give names before generation xs outcome → IsProper files outcome

  module _ (files : Option Files) (outcome : Outcome) (names : List (List ℕ)) (by_commit : (before : CommitValue) → IsProperBy files outcome names before) where
    segments-proper : (chosen : Chosen) → ForSome files (λ told. IsCommit chosen.commit) → (generation : ℕ) → next_generation names ≡ Some generation → chosen.commit.version + 1 < 2 ^ 63
        → SegmentsFollow Give files names chosen generation outcome → IsProper files outcome
    segments-proper chosen is generation drawn version (inl said) = idle-proper files outcome (segments-idle files chosen.generation 0 chosen.commit.segments (Some outcome) said)
    segments-proper chosen is generation drawn version (inr (xs, read, gives)) = by_commit chosen.commit is generation drawn version xs read gives

    version-proper : (chosen : Chosen) → ForSome files (λ told. IsCommit chosen.commit) → (generation : ℕ) → next_generation names ≡ Some generation → (fits : Bool) → nat_lt (chosen.commit.version + 1) (2 ^ 63) ≡ fits
        → VersionFollows Give files names chosen generation fits outcome → IsProper files outcome
    version-proper chosen is generation drawn true within follows = segments-proper chosen is generation drawn (ltb-true (chosen.commit.version + 1) (2 ^ 63) within) follows
    version-proper chosen is generation drawn false within same = refusal-proper files _ outcome (idle-without_effect _ _ tt) same

    generation-proper : (chosen : Chosen) → ForSome files (λ told. IsCommit chosen.commit) → (drawn : Option ℕ) → next_generation names ≡ drawn → GenerationFollows Give files names chosen drawn outcome → IsProper files outcome
    generation-proper chosen is (Some generation) drawn follows = version-proper chosen is generation drawn (nat_lt (chosen.commit.version + 1) (2 ^ 63)) refl follows
    generation-proper chosen is None drawn same = refusal-proper files _ outcome (idle-without_effect _ _ tt) same

    current-proper : (answer : Result Chosen FolderFault) → ForSome files (λ told. AnswersCurrent told answer) → CurrentFollows Give files names answer outcome → IsProper files outcome
    current-proper (Ok chosen) answers follows =
        generation-proper chosen (λ told there. says-commit (commit_file told chosen.generation) chosen.commit (answers told there).0.good.says) (next_generation names) refl follows
    current-proper (Err fault) answers follows = idle-proper files outcome (refuses-idle fault outcome follows)

  -- the outcome that is due is proper, where it is so by what the segments stand for
  pub follow-proper : (files : Option Files) (outcome : Outcome) → ((names : List (List ℕ)) → ForSome files (λ told. names ≡ keys told) → (before : CommitValue) → IsProperBy files outcome names before)
      → FollowDue Give files outcome → IsProper files outcome
  follow-proper files outcome by_names (made, (names, named, (answer, answers, follows))) = current-proper files outcome names (by_names names named) answer answers follows

  -- ---- what it follows

  -- the outcome is that of the current commit, whose segments stand for these
  pub record Follows (files : Files) (outcome : Outcome) : Type 0 where
    pub chosen : Chosen
    pub current : IsCurrent files chosen.generation chosen.commit
    pub generation : ℕ
    pub xs : List SegmentValue
    pub read : AreReadAs (Some files) chosen.commit.segments xs
    pub gives : Give (keys files) chosen.commit generation xs outcome

  module _ (outcome : Outcome) (change : ChangeValue) (effect : outcome.effect ≡ Commit change) (files : Files) where
    version-given : (chosen : Chosen) → IsCurrent files chosen.generation chosen.commit → (generation : ℕ) (fits : Bool) → VersionFollows Give (Some files) (keys files) chosen generation fits outcome → Follows files outcome
    version-given chosen current generation true (inl said) = idle outcome change effect (segments-idle (Some files) chosen.generation 0 chosen.commit.segments (Some outcome) said).effect
    version-given chosen current generation true (inr (xs, read, gives)) = record { chosen = chosen; current = current; generation = generation; xs = xs; read = read; gives = gives }
    version-given chosen current generation false given = idle outcome change effect (ap (λ (o : Outcome). o.effect) given)

    generation-given : (chosen : Chosen) → IsCurrent files chosen.generation chosen.commit → (drawn : Option ℕ) → GenerationFollows Give (Some files) (keys files) chosen drawn outcome → Follows files outcome
    generation-given chosen current (Some generation) given = version-given chosen current generation (nat_lt (chosen.commit.version + 1) (2 ^ 63)) given
    generation-given chosen current None given = idle outcome change effect (ap (λ (o : Outcome). o.effect) given)

    current-given : (answer : Result Chosen FolderFault) → AnswersCurrent files answer → CurrentFollows Give (Some files) (keys files) answer outcome → Follows files outcome
    current-given (Ok chosen) is given = generation-given chosen is.0 (next_generation (keys files)) given
    current-given (Err fault) is given = idle outcome change effect (refuses-idle fault outcome given).effect

    -- an outcome with an effect that is due follows the current commit
    pub follow-given : FollowDue Give (Some files) outcome → Follows files outcome
    follow-given (made, (names, listed, (answer, is, given))) =
        current-given answer (is files refl) (subst (λ (some : List (List ℕ)). CurrentFollows Give (Some files) some answer outcome) (listed files refl) given)
