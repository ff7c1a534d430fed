-- What is due by the current commit and its segments: two outcomes that are due go together as those of the segments do, and nothing is changed.
use Rattle.std.proofs.Common.{◌≡◌, ℕ, List, Option, Some, Result, Ok, Err, refl, subst}
use Rattle.std.specs.Option.{ForSome}
use Rattle.lu_dir.specs.Files.{Files, AreMadeOfBytes}
use Rattle.segment_infos.specs.declared.infos.SegInfo.{SegInfo}
use Rattle.lu_folder.specs.Choosing.{AnswersCurrent, IsTold}
use Rattle.lu_folder.specs.declared.choosing.Chosen.{Chosen}
use Rattle.lu_folder.specs.declared.fault.FolderFault.{FolderFault}
use Rattle.lu_folder.specs.declared.fault.FolderFault.TheVariants.{Failed, NoIndex, FileTooLarge, NotStanding, OutOfMemory}
use Rattle.lu_folder.proofs.OneAnswer.{current-answer}
use Rattle.check_index.specs.Segments.{SegmentValue}
use Rattle.lu_outcomes.specs.declared.outcome.Outcome.{Outcome}
use Rattle.lu_reads.specs.Checking.{Refuses}
use Rattle.lu_reads.specs.Segments.{SegmentsGive}
use Rattle.lu_reads.specs.Current.{CurrentGives, CurrentDue}
use Rattle.lu_reads.proofs.CheckLemmas.{refuses-one, refuses-idle}
use Rattle.lu_reads.proofs.ReadAsLemmas.{give-both, give-idle}
use Rattle.lu_reads.proofs.IdleLemmas.{IsIdle}

module _ (Give : List SegmentValue → Outcome → Type 0) where
  -- what says something is told
  gives-told : (files : Option Files) (answer : Result Chosen FolderFault) (outcome : Outcome) → CurrentGives Give files answer outcome → IsTold answer
  gives-told files (Ok chosen) outcome says = tt
  gives-told files (Err NoIndex) outcome says = tt
  gives-told files (Err (FileTooLarge kind)) outcome says = tt
  gives-told files (Err (NotStanding generation fault)) outcome says = tt
  gives-told files (Err Failed) outcome says = says
  gives-told files (Err OutOfMemory) outcome says = says

  module _ (told : Files) (Both : Outcome → Outcome → Type 0) (same : (o : Outcome) → Both o o) (one other : Outcome) (alone : (xs : List SegmentValue) → Give xs one → Give xs other → Both one other) where
    current-both : (answer : Result Chosen FolderFault) → CurrentGives Give (Some told) answer one → CurrentGives Give (Some told) answer other → Both one other
    current-both (Ok chosen) a b = give-both told chosen.generation chosen.commit.segments Give Both same one other alone a b
    current-both (Err fault) a b = subst (Both one) (refuses-one fault one other a b) (same one)

    -- two outcomes that are due go together as those of the same segments do
    pub CurrentDue-both : CurrentDue Give (Some told) one → CurrentDue Give (Some told) other → Both one other
    CurrentDue-both a b =
        let answer-same = current-answer told (a.0 told refl) b.1.0 a.1.0 (gives-told (Some told) b.1.0 other b.1.2) (gives-told (Some told) a.1.0 one a.1.2) (b.1.1 told refl) (a.1.1 told refl) in
        current-both a.1.0 a.1.2 (subst (λ (answer : Result Chosen FolderFault). CurrentGives Give (Some told) answer other) answer-same b.1.2)

  current-idle : (files : Option Files) (answer : Result Chosen FolderFault) (outcome : Outcome) → ((xs : List SegmentValue) → Give xs outcome → IsIdle outcome) → CurrentGives Give files answer outcome → IsIdle outcome
  current-idle files (Ok chosen) outcome idle says = give-idle files chosen.generation chosen.commit.segments Give outcome idle says
  current-idle files (Err fault) outcome idle says = refuses-idle fault outcome says

  -- what is due changes nothing, where what is given does not
  pub CurrentDue-idle : (files : Option Files) (outcome : Outcome) → ((xs : List SegmentValue) → Give xs outcome → IsIdle outcome) → CurrentDue Give files outcome → IsIdle outcome
  CurrentDue-idle files outcome idle due = current-idle files due.1.0 outcome idle due.1.2

  -- ---- what the program finds out

  -- what is said of a folder without a current commit is due
  pub CurrentDue-refused : (files : Option Files) (fault : FolderFault) (outcome : Outcome) → ForSome files AreMadeOfBytes → ForSome files (λ told. AnswersCurrent told (Err fault)) → Refuses fault outcome → CurrentDue Give files outcome
  CurrentDue-refused files fault outcome made answers refuses = (made, (Err fault, answers, refuses))

  -- what the current commit comes to is due
  pub CurrentDue-chosen : (files : Option Files) (generation : ℕ) (segments : List SegInfo) (viewed chosen : Chosen) (outcome : Outcome) → ForSome files AreMadeOfBytes → ForSome files (λ told. AnswersCurrent told (Ok chosen))
      → generation ≡ viewed.generation → segments ≡ viewed.commit.segments → viewed ≡ chosen → SegmentsGive files generation segments Give outcome → CurrentDue Give files outcome
  CurrentDue-chosen files generation segments viewed chosen outcome made answers same listed is gives = (
    made,
    (
      Ok chosen,
      answers,
      subst (λ (c : Chosen). SegmentsGive files c.generation c.commit.segments Give outcome) is
          (subst (λ (n : ℕ). SegmentsGive files n viewed.commit.segments Give outcome) same (subst (λ (ss : List SegInfo). SegmentsGive files generation ss Give outcome) listed gives)),
    ),
  )
