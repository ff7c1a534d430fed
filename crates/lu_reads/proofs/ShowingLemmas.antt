-- The outcomes of `show` and of `postings` that are due: of `show` it is one, of `postings` all have one answer; and they change nothing.
use Rattle.std.proofs.Common.{◌≡◌, ℕ, List, Option, Some, refl, sym, subst, ap, ◌∙◌}
use Rattle.lu_dir.specs.Files.{Files}
use Rattle.lu_outcomes.specs.declared.outcome.Outcome.{Outcome}
use Rattle.lu_outcomes.specs.Outcomes.{AreAlike, printing}
use Rattle.lu_reads.specs.Showing.{Lists, ShowDue}
use Rattle.lu_reads.specs.Reaching.{Reaches, PostingsDue}
use Rattle.lu_reads.proofs.CurrentLemmas.{CurrentDue-both, CurrentDue-idle}
use Rattle.lu_reads.proofs.IdleLemmas.{IsIdle, idle-without_effect}

-- the outcome of `show` that is due is one
pub ShowDue-one : (told : Files) (one other : Outcome) → ShowDue (Some told) one → ShowDue (Some told) other → one ≡ other
ShowDue-one told one other a b = CurrentDue-both Lists told (λ o p. o ≡ p) (λ o. refl) one other (λ xs first second. first ∙ sym second) a b

-- what is due of `show` changes nothing
pub ShowDue-idle : (files : Option Files) (outcome : Outcome) → ShowDue files outcome → IsIdle outcome
ShowDue-idle files outcome due = CurrentDue-idle Lists files outcome (λ xs is. subst IsIdle (sym is) (idle-without_effect _ _ tt)) due

-- an outcome is like itself
pub alike-same : (one other : Outcome) → one ≡ other → AreAlike one other
alike-same one other same = record { status = ap (λ (o : Outcome). o.status) same; effect = ap (λ (o : Outcome). o.effect) same }

-- outcomes that print something are alike
printing-alike : (one other : Outcome) (lines more : List ℕ) → one ≡ printing lines → other ≡ printing more → AreAlike one other
printing-alike one other lines more first second = record {
  status = ap (λ (o : Outcome). o.status) first ∙ sym (ap (λ (o : Outcome). o.status) second);
  effect = ap (λ (o : Outcome). o.effect) first ∙ sym (ap (λ (o : Outcome). o.effect) second);
}

module _ (field text : List ℕ) (from : ℕ) where
  -- outcomes of `postings` that are due are alike
  pub PostingsDue-alike : (told : Files) (one other : Outcome) → PostingsDue field text from (Some told) one → PostingsDue field text from (Some told) other → AreAlike one other
  PostingsDue-alike told one other a b =
      CurrentDue-both (Reaches field text from) told AreAlike (λ o. alike-same o o refl) one other (λ xs first second. printing-alike one other first.0 second.0 first.2 second.2) a b

  -- and change nothing
  pub PostingsDue-idle : (files : Option Files) (outcome : Outcome) → PostingsDue field text from files outcome → IsIdle outcome
  PostingsDue-idle files outcome due = CurrentDue-idle (Reaches field text from) files outcome (λ xs is. subst IsIdle (sym is.2) (idle-without_effect _ _ tt)) due
