-- Whatever a call answers, the folder is safe.
use Rattle.std.proofs.Common.{◌≡◌, ◌≢◌, ◌⊎◌, ℕ, List, Option, Some, refl, sym, subst, ap, ◌∙◌, inl, inr}
use Rattle.lu_dir.specs.Files.{Files, Leaves}
use Rattle.lu_outcomes.specs.declared.status.Status.{Status}
use Rattle.lu_outcomes.specs.declared.status.Status.TheVariants as statuses
use Rattle.lu_outcomes.specs.declared.status.Which.TheVariants as things
use Rattle.lu_outcomes.specs.declared.outcome.Effect.{Effect}
use Rattle.lu_outcomes.specs.declared.outcome.Effect.TheVariants.{Nothing, Commit}
use Rattle.lu_outcomes.specs.declared.outcome.Outcome.{Outcome}
use Rattle.lu_outcomes.specs.Effects.{standing, IsStoppedEffect, IsMadeEffect, LosesNothing, ReadsAs, StopsAs}
use Rattle.lu_outcomes.specs.Outcomes.{IsAnswer, IsProper}
use Rattle.lu_outcomes.specs.Answers.{IsGivenUp, Scene, Ends, done, behind, Answers, told, output_failed, printing_ended, removing_ended, stopped, nothing}
use Rattle.lu_outcomes.specs.Safety.{IsSafe}
use Rattle.lu_outcomes.proofs.AnswerLemmas.{made-effect}
use Rattle.lu_outcomes.proofs.EffectLemmas.{made-reads, stopped-reads, standing-reads}

module _ (IsDue : Outcome → Type 0) (Failed : Type 0) (old : Files) (proper : (outcome : Outcome) → IsDue outcome → IsProper (Some old) outcome) where
  -- the folder that is told afterwards, and that it is safe
  abbrev Safe : Option Files → Status → Type 0
  Safe after answer = (new : Files) × (after ≡ Some new) × IsSafe IsDue Failed answer old new

  by_answer : (after : Option Files) (one other : Status) → one ≡ other → Safe after other → Safe after one
  by_answer after one other same safe = subst (Safe after) (sym same) safe

  loses_nothing : (outcome : Outcome) → IsDue outcome → LosesNothing outcome.effect old
  loses_nothing outcome due = (proper outcome due).sound old refl

  -- an outcome that is done reads as it is to
  done-reads : (outcome : Outcome) → IsDue outcome → ReadsAs outcome.effect old (standing outcome.effect old)
  done-reads outcome due = standing-reads outcome.effect old (loses_nothing outcome due)

  -- the folder after an effect that is made, whatever was removed
  made-told : (effect : Effect) → LosesNothing effect old → (after : Option Files) → IsMadeEffect effect (Some old) after → (new : Files) × (after ≡ Some new) × ReadsAs effect old new
  made-told Nothing sound after made = absurd made
  made-told (Commit change) sound after made = let then = made old refl in (then.0, then.1, made-reads change old sound then.0 then.2)

  left-reads : (outcome : Outcome) → IsDue outcome → (after : Option Files) → IsMadeEffect outcome.effect (Some old) after → (new : Files) × (after ≡ Some new) × ReadsAs outcome.effect old new
  left-reads outcome due = made-told outcome.effect (loses_nothing outcome due)

  -- the folder where an effect was stopped
  stopped-told : (effect : Effect) → LosesNothing effect old → (after : Option Files) → IsStoppedEffect effect (Some old) after → (new : Files) × (after ≡ Some new) × StopsAs effect old new
  stopped-told Nothing sound after left = absurd left
  stopped-told (Commit change) sound after left = let then = left old refl in (then.0, then.1, stopped-reads change old sound then.0 then.2)

  -- an outcome whose answer is not `Ok` changes nothing
  idle : (outcome : Outcome) → IsDue outcome → outcome.status ≢ statuses.Ok → standing outcome.effect old ≡ old
  idle outcome due other = ap (λ (effect : Effect). standing effect old) ((proper outcome due).idle other)

  usage-not_ok : statuses.Usage ≢ statuses.Ok
  usage-not_ok e = cc

  no_index-not_ok : statuses.NoIndex ≢ statuses.Ok
  no_index-not_ok e = cc

  done-safe : (outcome : Outcome) → IsDue outcome → (answer : Status) → outcome.status ≡ answer → IsAnswer answer → IsSafe IsDue Failed answer old (standing outcome.effect old)
  done-safe outcome due statuses.Ok same is = (outcome, due, same, refl, done-reads outcome due)
  done-safe outcome due statuses.Usage same is = idle outcome due (λ ok. usage-not_ok (sym same ∙ ok))
  done-safe outcome due statuses.NoIndex same is = idle outcome due (λ ok. no_index-not_ok (sym same ∙ ok))
  done-safe outcome due (statuses.NotStanding generation fault) same is = idle outcome due (λ ok. faulty-not_ok (sym same ∙ ok))
    where
      faulty-not_ok : statuses.NotStanding generation fault ≢ statuses.Ok
      faulty-not_ok e = cc
  done-safe outcome due (statuses.Refused refusal) same is = idle outcome due (λ ok. refused-not_ok (sym same ∙ ok))
    where
      refused-not_ok : statuses.Refused refusal ≢ statuses.Ok
      refused-not_ok e = cc
  done-safe outcome due (statuses.Device which) same is = absurd is
  done-safe outcome due statuses.NoMemory same is = absurd is
  done-safe outcome due statuses.LeftBehind same is = absurd is

  told-safe : (outcome : Outcome) (after : Option Files) (answer : Status) (text : List ℕ) → IsDue outcome → Ends outcome Failed (Some old) after answer text → Safe after answer
  told-safe outcome after answer text due (done is same made) = by_answer after answer outcome.status is (standing outcome.effect old, made, done-safe outcome due outcome.status refl (proper outcome due).answer)
  told-safe outcome after answer text due (behind is same left rose) =
      let then = left-reads outcome due after left in
      by_answer after answer statuses.LeftBehind is (then.0, then.1, (outcome, due, made-effect outcome.effect (Some old) after left, then.2))

  sink-safe : (outcome : Outcome) (after : Option Files) (answer status : Status) (text : List ℕ) → IsDue outcome → Ends outcome Failed (Some old) after status text → answer ≡ statuses.Device things.Sink → Safe after answer
  sink-safe outcome after answer status text due (done is same made) failed = by_answer after answer (statuses.Device things.Sink) failed (standing outcome.effect old, made, (outcome, due, done-reads outcome due, λ unfailed. refl))
  sink-safe outcome after answer status text due (behind is same left rose) failed =
      let then = left-reads outcome due after left in
      by_answer after answer (statuses.Device things.Sink) failed (then.0, then.1, (outcome, due, then.2, λ unfailed. absurd (unfailed rose)))

  memory-safe : (outcome : Outcome) (after : Option Files) (answer : Status) → IsDue outcome → (new : Files) × (after ≡ Some new) × ReadsAs outcome.effect old new → answer ≡ statuses.NoMemory → Safe after answer
  memory-safe outcome after answer due then is = by_answer after answer statuses.NoMemory is (then.0, then.1, inr (outcome, due, inr then.2))

  printing-safe : (outcome : Outcome) (after : Option Files) (answer status : Status) (text : List ℕ) → IsDue outcome → Ends outcome Failed (Some old) after status text → answer ≡ statuses.NoMemory → Safe after answer
  printing-safe outcome after answer status text due (done is same made) ended = memory-safe outcome after answer due (standing outcome.effect old, made, done-reads outcome due) ended
  printing-safe outcome after answer status text due (behind is same left rose) ended = memory-safe outcome after answer due (left-reads outcome due after left) ended

  stopped-safe : (outcome : Outcome) (after : Option Files) (answer : Status) → IsDue outcome → (new : Files) × (after ≡ Some new) × StopsAs outcome.effect old new → IsGivenUp answer → Safe after answer
  stopped-safe outcome after answer due then (inl dir) = by_answer after answer (statuses.Device things.Dir) dir (then.0, then.1, inr (outcome, due, then.2))
  stopped-safe outcome after answer due then (inr memory) = by_answer after answer statuses.NoMemory memory (then.0, then.1, inr (outcome, due, inl then.2))

  nothing-safe : (after : Option Files) (answer : Status) → IsGivenUp answer ⊎ (answer ≡ statuses.Device things.Source) → after ≡ Some old → Safe after answer
  nothing-safe after answer (inl (inl dir)) same = by_answer after answer (statuses.Device things.Dir) dir (old, same, inl refl)
  nothing-safe after answer (inl (inr memory)) same = by_answer after answer statuses.NoMemory memory (old, same, inl refl)
  nothing-safe after answer (inr source) same = by_answer after answer (statuses.Device things.Source) source (old, same, refl)

  -- the folder is safe, whatever is answered
  pub Safe-answers : (taken : Option (List ℕ)) (after : Scene) (answer : Status) → Answers IsDue Failed (record { files = Some old; taken = taken }) after answer → Safe after.files answer
  Safe-answers taken after answer (told outcome text due ends took) = told-safe outcome after.files answer text due ends
  Safe-answers taken after answer (output_failed outcome status text count due ends is less took) = sink-safe outcome after.files answer status text due ends is
  Safe-answers taken after answer (printing_ended outcome status text count due ends is took) = printing-safe outcome after.files answer status text due ends is
  Safe-answers taken after answer (removing_ended outcome due left is same) = memory-safe outcome after.files answer due (left-reads outcome due after.files left) is
  Safe-answers taken after answer (stopped outcome due left is same) = stopped-safe outcome after.files answer due (stopped-told outcome.effect (loses_nothing outcome due) after.files left) is
  Safe-answers taken after answer (nothing is files taken_same) = nothing-safe after.files answer is files

-- the same where a folder may tell its files or not
pub Leaves-answers : (IsDue : Outcome → Type 0) (Failed : Type 0) (files after : Option Files) → ((outcome : Outcome) → IsDue outcome → IsProper files outcome) → (taken now : Option (List ℕ)) (answer : Status)
    → Answers IsDue Failed (record { files = files; taken = taken }) (record { files = after; taken = now }) answer → Leaves (λ old new. IsSafe IsDue Failed answer old new) files after
Leaves-answers IsDue Failed files after proper taken now answer answers old is =
    Safe-answers IsDue Failed old (subst (λ (o : Option Files). (outcome : Outcome) → IsDue outcome → IsProper o outcome) is proper) taken (record { files = after; taken = now }) answer
    (subst (λ (o : Option Files). Answers IsDue Failed (record { files = o; taken = taken }) (record { files = after; taken = now }) answer) is answers)
