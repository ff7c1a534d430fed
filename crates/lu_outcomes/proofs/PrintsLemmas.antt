-- What is printed with each answer of a call.
use Rattle.std.proofs.Common.{◌≡◌, ◌⊎◌, ℕ, List, Option, sym, subst, inl, inr, refl}
use Rattle.lu_dir.specs.Files.{Files}
use Rattle.lu_outcomes.specs.declared.status.Status.{Status}
use Rattle.lu_outcomes.specs.declared.status.Status.TheVariants as statuses
use Rattle.lu_outcomes.specs.declared.status.Which.TheVariants as things
use Rattle.lu_outcomes.specs.declared.outcome.Outcome.{Outcome}
use Rattle.lu_outcomes.specs.Outcomes.{IsAnswer, IsProper}
use Rattle.lu_outcomes.specs.Telling.{Took}
use Rattle.lu_outcomes.specs.Answers.{IsGivenUp, Scene, Ends, done, behind, Answers, told, output_failed, printing_ended, removing_ended, stopped, nothing}
use Rattle.lu_outcomes.specs.Printing.{Prints}
use Rattle.lu_outcomes.proofs.AnswerLemmas.{made-effect, Ends-answer}

module _ (IsDue : Outcome → Type 0) (files : Option Files) (proper : (outcome : Outcome) → IsDue outcome → IsProper files outcome) (before after : Option (List ℕ)) where
  by_answer : (one other : Status) → one ≡ other → Prints IsDue other before after → Prints IsDue one before after
  by_answer one other same prints = subst (λ (answer : Status). Prints IsDue answer before after) (sym same) prints

  -- a text that is printed whole
  whole_text : (outcome : Outcome) → IsDue outcome → Took outcome.text before after → (answer : Status) → answer ≡ outcome.status → IsAnswer answer → Prints IsDue answer before after
  whole_text outcome due took statuses.Ok same is = (outcome, due, same, took)
  whole_text outcome due took statuses.Usage same is = (outcome, due, same, took)
  whole_text outcome due took (statuses.NotStanding generation fault) same is = (outcome, due, same, took)
  whole_text outcome due took (statuses.Refused refusal) same is = (outcome, due, same, took)
  whole_text outcome due took statuses.NoIndex same is = (outcome, due, same, took)
  whole_text outcome due took (statuses.Device which) same is = absurd is
  whole_text outcome due took statuses.NoMemory same is = absurd is
  whole_text outcome due took statuses.LeftBehind same is = absurd is

  nothing_printed : (answer : Status) → IsGivenUp answer → after ≡ before → Prints IsDue answer before after
  nothing_printed answer (inl dir) same = by_answer answer (statuses.Device things.Dir) dir same
  nothing_printed answer (inr memory) same = by_answer answer statuses.NoMemory memory (inl same)

  unread_printed : (answer : Status) → IsGivenUp answer ⊎ (answer ≡ statuses.Device things.Source) → after ≡ before → Prints IsDue answer before after
  unread_printed answer (inl is) same = nothing_printed answer is same
  unread_printed answer (inr source) same = by_answer answer (statuses.Device things.Source) source same

  told_whole : (outcome : Outcome) (Failed : Type 0) (old new : Option Files) (answer : Status) (text : List ℕ) → IsDue outcome → Ends outcome Failed old new answer text → Took text before after → Prints IsDue answer before after
  told_whole outcome Failed old new answer text due (done is same made) took =
      by_answer answer outcome.status is (whole_text outcome due (subst (λ (t : List ℕ). Took t before after) same took) outcome.status refl (proper outcome due).answer)
  told_whole outcome Failed old new answer text due (behind is same left rose) took =
      by_answer answer statuses.LeftBehind is (outcome, due, made-effect outcome.effect old new left, subst (λ (t : List ℕ). Took t before after) same took)

-- what is printed, by the answer
pub Prints-answers : (IsDue : Outcome → Type 0) (Failed : Type 0) (files : Option Files) → ((outcome : Outcome) → IsDue outcome → IsProper files outcome) → (before after : Scene) (answer : Status) → Answers IsDue Failed before after answer
    → Prints IsDue answer before.taken after.taken
Prints-answers IsDue Failed files proper before after answer (told outcome text due ends took) = told_whole IsDue files proper before.taken after.taken outcome Failed before.files after.files answer text due ends took
Prints-answers IsDue Failed files proper before after answer (output_failed outcome status text count due ends is less took) =
    by_answer IsDue files proper before.taken after.taken answer (statuses.Device things.Sink) is (outcome, due, (text, (Ends-answer outcome Failed before.files after.files status text ends).1, (count, less, took)))
Prints-answers IsDue Failed files proper before after answer (printing_ended outcome status text count due ends is took) =
    by_answer IsDue files proper before.taken after.taken answer statuses.NoMemory is (inr (outcome, due, (text, (Ends-answer outcome Failed before.files after.files status text ends).1, (count, took))))
Prints-answers IsDue Failed files proper before after answer (removing_ended outcome due left is same) = by_answer IsDue files proper before.taken after.taken answer statuses.NoMemory is (inl same)
Prints-answers IsDue Failed files proper before after answer (stopped outcome due left is same) = nothing_printed IsDue files proper before.taken after.taken answer is same
Prints-answers IsDue Failed files proper before after answer (nothing is files_same taken) = unread_printed IsDue files proper before.taken after.taken answer is taken
