-- Answers of calls that finish an outcome.
use Rattle.std.proofs.Common.{◌≡◌, ◌≢◌, ◌⊎◌, ℕ, ◌≤◌, List, Option, Some, None, Result, Ok, OnOk, refl, sym, subst, ◌∙◌, ap, inl, inr}
use Rattle.std.specs.Option.{option_map}
use Rattle.lu_dir.specs.Faults.{Rose}
use Rattle.lu_dir.specs.Files.{Files}
use Rattle.lu_dir.proofs.Causes.{Rose-earlier}
use Rattle.lu_dir.specs.declared.fail.DirFail.{DirFail}
use Rattle.lu_dir.specs.declared.fail.DirFail.TheVariants as fails
use Rattle.lu_folder.specs.Sealing.{HasFailed}
use Rattle.lu_folder.specs.ChangeValues.{ChangeValue}
use Rattle.lu_outcomes.specs.declared.status.Status.{Status}
use Rattle.lu_outcomes.specs.declared.status.Status.TheVariants as statuses
use Rattle.lu_outcomes.specs.declared.status.Which.TheVariants as things
use Rattle.lu_outcomes.specs.declared.outcome.Effect.{Effect}
use Rattle.lu_outcomes.specs.declared.outcome.Effect.TheVariants.{Nothing, Commit}
use Rattle.lu_outcomes.specs.declared.outcome.Outcome.{Outcome}
use Rattle.lu_outcomes.specs.Effects.{standing, IsMadeEffect, IsStoppedEffect}
use Rattle.lu_outcomes.specs.Outcomes.{printing, IsAnswer, IsAnswerOf, IsTextOf}
use Rattle.lu_outcomes.specs.Telling.{Tells, whole, cut, memory_ended}
use Rattle.lu_outcomes.specs.Answers.{IsGivenUp, IsDirFault, Scene, IsDone, Ends, done, behind, Answers, told, output_failed, printing_ended, removing_ended, stopped, nothing}
use Rattle.lu_outcomes.specs.Halting.{status_of, GaveUp, IsAnswered}

-- a folder that is as before is the one that an outcome without an effect leaves
pub IsDone-idle : (outcome : Outcome) (files : Option Files) → outcome.effect ≡ Nothing → IsDone outcome files files
IsDone-idle outcome None idle = refl
IsDone-idle outcome (Some all) idle = ap (λ (effect : Effect). Some (standing effect all)) (sym idle)

-- and nothing else
pub IsDone-same : (outcome : Outcome) (old new : Option Files) → outcome.effect ≡ Nothing → IsDone outcome old new → new ≡ old
IsDone-same outcome old new idle made = made ∙ sym (IsDone-idle outcome old idle)

-- an outcome whose commit is made is done
pub IsDone-commit : (outcome : Outcome) (change : ChangeValue) (old new : Option Files) → outcome.effect ≡ Commit change → new ≡ option_map (standing (Commit change)) old → IsDone outcome old new
IsDone-commit outcome change old new has made = made ∙ ap (λ (effect : Effect). option_map (standing effect) old) (sym has)

-- no effect is not made
pub made-effect : (effect : Effect) (old new : Option Files) → IsMadeEffect effect old new → effect ≢ Nothing
made-effect Nothing old new made same = made
made-effect (Commit change) old new made same = cc

-- nor stopped
pub stopped-effect : (effect : Effect) (old new : Option Files) → IsStoppedEffect effect old new → effect ≢ Nothing
stopped-effect Nothing old new left same = left
stopped-effect (Commit change) old new left same = cc

-- an outcome that ended, and its text was told
pub Answers-told : (outcome : Outcome) (Failed : Type 0) (before after : Scene) (status : Status) (text : List ℕ) (answer : Status) → Ends outcome Failed before.files after.files status text → Tells status text before.taken after.taken answer
    → Answers (λ due. due ≡ outcome) Failed before after answer
Answers-told outcome Failed before after status text answer ends (whole is took) = told outcome text refl (subst (λ (s : Status). Ends outcome Failed before.files after.files s text) (sym is) ends) took
Answers-told outcome Failed before after status text answer ends (cut is count less took) = output_failed outcome status text count refl ends is less took
Answers-told outcome Failed before after status text answer ends (memory_ended is count took) = printing_ended outcome status text count refl ends is took

-- a failure of the folder gives a call up
pub IsGivenUp-failed : (fail : DirFail) (answer : Status) → answer ≡ status_of fail → IsGivenUp answer
IsGivenUp-failed fails.Failed answer is = inl is
IsGivenUp-failed fails.OutOfMemory answer is = inr is

-- and it comes only with one
pub status_of-failed : (fail : DirFail) (answer : Status) → answer ≡ status_of fail → IsDirFault answer → fail ≡ fails.Failed
status_of-failed fails.Failed answer is fault = refl
status_of-failed fails.OutOfMemory answer is (inl dir) = let no : statuses.NoMemory ≡ statuses.Device things.Dir = sym is ∙ dir in absurd (cc)
status_of-failed fails.OutOfMemory answer is (inr left) = let no : statuses.NoMemory ≡ statuses.LeftBehind = sym is ∙ left in absurd (cc)

-- no answer of an outcome says that the folder failed
pub answer-no_fault : (status : Status) → IsAnswer status → ¬ IsDirFault status
answer-no_fault status is (inl dir) = subst IsAnswer dir is
answer-no_fault status is (inr left) = subst IsAnswer left is

module _ (P Q : Outcome → Type 0) (wider : (outcome : Outcome) → P outcome → Q outcome) (Failed Since : Type 0) (since : Failed → Since) where
  -- a failure counts since an earlier moment
  Ends-since : (outcome : Outcome) (old new : Option Files) (status : Status) (text : List ℕ) → Ends outcome Failed old new status text → Ends outcome Since old new status text
  Ends-since outcome old new status text (done is same made) = done is same made
  Ends-since outcome old new status text (behind is same left rose) = behind is same left (since rose)

  -- what is due by one account, since one moment, is due by a wider one, since an earlier one
  pub Answers-wider : (before after : Scene) (answer : Status) → Answers P Failed before after answer → Answers Q Since before after answer
  Answers-wider before after answer (told outcome text due ends took) = told outcome text (wider outcome due) (Ends-since outcome before.files after.files answer text ends) took
  Answers-wider before after answer (output_failed outcome status text count due ends is less took) = output_failed outcome status text count (wider outcome due) (Ends-since outcome before.files after.files status text ends) is less took
  Answers-wider before after answer (printing_ended outcome status text count due ends is took) = printing_ended outcome status text count (wider outcome due) (Ends-since outcome before.files after.files status text ends) is took
  Answers-wider before after answer (removing_ended outcome due left is same) = removing_ended outcome (wider outcome due) left is same
  Answers-wider before after answer (stopped outcome due left is same) = stopped outcome (wider outcome due) left is same
  Answers-wider before after answer (nothing is files taken) = nothing is files taken

-- what a call answers by what is due of the files as it found them, behind calls that left them as they were, is due
pub Answers-behind : (P : Option Files → Outcome → Type 0) (IsDue : Outcome → Type 0) (old between new : Option Files) (first later last : ℕ) (before after : Option (List ℕ)) (answer : Status)
    → ((outcome : Outcome) → P old outcome → IsDue outcome) → between ≡ old → first ≤ later
    → Answers (P between) (Rose later last) (record { files = between; taken = before }) (record { files = new; taken = after }) answer
    → Answers IsDue (Rose first last) (record { files = old; taken = before }) (record { files = new; taken = after }) answer
Answers-behind P IsDue old between new first later last before after answer due same le answers =
    Answers-wider (P old) IsDue due (Rose later last) (Rose first last) (λ rose. Rose-earlier first later last le rose)
    (record { files = old; taken = before }) (record { files = new; taken = after }) answer
    (subst (λ (files : Option Files). Answers (P files) (Rose later last) (record { files = files; taken = before }) (record { files = new; taken = after }) answer) same answers)

-- a call that finished an outcome that is due
pub Answers-finished : (IsDue : Outcome → Type 0) (outcome : Outcome) (old between new : Option Files) (first later last : ℕ) (before after : Option (List ℕ)) (answer : Status) → IsDue outcome → between ≡ old → first ≤ later
    → Answers (λ due. due ≡ outcome) (Rose later last) (record { files = between; taken = before }) (record { files = new; taken = after }) answer
    → Answers IsDue (Rose first last) (record { files = old; taken = before }) (record { files = new; taken = after }) answer
Answers-finished IsDue outcome old between new first later last before after answer due =
    Answers-behind (λ _ o. o ≡ outcome) IsDue old between new first later last before after answer (λ o is. subst IsDue (sym is) due)

-- a text that is due, and was told
pub Answers-printed : (IsDue : Outcome → Type 0) (Failed : Type 0) (text : List ℕ) (old new : Option Files) (before after : Option (List ℕ)) (answer : Status) → IsDue (printing text) → new ≡ old → Tells statuses.Ok text before after answer
    → Answers IsDue Failed (record { files = old; taken = before }) (record { files = new; taken = after }) answer
Answers-printed IsDue Failed text old new before after answer due same tells =
    Answers-wider (λ o. o ≡ printing text) IsDue (λ o is. subst IsDue (sym is) due) Failed Failed (λ failed. failed) (record { files = old; taken = before }) (record { files = new; taken = after }) answer
    (Answers-told (printing text) Failed (record { files = old; taken = before }) (record { files = new; taken = after }) statuses.Ok text answer (done refl refl (same ∙ IsDone-idle (printing text) old refl)) tells)

given_up-not_ok : (answer : Status) → IsGivenUp answer ⊎ (answer ≡ statuses.Device things.Source) → answer ≡ statuses.Ok → ⊥
given_up-not_ok answer (inl (inl dir)) ok = let no : statuses.Device things.Dir ≡ statuses.Ok = sym dir ∙ ok in cc
given_up-not_ok answer (inl (inr memory)) ok = let no : statuses.NoMemory ≡ statuses.Ok = sym memory ∙ ok in cc
given_up-not_ok answer (inr source) ok = let no : statuses.Device things.Source ≡ statuses.Ok = sym source ∙ ok in cc

Ends-ok : (outcome : Outcome) (Failed : Type 0) (old new : Option Files) (status : Status) (text : List ℕ) → Ends outcome Failed old new status text → status ≡ statuses.Ok → outcome.status ≡ statuses.Ok
Ends-ok outcome Failed old new status text (done is same made) ok = sym is ∙ ok
Ends-ok outcome Failed old new status text (behind is same left rose) ok = let no : statuses.LeftBehind ≡ statuses.Ok = sym is ∙ ok in absurd (cc)

-- a call that answers `Ok` by one outcome answers what this says
pub Answers-ok : (one : Outcome) (Failed : Type 0) (before after : Scene) (answer : Status) → Answers (λ due. due ≡ one) Failed before after answer → answer ≡ statuses.Ok → one.status ≡ statuses.Ok
Answers-ok one Failed before after answer (told outcome text due ends took) ok = ap (λ (o : Outcome). o.status) (sym due) ∙ Ends-ok outcome Failed before.files after.files answer text ends ok
Answers-ok one Failed before after answer (output_failed outcome status text count due ends is less took) ok = let no : statuses.Device things.Sink ≡ statuses.Ok = sym is ∙ ok in absurd (cc)
Answers-ok one Failed before after answer (printing_ended outcome status text count due ends is took) ok = let no : statuses.NoMemory ≡ statuses.Ok = sym is ∙ ok in absurd (cc)
Answers-ok one Failed before after answer (removing_ended outcome due left is same) ok = let no : statuses.NoMemory ≡ statuses.Ok = sym is ∙ ok in absurd (cc)
Answers-ok one Failed before after answer (stopped outcome due left is same) ok = absurd (given_up-not_ok answer (inl is) ok)
Answers-ok one Failed before after answer (nothing is files taken) ok = absurd (given_up-not_ok answer is ok)

given_up : (answer : Status) → IsGivenUp answer → GaveUp answer
given_up answer (inl dir) = inr (inl dir)
given_up answer (inr memory) = inl memory

given_up-before : (answer : Status) → IsGivenUp answer ⊎ (answer ≡ statuses.Device things.Source) → GaveUp answer
given_up-before answer (inl is) = given_up answer is
given_up-before answer (inr source) = inr (inr (inl source))

-- the answer and the text of an outcome that ended are its own
pub Ends-answer : (outcome : Outcome) (Failed : Type 0) (old new : Option Files) (status : Status) (text : List ℕ) → Ends outcome Failed old new status text → IsAnswerOf outcome status × IsTextOf outcome text
Ends-answer outcome Failed old new status text (done is same made) = (inl is, inl same)
Ends-answer outcome Failed old new status text (behind is same left rose) = let some = made-effect outcome.effect old new left in (inr (some, is), inr (some, same))

-- an answer is that of an outcome that is due, or the call gave up
pub IsAnswered-answers : (IsDue : Outcome → Type 0) (Failed : Type 0) (before after : Scene) (answer : Status) → Answers IsDue Failed before after answer → IsAnswered IsDue answer
IsAnswered-answers IsDue Failed before after answer (told outcome text due ends took) = inl (outcome, due, (Ends-answer outcome Failed before.files after.files answer text ends).0)
IsAnswered-answers IsDue Failed before after answer (output_failed outcome status text count due ends is less took) = inr (inr (inr (inr is)))
IsAnswered-answers IsDue Failed before after answer (printing_ended outcome status text count due ends is took) = inr (inl is)
IsAnswered-answers IsDue Failed before after answer (removing_ended outcome due left is same) = inr (inl is)
IsAnswered-answers IsDue Failed before after answer (stopped outcome due left is same) = inr (given_up answer is)
IsAnswered-answers IsDue Failed before after answer (nothing is files taken) = inr (given_up-before answer is)

-- an outcome without an effect that ended leaves the folder as before
Ends-same : (outcome : Outcome) (Failed : Type 0) (old new : Option Files) (status : Status) (text : List ℕ) → outcome.effect ≡ Nothing → Ends outcome Failed old new status text → new ≡ old
Ends-same outcome Failed old new status text idle (done is same made) = IsDone-same outcome old new idle made
Ends-same outcome Failed old new status text idle (behind is same left rose) = absurd (made-effect outcome.effect old new left idle)

-- where no outcome has an effect, the folder is as before
pub Answers-files : (IsDue : Outcome → Type 0) (Failed : Type 0) → ((outcome : Outcome) → IsDue outcome → outcome.effect ≡ Nothing) → (before after : Scene) (answer : Status) → Answers IsDue Failed before after answer → after.files ≡ before.files
Answers-files IsDue Failed idle before after answer (told outcome text due ends took) = Ends-same outcome Failed before.files after.files answer text (idle outcome due) ends
Answers-files IsDue Failed idle before after answer (output_failed outcome status text count due ends is less took) = Ends-same outcome Failed before.files after.files status text (idle outcome due) ends
Answers-files IsDue Failed idle before after answer (printing_ended outcome status text count due ends is took) = Ends-same outcome Failed before.files after.files status text (idle outcome due) ends
Answers-files IsDue Failed idle before after answer (removing_ended outcome due left is same) = absurd (made-effect outcome.effect before.files after.files left (idle outcome due))
Answers-files IsDue Failed idle before after answer (stopped outcome due left is same) = absurd (stopped-effect outcome.effect before.files after.files left (idle outcome due))
Answers-files IsDue Failed idle before after answer (nothing is files taken) = files

-- the answer of a commit, by its parts
pub ok-none : (answer : Result (Option DirFail) DirFail) (ended : Option DirFail) → answer ≡ Ok ended → ended ≡ None → answer ≡ Ok None
ok-none answer ended is none = is ∙ ap (λ (o : Option DirFail). made o) none
  where
    made : Option DirFail → Result (Option DirFail) DirFail
    made o = Ok o

pub ok-failed : (answer : Result (Option DirFail) DirFail) (ended : Option DirFail) (fail : DirFail) → answer ≡ Ok ended → ended ≡ Some fail → fail ≡ fails.Failed → HasFailed answer
ok-failed answer ended fail is some failed_so = inr (cc)

pub ok-on : (answer : Result (Option DirFail) DirFail) (ended : Option DirFail) (P : Type 0) → answer ≡ Ok ended → OnOk answer P → P
ok-on answer ended P is on = subst (λ (r : Result (Option DirFail) DirFail). OnOk r P) is on
