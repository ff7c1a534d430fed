-- A text that is printed in two pieces.
use Rattle.std.proofs.Common.{◌≡◌, ℕ, inl, inr, refl, ◌+◌, ◌<◌, List, ◌++◌, length, take, Option, sym, ap, ◌∙◌, arith, length-append}
use Rattle.std.proofs.Math.Seq.{take-append-add}
use Rattle.std.proofs.lemmas.List.{take-append-le}
use Rattle.lu_dir.specs.Streams.{with_taken}
use Rattle.lu_dir.specs.declared.fail.DirFail.{DirFail}
use Rattle.lu_dir.specs.declared.fail.DirFail.TheVariants as fails
use Rattle.lu_dir.proofs.Taken.{with_taken-with_taken}
use Rattle.lu_outcomes.specs.declared.status.Status.{Status}
use Rattle.lu_outcomes.specs.declared.status.Status.TheVariants as statuses
use Rattle.lu_outcomes.specs.declared.status.Which.TheVariants as things
use Rattle.lu_outcomes.specs.Telling.{output_status_of, Took, Tells, whole, cut, memory_ended}
use Rattle.lu_outcomes.specs.Answers.{IsDirFault}

Took-later : (text more : List ℕ) (before mid after : Option (List ℕ)) (count : ℕ) → Took text before mid → Took (take count more) mid after → Took (take (length text + count) (text ++ more)) before after
Took-later text more before mid after count first second =
    second
    ∙ ap (with_taken (take count more)) first
    ∙ with_taken-with_taken (take count more) text before
    ∙ ap (λ (all : List ℕ). with_taken all before) (sym (take-append-add text more count))

-- the second piece after the first
pub Tells-later : (status : Status) (text more : List ℕ) (before mid after : Option (List ℕ)) (answer : Status) → Took text before mid → Tells status more mid after answer → Tells status (text ++ more) before after answer
Tells-later status text more before mid after answer first (whole is took) = whole is (took ∙ ap (with_taken more) first ∙ with_taken-with_taken more text before)
Tells-later status text more before mid after answer first (cut is count less took) = cut is (length text + count) (omega (arith, length-append text more)) (Took-later text more before mid after count first took)
Tells-later status text more before mid after answer first (memory_ended is count took) = memory_ended is (length text + count) (Took-later text more before mid after count first took)

-- a part of the first piece is one of both
pub Took-part : (text more : List ℕ) (before after : Option (List ℕ)) (count : ℕ) → count < length text → Took (take count text) before after → Took (take count (text ++ more)) before after
Took-part text more before after count less took = took ∙ ap (λ (part : List ℕ). with_taken part before) (sym (take-append-le count text more (omega arith)))

-- a failure of the output cuts a text short
pub Tells-cut : (status answer : Status) (text : List ℕ) (before after : Option (List ℕ)) (fail : DirFail) → answer ≡ output_status_of fail → (count : ℕ) → count < length text → Took (take count text) before after → Tells status text before after answer
Tells-cut status answer text before after fails.Failed is count less took = cut is count less took
Tells-cut status answer text before after fails.OutOfMemory is count less took = memory_ended is count took

-- it is no failure of the folder
pub cut-no_fault : (answer : Status) (fail : DirFail) → answer ≡ output_status_of fail → ¬ IsDirFault answer
cut-no_fault answer fails.Failed is (inl dir) = let no : statuses.Device things.Sink ≡ statuses.Device things.Dir = sym is ∙ dir in cc
cut-no_fault answer fails.Failed is (inr left) = let no : statuses.Device things.Sink ≡ statuses.LeftBehind = sym is ∙ left in cc
cut-no_fault answer fails.OutOfMemory is (inl dir) = let no : statuses.NoMemory ≡ statuses.Device things.Dir = sym is ∙ dir in cc
cut-no_fault answer fails.OutOfMemory is (inr left) = let no : statuses.NoMemory ≡ statuses.LeftBehind = sym is ∙ left in cc

-- and it says that the output failed only where it did
pub cut-failed : (answer : Status) (fail : DirFail) → answer ≡ output_status_of fail → answer ≡ statuses.Device things.Sink → fail ≡ fails.Failed
cut-failed answer fails.Failed is sink = refl
cut-failed answer fails.OutOfMemory is sink = let no : statuses.NoMemory ≡ statuses.Device things.Sink = sym is ∙ sink in absurd (cc)
