-- What becomes of a text at the output.
use Rattle.std.specs.Prelude.{◌≡◌, ℕ, ◌<◌, List, length, take, Option}
use Rattle.lu_dir.specs.Streams.{with_taken}
use Rattle.lu_dir.specs.declared.fail.DirFail.{DirFail}
use Rattle.lu_dir.specs.declared.fail.DirFail.TheVariants as fails
use Rattle.lu_outcomes.specs.declared.status.Status.{Status}
use Rattle.lu_outcomes.specs.declared.status.Status.TheVariants.{Device, NoMemory}
use Rattle.lu_outcomes.specs.declared.status.Which.TheVariants.{Sink}

-- the answer to a failure of the output
abbrev pub output_status_of : DirFail → Status
output_status_of fails.Failed = Device Sink
output_status_of fails.OutOfMemory = NoMemory

-- the output took a text whole
abbrev pub Took : List ℕ → Option (List ℕ) → Option (List ℕ) → Type 0
Took text before after = after ≡ with_taken text before

-- the answer is given and its text is printed whole; or the output failed and took a strict prefix of it; or memory ended, with
-- some prefix printed
pub data Tells (status : Status) (text : List ℕ) (before after : Option (List ℕ)) (answer : Status) : Type 0 where
  whole : answer ≡ status → Took text before after → Tells status text before after answer
  cut : answer ≡ Device Sink → (count : ℕ) → count < length text → Took (take count text) before after
      → Tells status text before after answer
  memory_ended : answer ≡ NoMemory → (count : ℕ) → Took (take count text) before after → Tells status text before after answer
