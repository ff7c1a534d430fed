-- A text that goes out in pieces while it is made (docs/FORMAT.md, "Printed texts").
use Rattle.std.specs.Prelude.{◌≡◌, ℕ, ◌<◌, ◌≤◌, List, [], ◌++◌, length, take, Option, Some, None, Result, Ok, Err}
use Rattle.lu_dir.specs.Faults.{Rose}
use Rattle.lu_dir.specs.Streams.{with_taken}
use Rattle.lu_dir.specs.declared.fail.DirFail.{DirFail}
use Rattle.lu_dir.specs.declared.fail.DirFail.TheVariants as fails

-- a printer: the text that waits to go out, and how the output or memory failed, if they did
pub record PrinterState : Type 0 where
  pub waiting : List ℕ
  pub failed : Option DirFail

-- a printer without text
abbrev pub empty_printer : PrinterState
empty_printer = record { waiting = []; failed = None }

-- an output where printing starts: what it took, and how often it failed
pub record Start : Type 0 where
  pub taken : Option (List ℕ)
  pub faults : ℕ

-- a printer beside its output
pub record Page : Type 0 where
  pub printer : PrinterState
  pub taken : Option (List ℕ)
  pub faults : ℕ

-- this printer beside an output that took this and failed so often
abbrev pub page : PrinterState → Option (List ℕ) → ℕ → Page
page printer taken faults = record { printer = printer; taken = taken; faults = faults }

-- the output took a strict prefix of the text, since it failed
pub record IsCut (start : Start) (text : List ℕ) (taken : Option (List ℕ)) (faults : ℕ) : Type 0 where
  pub count : ℕ
  pub strict : count < length text
  pub took : taken ≡ with_taken (take count text) start.taken
  pub rose : Rose start.faults faults

-- the output took a prefix of the text, since memory ended
pub record IsCutShort (start : Start) (text : List ℕ) (taken : Option (List ℕ)) : Type 0 where
  pub count : ℕ
  pub took : taken ≡ with_taken (take count text) start.taken

-- the output took the front of the text, and the rest of it waits
pub record IsOnItsWay (start : Start) (text waiting : List ℕ) (taken : Option (List ℕ)) : Type 0 where
  pub gone : List ℕ
  pub text_is : text ≡ gone ++ waiting
  pub took : taken ≡ with_taken gone start.taken

-- what became of the text, by how printing failed, if it did
abbrev pub IsPut : Option DirFail → Start → List ℕ → Page → Type 0
IsPut None start text p = IsOnItsWay start text p.printer.waiting p.taken
IsPut (Some fails.Failed) start text p = IsCut start text p.taken p.faults
IsPut (Some fails.OutOfMemory) start text p = IsCutShort start text p.taken

-- since the start this text was handed to the printer
pub record HasPrinted (start : Start) (text : List ℕ) (p : Page) : Type 0 where
  pub later : start.faults ≤ p.faults
  pub put : IsPut p.printer.failed start text p

-- between two pages this text was handed to the printer
abbrev pub Prints : Page → Page → List ℕ → Type 0
Prints old new text = (start : Start) (before : List ℕ) → HasPrinted start before old → HasPrinted start (before ++ text) new

-- what is answered at the end of a text: it went out whole; or the output failed, and took a strict prefix of it; or memory ended
abbrev pub IsToldTo : Start → List ℕ → Option (List ℕ) → ℕ → Result (Unit {0}) DirFail → Type 0
IsToldTo start text taken faults (Ok _) = taken ≡ with_taken text start.taken
IsToldTo start text taken faults (Err fails.Failed) = IsCut start text taken faults
IsToldTo start text taken faults (Err fails.OutOfMemory) = IsCutShort start text taken
