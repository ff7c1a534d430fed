-- Commands that came to no outcome.
use Rattle.std.proofs.Common.{◌≡◌, Result, Ok, Err, IfOk, MatchResult, sym, subst}
use Rattle.lu_dir.specs.declared.fail.DirFail.{DirFail}
use Rattle.lu_outcomes.specs.declared.halt.Halt.{Halt}
use Rattle.lu_outcomes.specs.declared.halt.Halt.TheVariants.{Folder}
use Rattle.lu_outcomes.specs.declared.outcome.Outcome.{Outcome}
use Rattle.lu_changes.specs.Inputs.{halt_of}

-- what holds of the outcome that the folder gave holds of the one that the command comes to
pub IfOk-by_folder : (P : Outcome → Type 0) (answer : Result Outcome DirFail) (result : Result Outcome Halt) → MatchResult answer (λ outcome. result ≡ Ok outcome) (λ fail. result ≡ Err (halt_of Folder fail)) → IfOk answer P → IfOk result P
IfOk-by_folder P (Ok outcome) result is holds = subst (λ (r : Result Outcome Halt). IfOk r P) (sym is) holds
IfOk-by_folder P (Err fail) result is holds = subst (λ (r : Result Outcome Halt). IfOk r P) (sym is) tt
