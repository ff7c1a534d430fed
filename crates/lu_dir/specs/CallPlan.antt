-- Failures on demand of an input or an output: which calls fail.
use Rattle.std.specs.Prelude.{◌≡◌, ℕ, ◌==◌, Bool, true, List, Result, Err, IsErrOf, refl}
use Rattle.std.specs.Coded.{Coded, code_by, coded_ℕ, coded_list, coded×}
use Rattle.std.specs.List.{list_any}
use Rattle.lu_dir.specs.Planned.{next_count, faults_after}
use Rattle.lu_dir.specs.Streams.{Input, input_code}
use Rattle.lu_dir.specs.declared.fail.DirFail.{DirFail}
use Rattle.lu_dir.specs.declared.fail.DirFail.TheVariants.{Failed}

-- the calls that are to fail, how many were made, and how many failed
pub record PlannedCalls : Type 0 where
  pub fails : List ℕ
  pub calls : ℕ
  pub faults : ℕ

-- whether the next call is to fail
abbrev pub is_due : PlannedCalls → Bool
is_due plan = list_any (λ call. call == next_count plan.calls) plan.fails

-- the call was counted, with its failure if it failed; it fails where it is to and nowhere else
pub record IsPlannedCall {T : Type 0} (old new : PlannedCalls) (result : Result T DirFail) : Type 0 where
  pub calls : new.calls ≡ next_count old.calls
  pub faults : new.faults ≡ faults_after result old.faults
  pub fails : new.fails ≡ old.fails
  pub due : is_due old ≡ true → result ≡ Err Failed
  pub failed : IsErrOf result Failed → is_due old ≡ true

-- an input, and which of its calls are to fail
pub record PlannedInput : Type 0 where
  pub input : Input
  pub plan : PlannedCalls

-- what an output took, and which of its calls are to fail
pub record PlannedOutput : Type 0 where
  pub taken : List ℕ
  pub plan : PlannedCalls

-- a plan is stored as the tuple of its fields
abbrev pub plan_code : Coded PlannedCalls
plan_code = code_by (List ℕ × (ℕ × ℕ)) (coded× (coded_list coded_ℕ) (coded× coded_ℕ coded_ℕ)) (λ plan. (plan.fails, (plan.calls, plan.faults))) (λ stored. record { fails = stored.0; calls = stored.1.0; faults = stored.1.1 }) (λ _. refl)

-- an input and its plan are stored as a pair
abbrev pub planned_input_code : Coded PlannedInput
planned_input_code = code_by (Input × PlannedCalls) (coded× input_code plan_code) (λ planned. (planned.input, planned.plan)) (λ stored. record { input = stored.0; plan = stored.1 }) (λ _. refl)

-- what an output took and its plan are stored as a pair
abbrev pub planned_output_code : Coded PlannedOutput
planned_output_code = code_by (List ℕ × PlannedCalls) (coded× (coded_list coded_ℕ) plan_code) (λ planned. (planned.taken, planned.plan)) (λ stored. record { taken = stored.0; plan = stored.1 }) (λ _. refl)
