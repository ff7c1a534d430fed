-- How a folder that fails on demand is stored.
use Rattle.std.specs.Prelude.{◌≡◌, ℕ, List, Option, Some, None, refl}
use Rattle.std.specs.Coded.{Coded, code_by, coded_ℕ, coded_list, coded_option, coded×}
use Rattle.lu_dir.specs.Folder.{Folder, folder_code}
use Rattle.lu_dir.specs.Planned.{Planned}
use Rattle.lu_dir.specs.declared.plan.Left.{Left}
use Rattle.lu_dir.specs.declared.plan.Left.TheVariants.{Before, Absent, Prefix}
use Rattle.lu_dir.specs.declared.plan.Fail.{Fail}

-- what a failure leaves, as none, some none or some count
abbrev pub stored_left : Left → Option (Option ℕ)
stored_left Before = None
stored_left Absent = Some None
stored_left (Prefix count) = Some (Some count)

-- what a failure leaves, from its stored form
abbrev pub left_stored : Option (Option ℕ) → Left
left_stored None = Before
left_stored (Some None) = Absent
left_stored (Some (Some count)) = Prefix count

-- nothing is lost
abbrev pub same_left : (left : Left) → left_stored (stored_left left) ≡ left
same_left Before = refl
same_left Absent = refl
same_left (Prefix count) = refl

-- what a failure leaves is stored as two options
abbrev pub left_code : Coded Left
left_code = code_by (Option (Option ℕ)) (coded_option (coded_option coded_ℕ)) stored_left left_stored same_left

-- an entry of a plan is stored as its call and what it leaves
abbrev pub fail_code : Coded Fail
fail_code = code_by (ℕ × Left) (coded× coded_ℕ left_code) (λ fail. (fail.call, fail.left)) (λ pair. record { call = pair.0; left = pair.1 }) (λ _. refl)

-- a folder and its plan are stored as the tuple of the fields
abbrev pub planned_code : Coded Planned
planned_code = code_by (Folder × (List Fail × (Option ℕ × (ℕ × ℕ)))) (coded× folder_code (coded× (coded_list fail_code) (coded× (coded_option coded_ℕ) (coded× coded_ℕ coded_ℕ))))
    (λ planned. (planned.folder, (planned.fails, (planned.stop, (planned.calls, planned.faults)))))
    (λ stored. record { folder = stored.0; fails = stored.1.0; stop = stored.1.1.0; calls = stored.1.1.1.0; faults = stored.1.1.1.1 })
    (λ _. refl)
