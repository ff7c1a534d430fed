use Rattle.std.proofs.Common.{◌≡◌, ◌++◌, List, ℕ, subst, ◌^◌, ◌<◌, arith}
use Rattle.std.specs.Prelude.{OnOk}
use Rattle.lu_grammar.specs.Parts.{groups}
use Rattle.lu_prims.proofs.PutLemmas.{groups-room}
use Rattle.lu_prims.proofs.put.put_vint.Goals as goal

pub returns-clause-ok : goal.returns-clause-ok
returns-clause-ok c =
    let room : groups 8 c.args.value ≡ groups 4 c.args.value = groups-room 4 4 c.args.value (let lt : c.args.value < 128 ^ 5 = omega (arith, c.ranges.value.fits) in lt) in
    subst (λ (t : List ℕ). OnOk c.put_groups.result (c.put_groups.new.out.items ≡ c.args.out.now.items ++ t)) room (rw (← c.from.ensures) c.put_groups.ensures.ok)
