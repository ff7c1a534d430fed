use Rattle.std.proofs.Common.{◌≡◌, [], arith, rules, to_z, of_z, w64}
use Rattle.lu_types.specs.declared.kind.FileKind.TheVariants.{Fdx}
use Rattle.lu_grammar.specs.Plans.{read_file}
use Rattle.lu_grammar.proofs.Codecs.{Reads-from, settled}
use Rattle.lu_types.proofs.SpotLemmas.{spot-broken}
use Rattle.stored_fields.specs.Places.{fdx_plan}
use Rattle.stored_fields.specs.Stores.{places_in}
use Rattle.stored_fields.proofs.SpotLemmas.{first_fault}
use Rattle.stored_fields.proofs.PlaceLemmas.{passed_no_place, passed_place, IsBehindHeader, fdx_header_fault, fdx_place_fault, fdx_trailing, fdx_read}
use Rattle.stored_fields.proofs.places.check_places.Goals as goal

pub returns-in-Err : goal.returns-in-Err
returns-in-Err c =
    let plan = fdx_plan c.args.total c.args.window in
    first_fault Fdx plan c.args.fdx.now c.at.result (λ i. (c.type_inv.fdx i).fits)
    (spot-broken Fdx 0 c.in-Err.rule c.at.result (read_file plan c.args.fdx.now) c.at.ensures (fdx_header_fault c.args.total c.args.window c.args.fdx.now c.in-Err.rule (rw (← c.at-here.ensures) c.in-Err.ensures)))

pub loop-number-init : goal.loop-number-init
loop-number-init c = passed_no_place c.pass_header.new.here

pub returns-in-Err-next_place : goal.returns-in-Err-next_place
returns-in-Err-next_place c =
    let plan = fdx_plan c.args.total c.args.window in
    let s = c.at-in-Err-next_place.result in
    let header : IsBehindHeader c.args.total c.args.window c.args.fdx.now c.pass_header.new.here = rw (← c.at-here.ensures) c.in_default.ensures in
    first_fault Fdx plan c.args.fdx.now s (λ i. (c.type_inv.fdx i).fits)
    (spot-broken Fdx c.place-start.result c.in-Err-next_place.rule s (read_file plan c.args.fdx.now) c.at-in-Err-next_place.ensures
    (rw c.place-start.ensures (fdx_place_fault c.args.total c.args.window c.args.fdx.now c.pass_header.new.here c.loop-number._number c.loop-number.before c.loop-number.here c.in-Err-next_place.rule header c.loop-number.invariant
    c.loop-number-test.true c.in-Err-next_place.ensures)))

pub loop-number-preserved : goal.loop-number-preserved
loop-number-preserved c =
    let z = to_z w64 (of_z w64 c.in-Ok.place) in
    let e : z ≡ c.in-Ok.place = search rules in
    passed_place c.pass_header.new.here c.loop-number._number c.loop-number.before c.loop-number.here z c.next_place.new.here c.loop-number.invariant (rw e c.in-Ok.ensures)

pub returns-then-left-gt0 : goal.returns-then-left-gt0
returns-then-left-gt0 c =
    let plan = fdx_plan c.args.total c.args.window in
    let s = c.at-then-left-gt0.result in
    let header : IsBehindHeader c.args.total c.args.window c.args.fdx.now c.pass_header.new.here = rw (← c.at-here.ensures) c.in_default.ensures in
    first_fault Fdx plan c.args.fdx.now s (λ i. (c.type_inv.fdx i).fits)
    (spot-broken Fdx c.place.result 6 s (read_file plan c.args.fdx.now) c.at-then-left-gt0.ensures
    (rw c.place.ensures (fdx_trailing c.args.total c.args.window c.args.fdx.now c.pass_header.new.here c.loop-number._number c.loop-number.before c.loop-number.here header c.loop-number.invariant (omega arith) (omega arith))))

pub returns : goal.returns
returns c =
    let plan = fdx_plan c.args.total c.args.window in
    let header : IsBehindHeader c.args.total c.args.window c.args.fdx.now c.pass_header.new.here = rw (← c.at-here.ensures) c.in_default.ensures in
    Reads-from plan c.args.fdx.now (places_in c.args.total c.args.window c.args.fdx.now) (λ i. (c.type_inv.fdx i).fits)
    (settled [] c.loop-number.invariant.places (read_file plan c.args.fdx.now)
    (fdx_read c.args.total c.args.window c.args.fdx.now c.pass_header.new.here c.loop-number._number c.loop-number.before c.loop-number.here header c.loop-number.invariant (omega arith) (omega arith)))
