use Rattle.std.proofs.Common.{◌≡◌, [], refl, ◌∙◌, ◌+◌, length, arith}
use Rattle.std.proofs.lemmas.List.{length_push}
use Rattle.lu_grammar.specs.Plans.{one}
use Rattle.lu_grammar.proofs.Loops.{each-none}
use Rattle.lu_types.specs.Fields.{table_field}
use Rattle.field_infos.specs.Fnm.{one_field}
use Rattle.field_infos.proofs.Records.{fields-more, fields-fault}
use Rattle.field_infos.proofs.reading.fields.Goals as goal

pub loop-init : goal.loop-init
loop-init c = rw c.new-table.ensures (record { read = each-none (one (one_field c.args.has_prox)) [] c.args.cur.now; number = refl })

pub returns-in-Err : goal.returns-in-Err
returns-in-Err c =
    rw (c.fault.ensures, c.place-place.ensures) (refl, fields-fault c.args.has_prox c.loop.counter c.args.count c.args.cur.now c.loop.cur c.loop.table c.in-Err.rule c.loop-test.true c.loop.invariant.read c.in-Err.ensures.gives)

pub loop-preserved : goal.loop-preserved
loop-preserved c =
    rw c.in_ok-push-in-Ok.ensures.ok (record {
      read = fields-more c.args.has_prox c.loop.counter c.args.cur.now c.loop.cur c.field.new.cur c.loop.table (table_field c.in-Ok.found) c.loop.invariant.read c.in-Ok.ensures.gives;
      number = length_push c.loop.table (table_field c.in-Ok.found) ∙ (let e : length c.loop.table + 1 ≡ c.loop.counter + 1 = omega (arith, c.loop.invariant.number) in e);
    })
