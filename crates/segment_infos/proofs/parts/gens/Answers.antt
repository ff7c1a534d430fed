use Rattle.std.proofs.Common.{rules, ◌≡◌, FitsSigned, to_z, of_z, w64}
use Rattle.std.proofs.lemmas.Int.{to_z-of_z}
use Rattle.lu_grammar.specs.Parts.{int64}
use Rattle.lu_grammar.specs.Records.{whole, read_shape}
use Rattle.lu_grammar.proofs.Records.{read_shape-part, read_shape-part_err}
use Rattle.segment_infos.specs.Records.{many, gen_shape}
use Rattle.segment_infos.proofs.Pieces.{more-read, more-unread, more-none, more-begin}
use Rattle.segment_infos.proofs.parts.gens.Goals as goal

pub loop-init : goal.loop-init
loop-init c = rw c.new-gens.ensures.items (more-begin gen_shape c.args.count c.args.cur.now)

pub returns-in-Err : goal.returns-in-Err
returns-in-Err c =
    more-unread gen_shape c.args.count c.loop.counter c.loop.gens.items (read_shape (many gen_shape c.args.count) c.args.cur.now) c.loop.cur c.in-Err.bad c.loop-test.true c.loop.invariant
    (read_shape-part_err int64 (λ g. whole g) c.loop.cur c.in-Err.bad c.in-Err.ensures.0)

pub loop-preserved : goal.loop-preserved
loop-preserved c =
    let fits : FitsSigned w64 c.in-Ok.generation = search rules in
    let same : to_z w64 (of_z w64 c.in-Ok.generation) ≡ c.in-Ok.generation = to_z-of_z w64 c.in-Ok.generation fits in
    rw (c.in_ok-push-in-Ok.ensures.items, same)
    (more-read gen_shape c.args.count c.loop.counter c.loop.gens.items (read_shape (many gen_shape c.args.count) c.args.cur.now) c.loop.cur c.in-Ok.generation c.i64.new.self c.loop-test.true c.loop.invariant
    (read_shape-part int64 (λ g. whole g) c.loop.cur c.in-Ok.generation c.i64.new.self c.in-Ok.ensures))

pub returns : goal.returns
returns c =
    rw c.new.ensures (more-none gen_shape c.args.count c.loop.counter c.loop.gens.items (read_shape (many gen_shape c.args.count) c.args.cur.now) c.loop.cur c.loop-test.false c.loop.invariant)
