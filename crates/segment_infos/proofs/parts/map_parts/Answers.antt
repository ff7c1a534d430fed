use Rattle.std.proofs.Common.{rules, ◌≡◌, FitsSigned, to_z, of_z, w32, ap, ◌∙◌}
use Rattle.std.proofs.lemmas.Int.{to_z-of_z}
use Rattle.segment_infos.specs.Numbers.{count_or_zero}
use Rattle.segment_infos.proofs.LineReads.{map-stopped, map-read}
use Rattle.segment_infos.proofs.parts.map_parts.Goals as goal

pub returns-in-Err : goal.returns-in-Err
returns-in-Err c =
    let fits : FitsSigned w32 c.in_ok-count.count = search rules in
    let same : to_z w32 (of_z w32 c.in_ok-count.count) ≡ c.in_ok-count.count = to_z-of_z w32 c.in_ok-count.count fits in
    map-stopped c.args.cur.now c.i32.new.self c.in_ok-count.count c.in_ok-count.ensures c.count_or_zero.result c.pairs.new.cur c.pairs.new.cur c.in-Err.stop (c.count_or_zero.ensures.count ∙ ap count_or_zero same) c.in-Err.ensures

pub returns-in-Ok : goal.returns-in-Ok
returns-in-Ok c =
    let fits : FitsSigned w32 c.in_ok-count.count = search rules in
    let same : to_z w32 (of_z w32 c.in_ok-count.count) ≡ c.in_ok-count.count = to_z-of_z w32 c.in_ok-count.count fits in
    rw same (map-read c.args.cur.now c.i32.new.self c.in_ok-count.count c.in_ok-count.ensures c.count_or_zero.result c.pairs.new.cur c.in-Ok.pairs (c.count_or_zero.ensures.count ∙ ap count_or_zero same) c.in-Ok.ensures)
