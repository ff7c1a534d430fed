use Rattle.std.proofs.Common.{rules, ◌≡◌, FitsSigned, to_z, of_z, w32, ap, ◌∙◌}
use Rattle.std.proofs.lemmas.Int.{to_z-of_z}
use Rattle.segment_infos.specs.Numbers.{count_or_zero}
use Rattle.segment_infos.proofs.LineReads.{norm-stopped, norm-read}
use Rattle.segment_infos.proofs.parts.norm_parts.Goals as goal

pub returns-in-Err : goal.returns-in-Err
returns-in-Err c =
    let fits : FitsSigned w32 c.in_ok-count.count = search rules in
    let same : to_z w32 (of_z w32 c.in_ok-count.count) ≡ c.in_ok-count.count = to_z-of_z w32 c.in_ok-count.count fits in
    norm-stopped c.args.cur.now c.u8.new.self c.i32.new.self c.in_ok-single.single c.in_ok-count.count c.in_ok-single.ensures c.in_ok-count.ensures c.count_or_zero.result c.gens.new.cur c.gens.new.cur c.in-Err.stop
    (c.count_or_zero.ensures.count ∙ ap count_or_zero same) c.in-Err.ensures

pub returns : goal.returns
returns c =
    let fits : FitsSigned w32 c.in_ok-count.count = search rules in
    let same : to_z w32 (of_z w32 c.in_ok-count.count) ≡ c.in_ok-count.count = to_z-of_z w32 c.in_ok-count.count fits in
    rw same
    (norm-read c.args.cur.now c.u8.new.self c.i32.new.self c.in_ok-single.single c.in_ok-count.count c.in_ok-single.ensures c.in_ok-count.ensures c.count_or_zero.result c.gens.new.cur c.in-Ok.gens
    (c.count_or_zero.ensures.count ∙ ap count_or_zero same) c.in-Ok.ensures)
