use Rattle.std.proofs.Common.{rules, ◌++◌, ℤ, pos, get_or, length, FitsSigned, w64, ap, ◌∙◌}
use Rattle.std.proofs.lemmas.Int.{to_z-of_z}
use Rattle.lu_grammar.specs.Parts.{int32, int64, spelling}
use Rattle.segment_infos.proofs.PutLemmas.{put-more, get_or-any}
use Rattle.segment_infos.proofs.writing.put_gens.Goals as goal

pub loop-generation-preserved : goal.loop-generation-preserved
loop-generation-preserved c =
    let gens = c.args.gens.now in
    let i = c.loop-generation.generation-index in
    let x = get_or gens i (pos 0) in
    let fits : FitsSigned w64 (get_or gens i (pos 0)) = search rules in
    put-more (spelling int64) c.args.out.now.items (spelling int32 (pos (length gens))) gens i x c.loop-generation.out.items c.put_i64.new.out.items c.loop-generation-test.true
    (get_or-any gens i x (pos 0) c.loop-generation-test.true) c.loop-generation.invariant (c.in_ok-put_i64.ensures.ok ∙ ap (λ (z : ℤ). c.loop-generation.out.items ++ spelling int64 z) (to_z-of_z w64 x fits))
