use Rattle.std.proofs.Common.{◌≤◌, length, ◌+◌, arith, ◌∙◌}
use Rattle.std.proofs.lemmas.Grind.{common_steps}
use Rattle.lu_dir.proofs.Ranges.{range_of-read}
use Rattle.lu_dir.proofs.loading.fill.Goals as goal

pub loop-at-preserved : goal.loop-at-preserved
loop-at-preserved g c =
    let within : c.loop-at.at + c.min.result ≤ length c.loop-at.bytes = omega arith in
    record {
      within = grind (arith, common_steps);
      filled = λ told is. range_of-read told c.args.name.now c.loop-at.at c.min.result c.loop-at.bytes c.read.new.buf within c.read.auto.buf
          (c.loop-at.invariant.filled told is) (c.in-Ok.ensures.bytes told (c.loop-at.invariant.files ∙ is));
      files = c.in-Ok.ensures.files ∙ c.loop-at.invariant.files;
      asked = c.in-Ok.ensures.asked ∙ c.loop-at.invariant.asked;
      later = omega (arith, c.in-Ok.ensures.cause.later);
    }
