use Rattle.std.proofs.Common.{sym, subst, refl, arith}
use Rattle.freq_skips.specs.Walks.{WalkState}
use Rattle.seg_reader.specs.InnerScan.{IsScan}
use Rattle.seg_reader.proofs.SkipLemmas.{point-inside}
use Rattle.seg_reader.proofs.jump.jump.Goals as goal

pub returns-then-point-scan-clause-scan : goal.returns-then-point-scan-clause-scan
returns-then-point-scan-clause-scan c =
    let s = c.args.scan.now in
    let p = c.args.point.now in
    let scan = c.requires.scan in
    let inside = point-inside s.entries.term s.entries.value p c.requires.interval c.requires.point in
    subst (λ (w : WalkState). IsScan (record { entries = w; live = s.live; passed = p.passed; between = 0 })) (sym c.jump.ensures) (record {
      order = scan.order;
      passed = refl;
      within = inside;
      asked = λ i low lt. scan.asked i (omega (arith, low, c.if-point-scan.true)) lt;
      few = omega arith;
    })
