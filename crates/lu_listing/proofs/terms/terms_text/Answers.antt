use Rattle.std.proofs.Common.{ap, ◌∙◌}
use Rattle.term_dict.specs.Walk.{TermWalk}
use Rattle.seg_reader.specs.Terms.{term_at}
use Rattle.lu_listing.specs.Listing.{term_text}
use Rattle.lu_listing.proofs.PrintingLemmas.{lacks-failed}
use Rattle.lu_listing.proofs.RestLemmas.{lacks-next, lacks-end}
use Rattle.lu_listing.proofs.TermLemmas.{listed-term, others-left, all-passed, one-fewer}
use Rattle.lu_listing.proofs.terms.terms_text.Goals as goal

pub returns-then-has_failed : goal.returns-then-has_failed
returns-then-has_failed g c = lacks-failed _ _ _ _ c.loop-info.invariant.0 cc

pub term_text-requires : goal.term_text-requires
term_text-requires g c =
    let w = c.loop-info.cursor in
    (w.passed, listed-term c.args.reader.now w c.terms.ensures.said c.loop-info.invariant.1 c.next.new.self (record { info = c.in-Some.info; text = c.text.result }) c.in-Some.ensures.term c.in-Some.ensures.passed c.text.ensures)

pub loop-info-preserved : goal.loop-info-preserved
loop-info-preserved g c =
    let s = c.args.reader.now in
    let w = c.loop-info.cursor in
    let same = c.loop-info.invariant.1 in
    let moved = c.in-Some.ensures.passed in
    let listed = listed-term s w c.terms.ensures.said same c.next.new.self (record { info = c.in-Some.info; text = c.text.result }) c.in-Some.ensures.term moved c.text.ensures in (
      lacks-next term_text _ _ _ _ (term_at s w.passed) _ _ c.loop-info.invariant.0 (others-left s w c.terms.ensures.said same c.next.new.self listed.within moved) (c.term_text.ensures w.passed listed),
      ap (λ (v : TermWalk). v.dictionary) moved ∙ same,
    )

pub loop-info-smaller : goal.loop-info-smaller
loop-info-smaller g c = one-fewer c.args.reader.now c.loop-info.cursor c.loop-info.invariant.1 c.next.new.self c.in-Some.info c.in-Some.ensures.term c.in-Some.ensures.passed

pub returns : goal.returns
returns g c = lacks-end term_text _ _ _ _ c.loop-info.invariant.0 (all-passed c.args.reader.now c.loop-info.cursor c.terms.ensures.said c.loop-info.invariant.1 c.in_default-next.ensures.term)
