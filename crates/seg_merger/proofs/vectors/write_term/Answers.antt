use Rattle.std.proofs.Common.{◌∙◌, ap, sym, length}
use Rattle.term_vectors.specs.VectorWriting.{with_term_begun}
use Rattle.term_vectors.specs.Walks.{VectorTermWalk}
use Rattle.seg_merger.proofs.VectorLemmas.{walk-begun}
use Rattle.seg_merger.proofs.vectors.write_term.Goals as goal

pub write_spans-requires-clause-positions : goal.write_spans-requires-clause-positions
write_spans-requires-clause-positions c =
    let walk = c.args.terms.now in
    let begun = c.in_ok-begin_term.ensures.ok ∙ ap (λ t. with_term_begun t c.freq.result c.args.writer.now) c.text.ensures ∙ ap (λ n. with_term_begun walk.text n c.args.writer.now) c.freq.ensures in
    (walk-begun walk c.args.writer.now c.begin_term.new.self c.write_positions.new.writer c.requires.kept begun c.in_ok-write_positions.ensures.written).0

pub write_spans-requires-clause-spans : goal.write_spans-requires-clause-spans
write_spans-requires-clause-spans c =
    let walk = c.args.terms.now in
    let begun = c.in_ok-begin_term.ensures.ok ∙ ap (λ t. with_term_begun t c.freq.result c.args.writer.now) c.text.ensures ∙ ap (λ n. with_term_begun walk.text n c.args.writer.now) c.freq.ensures in
    (walk-begun walk c.args.writer.now c.begin_term.new.self c.write_positions.new.writer c.requires.kept begun c.in_ok-write_positions.ensures.written).1
    ∙ ap (λ (w : VectorTermWalk). length w.spans) (sym c.in_ok-write_positions.ensures.taken)
