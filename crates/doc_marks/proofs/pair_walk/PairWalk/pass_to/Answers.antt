use Rattle.std.proofs.Common.{sym, ◌∙◌}
use Rattle.doc_marks.proofs.WalkLemmas.{more-needed, no_fault, PairsAt-next}
use Rattle.doc_marks.proofs.pair_walk.PairWalk.pass_to.Goals as goal

pub unreachable-requires : goal.unreachable-requires
unreachable-requires c =
    let w = c.loop-segment.invariant.walking in
    let p = c.loop-segment.self.passed in
    let s = c.args.self.now.segment in
    let needed = more-needed s.count p.index p.documents _ (sym c.needs_more.ensures ∙ c.loop-segment-test.true) in
    no_fault s.size s.count _ p.index p.documents c.loop-segment.self.marks c.loop-segment.self.cur c.args.doc w c.in-Err.field-0 needed.0 c.in-Err.ensures.gives

pub loop-segment-preserved : goal.loop-segment-preserved
loop-segment-preserved c =
    let w = c.loop-segment.invariant.walking in
    let p = c.loop-segment.self.passed in
    let s = c.args.self.now.segment in
    let found = c.in-Ok.pair in
    let e = c.in-Ok.ensures in
    let needed = more-needed s.count p.index p.documents _ (sym c.needs_more.ensures ∙ c.loop-segment-test.true) in
    record {
      walking = PairsAt-next s.size s.count _ p.index p.documents c.loop-segment.self.marks c.loop-segment.self.cur c.args.doc w found.gap found.marks found.documents c.next_pair.new.cur needed.0 needed.1 e.gives e.documents e.some e.few e.index;
      file = c.loop-segment.invariant.file;
      segment = c.loop-segment.invariant.segment;
    }

pub overflow_add-self : goal.overflow_add-self
overflow_add-self c = record { fits = c.in-Ok.ensures.small }
