use Rattle.std.proofs.Common.{ap, arith}
use Rattle.term_dict.specs.Last.{term_of_last}
use Rattle.term_dict.specs.Writing.{last_point}
use Rattle.term_dict.proofs.IndexLemmas.{intervals_begun-few, begun_by}
use Rattle.term_dict.proofs.WriterLemmas.{counted-few}
use Rattle.term_dict.proofs.writer.TermWriter.finish.Goals as goal

pub overflow_add-entries : goal.overflow_add-entries
overflow_add-entries c =
    let i = c.self.inside in
    let few = counted-few i.index_interval i.skip_interval i.max_levels i.count i.tis.items (term_of_last i.last) i.index.bytes.items (last_point i.index) c.self.invariant in
    let small = i.tis.small in
    let ok = i.tis.ok in
    omega (arith, few, small, ok, c.from-interval.ensures, c.self.invariant.intervals.index_interval.1)

pub headed-requires-clause-count : goal.headed-requires-clause-count
headed-requires-clause-count c =
    let i = c.self.inside in
    let few = counted-few i.index_interval i.skip_interval i.max_levels i.count i.tis.items (term_of_last i.last) i.index.bytes.items (last_point i.index) c.self.invariant in
    omega (arith, few, i.tis.small, i.tis.ok)

pub headed-requires-2-clause-count : goal.headed-requires-2-clause-count
headed-requires-2-clause-count c =
    let i = c.self.inside in
    let few = counted-few i.index_interval i.skip_interval i.max_levels i.count i.tis.items (term_of_last i.last) i.index.bytes.items (last_point i.index) c.self.invariant in
    let le = intervals_begun-few i.index_interval i.count c.self.invariant.intervals.index_interval.0 in
    omega (arith, few, i.tis.small, i.tis.ok, le, ap (begun_by i.count) c.from-interval.ensures)
