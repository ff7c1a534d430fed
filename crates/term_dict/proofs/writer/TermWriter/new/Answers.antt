use Rattle.std.proofs.Common.{ap, arith}
use Rattle.term_dict.specs.Terms.{DictionaryTerm}
use Rattle.term_dict.specs.Last.{term_of_last}
use Rattle.term_dict.proofs.IndexLemmas.{index_point_of}
use Rattle.term_dict.proofs.WriterLemmas.{written, written-none, terms_in-none}
use Rattle.term_dict.proofs.writer.TermWriter.new.Goals as goal

pub invariant_of-result : goal.invariant_of-result
invariant_of-result c =
    written-none c.args.index_interval c.args.skip_interval c.args.max_levels c.extend_from_slice.new.self.items (term_of_last c.new.result) c.extend_from_slice-2.new.self.items (index_point_of (term_of_last c.new-2.result) 0) c.requires
    (omega (arith, c.in_ok-extend_from_slice.ensures.len, c.new-tis.ensures.len)) (omega (arith, c.in_ok-extend_from_slice-2.ensures.len, c.new-bytes.ensures.len)) c.new.ensures (ap (λ (t : DictionaryTerm). index_point_of t 0) c.new-2.ensures)

pub returns : goal.returns
returns c = ap (written c.args.index_interval c.args.skip_interval c.args.max_levels) (terms_in-none c.args.skip_interval c.extend_from_slice.new.self.items (omega (arith, c.in_ok-extend_from_slice.ensures.len, c.new-tis.ensures.len)))
