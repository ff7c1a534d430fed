use Rattle.std.proofs.Common.{◌≡◌, map, take}
use Rattle.seg_writer.specs.VectorSteps.{term_of_uses, with_whole_terms}
use Rattle.seg_writer.proofs.vectors.write_vector.Given as goal

abbrev pub invariant-loop-term : goal.invariant-loop-term
invariant-loop-term l = l.writer ≡ with_whole_terms (map (term_of_uses l.bits l.field.tokens) (take l.term-index l.term-items)) l.initial.writer
