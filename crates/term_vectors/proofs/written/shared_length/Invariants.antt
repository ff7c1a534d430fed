use Rattle.std.proofs.Common.{◌≡◌, ◌+◌, drop}
use Rattle.term_vectors.specs.VectorBytes.{shared_length}
use Rattle.term_vectors.proofs.written.shared_length.Given as goal

abbrev pub invariant-loop-place : goal.invariant-loop-place
invariant-loop-place l = shared_length l.a l.b ≡ l.place + shared_length (drop l.place l.a) (drop l.place l.b)
