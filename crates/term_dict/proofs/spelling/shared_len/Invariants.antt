use Rattle.std.proofs.Common.{◌≡◌, ◌+◌, drop}
use Rattle.term_dict.specs.Canonical.{shared}
use Rattle.term_dict.proofs.spelling.shared_len.Given as goal

abbrev pub invariant-loop-place : goal.invariant-loop-place
invariant-loop-place l = shared l.a l.b ≡ l.place + shared (drop l.place l.a) (drop l.place l.b)
