use Rattle.std.proofs.Common.{◌≡◌, ◌-◌}
use Rattle.lu_grammar.specs.Records.{read_shape}
use Rattle.segment_infos.specs.Records.{many, pair_shape}
use Rattle.segment_infos.proofs.Pieces.{more}
use Rattle.segment_infos.proofs.parts.pairs.Given as goal

-- what is left to read, after those that were read
abbrev pub invariant-loop : goal.invariant-loop
invariant-loop l = read_shape (many pair_shape l.count) l.fn.cur ≡ read_shape (more pair_shape (l.count - l.counter) l.pairs.items) l.cur
