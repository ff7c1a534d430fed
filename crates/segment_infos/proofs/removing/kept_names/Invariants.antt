use Rattle.std.proofs.Common.{◌≡◌, take, map, All}
use Rattle.segment_infos.specs.Referring.{kept_names}
use Rattle.segment_infos.specs.Keeping.{kept_value, HasOwnSpelling}
use Rattle.segment_infos.proofs.removing.kept_names.Given as goal

-- the names of the commits so far
abbrev pub invariant-loop-commit : goal.invariant-loop-commit
invariant-loop-commit l = record {
  names : l.names.items ≡ kept_names (map kept_value (take l.commit-index l.kept));
  own : All HasOwnSpelling l.names.items;
}
