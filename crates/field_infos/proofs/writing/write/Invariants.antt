use Rattle.std.proofs.Common.{◌≡◌, ◌++◌, length, take, flat_map}
use Rattle.field_infos.specs.Spelling.{AreNamed, field_spelling, header_spelling}
use Rattle.field_infos.proofs.writing.write.Given as goal

-- the header and the fields so far are written, and the names of these are texts
abbrev pub invariant-loop-info : goal.invariant-loop-info
invariant-loop-info l = record {
  bytes : l.out.items ≡ header_spelling (length l.table) ++ flat_map field_spelling (take l.info-index l.table);
  named : AreNamed (take l.info-index l.table);
}
