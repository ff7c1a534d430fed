use Rattle.std.proofs.Common.{rules}
use Rattle.stored_fields.proofs.HeldLemmas.{none_held}
use Rattle.stored_fields.proofs.writer.StoredWriter.new.Goals as goal

pub invariant_of-result : goal.invariant_of-result
invariant_of-result c = (none_held c.put_i32.new.out.items c.put_i32-2.new.out.items (search rules) (search rules)).invariant

pub returns : goal.returns
returns c = (none_held c.put_i32.new.out.items c.put_i32-2.new.out.items (search rules) (search rules)).is
