use Rattle.std.proofs.Common.{sym, ap}
use Rattle.lu_types.specs.Bits.{indexed, has_bit}
use Rattle.lu_types.specs.Tables.{TableField}
use Rattle.term_dict.proofs.OrderLemmas.{field_of-none}
use Rattle.term_dict.proofs.order.is_indexed.Goals as goal

pub returns-in-None : goal.returns-in-None
returns-in-None c = ap (λ (f : TableField). has_bit indexed f.bits) (sym (field_of-none c.args.fields.now c.args.number c.in-None.ensures))
