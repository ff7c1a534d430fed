use Rattle.std.proofs.Common.{ℕ, sym, ap, ◌∙◌}
use Rattle.lu_prims.specs.Order.{text_cmp}
use Rattle.term_dict.specs.Terms.{field_of}
use Rattle.term_dict.proofs.OrderLemmas.{text_cmp-same}
use Rattle.term_dict.proofs.order.names_cmp.Goals as goal

pub returns-then-a-b : goal.returns-then-a-b
returns-then-a-b c =
    sym (text_cmp-same (field_of c.args.fields.now c.args.a).name) ∙ ap (λ (n : ℕ). text_cmp (field_of c.args.fields.now c.args.a).name (field_of c.args.fields.now n).name) c.if-a-b.true
