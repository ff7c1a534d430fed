use Rattle.std.proofs.Common.{◌≡◌, ◌<◌, [], ◌∷◌, sym, ap, ◌∙◌, arith, Bool, ◌-◌, ℕ}
use Rattle.lu_grammar.specs.Reading.{value_or}
use Rattle.stored_fields.specs.declared.value.ValueRef.{ValueRef}
use Rattle.stored_fields.specs.Values.{StoredDocument}
use Rattle.stored_fields.specs.Entries.{lent_entry, value_of}
use Rattle.stored_fields.specs.Remaining.{values_at}
use Rattle.stored_fields.proofs.ValueLemmas.{values_none, one_read, one_not_bad}
use Rattle.stored_fields.proofs.document.StoredDoc.next.Goals as goal

pub returns-then-self-eq0 : goal.returns-then-self-eq0
returns-then-self-eq0 c =
    let none : c.args.self.now ≡ [] = sym c.self.view_is ∙ values_none c.self.inside.left c.self.inside.here c.if-self-eq0.true in
    (none, none)

pub unreachable-requires : goal.unreachable-requires
unreachable-requires c =
    let some : 0 < c.self.inside.left = omega arith in
    one_not_bad c.self.inside.left c.self.inside.here c.in-Err.field-0 some c.self.invariant c.in-Err.ensures

pub invariant_of-self : goal.invariant_of-self
invariant_of-self c =
    let some : 0 < c.self.inside.left = omega arith in
    (one_read c.self.inside.left c.self.inside.here (lent_entry c.in-Ok.entry) c.next_entry.new.here some c.self.invariant c.in-Ok.ensures).0

pub returns : goal.returns
returns c =
    let some : 0 < c.self.inside.left = omega arith in
    let rest : StoredDocument = value_or [] (values_at (c.self.inside.left - 1) c.next_entry.new.here) in
    let with_bit = λ (b : Bool). value_with c.in-Ok.entry.field b c.in-Ok.entry.value rest in
    sym c.self.view_is ∙ (one_read c.self.inside.left c.self.inside.here (lent_entry c.in-Ok.entry) c.next_entry.new.here some c.self.invariant c.in-Ok.ensures).1 ∙ ap with_bit (sym c.has_bit.ensures)
  where
    value_with : ℕ → Bool → ValueRef → StoredDocument → StoredDocument
    value_with field tokenized value rest = record { field = field; tokenized = tokenized; value = value_of value } ∷ rest
