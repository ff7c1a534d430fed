use Rattle.std.proofs.Common.{◌≡◌, ℤ, FitsSigned, w64, rules, false, refl, ap, sym, ◌∙◌, Some, None, true}
use Rattle.lu_types.specs.RuleNumbers as rules
use Rattle.std.specs.Prelude.{not, pos}
use Rattle.std.specs.Ordering.{int_eq}
use Rattle.std.proofs.lemmas.Int.{to_z-of_z}
use Rattle.lu_grammar.specs.Parts.{int64}
use Rattle.lu_grammar.specs.Records.{whole, first_broken}
use Rattle.lu_grammar.proofs.Records.{read_shape-part, read_shape-part_err, record_at-read, record_at-breaks, record_at-unread}
use Rattle.lu_prims.specs.Checksum.{checksum}
use Rattle.segment_infos.specs.Records.{seal, seal_record}
use Rattle.segment_infos.specs.Format.{of_seal}
use Rattle.segment_infos.proofs.reading.pass_seal.Goals as goal

pub returns-in-Err : goal.returns-in-Err
returns-in-Err c =
    rw c.rule_of.ensures (record_at-unread seal_record (of_seal c.args.before.now) c.args.cur.now c.in-Err.bad (read_shape-part_err int64 (λ z. whole (seal z)) c.args.cur.now c.in-Err.bad c.in-Err.ensures.0))

pub returns-then-is_other_sum : goal.returns-then-is_other_sum
returns-then-is_other_sum c =
    let fits : FitsSigned w64 c.in-Ok.sum = search rules in
    let other : not (int_eq c.in-Ok.sum (pos (checksum c.args.before.now))) ≡ true = ap (λ (z : ℤ). not (int_eq z (pos (checksum c.args.before.now)))) (sym (to_z-of_z w64 c.in-Ok.sum fits)) ∙ sym c.is_other_sum.ensures ∙ c.if-is_other_sum.true in
    let broken : first_broken (of_seal c.args.before.now (seal c.in-Ok.sum)) ≡ Some rules.checksum = rw other refl in
    record_at-breaks seal_record (of_seal c.args.before.now) c.args.cur.now (seal c.in-Ok.sum) c.i64.new.self rules.checksum (read_shape-part int64 (λ z. whole (seal z)) c.args.cur.now c.in-Ok.sum c.i64.new.self c.in-Ok.ensures) broken

pub returns : goal.returns
returns c =
    let fits : FitsSigned w64 c.in-Ok.sum = search rules in
    let same : not (int_eq c.in-Ok.sum (pos (checksum c.args.before.now))) ≡ false = ap (λ (z : ℤ). not (int_eq z (pos (checksum c.args.before.now)))) (sym (to_z-of_z w64 c.in-Ok.sum fits)) ∙ sym c.is_other_sum.ensures ∙ c.if-is_other_sum.false in
    let good : first_broken (of_seal c.args.before.now (seal c.in-Ok.sum)) ≡ None = rw same refl in
    (c.in-Ok.sum, record_at-read seal_record (of_seal c.args.before.now) c.args.cur.now (seal c.in-Ok.sum) c.i64.new.self (read_shape-part int64 (λ z. whole (seal z)) c.args.cur.now c.in-Ok.sum c.i64.new.self c.in-Ok.ensures) good)
