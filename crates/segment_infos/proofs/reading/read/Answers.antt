use Rattle.std.proofs.Common.{◌≡◌, ◌≤◌, ℕ, List, length, take, Ok, Err, refl, ap, subst, ◌∙◌, arith}
use Rattle.lu_grammar.specs.Bytes.{Cursor}
use Rattle.lu_grammar.specs.Records.{record_at}
use Rattle.lu_grammar.specs.Plans.{read_plan}
use Rattle.lu_types.specs.declared.kind.FileKind.TheVariants.{Commit}
use Rattle.segment_infos.specs.declared.reading.Unsealed.{Unsealed}
use Rattle.lu_types.specs.Judging.{GivesIn}
use Rattle.segment_infos.specs.Records.{seal_record}
use Rattle.segment_infos.specs.Format.{of_seal, front_plan}
use Rattle.segment_infos.specs.Unsealed.{unsealed_value, Seals}
use Rattle.segment_infos.proofs.FrontReads.{within, commit-fails, commit-unsealed, commit-left, commit-read}
use Rattle.segment_infos.proofs.OnlyFiles.{Reads-IsCommit}
use Rattle.segment_infos.proofs.reading.read.Goals as goal

pub returns-in-Err : goal.returns-in-Err
returns-in-Err c =
    commit-fails c.args.bytes.now (λ i. (c.type_inv.bytes i).fits) c.all_but_seal.new.cur c.in-Err.found
    (subst (λ (k : Cursor). GivesIn {X = Unsealed} Commit unsealed_value (read_plan front_plan k) c.all_but_seal.new.cur (Err c.in-Err.found)) c.at-cur.ensures c.in-Err.ensures)

pub split_at-requires : goal.split_at-requires
split_at-requires c =
    let front = rw c.at-cur.ensures at c.in-Ok.ensures in
    let inside : c.all_but_seal.new.cur.place ≤ length c.args.bytes.now = within front_plan c.args.bytes.now (unsealed_value c.in-Ok.found) c.all_but_seal.new.cur (λ i. (c.type_inv.bytes i).fits) front in
    omega (arith, c.place-place.ensures, inside)

pub returns-in-Err-pass_seal : goal.returns-in-Err-pass_seal
returns-in-Err-pass_seal c =
    let front = rw c.at-cur.ensures at c.in-Ok.ensures in
    let before : c.split_at.result.0.now ≡ take c.all_but_seal.new.cur.place c.args.bytes.now = c.split_at.ensures.front ∙ ap (λ (p : ℕ). take p c.args.bytes.now) c.place-place.ensures in
    let broken = subst (λ (t : List ℕ). record_at seal_record (of_seal t) c.all_but_seal.new.cur ≡ Err c.in-Err-pass_seal.rule) before c.in-Err-pass_seal.ensures in
    rw (c.fault.ensures, c.place-place.ensures)
    (refl, commit-unsealed c.args.bytes.now (λ i. (c.type_inv.bytes i).fits) (unsealed_value c.in-Ok.found) c.all_but_seal.new.cur front c.in-Err-pass_seal.rule broken)

pub returns-then-left-gt0 : goal.returns-then-left-gt0
returns-then-left-gt0 c =
    let front = rw c.at-cur.ensures at c.in-Ok.ensures in
    let before : c.split_at.result.0.now ≡ take c.all_but_seal.new.cur.place c.args.bytes.now = c.split_at.ensures.front ∙ ap (λ (p : ℕ). take p c.args.bytes.now) c.place-place.ensures in
    let sealed = subst (λ (t : List ℕ). Seals t c.all_but_seal.new.cur c.pass_seal.new.cur (Ok c.in_default.field-0)) before c.in_default.ensures in
    rw (c.fault-then-left-gt0.ensures, c.place.ensures)
    (refl, commit-left c.args.bytes.now (λ i. (c.type_inv.bytes i).fits) (unsealed_value c.in-Ok.found) c.all_but_seal.new.cur front sealed.0 c.pass_seal.new.cur sealed.1 (omega (arith, c.left.ensures, c.if-left-gt0.true)))

pub invariant_of-result : goal.invariant_of-result
invariant_of-result c =
    let front = rw c.at-cur.ensures at c.in-Ok.ensures in
    let before : c.split_at.result.0.now ≡ take c.all_but_seal.new.cur.place c.args.bytes.now = c.split_at.ensures.front ∙ ap (λ (p : ℕ). take p c.args.bytes.now) c.place-place.ensures in
    let sealed = subst (λ (t : List ℕ). Seals t c.all_but_seal.new.cur c.pass_seal.new.cur (Ok c.in_default.field-0)) before c.in_default.ensures in
    Reads-IsCommit c.args.bytes.now (unsealed_value c.in-Ok.found)
    (commit-read c.args.bytes.now (λ i. (c.type_inv.bytes i).fits) (unsealed_value c.in-Ok.found) c.all_but_seal.new.cur front sealed.0 c.pass_seal.new.cur sealed.1 (omega (arith, c.left.ensures, c.if-left-gt0.false)))

pub returns : goal.returns
returns c =
    let front = rw c.at-cur.ensures at c.in-Ok.ensures in
    let before : c.split_at.result.0.now ≡ take c.all_but_seal.new.cur.place c.args.bytes.now = c.split_at.ensures.front ∙ ap (λ (p : ℕ). take p c.args.bytes.now) c.place-place.ensures in
    let sealed = subst (λ (t : List ℕ). Seals t c.all_but_seal.new.cur c.pass_seal.new.cur (Ok c.in_default.field-0)) before c.in_default.ensures in
    commit-read c.args.bytes.now (λ i. (c.type_inv.bytes i).fits) (unsealed_value c.in-Ok.found) c.all_but_seal.new.cur front sealed.0 c.pass_seal.new.cur sealed.1 (omega (arith, c.left.ensures, c.if-left-gt0.false))
