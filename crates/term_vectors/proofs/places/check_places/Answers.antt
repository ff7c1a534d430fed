use Rattle.std.proofs.Common.{ℕ, suc, [], Some, None, sym, subst, ◌∙◌, arith}
use Rattle.lu_types.specs.declared.kind.FileKind.TheVariants.{Tvx}
use Rattle.lu_grammar.specs.Bytes.{start_of}
use Rattle.lu_grammar.specs.Plans.{read_plan}
use Rattle.lu_types.proofs.SpotLemmas.{spot-broken}
use Rattle.term_vectors.specs.Places.{tvx_plan}
use Rattle.term_vectors.proofs.Steps.{Continues}
use Rattle.term_vectors.proofs.TurnLemmas.{none-passed, one-passed, turn-broken, all-passed}
use Rattle.term_vectors.proofs.Endings.{file-broken, file-trailing, file-whole}
use Rattle.term_vectors.proofs.PlaceLemmas.{reads_places, places-left, places-broken, places-done, IsBehindFormat, tvx-from, tvx-broken}
use Rattle.term_vectors.proofs.places.check_places.Goals as goal

pub returns-in-Err : goal.returns-in-Err
returns-in-Err c =
    let plan = tvx_plan c.args.total in
    file-broken Tvx plan c.args.tvx.now c.at.result (λ i. (c.type_inv.tvx i).fits)
    (spot-broken Tvx 0 c.in-Err.rule c.at.result (read_plan plan (start_of c.args.tvx.now)) c.at.ensures (tvx-broken c.args.total c.args.tvx.now c.in-Err.rule (rw (← c.at-here.ensures) c.in-Err.ensures)))

pub loop-number-init : goal.loop-number-init
loop-number-init c = none-passed reads_places c.args.total None c.pass_format.new.here

pub returns-in-Err-next_places : goal.returns-in-Err-next_places
returns-in-Err-next_places c =
    let plan = tvx_plan c.args.total in
    let s = c.at-in-Err-next_places.result in
    let header : IsBehindFormat 95 c.args.tvx.now c.pass_format.new.here = rw (← c.at-here.ensures) c.in_default.ensures in
    file-broken Tvx plan c.args.tvx.now s (λ i. (c.type_inv.tvx i).fits)
    (spot-broken Tvx c.place-start.result c.in-Err-next_places.rule s (read_plan plan (start_of c.args.tvx.now)) c.at-in-Err-next_places.ensures
    (rw c.place-start.ensures (tvx-from c.args.total c.args.tvx.now c.pass_format.new.here header ∙ turn-broken reads_places c.args.total None c.pass_format.new.here c.loop-number._number c.loop-number.before c.loop-number.here
    (record { offset = c.loop-number.here.place; rule = c.in-Err-next_places.rule }) c.loop-number.invariant c.loop-number-test.true
    (λ n. places-broken n c.loop-number.before c.loop-number.here c.in-Err-next_places.rule c.in-Err-next_places.ensures))))

pub loop-number-preserved : goal.loop-number-preserved
loop-number-preserved c =
    let made = c.in-Ok.ensures in
    one-passed reads_places c.args.total None c.pass_format.new.here c.loop-number._number c.loop-number.before (Some c.in-Ok.tvd) c.loop-number.here c.next_places.new.here c.loop-number.invariant c.loop-number-test.true
    (λ n. subst (λ (k : ℕ). Continues (reads_places (suc n) c.loop-number.before c.loop-number.here) (reads_places n (Some k) c.next_places.new.here)) (sym made.2) (places-left n c.loop-number.before c.loop-number.here made.0 c.next_places.new.here made.1))

pub returns-then-left-gt0 : goal.returns-then-left-gt0
returns-then-left-gt0 c =
    let header : IsBehindFormat 95 c.args.tvx.now c.pass_format.new.here = rw (← c.at-here.ensures) c.in_default.ensures in
    let done = all-passed reads_places c.args.total None c.pass_format.new.here c.loop-number._number c.loop-number.before c.loop-number.here c.loop-number.invariant (omega arith) (places-done c.loop-number.before c.loop-number.here) in
    file-trailing Tvx (tvx_plan c.args.total) c.args.tvx.now done.0 c.loop-number.here c.at-then-left-gt0.result (λ i. (c.type_inv.tvx i).fits)
    (tvx-from c.args.total c.args.tvx.now c.pass_format.new.here header ∙ done.1) (omega arith) (rw (← c.place.ensures) c.at-then-left-gt0.ensures)

pub returns : goal.returns
returns c =
    let header : IsBehindFormat 95 c.args.tvx.now c.pass_format.new.here = rw (← c.at-here.ensures) c.in_default.ensures in
    let done = all-passed reads_places c.args.total None c.pass_format.new.here c.loop-number._number c.loop-number.before c.loop-number.here c.loop-number.invariant (omega arith) (places-done c.loop-number.before c.loop-number.here) in
    file-whole (tvx_plan c.args.total) c.args.tvx.now [] done.0 c.loop-number.here (λ i. (c.type_inv.tvx i).fits) (tvx-from c.args.total c.args.tvx.now c.pass_format.new.here header ∙ done.1) (omega arith)
