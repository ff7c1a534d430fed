use Rattle.std.proofs.Common.{◌≡◌, ℕ, ◌+◌, ◌-◌, ◌/◌, List, length, Bool, refl, sym, ap, subst, ◌∙◌, arith}
use Rattle.std.specs.Ordering.{ordering_then, is_lt}
use Rattle.std.specs.declared.cmp.Ordering.{Ordering}
use Rattle.std.proofs.lemmas.Option.{slice_get_read}
use Rattle.lu_prims.specs.Order.{text_cmp}
use Rattle.term_index.specs.declared.mark.Mark.{Mark}
use Rattle.term_index.specs.declared.search.Sought.{Sought}
use Rattle.lu_prims.specs.Steps.{ticked}
use Rattle.term_index.specs.Seeking.{halvings, digits}
use Rattle.term_index.specs.InnerSearch.{mark_cmp, index_mark_of}
use Rattle.term_index.proofs.SearchLemmas.{IsHalving, IsHalving-below, IsHalving-above}
use Rattle.term_index.proofs.search.count_below.Goals as goal

-- what was compared is the entry
compared : (sought : Sought) (m : Mark) (text : List ℕ) (o : Ordering) (b v : Bool) → o ≡ ordering_then (text_cmp m.name.now sought.field.now) (text_cmp text sought.text.now) → text ≡ m.text → b ≡ is_lt o → b ≡ v → is_lt (mark_cmp sought (index_mark_of m)) ≡ v
compared sought m text o b v is at test so = ap (λ (t : List ℕ). is_lt (ordering_then (text_cmp m.name.now sought.field.now) (text_cmp t sought.text.now))) (sym at) ∙ ap is_lt (sym is) ∙ sym test ∙ so

pub loop-left-preserved-then-is_lt : goal.loop-left-preserved-then-is_lt
loop-left-preserved-then-is_lt g c =
    let l = c.loop-left in
    let sought = c.args.sought.now in
    let m = c.index-marks-next.result in
    let next = l.below + (l.left - l.left / 2) in
    let below = compared sought m c.as_str.result.now c.compare.result c.is_lt.result _ c.compare.ensures c.as_str.ensures.same c.is_lt.ensures c.if-is_lt.true in
    subst (IsHalving sought c.args.marks.now c.args.steps.now next (l.left / 2)) (sym c.tick.ensures)
    (IsHalving-below sought c.args.marks.now c.args.steps.now l.below l.left l.steps (next - 1) next m l.invariant (omega (arith, c.loop-left-test.true)) refl refl (slice_get_read c.args.marks.now (length c.args.marks.now) (next - 1) m refl (omega (arith, l.invariant.few, c.loop-left-test.true)) c.index-marks-next.is) below)

pub loop-left-preserved : goal.loop-left-preserved
loop-left-preserved g c =
    let l = c.loop-left in
    let sought = c.args.sought.now in
    let m = c.index-marks-next.result in
    let next = l.below + (l.left - l.left / 2) in
    let above = compared sought m c.as_str.result.now c.compare.result c.is_lt.result _ c.compare.ensures c.as_str.ensures.same c.is_lt.ensures c.if-is_lt.false in
    subst (IsHalving sought c.args.marks.now c.args.steps.now l.below (l.left / 2)) (sym c.tick.ensures)
    (IsHalving-above sought c.args.marks.now c.args.steps.now l.below l.left l.steps (next - 1) next m l.invariant (omega (arith, c.loop-left-test.true)) refl refl (slice_get_read c.args.marks.now (length c.args.marks.now) (next - 1) m refl (omega (arith, l.invariant.few, c.loop-left-test.true)) c.index-marks-next.is) above)

pub returns-clause-count : goal.returns-clause-count
returns-clause-count g c = λ n h. let sides = c.loop-left.invariant.sides n h in omega (arith, sides.0, sides.1, c.loop-left-test.false)

pub returns-clause-steps : goal.returns-clause-steps
unfolding halvings
returns-clause-steps g c = ap (λ (k : ℕ). ticked (digits k) c.loop-left.steps) (let e : 0 ≡ c.loop-left.left = omega (arith, c.loop-left-test.false) in e) ∙ c.loop-left.invariant.steps
