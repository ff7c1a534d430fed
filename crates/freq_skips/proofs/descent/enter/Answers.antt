use Rattle.std.proofs.Common.{◌≡◌, ℕ, suc, ◌+◌, ◌-◌, ◌*◌, ◌^◌, ◌<◌, ◌≤◌, List, Ok, length, rules, sym, ap, subst, ◌∙◌, arith}
use Rattle.std.specs.Prelude.{min, slice_index_or}
use Rattle.lu_grammar.specs.Bytes.{Cursor, place_in}
use Rattle.freq_skips.specs.declared.rules.RuledTerm.{RuledTerm}
use Rattle.freq_skips.specs.declared.datum.Point.{Point}
use Rattle.freq_skips.specs.Levels.{no_point}
use Rattle.freq_skips.specs.Walks.{points_in}
use Rattle.lu_grammar.specs.Parts.{vlong}
use Rattle.lu_grammar.specs.Reading.{read_part}
use Rattle.freq_skips.specs.Finding.{CanSearch, LevelStands, HasPassedData, StandsOn}
use Rattle.freq_skips.proofs.Powers.{stride-two, quotient-half}
use Rattle.freq_skips.proofs.PassLemmas.{SmallSums-AreSmallSums}
use Rattle.freq_skips.proofs.EnterLemmas.{Lands, IsLed, is-led, landed, entered-led, entered-none}
use Rattle.freq_skips.proofs.descent.enter.Goals as goal

pub returns-then-walk-eq0-clause-stands : goal.returns-then-walk-eq0-clause-stands
returns-then-walk-eq0-clause-stands c =
    let t = c.args.term.now in
    let frq = c.args.frq.now in
    subst (λ (d : Cursor). StandsOn t frq c.args.level 0 no_point d) (sym c.at.ensures) (entered-none t frq c.args.level c.args.start c.requires.stands c.requires.level)

-- what the level above tells
above-led : (t : RuledTerm) (frq : List ℕ) (level begin count : ℕ) (p : Point) (s : LevelStands t frq level begin) → CanSearch t frq → HasPassedData t frq (suc level) count p → (count ≡ 0 → ⊥) → IsLed t frq level begin (count - 1) s
above-led t frq level begin count p s search passed some =
    let is : count ≡ suc (count - 1) = omega arith in is-led t frq level begin (count - 1) p s search (subst (λ (n : ℕ). HasPassedData t frq (suc level) n p) is passed)

-- the place that is read from
place-is : (t : RuledTerm) (frq : List ℕ) (level begin count at : ℕ) (p : Point) (s : LevelStands t frq level begin) → CanSearch t frq → HasPassedData t frq (suc level) count p → (count ≡ 0 → ⊥) → (h : IsLed t frq level begin (count - 1) s)
    → at ≡ min (begin + p.child) 18446744073709551615 → (at ≡ begin + p.child) × (begin + p.child ≤ length frq)
place-is t frq level begin count at p s search passed some h is =
    let e : count ≡ suc (count - 1) = omega arith in
    let child = (subst (λ (n : ℕ). HasPassedData t frq (suc level) n p) e passed).like.child in
    let within = h.led.lands.within in
    let small = search.small in
    (omega (arith, is, child, within, small), omega (arith, child, within))

pub at-cur-requires : goal.at-cur-requires
at-cur-requires c =
    let t = c.args.term.now in
    let frq = c.args.frq.now in
    let a = c.args.walk.now in
    let h = above-led t frq c.args.level c.args.start a.count a.last c.requires.stands c.requires.search c.requires.above c.if-walk-eq0.false in
    let at = place-is t frq c.args.level c.args.start a.count c.saturating_add.result a.last c.requires.stands c.requires.search c.requires.above c.if-walk-eq0.false h c.saturating_add.ensures in
    omega (arith, at.0, at.1)

pub overflow_mul-walk : goal.overflow_mul-walk
overflow_mul-walk c =
    let t = c.args.term.now in
    let frq = c.args.frq.now in
    let a = c.args.walk.now in
    let can = c.requires.search in
    let h = above-led t frq c.args.level c.args.start a.count a.last c.requires.stands can c.requires.above c.if-walk-eq0.false in
    let half = quotient-half t.info.doc_freq _ (stride-two t.rules.skip_interval c.args.level can.good.interval) can.count in
    let same : suc (a.count - 1) * t.rules.skip_interval ≡ a.count * t.rules.skip_interval = ap (λ (n : ℕ). n * t.rules.skip_interval) (let e : suc (a.count - 1) ≡ a.count = omega (arith, c.if-walk-eq0.false) in e) in
    let lt : a.count * t.rules.skip_interval < 2 ^ 32 = omega (arith, h.within, half, same) in
    search rules

entered-is : (t : RuledTerm) (frq : List ℕ) (level begin at n : ℕ) (count : ℕ) (last : Point) (d : Cursor) (s : LevelStands t frq level begin) → CanSearch t frq → HasPassedData t frq (suc level) count last → (count ≡ 0 → ⊥) → IsLed t frq level begin (count - 1) s
    → at ≡ begin + last.child → (level ≡ 0 → (n ≡ 0) × (d ≡ place_in frq at)) → ((m : ℕ) (to : Cursor) → 0 < level → read_part vlong (place_in frq at) ≡ Ok (m, to) → (n ≡ m) × (d ≡ to))
    → StandsOn t frq level (count * t.rules.skip_interval) (record { doc = last.doc; freq = last.freq; prox = last.prox; payload = last.payload; child = n; place = last.place }) d
entered-is t frq level begin at n count last d s search passed some h is low high =
    let k = count - 1 in
    let e : count ≡ suc k = omega arith in
    let above = subst (λ (m : ℕ). HasPassedData t frq (suc level) m last) e passed in
    let there = subst (λ (x : ℕ). Lands frq level x (slice_index_or (points_in t frq level) (suc k * t.rules.skip_interval - 1) no_point).child h.led.next) (ap (λ (x : ℕ). begin + x) (sym above.like.child) ∙ sym is) h.led.lands in
    let read = landed frq level at _ n h.led.next d there low high in
    subst (λ (m : ℕ). StandsOn t frq level (m * t.rules.skip_interval) (record { doc = last.doc; freq = last.freq; prox = last.prox; payload = last.payload; child = n; place = last.place }) d) (sym e)
    (entered-led t frq level begin k n last d s search above h read.0 read.1)

pub returns-clause-stands : goal.returns-clause-stands
returns-clause-stands c =
    let t = c.args.term.now in
    let frq = c.args.frq.now in
    let a = c.args.walk.now in
    let s = c.requires.stands in
    let search = c.requires.search in
    let some = c.if-walk-eq0.false in
    let h = above-led t frq c.args.level c.args.start a.count a.last s search c.requires.above some in
    let at = place-is t frq c.args.level c.args.start a.count c.saturating_add.result a.last s search c.requires.above some h c.saturating_add.ensures in
    let from = c.at-cur.ensures in
    entered-is t frq c.args.level c.args.start c.saturating_add.result c.child_here-child.result a.count a.last c.child_here-child.new.cur s search c.requires.above some h at.0
    (λ e. let low = c.child_here-child.ensures.lowest e in (low.0, low.1 ∙ from))
    (λ m to pos read. c.child_here-child.ensures.child m to pos (ap (λ (x : Cursor). read_part vlong x) from ∙ read))

pub invariant_of-walk-2 : goal.invariant_of-walk-2
invariant_of-walk-2 c =
    let t = c.args.term.now in
    let frq = c.args.frq.now in
    let a = c.args.walk.now in
    let s = c.requires.stands in
    let search = c.requires.search in
    let some = c.if-walk-eq0.false in
    let h = above-led t frq c.args.level c.args.start a.count a.last s search c.requires.above some in
    let at = place-is t frq c.args.level c.args.start a.count c.saturating_add.result a.last s search c.requires.above some h c.saturating_add.ensures in
    let from = c.at-cur.ensures in
    let stands = entered-is t frq c.args.level c.args.start c.saturating_add.result c.child_here-child.result a.count a.last c.child_here-child.new.cur s search c.requires.above some h at.0
    (λ e. let low = c.child_here-child.ensures.lowest e in (low.0, low.1 ∙ from))
    (λ m to pos read. c.child_here-child.ensures.child m to pos (ap (λ (x : Cursor). read_part vlong x) from ∙ read)) in
    let half = quotient-half t.info.doc_freq _ (stride-two t.rules.skip_interval c.args.level search.good.interval) search.count in
    let same : suc (a.count - 1) * t.rules.skip_interval ≡ a.count * t.rules.skip_interval = ap (λ (n : ℕ). n * t.rules.skip_interval) (let e : suc (a.count - 1) ≡ a.count = omega (arith, some) in e) in
    record { few = omega (arith, h.within, half, same); small = SmallSums-AreSmallSums t frq c.args.level _ _ search stands.passed }
