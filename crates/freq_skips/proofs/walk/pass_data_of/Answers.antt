use Rattle.std.proofs.Common.{◌≡◌, ◌≢◌, ℕ, add-one, ◌+◌, ◌*◌, ◌/◌, ◌^◌, ◌<◌, inl, inr, List, length, set, get_or, get_or-set_same, get_or-set_other, below_more, refl, sym, subst, ap, ◌∙◌, arith}
use Rattle.std.proofs.lemmas.Bool.{cases_lt}
use Rattle.std.proofs.Math.ListN.{length-set}
use Rattle.std.proofs.Math.Nat.{pow-suc}
use Rattle.freq_skips.specs.declared.walk.LevelPlace.{LevelPlace}
use Rattle.freq_skips.specs.Entries.{postings_from}
use Rattle.freq_skips.specs.Walks.{IsOnLevel, IsDatumOfLast, no_level_place, start_in, points_in}
use Rattle.freq_skips.proofs.Powers.{divides-next, divides-power, divides-not}
use Rattle.freq_skips.proofs.LevelPlaceLemmas.{IsOnLevel-same}
use Rattle.freq_skips.proofs.walk.pass_data_of.Goals as goal

pub pass_datum-requires-clause-multiple : goal.pass_datum-requires-clause-multiple
pass_datum-requires-clause-multiple c =
    divides-power c.loop-level.quotient c.args.term.now.rules.skip_interval (c.args.index + 1) c.loop-level.level c.loop-level.invariant.whole c.if-quotient-interval-eq0.true

-- the places, of which one was passed
at-same : (places : List LevelPlace) (k : ℕ) (r : LevelPlace) → k < length places → r ≡ get_or (set places k r) k no_level_place
at-same places k r lt = sym (get_or-set_same places k r no_level_place lt)

at-other : (places : List LevelPlace) (k n : ℕ) (r : LevelPlace) → n ≢ k → get_or places n no_level_place ≡ get_or (set places k r) n no_level_place
at-other places k n r ne = rw get_or-set_other refl

pub loop-level-preserved : goal.loop-level-preserved
loop-level-preserved c =
    let t = c.args.term.now in
    let frq = c.args.frq.now in
    let s = t.rules.skip_interval in
    let k = c.loop-level.level in
    let places = c.loop-level.places in
    let r = c.pass_datum.result in
    let i = c.loop-level.invariant in
    let ps = postings_from t (start_in t frq) in
    let size : k < length places = omega (arith, i.size) in
    record {
      within = omega arith;
      size = length-set places k r ∙ i.size;
      whole = ap (λ (x : ℕ). c.loop-level.quotient / s * x) (ap (λ (n : ℕ). s ^ n) (add-one k) ∙ pow-suc s k) ∙ divides-next c.loop-level.quotient s (s ^ k) (c.args.index + 1) i.whole c.if-quotient-interval-eq0.true;
      fresh = below_more (λ (n : ℕ). IsDatumOfLast t frq n (c.args.index + 1) (get_or (set places k r) n no_level_place).last) k
          (λ n lt. let ne : n ≢ k = omega arith in subst (λ (x : LevelPlace). IsDatumOfLast t frq n (c.args.index + 1) x.last) (at-other places k n r ne) (i.fresh n lt))
          (subst (λ (x : LevelPlace). IsDatumOfLast t frq k (c.args.index + 1) x.last) (at-same places k r size) c.pass_datum.ensures.fresh);
      low = below_more (λ (n : ℕ). IsOnLevel t ps n (points_in t frq n) frq (c.args.index + 1) (get_or (set places k r) n no_level_place)) k
          (λ n lt. let ne : n ≢ k = omega arith in subst (λ (x : LevelPlace). IsOnLevel t ps n (points_in t frq n) frq (c.args.index + 1) x) (at-other places k n r ne) (i.low n lt))
          (subst (λ (x : LevelPlace). IsOnLevel t ps k (points_in t frq k) frq (c.args.index + 1) x) (at-same places k r size) c.pass_datum.ensures.on);
      high = λ n ge lt. let ne : n ≢ k = omega arith in
          subst (λ (x : LevelPlace). IsOnLevel t ps n (points_in t frq n) frq c.args.index x) (at-other places k n r ne) (i.high n (omega arith) lt);
    }

pub returns-else-quotient-interval-eq0-clause-on : goal.returns-else-quotient-interval-eq0-clause-on
returns-else-quotient-interval-eq0-clause-on c = λ n lt.
    let t = c.args.term.now in
    let frq = c.args.frq.now in
    let i = c.loop-level.invariant in
    elim (cases_lt n c.loop-level.level) [
      | inl low ↦ i.low n low
      | inr ge ↦ IsOnLevel-same t (postings_from t (start_in t frq)) n (points_in t frq n) frq c.args.index (get_or c.loop-level.places n no_level_place) c.requires.interval
          (divides-not c.loop-level.quotient t.rules.skip_interval (c.args.index + 1) c.loop-level.level n c.requires.interval i.whole c.if-quotient-interval-eq0.false ge) (i.high n ge lt)
    ]

pub returns-else-quotient-interval-eq0-clause-high : goal.returns-else-quotient-interval-eq0-clause-high
returns-else-quotient-interval-eq0-clause-high c = λ n ge.
    inl (divides-not c.loop-level.quotient c.args.term.now.rules.skip_interval (c.args.index + 1) c.loop-level.level n c.requires.interval c.loop-level.invariant.whole c.if-quotient-interval-eq0.false ge)
