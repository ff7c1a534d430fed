use Rattle.std.proofs.Common.{ℕ, suc, add-one, ◌*◌, ◌-◌, ◌<◌, arith, refl, sym, subst, ap, ◌∙◌}
use Rattle.freq_skips.specs.Entries.{postings_from}
use Rattle.freq_skips.specs.Walking.{FollowsAbove}
use Rattle.freq_skips.proofs.Powers.{power-pos, stride-next, stride-passed}
use Rattle.freq_skips.proofs.WantedLemmas.{posting-at, highest-is, wanted-is}
use Rattle.freq_skips.proofs.level.wanted_next.Goals as goal

pub returns-clause-goes_on : goal.returns-clause-goes_on
returns-clause-goes_on c = λ start end points all stands before above.
    let t = c.args.term.now in
    let l = c.args.level.now in
    let ps = postings_from t start in
    let pos : 0 < l.stride = subst (λ (n : ℕ). 0 < n) (sym c.requires.stride) (power-pos t.rules.skip_interval (suc l.number) c.requires.interval) in
    let passed = c.pass_to.ensures start end all stands (stride-next c.args.passed c.args.entries.now.index l.stride c.entry_index.result pos c.entry_index.ensures.index before) in
    let below : c.pass_to.new.self.index < t.info.doc_freq = omega (arith, passed.1, c.entry_index.ensures.below) in
    let p = posting-at t start end c.pass_to.new.self.index c.pass_to.new.self.doc c.pass_to.new.self.cur all passed.0 below in
    let child = c.child_above.ensures.goes_on ps l.number points (add-one l.number) (subst (λ (k : ℕ). FollowsAbove t ps k points c.args.passed c.args.above.now) (sym (add-one l.number)) above) c.requires.within in
    let index = passed.1 ∙ c.entry_index.ensures.index ∙ ap (λ (n : ℕ). suc c.args.passed * n - 1) c.requires.stride in (
      wanted-is t ps l.number l.stated points c.args.passed c.pass_to.new.self.index c.pass_to.new.self.doc c.pass_to.new.self.cur.place _ c.is_none.result index p.0 p.1
          (highest-is t ps (suc l.number) points c.args.passed c.args.above.now c.is_none.result c.is_none.ensures above)
          c.is_first.ensures refl (c.saturating_sub.ensures ∙ ap (λ (n : ℕ). n - t.info.freq) c.place.ensures) child.0 c.length_due.ensures,
      subst (λ (k : ℕ). FollowsAbove t ps k points (suc c.args.passed) c.child_above.new.above) (add-one l.number) child.1,
    )

pub returns-clause-stands : goal.returns-clause-stands
returns-clause-stands c = λ start end all stands before.
    let t = c.args.term.now in
    let l = c.args.level.now in
    let pos : 0 < l.stride = subst (λ (n : ℕ). 0 < n) (sym c.requires.stride) (power-pos t.rules.skip_interval (suc l.number) c.requires.interval) in
    let passed = c.pass_to.ensures start end all stands (stride-next c.args.passed c.args.entries.now.index l.stride c.entry_index.result pos c.entry_index.ensures.index before) in
    (passed.0, stride-passed c.args.passed c.pass_to.new.self.index l.stride c.entry_index.result c.entry_index.ensures.index passed.1)
