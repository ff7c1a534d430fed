use Rattle.std.proofs.Common.{◌≡◌, ℕ, ◌+◌, ◌<◌, ◌≤◌, sym, ap, subst, ◌∙◌, arith}
use Rattle.freq_skips.specs.Levels.{level_count}
use Rattle.freq_skips.specs.declared.skip_point.SkipPoint.{SkipPoint}
use Rattle.freq_skips.specs.Walks.{start_in, value_from}
use Rattle.freq_skips.specs.ProxPlaces.{HasProxPlaces}
use Rattle.lu_prims.specs.Steps.{ticked}
use Rattle.freq_skips.specs.Points.{KnownTerm, IsLastBelow, find_steps, most_steps}
use Rattle.freq_skips.proofs.FoundLemmas.{reached, reached-if, entries-small, found-last, found-prox}
use Rattle.freq_skips.proofs.SearchedLemmas.{steps-few}
use Rattle.lu_prims.proofs.StepLemmas.{ticked-le}
use Rattle.freq_skips.proofs.PassLemmas.{HasPassedData-small}
use Rattle.freq_skips.proofs.skips.Skips.find.Goals as goal

pub point_behind-requires-clause-entries : goal.point_behind-requires-clause-entries
point_behind-requires-clause-entries g c =
    let t = c.self.inside.term in
    let h = c.descended-walk.ensures.passed in
    let two = c.self.invariant.search.good.interval in entries-small t c.descended-walk.result.count c.self.invariant.search.count (omega arith) h.within

pub point_behind-requires-clause-doc : goal.point_behind-requires-clause-doc
point_behind-requires-clause-doc g c =
    let w = c.descended-walk.result in
    (HasPassedData-small c.self.inside.term c.self.inside.frq.now 0 w.count w.last c.self.invariant.search c.descended-walk.ensures.passed).doc

pub point_behind-requires-clause-freq : goal.point_behind-requires-clause-freq
point_behind-requires-clause-freq g c =
    let w = c.descended-walk.result in
    let can = c.self.invariant.search in
    let sums = HasPassedData-small c.self.inside.term c.self.inside.frq.now 0 w.count w.last can c.descended-walk.ensures.passed in
    omega (arith, sums.freq, can.small)

pub point_behind-requires-clause-prox : goal.point_behind-requires-clause-prox
point_behind-requires-clause-prox g c =
    let w = c.descended-walk.result in
    (HasPassedData-small c.self.inside.term c.self.inside.frq.now 0 w.count w.last c.self.invariant.search c.descended-walk.ensures.passed).prox

pub returns-clause-found : goal.returns-clause-found
returns-clause-found g c =
    let t = c.self.inside.term in
    let frq = c.self.inside.frq.now in
    let w = c.descended-walk.result in
    let found = found-last t frq c.args.target w.count w.last c.self.invariant.search c.descended-walk.ensures.passed c.descended-walk.ensures.below in
    let is : c.point_behind.result ≡ reached t w.count w.last = c.point_behind.ensures ∙ reached-if t w.count w.last in
    subst (λ (k : KnownTerm). IsLastBelow k c.args.target c.point_behind.result) c.self.view_is (subst (λ (p : SkipPoint). IsLastBelow (record { term = t; value = value_from t (start_in t frq) }) c.args.target p) (sym is) found)

pub returns-clause-prox : goal.returns-clause-prox
returns-clause-prox g c =
    let t = c.self.inside.term in
    let frq = c.self.inside.frq.now in
    let w = c.descended-walk.result in
    let is : c.point_behind.result ≡ reached t w.count w.last = c.point_behind.ensures ∙ reached-if t w.count w.last in
    subst (λ (k : KnownTerm). (prox : ℕ → ℕ) → HasProxPlaces k.term k.value prox → 0 < c.point_behind.result.passed → c.point_behind.result.prox ≡ k.term.info.prox + prox c.point_behind.result.passed) c.self.view_is
    (subst (λ (p : SkipPoint). (prox : ℕ → ℕ) → HasProxPlaces t (value_from t (start_in t frq)) prox → 0 < p.passed → p.prox ≡ t.info.prox + prox p.passed) (sym is)
    (λ prox places pos. found-prox t frq w.count w.last prox c.self.invariant.search c.descended-walk.ensures.passed places pos))

pub returns-clause-steps : goal.returns-clause-steps
returns-clause-steps g c =
    c.descended-walk.ensures.steps ∙ ap (λ (k : KnownTerm). ticked (find_steps k.term k.value c.args.target (level_count k.term)) c.args.steps.now) c.self.view_is

pub returns-clause-bound : goal.returns-clause-bound
returns-clause-bound g c =
    let t = c.self.inside.term in
    let v = value_from t (start_in t c.self.inside.frq.now) in
    let few = steps-few t v c.args.target in
    let le = ticked-le (find_steps t v c.args.target (level_count t)) c.args.steps.now in
    let steps = c.descended-walk.ensures.steps in
    subst (λ (k : KnownTerm). c.descended-walk.new.steps ≤ c.args.steps.now + most_steps k.term) c.self.view_is (omega (arith, few, le, steps))
