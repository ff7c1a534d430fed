use Rattle.std.proofs.Common.{◌+◌, ◌≤◌, Some, None, sym, subst}
use Rattle.freq_skips.specs.Points.{KnownTerm, IsPoint, most_steps}
use Rattle.seg_reader.specs.declared.place.Place.TheVariants.{At, End}
use Rattle.seg_reader.specs.Postings.{PostingsWalk}
use Rattle.seg_reader.specs.InnerCursor.{walk_at, AreTogether}
use Rattle.seg_reader.proofs.MoveLemmas.{together-found, together-none}
use Rattle.seg_reader.proofs.AheadLemmas.{near-jump}
use Rattle.seg_reader.proofs.NextLemmas.{IsAnswered, moved-jump, answered-found, answered-none}
use Rattle.seg_reader.proofs.postings.PostingsCursor.advance.Goals as goal

pub jump-requires-clause-point : goal.jump-requires-clause-point
jump-requires-clause-point g c = subst (λ (k : KnownTerm). IsPoint k.term k.value c.find-point.result) c.self.invariant.skips c.find-point.ensures.found.point

pub invariant_of-self : goal.invariant_of-self
invariant_of-self g c =
    let i = c.self.inside in
    let p = c.find-point.result in
    let mid = c.jump.new.scan in
    let beside = c.jump.new.beside in
    let new = c.first_from.new.self in
    let m = moved-jump i.scan i.skips i.beside i.place i.omits c.self.invariant c.args.target p mid new beside c.find-point.ensures.found c.jump.ensures.jumped c.first_from.ensures.read c.first_from.ensures.scan c.jump.ensures.occurrences c.jump.ensures.beside in
    subst (λ (k : KnownTerm). AreTogether new k beside End i.omits) (sym c.find-point.ensures.same) (together-none i.scan i.skips i.beside i.place i.omits c.args.target mid new beside m c.in-None.ensures.entry)

pub invariant_of-self-in-Some : goal.invariant_of-self-in-Some
invariant_of-self-in-Some g c =
    let i = c.self.inside in
    let p = c.find-point.result in
    let e = c.in-Some.entry in
    let mid = c.jump.new.scan in
    let beside = c.jump.new.beside in
    let new = c.first_from.new.self in
    let m = moved-jump i.scan i.skips i.beside i.place i.omits c.self.invariant c.args.target p mid new beside c.find-point.ensures.found c.jump.ensures.jumped c.first_from.ensures.read c.first_from.ensures.scan c.jump.ensures.occurrences c.jump.ensures.beside in
    subst (λ (k : KnownTerm). AreTogether new k beside (At e) i.omits) (sym c.find-point.ensures.same) (together-found i.scan i.skips i.beside i.place i.omits c.args.target mid new beside m e c.in-Some.ensures.entry)

pub returns-in-None : goal.returns-in-None
returns-in-None g c =
    let i = c.self.inside in
    let p = c.find-point.result in
    let mid = c.jump.new.scan in
    let beside = c.jump.new.beside in
    let new = c.first_from.new.self in
    let m = moved-jump i.scan i.skips i.beside i.place i.omits c.self.invariant c.args.target p mid new beside c.find-point.ensures.found c.jump.ensures.jumped c.first_from.ensures.read c.first_from.ensures.scan c.jump.ensures.occurrences c.jump.ensures.beside in
    let near = near-jump i.scan i.skips i.beside i.place i.omits c.self.invariant c.args.target mid p c.jump.ensures.jumped c.find-point.ensures.found in
    let le : c.find-point.new.steps ≤ c.args.steps.now + most_steps i.scan.entries.term = subst (λ (k : KnownTerm). c.find-point.new.steps ≤ c.args.steps.now + most_steps k.term) c.self.invariant.skips c.find-point.ensures.bound in
    let all = answered-none i.scan i.skips i.beside i.place i.omits c.args.target mid new beside m near c.args.steps.now c.find-point.new.steps c.first_from.new.steps le c.in-None.ensures.entry c.in-None.ensures.steps in
    let is = subst (λ (x : PostingsWalk). IsAnswered x (walk_at new beside End) c.args.target None c.args.steps.now c.first_from.new.steps) c.self.view_is all in
    record { document = is.document; walk = is.walk; bound = is.bound }

pub returns-in-Some : goal.returns-in-Some
returns-in-Some g c =
    let i = c.self.inside in
    let p = c.find-point.result in
    let e = c.in-Some.entry in
    let mid = c.jump.new.scan in
    let beside = c.jump.new.beside in
    let new = c.first_from.new.self in
    let m = moved-jump i.scan i.skips i.beside i.place i.omits c.self.invariant c.args.target p mid new beside c.find-point.ensures.found c.jump.ensures.jumped c.first_from.ensures.read c.first_from.ensures.scan c.jump.ensures.occurrences c.jump.ensures.beside in
    let near = near-jump i.scan i.skips i.beside i.place i.omits c.self.invariant c.args.target mid p c.jump.ensures.jumped c.find-point.ensures.found in
    let le : c.find-point.new.steps ≤ c.args.steps.now + most_steps i.scan.entries.term = subst (λ (k : KnownTerm). c.find-point.new.steps ≤ c.args.steps.now + most_steps k.term) c.self.invariant.skips c.find-point.ensures.bound in
    let all = answered-found i.scan i.skips i.beside i.place i.omits c.args.target mid new beside m near c.args.steps.now c.find-point.new.steps c.first_from.new.steps le e c.in-Some.ensures.entry c.in-Some.ensures.steps in
    let is = subst (λ (x : PostingsWalk). IsAnswered x (walk_at new beside (At e)) c.args.target (Some e.doc) c.args.steps.now c.first_from.new.steps) c.self.view_is all in
    record { document = is.document; walk = is.walk; bound = is.bound }
