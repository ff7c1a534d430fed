use Rattle.std.proofs.Common.{Some, None, ◌∷◌, ◌≡◌, [], subst, arith}
use Rattle.lu_model.specs.Index.{IndexedEntry}
use Rattle.seg_reader.specs.declared.place.Place.TheVariants.{At, End}
use Rattle.seg_reader.specs.Postings.{PostingsWalk, entries_left}
use Rattle.seg_reader.specs.InnerCursor.{walk_at}
use Rattle.seg_reader.proofs.MoveLemmas.{together-found, together-none}
use Rattle.seg_reader.proofs.AheadLemmas.{left-found, left-none, near-zero}
use Rattle.seg_reader.proofs.NextLemmas.{IsAnswered, moved-next, answered-found, answered-none}
use Rattle.seg_reader.proofs.postings.PostingsCursor.next.Goals as goal

pub invariant_of-self : goal.invariant_of-self
invariant_of-self g c =
    let i = c.self.inside in
    let new = c.first_from.new.self in
    let m = moved-next i.scan i.skips i.beside i.place i.omits c.self.invariant new c.first_from.ensures.read c.first_from.ensures.scan in
    together-none i.scan i.skips i.beside i.place i.omits 0 i.scan new i.beside m c.in-None.ensures.entry

pub invariant_of-self-in-Some : goal.invariant_of-self-in-Some
invariant_of-self-in-Some g c =
    let i = c.self.inside in
    let new = c.first_from.new.self in
    let m = moved-next i.scan i.skips i.beside i.place i.omits c.self.invariant new c.first_from.ensures.read c.first_from.ensures.scan in
    together-found i.scan i.skips i.beside i.place i.omits 0 i.scan new i.beside m c.in-Some.entry c.in-Some.ensures.entry

pub returns-in-None : goal.returns-in-None
returns-in-None g c =
    let i = c.self.inside in
    let new = c.first_from.new.self in
    let w = walk_at i.scan i.beside i.place in
    let m = moved-next i.scan i.skips i.beside i.place i.omits c.self.invariant new c.first_from.ensures.read c.first_from.ensures.scan in
    let all = answered-none i.scan i.skips i.beside i.place i.omits 0 i.scan new i.beside m (near-zero w i.scan.passed) c.args.steps.now c.args.steps.now c.first_from.new.steps (omega arith) c.in-None.ensures.entry c.in-None.ensures.steps in
    let is = subst (λ (x : PostingsWalk). IsAnswered x (walk_at new i.beside End) 0 None c.args.steps.now c.first_from.new.steps) c.self.view_is all in
    let left = left-none i.scan i.skips i.beside i.place i.omits i.scan new i.beside m c.in-None.ensures.entry in
    record {
      document = is.document;
      walk = is.walk;
      left = subst (λ (x : PostingsWalk). (entries_left x ≡ []) × (entries_left (walk_at new i.beside End) ≡ [])) c.self.view_is left;
      bound = is.bound;
    }

pub returns-in-Some : goal.returns-in-Some
returns-in-Some g c =
    let i = c.self.inside in
    let new = c.first_from.new.self in
    let e = c.in-Some.entry in
    let w = walk_at i.scan i.beside i.place in
    let m = moved-next i.scan i.skips i.beside i.place i.omits c.self.invariant new c.first_from.ensures.read c.first_from.ensures.scan in
    let all = answered-found i.scan i.skips i.beside i.place i.omits 0 i.scan new i.beside m (near-zero w i.scan.passed) c.args.steps.now c.args.steps.now c.first_from.new.steps (omega arith) e c.in-Some.ensures.entry c.in-Some.ensures.steps in
    let is = subst (λ (x : PostingsWalk). IsAnswered x (walk_at new i.beside (At e)) 0 (Some e.doc) c.args.steps.now c.first_from.new.steps) c.self.view_is all in
    let left = left-found i.scan i.skips i.beside i.place i.omits i.scan new i.beside m e c.in-Some.ensures.entry in
    record {
      document = is.document;
      walk = is.walk;
      left = subst (λ (x : PostingsWalk). (y : IndexedEntry) × ((walk_at new i.beside (At e)).here ≡ Some y) × (entries_left x ≡ y ∷ entries_left (walk_at new i.beside (At e)))) c.self.view_is left;
      bound = is.bound;
    }
