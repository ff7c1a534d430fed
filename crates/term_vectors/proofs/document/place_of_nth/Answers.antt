use Rattle.std.proofs.Common.{◌≡◌, ◌-◌, ◌∷◌, ℕ, get_or, refl, ap, ◌∙◌, arith}
use Rattle.term_vectors.proofs.FieldLemmas.{reads_further}
use Rattle.term_vectors.proofs.SlotLemmas.{further-many, place-next, place-no_fault}
use Rattle.term_vectors.proofs.document.place_of_nth.Goals as goal

pub loop-i-init : goal.loop-i-init
loop-i-init c = λ count further d le e.
    let all : count - 0 ≡ count = omega arith in
    record { left = ap (λ (k : ℕ). reads_further k c.args.place c.args.beside.now) all ∙ e; is = refl }

pub unreachable-requires : goal.unreachable-requires
unreachable-requires c =
    let (count, x, e, le) = c.requires in
    place-no_fault count c.args.place x.0 x.1 c.loop-i._i c.loop-i.last c.loop-i.beside c.in-Err.field-0 (c.loop-i.invariant count x.0 x.1 le e) (omega arith) c.in-Err.ensures

pub loop-i-preserved : goal.loop-i-preserved
loop-i-preserved c = λ count further d le e.
    let made = c.in-Ok.ensures in
    place-next count c.args.place further d c.loop-i._i c.loop-i.last c.loop-i.beside made.0 c.next_place.new.here c.in-Ok.next (further-many count c.args.place c.args.beside.now further d e) (c.loop-i.invariant count further d le e) (omega arith) made.1 made.2

pub returns : goal.returns
returns c = λ count further d le e.
    let w = c.loop-i.invariant count further d le e in
    let end : c.loop-i._i ≡ c.args.nth = omega arith in
    w.is ∙ ap (λ (k : ℕ). get_or (c.args.place ∷ further) k 0) end
