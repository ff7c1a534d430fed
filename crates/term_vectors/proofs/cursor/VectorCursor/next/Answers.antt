use Rattle.std.proofs.Common.{◌≡◌, ◌<◌, ◌-◌, ◌∷◌, ℕ, [], sym, ap, subst, ◌∙◌, arith}
use Rattle.lu_grammar.specs.Bytes.{Cursor, place_in}
use Rattle.lu_grammar.specs.Parts.{num}
use Rattle.lu_grammar.specs.Reading.{read_part}
use Rattle.term_vectors.specs.Vectors.{StoredVector}
use Rattle.term_vectors.specs.InnerCursors.{further_left, vectors_left, AreVectorsLeft}
use Rattle.term_vectors.proofs.CursorLemmas.{none-left, number-no_err, vector-there, Moved, moved, num_in}
use Rattle.term_vectors.proofs.cursor.VectorCursor.next.Goals as goal

pub returns-then-self-eq0 : goal.returns-then-self-eq0
returns-then-self-eq0 c =
    let s = c.self.inside in
    let none : c.args.self.now ≡ [] = sym c.self.view_is ∙ none-left s.tvd.now s.numbers s.further s.left s.place s.tvf.now c.if-self-eq0.true in
    (none, none)

pub unreachable-requires : goal.unreachable-requires
unreachable-requires c =
    let s = c.self.inside in
    number-no_err s.tvd.now s.numbers s.further s.left s.place s.tvf.now (omega (arith, c.if-self-eq0.false)) c.self.invariant c.in-Err.field-0
    (ap (λ (d : Cursor). read_part num d) (sym c.at-beside.ensures) ∙ c.in-Err.ensures.takes.0)

pub vector_at-vector-requires : goal.vector_at-vector-requires
vector_at-vector-requires c =
    let s = c.self.inside in
    vector-there s.tvd.now s.numbers s.further s.left s.place s.tvf.now (omega (arith, c.if-self-eq0.false)) c.self.invariant c.in-Ok.field c.num.new.self
    (ap (λ (d : Cursor). read_part num d) (sym c.at-beside.ensures) ∙ c.in-Ok.ensures.takes)

pub invariant_of-self : goal.invariant_of-self
invariant_of-self c =
    let s = c.self.inside in
    let some : 0 < s.left = omega (arith, c.if-self-eq0.false) in
    let read = ap (λ (d : Cursor). read_part num d) (sym c.at-beside.ensures) ∙ c.in-Ok.ensures.takes in
    let within = num_in s.tvd.now s.numbers c.in-Ok.field c.num.new.self c.self.invariant.tvd_bytes c.self.invariant.numbers_within read in
    let to = c.step_behind-step.ensures (further_left (s.left - 1) s.place (place_in s.tvd.now s.further)) c.self.invariant.further_end c.self.invariant.placed_so in
    let next : Moved s.tvd.now s.numbers s.further s.left s.place s.tvf.now some c.self.invariant c.in-Ok.field c.num.new.self.place c.step_behind-step.result.further c.step_behind-step.result.place =
    moved s.tvd.now s.numbers s.further s.left s.place s.tvf.now some c.self.invariant c.in-Ok.field c.num.new.self c.step_behind-step.result read within to in
    subst (λ (n : ℕ). AreVectorsLeft s.tvd.now n c.step_behind-step.result.further (s.left - 1) c.step_behind-step.result.place s.tvf.now) (sym c.place-self-inside.ensures) next.left_so

pub returns : goal.returns
returns c =
    let s = c.self.inside in
    let some : 0 < s.left = omega (arith, c.if-self-eq0.false) in
    let read = ap (λ (d : Cursor). read_part num d) (sym c.at-beside.ensures) ∙ c.in-Ok.ensures.takes in
    let within = num_in s.tvd.now s.numbers c.in-Ok.field c.num.new.self c.self.invariant.tvd_bytes c.self.invariant.numbers_within read in
    let to = c.step_behind-step.ensures (further_left (s.left - 1) s.place (place_in s.tvd.now s.further)) c.self.invariant.further_end c.self.invariant.placed_so in
    let next : Moved s.tvd.now s.numbers s.further s.left s.place s.tvf.now some c.self.invariant c.in-Ok.field c.num.new.self.place c.step_behind-step.result.further c.step_behind-step.result.place =
    moved s.tvd.now s.numbers s.further s.left s.place s.tvf.now some c.self.invariant c.in-Ok.field c.num.new.self c.step_behind-step.result read within to in
    sym c.self.view_is ∙ next.is
    ∙ ap (λ (v : StoredVector). v ∷ vectors_left s.tvd.now c.num.new.self.place c.step_behind-step.result.further (s.left - 1) c.step_behind-step.result.place s.tvf.now) (sym c.vector_at-vector.ensures)
    ∙ ap (λ (n : ℕ). c.vector_at-vector.result ∷ vectors_left s.tvd.now n c.step_behind-step.result.further (s.left - 1) c.step_behind-step.result.place s.tvf.now) (sym c.place-self-inside.ensures)
