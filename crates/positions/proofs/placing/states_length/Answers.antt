use Rattle.std.proofs.Common.{◌≡◌, Ok, sym, subst, ◌∙◌}
use Rattle.lu_grammar.specs.Bytes.{Cursor}
use Rattle.lu_grammar.specs.Parts.{vint}
use Rattle.lu_grammar.specs.Reading.{read_part}
use Rattle.positions.proofs.placing.states_length.Goals as goal

pub returns-in-Ok : goal.returns-in-Ok
returns-in-Ok c = λ odd. (
  c.in-Ok.delta,
  c.vint.new.self,
  subst (λ (d : Cursor). read_part vint d ≡ Ok (c.in-Ok.delta, c.vint.new.self)) c.at-cur.ensures c.in-Ok.ensures,
  sym c.is_odd.ensures ∙ odd,
)
