use Rattle.lu_grammar.proofs.Codecs.{turns-none, turns-whole, turns-trailing}
use Rattle.positions.specs.Terms.{term_plan}
use Rattle.positions.proofs.TurnLemmas.{terms-more, terms-fault}
use Rattle.positions.proofs.laws.terms_in_turn.Goals as goal

pub returns : goal.returns
returns c = record {
  none = λ prx fits. turns-none term_plan prx fits;
  more = terms-more;
  whole = λ terms values prx h. turns-whole term_plan terms prx values h;
  fault = terms-fault;
  trailing = λ terms values prx place fits h. turns-trailing term_plan prx fits terms values place h;
}
