use Rattle.lu_grammar.proofs.Codecs.{turns-none, turns-whole, turns-trailing}
use Rattle.freq_skips.specs.Terms.{term_plan}
use Rattle.freq_skips.proofs.TurnLemmas.{terms-more, terms-fault}
use Rattle.freq_skips.proofs.laws.terms_in_turn.Goals as goal

pub returns : goal.returns
returns c = record {
  none = λ frq fits. turns-none term_plan frq fits;
  more = terms-more;
  whole = λ terms values frq h. turns-whole term_plan terms frq values h;
  fault = terms-fault;
  trailing = λ terms values frq place fits h. turns-trailing term_plan frq fits terms values place h;
}
