use Rattle.lu_model.proofs.Numbers.{number_stays, place_of-number}
use Rattle.lu_model.proofs.laws.numbers_stay.Goals as goal

pub returns-clause-place : goal.returns-clause-place
returns-clause-place c = place_of-number

pub returns-clause-stays : goal.returns-clause-stays
returns-clause-stays c = number_stays
