use Rattle.std.proofs.Common.{List}
use Rattle.std.specs.Prelude.{All}
use Rattle.std.specs.Str.{IsUtf8}
use Rattle.lu_model.specs.Index.{Term, term_cmp}
use Rattle.lu_model.proofs.Words.{IsIn, IsTerm}
use Rattle.lu_model.proofs.Among.{in-from_contains, contains-from_in}
use Rattle.lu_model.proofs.Each.{each_at, each-from_all}
use Rattle.lu_model.proofs.Ordered.{rises-in_order, from_in_order, in_in_order, only_in_order}
use Rattle.lu_model.proofs.Alike.{term_order, terms_level}
use Rattle.lu_model.proofs.laws.terms_in_order.Goals as goal

abbrev HasTexts : Term → Type 0
HasTexts t = IsUtf8 t.field × IsUtf8 t.text

is_term : (terms : List Term) → All HasTexts terms → (t : Term) → IsIn t terms → IsTerm t
is_term terms h t k = let one = each_at HasTexts t terms (each-from_all HasTexts terms h) k in record { field = one.0; text = one.1 }

pub returns-clause-rises : goal.returns-clause-rises
returns-clause-rises c = rises-in_order term_cmp term_order

pub returns-clause-same : goal.returns-clause-same
returns-clause-same c = λ terms t h. (
  λ k. contains-from_in t terms (from_in_order term_cmp term_order t terms (in-from_contains t _ k)),
  λ k. contains-from_in t _ (in_in_order term_cmp term_order t terms (λ x y p q. terms_level x y (is_term terms h x p) (is_term terms h y q)) (in-from_contains t terms k)),
)

pub returns-clause-only : goal.returns-clause-only
returns-clause-only c = λ terms rising h rise same. only_in_order term_cmp term_order terms rising (λ x y p q. terms_level x y (is_term terms h x p) (is_term terms h y q)) rise (record {
  to = λ t k. in-from_contains t terms ((same t).0 (contains-from_in t rising k));
  from = λ t k. in-from_contains t rising ((same t).1 (contains-from_in t terms k));
})
