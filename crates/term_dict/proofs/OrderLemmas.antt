-- A field that is not there, and a text beside itself.
use Rattle.std.proofs.Common.{◌≡◌, ℕ, List, Option, None, refl, sym, ap, ◌∙◌}
use Rattle.std.specs.Option.{unwrap_or}
use Rattle.std.specs.Prelude.{slice_get}
use Rattle.std.specs.declared.cmp.Ordering.{Ordering}
use Rattle.std.specs.declared.cmp.Ordering.TheVariants.{Less, Equal, Greater}
use Rattle.std.specs.Ordering.{ordering_reverse}
use Rattle.std.proofs.lemmas.Option.{unwrap_or-slice_get}
use Rattle.lu_prims.specs.Order.{text_cmp}
use Rattle.lu_prims.proofs.Units.{text_order}
use Rattle.lu_types.specs.Tables.{TableField}
use Rattle.term_dict.specs.Terms.{field_of, no_field}

-- where there is no such field
pub field_of-none : (fields : List TableField) (number : ℕ) → None ≡ slice_get fields number → field_of fields number ≡ no_field
field_of-none fields number e = sym (unwrap_or-slice_get fields number no_field) ∙ ap (λ (o : Option TableField). unwrap_or o no_field) (sym e)

-- a text is level with itself
pub text_cmp-same : (s : List ℕ) → text_cmp s s ≡ Equal
text_cmp-same s = go (text_cmp s s) (text_order.antisymm s s)
  where
    go : (o : Ordering) → o ≡ ordering_reverse o → o ≡ Equal
    go Less e = cc
    go Equal e = refl
    go Greater e = cc
