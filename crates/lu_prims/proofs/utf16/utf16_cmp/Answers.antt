use Rattle.std.proofs.Common.{◌≡◌, ℕ, List, sym, ap, ◌∙◌}
use Rattle.std.specs.Str.{IsUtf8}
use Rattle.std.specs.declared.cmp.Ordering.{Ordering}
use Rattle.lu_prims.specs.Order.{text_cmp, bytes_cmp}
use Rattle.lu_prims.proofs.Units.{text_cmp_is}
use Rattle.lu_prims.proofs.utf16.utf16_cmp.Goals as goal

-- what the bytes by their rank say of the texts
of_bytes : (xs ys s t : List ℕ) (o : Ordering) → xs ≡ s → ys ≡ t → IsUtf8 xs → IsUtf8 ys → o ≡ bytes_cmp xs ys → o ≡ text_cmp s t
of_bytes xs ys s t o p q hx hy e = e ∙ sym (text_cmp_is xs ys hx hy) ∙ ap (λ (x : List ℕ). text_cmp x ys) p ∙ ap (text_cmp s) q

pub returns : goal.returns
returns c =
    of_bytes c.as_bytes.result.now c.as_bytes-2.result.now c.args.a.now c.args.b.now c.tail_cmp.result c.as_bytes.ensures.value c.as_bytes-2.ensures.value c.as_bytes.ensures.utf8 c.as_bytes-2.ensures.utf8 c.tail_cmp.ensures
