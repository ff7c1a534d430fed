use Rattle.std.proofs.Common.{◌≡◌, ◌++◌, ℕ, List, take, drop, Option, sym, ap, ◌∙◌}
use Rattle.std.specs.Ordering.{is_lt}
use Rattle.lu_prims.specs.Order.{bytes_cmp}
use Rattle.lu_prims.proofs.TextLemmas.{text_cmp-tail}
use Rattle.term_vectors.specs.Vectors.{is_above}
use Rattle.term_vectors.proofs.OrderLemmas.{text_before-some}
use Rattle.term_vectors.proofs.texts.LastText.is_below.Goals as goal

pub returns : goal.returns
returns c = λ text.
    let bytes = c.args.self.now.bytes.items in
    let prefix = c.args.entry.now.prefix in
    let suffix = c.args.entry.now.suffix.now in
    let tail : c.split_at.result.1.now ≡ drop prefix bytes = c.split_at.ensures.back ∙ ap (drop prefix) c.as_slice.ensures.value in
    c.is_lt.ensures ∙ ap is_lt (c.tail_cmp.ensures ∙ ap (λ (t : List ℕ). bytes_cmp t suffix) tail ∙ sym (text_cmp-tail bytes suffix prefix c.requires.sound.text text))
    ∙ ap (λ (o : Option (List ℕ)). is_above o (take prefix bytes ++ suffix)) (sym (text_before-some c.args.self.now c.if-not-self.false))
