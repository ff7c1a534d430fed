use Rattle.std.proofs.Common.{◌≡◌, refl, sym, ◌∙◌, subst, ℕ, List, [], ◌∷◌, length, All, arith}
use Rattle.std.proofs.lemmas.Bool.{eqb-true}
use Rattle.std.proofs.lemmas.List.{take_all}
use Rattle.lu_types.specs.declared.document.Token.{Token}
use Rattle.seg_writer.proofs.AllUsesLemmas.{all-more}
use Rattle.seg_writer.proofs.payloads.has_payloads.Goals as goal

length-none : (bytes : List ℕ) → length bytes ≡ 0 → bytes ≡ []
length-none [] none = refl
length-none (b ∷ bytes) none = absurd (omega (arith, none))

pub loop-token-preserved : goal.loop-token-preserved
loop-token-preserved c =
    let same = c.is_empty.ensures in
    let none : c.token-item.result.payload ≡ [] = sym c.as_slice.ensures ∙ length-none c.as_slice.result.now (eqb-true (length c.as_slice.result.now) 0 (sym same ∙ c.if-not-is_empty.false)) in
    all-more (λ (token : Token). token.payload ≡ []) c.args.tokens.now c.loop-token.token-index c.token-item.result c.loop-token-test.true c.loop-token.invariant
    (subst (λ (token : Token). token.payload ≡ []) c.token-item.is none)

pub returns : goal.returns
returns c bare = subst (All (λ (token : Token). token.payload ≡ [])) (take_all c.loop-token.token-index c.args.tokens.now c.loop-token-test.false) c.loop-token.invariant
