use Rattle.std.proofs.Common.{◌≡◌, ℕ, List, [], ◌∷◌, ◌++◌, ◌-◌, get_or, refl, ap, ◌∙◌, arith}
use Rattle.lu_grammar.specs.Parts.{groups}
use Rattle.doc_marks.proofs.WriteLemmas.{pass-zero, put-some, all-put}
use Rattle.doc_marks.proofs.writing.put_pairs.Goals as goal
use Rattle.doc_marks.proofs.writing.put_pairs.Goals.{then-byte-ne0+in_ok-put_vint+in_ok-push, else-byte-ne0}

pub loop-byte-preserved : goal.loop-byte-preserved
loop-byte-preserved c =
    let h = c.loop-byte.invariant in
    let i = c.loop-byte.byte-index in
    let bytes = c.args.bytes.now in
    let b = get_or bytes i 0 in
    let before = c.loop-byte.out.items in
    let last = c.loop-byte.last in
    elim c.if-byte-ne0.branch [
      | then-byte-ne0+in_ok-put_vint+in_ok-push w ↦
          let written : w.push.new.self.items ≡ (before ++ groups 4 (i - last)) ++ b ∷ [] =
          w.in_ok-push.ensures.items ∙ ap (λ (t : List ℕ). t ++ b ∷ []) (w.in_ok-put_vint.ensures.ok ∙ ap (λ (n : ℕ). before ++ groups 4 (n - last)) h.same) in
          rw (w.out-is, w.last-is, h.same, written) (record { left = put-some before _ last i b bytes c.loop-byte-test.true refl w.if-byte-ne0.true h.left; same = refl; below = omega arith })
      | else-byte-ne0 w ↦
          rw (w.out-is, w.last-is) (record { left = pass-zero before _ last i b bytes c.loop-byte-test.true refl w.if-byte-ne0.false h.left; same = omega (arith, h.same); below = omega (arith, h.below) })
    ]

pub returns : goal.returns
returns c = all-put c.loop-byte.out.items _ c.loop-byte.last c.loop-byte.byte-index c.args.bytes.now c.loop-byte-test.false c.loop-byte.invariant.left
