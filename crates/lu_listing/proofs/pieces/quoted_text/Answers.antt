use Rattle.std.proofs.Common.{◌≡◌, ◌<◌, ◌++◌, ◌∷◌, List, [], ◌+◌, ℕ, drop, get_or, length, ap, arith, rules}
use Rattle.std.specs.List.{flat_map}
use Rattle.lu_prims.specs.Quoted.{escaped}
use Rattle.lu_listing.proofs.PieceLemmas.{run, stands-more, stands-none, left-escaped}
use Rattle.lu_listing.proofs.PrintingLemmas.{prints-same, prints-both, lacks-less}
use Rattle.lu_listing.proofs.pieces.quoted_text.Goals as goal
use Rattle.lu_listing.proofs.pieces.quoted_text.Goals.{then-is_escaped, else-is_escaped}

pub loop-at-preserved : goal.loop-at-preserved
loop-at-preserved g c =
    let text = c.args.text.now in
    let from = c.loop-at.from in
    let at = c.loop-at.at in
    let same : c.as_bytes-bytes.result.now ≡ text = c.as_bytes-bytes.ensures.value in
    let lt : at < length text = search rules in
    let so_far = c.loop-at.invariant in
    elim c.if-is_escaped.branch [
      | then-is_escaped w ↦
          rw (w.printer-is, w.out-is, w.from-is) (
            omega arith,
            stands-none text (at + 1),
            lacks-less _ _ _ (run text from at ++ escaped (get_or text at 0)) (flat_map escaped (drop (at + 1) text) ++ 34 ∷ []) (flat_map escaped (drop from text) ++ 34 ∷ []) _ so_far.2
                (prints-both _ _ _ (run text from at) (escaped (get_or text at 0)) (prints-same _ _ _ (run text from at) (ap (λ (t : List ℕ). run t from at) same) w.put.ensures)
                (prints-same _ _ _ (escaped (get_or text at 0)) (ap (λ (t : List ℕ). escaped (get_or t at 0)) same) w.escaped_text.ensures))
                (left-escaped text (34 ∷ []) from at so_far.0 lt so_far.1),
          )
      | else-is_escaped w ↦ rw (w.printer-is, w.out-is, w.from-is) (omega (arith, so_far.0), stands-more text from at so_far.0 lt (search rules) so_far.1, so_far.2)
    ]
