use Rattle.std.proofs.Common.{◌≤◌, ◌<◌, ◌^◌, sym, ◌∙◌, subst}
use Rattle.lu_model.specs.Valid.{IsKept}
use Rattle.seg_merger.specs.TermSteps.{AreWritable}
use Rattle.seg_merger.proofs.PutLemmas.{frequency-range, kept-same, writable-kept}
use Rattle.seg_merger.proofs.terms.entries.add_kept.Goals as goal

pub add_occurrences-requires : goal.add_occurrences-requires
add_occurrences-requires c =
    let e = c.requires.here.0 in
    let same = kept-same c.args.bits e.occurrences (sym c.has_bit.ensures ∙ c.if-has_bit.false) in
    subst (λ n. AreWritable n c.args.postings.now.left) (sym c.requires.start)
    (subst (AreWritable 0) (sym c.requires.here.2) (writable-kept c.args.bits e.occurrences (subst (IsKept c.args.bits) same c.requires.here.3)))

pub returns-in-Ok-clause-range : goal.returns-in-Ok-clause-range
returns-in-Ok-clause-range c =
    let e = c.requires.here.0 in
    let same = kept-same c.args.bits e.occurrences (sym c.has_bit.ensures ∙ c.if-has_bit.false) in
    subst (λ n. (1 ≤ n) × (n < 2 ^ 31)) (sym (c.freq-freq.ensures e c.requires.here.1)) (frequency-range c.args.bits e.occurrences (subst (IsKept c.args.bits) same c.requires.here.3))
