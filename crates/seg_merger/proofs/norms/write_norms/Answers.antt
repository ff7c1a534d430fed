use Rattle.std.proofs.Common.{◌<◌, ◌≤◌, ◌+◌, ◌*◌, ◌++◌, ap, sym, ◌∙◌, subst, map, Some, None, arith}
use Rattle.std.specs.Prelude.{cond}
use Rattle.check_index.specs.Norms.{count_with_norms}
use Rattle.lu_types.specs.Tables.{TableField}
use Rattle.lu_model.specs.Contents.{has_norms}
use Rattle.seg_merger.specs.Merged.{indexes_of}
use Rattle.seg_merger.specs.Renumbered.{merged_norms}
use Rattle.seg_merger.proofs.NormLemmas.{norms-past, norms-within, norms_of_fields}
use Rattle.seg_merger.proofs.SourceLemmas.{norms-merged, size-merged}
use Rattle.seg_merger.proofs.norms.write_norms.Goals as goal

pub returns-then-count-from : goal.returns-then-count-from
returns-then-count-from c =
    let indexes = indexes_of c.args.readers.now in
    let fields = c.args.fields.now in
    let count = c.norm_count-count.ensures.count in
    let few = c.if-count-eq0.false in
    let some : 0 < count_with_norms fields = omega (arith, count, few) in
    let test = c.if-count-from.true in
    let long = subst (λ n. c.args.limit < 4 + n * c.args.documents) count (subst (λ l. l < 4 + c.norm_count-count.result * c.args.documents) c.from-2.ensures (subst (λ d. c.from-2.result < 4 + c.norm_count-count.result * d) c.from.ensures test)) in
    let is = norms-merged indexes ∙ ap (map (λ (f : TableField). cond (has_norms f.bits) (Some (merged_norms indexes f.name)) None)) (sym c.requires.fields) in
    norms-past indexes fields _ is c.args.limit c.args.documents (c.requires.documents ∙ size-merged indexes) some long

pub returns-in-Ok-add_fields : goal.returns-in-Ok-add_fields
returns-in-Ok-add_fields c =
    let indexes = indexes_of c.args.readers.now in
    let fields = c.args.fields.now in
    let count = c.norm_count-count.ensures.count in
    let few = c.if-count-eq0.false in
    let some : 0 < count_with_norms fields = omega (arith, count, few) in
    let test = c.if-count-from.false in
    let short = subst (λ n. 4 + n * c.args.documents ≤ c.args.limit) count (subst (λ l. 4 + c.norm_count-count.result * c.args.documents ≤ l) c.from-2.ensures (subst (λ d. 4 + c.norm_count-count.result * d ≤ c.from-2.result) c.from.ensures test)) in
    let is = norms-merged indexes ∙ ap (map (λ (f : TableField). cond (has_norms f.bits) (Some (merged_norms indexes f.name)) None)) (sym c.requires.fields) in
    norms-within indexes fields _ is c.args.limit c.args.documents c.add_fields.new.writer c.new-in-Ok-add_fields.result (c.requires.documents ∙ size-merged indexes) some short
    (c.in-Ok-add_fields.ensures ∙ ap (λ w. w ++ norms_of_fields indexes fields) c.in-Ok.ensures) (c.new-in-Ok-add_fields.ensures ∙ c.finish.ensures)
