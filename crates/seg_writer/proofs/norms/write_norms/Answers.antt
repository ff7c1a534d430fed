use Rattle.std.proofs.Common.{◌<◌, ◌≤◌, ◌+◌, ◌*◌, ◌++◌, ap, ◌∙◌, subst, arith}
use Rattle.check_index.specs.Norms.{count_with_norms}
use Rattle.seg_writer.specs.NormColumns.{norm_bytes}
use Rattle.seg_writer.proofs.NormFileLemmas.{norms-past, norms-within}
use Rattle.seg_writer.proofs.norms.write_norms.Goals as goal

pub returns-then-count-from : goal.returns-then-count-from
returns-then-count-from c docs are =
    let fields = c.args.fields.now in
    let count = c.norm_count-count.ensures.count in
    let few = c.if-count-eq0.false in
    let some : 0 < count_with_norms fields = omega (arith, count, few) in
    let test = c.if-count-from.true in
    let documents = c.from.ensures in
    let limit = c.from-2.ensures in
    norms-past c.args.limit c.args.documents docs fields are.1 some (subst (λ n. c.args.limit < 4 + n * c.args.documents) count (subst (λ l. l < 4 + c.norm_count-count.result * c.args.documents) limit (subst (λ d. c.from-2.result < 4 + c.norm_count-count.result * d) documents test)))

pub returns-in-Ok-add_all : goal.returns-in-Ok-add_all
returns-in-Ok-add_all c docs are =
    let fields = c.args.fields.now in
    let count = c.norm_count-count.ensures.count in
    let few = c.if-count-eq0.false in
    let some : 0 < count_with_norms fields = omega (arith, count, few) in
    let test = c.if-count-from.false in
    let documents = c.from.ensures in
    let limit = c.from-2.ensures in
    norms-within c.args.limit c.args.documents docs fields c.add_all.new.writer c.new-in-Ok-add_all.result are.1 some (subst (λ n. 4 + n * c.args.documents ≤ c.args.limit) count (subst (λ l. 4 + c.norm_count-count.result * c.args.documents ≤ l) limit (subst (λ d. 4 + c.norm_count-count.result * d ≤ c.from-2.result) documents test)))
    (c.in-Ok-add_all.ensures docs are ∙ ap (λ w. w ++ norm_bytes docs fields) c.in-Ok.ensures) (c.new-in-Ok-add_all.ensures ∙ c.finish.ensures)
