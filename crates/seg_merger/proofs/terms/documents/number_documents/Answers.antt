use Rattle.std.proofs.Common.{◌≡◌, refl, sym, ap, ◌∙◌, arith}
use Rattle.seg_merger.specs.TermNumbers.{live_before}
use Rattle.seg_merger.proofs.DocumentLemmas.{counted-all, none-deleted}
use Rattle.seg_merger.proofs.terms.documents.number_documents.Goals as goal

pub returns-then-deleted-eq0-clause-numbers : goal.returns-then-deleted-eq0-clause-numbers
returns-then-deleted-eq0-clause-numbers c =
    let index = c.args.reader.now.index in
    let none = none-deleted index.deleted (sym c.deleted.ensures ∙ c.if-deleted-eq0.true) in
    let all : live_before index.deleted index.size ≡ index.size = ap (λ ds. live_before ds index.size) none ∙ counted-all index.size in
    let size = c.size-size.ensures.size in
    let room = c.requires in
    record {
      docs = (refl, none, omega (arith, room, all));
      next = omega (arith, size, all);
    }
