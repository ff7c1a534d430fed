use Rattle.std.proofs.Common.{ℕ, List, take, ◌<◌, ◌*◌, length, sym, ap, ◌∙◌, arith}
use Rattle.std.proofs.lemmas.List.{length-drop}
use Rattle.doc_marks.specs.Norms.{column_of}
use Rattle.doc_marks.proofs.NormLemmas.{column_of-columns_in, length-columns_in, column-fits}
use Rattle.doc_marks.proofs.norms.Norms.column.Goals as goal

pub split_at-requires : goal.split_at-requires
split_at-requires c =
    let n = c.self.inside in
    let within : c.args.column < n.columns = omega (arith, ap length c.self.view_is, length-columns_in n.columns n.documents n.bytes.now) in
    omega (arith, column-fits n.columns n.documents c.args.column within, c.self.invariant)

pub split_at-requires-2 : goal.split_at-requires-2
split_at-requires-2 c =
    let n = c.self.inside in
    let within : c.args.column < n.columns = omega (arith, ap length c.self.view_is, length-columns_in n.columns n.documents n.bytes.now) in
    omega (arith, column-fits n.columns n.documents c.args.column within, c.self.invariant, ap length c.split_at.ensures.back, length-drop (c.args.column * n.documents) n.bytes.now)

pub returns : goal.returns
returns c =
    let n = c.self.inside in
    let within : c.args.column < n.columns = omega (arith, ap length c.self.view_is, length-columns_in n.columns n.documents n.bytes.now) in
    c.split_at-2.ensures.front ∙ ap (take n.documents) c.split_at.ensures.back ∙ sym (column_of-columns_in n.columns n.documents n.bytes.now c.args.column within)
    ∙ ap (λ (columns : List (List ℕ)). column_of columns c.args.column) c.self.view_is
