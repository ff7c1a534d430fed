use Rattle.std.proofs.Common.{List, length, sym, ap, ◌∙◌}
use Rattle.stored_fields.specs.Values.{StoredDocument}
use Rattle.stored_fields.proofs.StoreLemmas.{windowed_many}
use Rattle.stored_fields.proofs.view.StoredView.documents.Goals as goal

pub returns : goal.returns
returns c =
    let s = c.self.inside in
    sym (windowed_many s.fields s.total s.window s.fdx.now s.fdt.now c.self.invariant) ∙ ap (λ (ds : List StoredDocument). length ds) c.self.view_is
