use Rattle.std.proofs.Common.{◌≡◌, ap, sym, ◌∙◌}
use Rattle.std.specs.List.{list_any}
use Rattle.segment_infos.proofs.NameSets.{is_same, any-Contains}
use Rattle.segment_infos.proofs.name_set.NameSet.has.Goals as goal

pub returns : goal.returns
returns c =
    let is : c.contains.result ≡ list_any (is_same c.args.name.now) c.args.self.now = c.contains.ensures ∙ ap (list_any (is_same c.args.name.now)) c.self.view_is in
    let one = any-Contains c.args.name.now c.args.self.now in
    (λ has. one.0 (sym is ∙ has), λ has. is ∙ one.1 has)
