use Rattle.std.proofs.Common.{◌≡◌, ◌<◌, ◌^◌, ℕ, List, length, subst, sym, ◌∙◌}
use Rattle.lu_types.specs.Names.{segment_name}
use Rattle.segment_infos.proofs.LineParts.{name-value}
use Rattle.segment_infos.proofs.writing.put_name.Goals as goal

pub put_text-requires : goal.put_text-requires
put_text-requires c =
    let is : c.as_str.result.now ≡ segment_name c.args.number = c.as_str.ensures.value ∙ c.in_ok-name.ensures in
    subst (λ (t : List ℕ). length t < 2 ^ 31) (sym is) (name-value c.args.number c.requires).0
