use Rattle.std.proofs.Common.{◌<◌, Some, map, length, sym, subst, ap, arith, ◌∙◌, string_bytes}
use Rattle.std.specs.Prelude.{slice_get}
use Rattle.std.proofs.lemmas.Option.{slice_get-get_or}
use Rattle.std.proofs.lemmas.List.{length-map}
use Rattle.lu_dir.specs.Files.{contents}
use Rattle.lu_dir.specs.Loading.{Loading, texts}
use Rattle.lu_dir.proofs.Named.{found-at_place}
use Rattle.lu_dir.proofs.loading.Loaded.at.Goals as goal

pub returns : goal.returns
returns c =
    let names = c.self.inside.names.items in
    let files = c.self.inside.files in
    let asked : c.args.place < length (map (contents files) (texts names)) = subst (λ (loaded : Loading). c.args.place < length loaded.found) (sym c.self.view_is) c.requires in
    let within : c.args.place < length names = omega (arith, asked, length-map (texts names) (contents files), length-map names string_bytes) in
    ap (λ (loaded : Loading). slice_get loaded.found c.args.place) (sym c.self.view_is)
    ∙ found-at_place files names c.args.place c.index.result.now (slice_get-get_or names c.args.place c.index.result.now within ∙ ap Some (sym c.index.ensures))
    ∙ ap Some (ap (contents files) (sym c.as_str.ensures.value) ∙ sym c.get.ensures)
