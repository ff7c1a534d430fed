use Rattle.std.proofs.Common.{◌≡◌, ◌∙◌, ℕ, List, All, take, length, min, ap, sym, subst}
use Rattle.lu_dir.specs.Loading.{texts}
use Rattle.segment_infos.specs.LuceneNames.{IsGenerationNumber}
use Rattle.lu_folder.specs.Choosing.{IsNoIndex}
use Rattle.lu_folder.specs.Looking.{Walks}
use Rattle.lu_folder.proofs.ChooseLemmas.{Walks-newest, IsNoIndex-listed, IsNoIndex-first, found-valid, All-take}
use Rattle.lu_folder.proofs.choosing.newest.Goals as goal

pub first_good-requires : goal.first_good-requires
first_good-requires g c =
    subst (λ (found : List ℕ). All IsGenerationNumber (take c.min.result found)) (sym c.deref.ensures.value)
    (All-take IsGenerationNumber c.in_ok-found.found.items c.min.result (found-valid (texts c.args.names.now) c.in_ok-found.found.items c.in_ok-found.ensures))

pub returns-clause-told : goal.returns-clause-told
returns-clause-told g c told is =
    let one : c.min.result ≡ min (length c.in_ok-found.found.items) 1 = c.min.ensures ∙ ap (λ (n : ℕ). min n 1) (c.len.ensures ∙ sym c.deref.ensures.len ∙ ap length c.deref.ensures.value) in
    Walks-newest told (texts c.args.names.now) c.in_ok-found.found.items (c.requires told is) c.in_ok-found.ensures c.first_good.result c.min.result one
    (subst (λ (found : List ℕ). Walks told (take c.min.result found) c.first_good.result) c.deref.ensures.value (c.first_good.ensures.told told is))

pub returns-clause-empty : goal.returns-clause-empty
returns-clause-empty g c =
    let one : c.min.result ≡ min (length c.in_ok-found.found.items) 1 = c.min.ensures ∙ ap (λ (n : ℕ). min n 1) (c.len.ensures ∙ sym c.deref.ensures.len ∙ ap length c.deref.ensures.value) in
    IsNoIndex-listed c.first_good.result (texts c.args.names.now) c.in_ok-found.found.items c.in_ok-found.ensures
    (IsNoIndex-first c.first_good.result c.in_ok-found.found.items c.min.result one (subst (λ (found : List ℕ). IsNoIndex c.first_good.result (take c.min.result found)) c.deref.ensures.value c.first_good.ensures.empty))
