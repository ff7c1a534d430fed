use Rattle.std.proofs.Common.{ℕ, List, All, sym, subst}
use Rattle.lu_dir.specs.Loading.{texts}
use Rattle.segment_infos.specs.LuceneNames.{IsGenerationNumber}
use Rattle.lu_folder.specs.Choosing.{IsNoIndex}
use Rattle.lu_folder.specs.Looking.{Walks}
use Rattle.lu_folder.proofs.ChooseLemmas.{Walks-current, IsNoIndex-listed, found-valid}
use Rattle.lu_folder.proofs.choosing.current.Goals as goal

pub first_good-requires : goal.first_good-requires
first_good-requires g c = subst (λ (found : List ℕ). All IsGenerationNumber found) (sym c.deref.ensures.value) (found-valid (texts c.args.names.now) c.in_ok-found.found.items c.in_ok-found.ensures)

pub returns-clause-told : goal.returns-clause-told
returns-clause-told g c told is =
    Walks-current told (texts c.args.names.now) c.in_ok-found.found.items (c.requires told is) c.in_ok-found.ensures c.first_good.result
    (subst (λ (found : List ℕ). Walks told found c.first_good.result) c.deref.ensures.value (c.first_good.ensures.told told is))

pub returns-clause-empty : goal.returns-clause-empty
returns-clause-empty g c =
    IsNoIndex-listed c.first_good.result (texts c.args.names.now) c.in_ok-found.found.items c.in_ok-found.ensures (subst (λ (found : List ℕ). IsNoIndex c.first_good.result found) c.deref.ensures.value c.first_good.ensures.empty)
