use Rattle.std.proofs.Common.{◌≡◌, ◌∷◌, ◌∙◌, [], Result, Err, map, ap, sym}
use Rattle.lu_dir.specs.Files.{contents}
use Rattle.lu_dir.specs.Loading.{Loading, first_over, texts}
use Rattle.lu_dir.specs.declared.loading.LoadFault.{LoadFault}
use Rattle.lu_folder.specs.ChangeValues.{commit_name}
use Rattle.lu_folder.specs.Limits.{file_limit}
use Rattle.lu_folder.proofs.LookLemmas.{over-one, fits-one, found-one, bytes-one, Looks-fault, Looks-judged, loaded-fault, judged-fault}
use Rattle.lu_folder.proofs.choosing.look_at.Goals as goal

pub returns-in-Err-clause-told : goal.returns-in-Err-clause-told
returns-in-Err-clause-told g c told is =
    let one : texts c.deref.result.now ≡ commit_name c.args.generation ∷ [] = ap texts c.deref.ensures.value ∙ c.in_ok-names.ensures in
    let failed : LoadFault → Result Loading LoadFault = λ fault. Err fault in
    Looks-fault told c.args.generation c.in-Err.fault c.folder_fault.result c.folder_fault.ensures
    (λ place over. over-one told file_limit (commit_name c.args.generation) place (ap (first_over told file_limit) (sym one) ∙ (c.in-Err.ensures.over place (ap failed over)).1 told is))

pub returns-in-Err-clause-fault : goal.returns-in-Err-clause-fault
returns-in-Err-clause-fault g c = loaded-fault c.in-Err.fault c.folder_fault.result c.folder_fault.ensures

pub returns-clause-told : goal.returns-clause-told
returns-clause-told g c told is =
    let one : texts c.deref.result.now ≡ commit_name c.args.generation ∷ [] = ap texts c.deref.ensures.value ∙ c.in_ok-names.ensures in
    Looks-judged told c.args.generation c.judged.result _
    (found-one told (commit_name c.args.generation) c.in-Ok.loaded.found _ (c.in-Ok.ensures.loaded told is ∙ ap (map (contents told)) one) c.at.ensures)
    c.judged.ensures.told c.judged.ensures.memory
    (fits-one told file_limit (commit_name c.args.generation) (ap (first_over told file_limit) (sym one) ∙ c.in-Ok.ensures.fits told is))
    (bytes-one file_limit c.in-Ok.loaded.found _ c.in-Ok.ensures.each c.at.ensures)

pub returns-clause-fault : goal.returns-clause-fault
returns-clause-fault g c = judged-fault c.judged.result c.judged.ensures.memory
