use Rattle.check_index.proofs.StandsLaws.{stands-by_files}
use Rattle.check_index.proofs.ValidNorms.{norms-are}
use Rattle.check_index.proofs.valid_laws.norms_are_valid.Goals as goal

pub returns : goal.returns
returns c = λ folder line x h.
    let by = stands-by_files folder line x h in
    norms-are line.size line.norm_gens x.index.fields folder.separate by.own.index.nrm by.columns x.index.norms by.nrm by.separate
