use Rattle.std.proofs.Common.{Result, Err, refl, ap}
use Rattle.lu_dir.specs.Loading.{Loading}
use Rattle.lu_folder.specs.declared.fault.FolderFault.{FolderFault}
use Rattle.lu_reads.proofs.holding.held_segment.Goals as goal

pub returns-in-Ok-clause-held : goal.returns-in-Ok-clause-held
returns-in-Ok-clause-held g c = record {
  same = refl;
  read = record { told = c.in-Ok.ensures.loaded; each = c.in-Ok.ensures.each };
  in_memory = record { line = c.requires; names = c.in-Ok.ensures.names; each = c.in-Ok.ensures.each };
}

pub returns-in-Err-FileTooLarge-clause-held : goal.returns-in-Err-FileTooLarge-clause-held
returns-in-Err-FileTooLarge-clause-held g c =
    let failed : FolderFault → Result Loading FolderFault = λ fault. Err fault in
    c.in-Err-FileTooLarge.ensures.too_large c.in-Err-FileTooLarge.kind (ap failed c.in-Err-FileTooLarge.field-0-is)
