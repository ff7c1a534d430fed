use Rattle.std.proofs.Common.{◌≡◌, rules, sym, subst}
use Rattle.std.specs.FinMap.{empty}
use Rattle.lu_dir.specs.Files.{AreMadeOfBytes}
use Rattle.lu_dir.specs.FileMap.{files_of}
use Rattle.lu_dir.proofs.BytesLemmas.{AreMadeOfBytes-none}
use Rattle.lu_dir.proofs.file_map.FileMap.new.Goals as goal

pub invariant_of-result : goal.invariant_of-result
invariant_of-result c =
    let none : files_of c.new.result ≡ empty = search rules in
    subst AreMadeOfBytes (sym none) AreMadeOfBytes-none
