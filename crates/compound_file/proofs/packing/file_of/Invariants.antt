use Rattle.std.proofs.Common.{◌≡◌, drop}
use Rattle.compound_file.specs.Packing.{file_of}
use Rattle.compound_file.proofs.packing.file_of.Given as goal

-- none of the files so far is of the kind
abbrev pub invariant-loop-file : goal.invariant-loop-file
invariant-loop-file l = file_of (drop l.file-index l.files) l.kind ≡ file_of l.files l.kind
