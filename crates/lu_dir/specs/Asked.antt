-- A path that is kept.
use Rattle.std.specs.Prelude.{ℕ, List, string_bytes}
use Rattle.lu_dir.specs.declared.asked.KeptPath.{KeptPath}
use Rattle.lu_dir.specs.declared.asked.KeptPath.TheVariants.{InPlace, OnHeap}

-- the bytes of a path, wherever they are kept
abbrev pub path_bytes : KeptPath → List ℕ
path_bytes (InPlace path) = path.bytes
path_bytes (OnHeap path) = string_bytes path
