-- Where a `Text` and a `Payload` keep their bytes. No public clause cites this module.
use Rattle.std.specs.Prelude.{ℕ, List, [], string_bytes, Option, Some, None}
use Rattle.std.specs.Global.{Global}
use Rattle.std.specs.declared.boxed.Box.{Box}
use Rattle.std.specs.declared.vec.Vec.{Vec}
use Rattle.lu_types.specs.declared.owned.Kept.{Kept}
use Rattle.lu_types.specs.declared.owned.Kept.TheVariants.{Short, Long}

-- the bytes of a text, by where they are kept
abbrev pub kept_bytes : Kept → List ℕ
kept_bytes (Short short) = short.bytes
kept_bytes (Long inner) = string_bytes inner

-- the bytes of a payload, empty where it keeps none
abbrev pub payload_bytes : Option (Box (Vec ℕ Global) Global) → List ℕ
payload_bytes None = []
payload_bytes (Some kept) = kept.value.items
