-- The bytes of a commit (docs/FORMAT.md, "segments_N").
use Rattle.std.specs.Prelude.{ℕ, ◌-◌, List, [], ◌∷◌, ◌++◌, length, Option, Some, None, ℤ, pos, negsuc, if◌then◌else◌}
use Rattle.std.specs.List.{flat_map}
use Rattle.lu_grammar.specs.Parts.{byte, int32, int64, text, spelling}
use Rattle.lu_prims.specs.Checksum.{checksum}
use Rattle.lu_types.specs.Names.{segment_name}
use Rattle.lu_types.specs.declared.stored.SharedStore.{SharedStore}
use Rattle.segment_infos.specs.declared.infos.MapPair.{MapPair}
use Rattle.segment_infos.specs.declared.infos.SegInfo.{SegInfo}
use Rattle.segment_infos.specs.declared.record.TheConstants.{FORMAT_NUMBER, PACKED, NOT_PACKED}
use Rattle.segment_infos.specs.Numbers.{number_or_none}
use Rattle.segment_infos.specs.Values.{CommitValue}

-- a key and its value
abbrev pub pair_bytes : MapPair → List ℕ
pair_bytes p = spelling text p.key ++ spelling text p.value

-- a Map
abbrev pub map_bytes : List MapPair → List ℕ
map_bytes pairs = spelling int32 (pos (length pairs)) ++ flat_map pair_bytes pairs

-- the place in a shared store, or -1
abbrev pub store_bytes : Option SharedStore → List ℕ
store_bytes None = spelling int32 (negsuc 0)
store_bytes (Some s) = spelling int32 (pos s.offset) ++ (spelling text (segment_name s.number) ++ spelling byte (if s.compound then PACKED else 0))

-- the norm generations, or -1
abbrev pub gens_bytes : Option (List ℤ) → List ℕ
gens_bytes None = spelling int32 (negsuc 0)
gens_bytes (Some gens) = spelling int32 (pos (length gens)) ++ flat_map (spelling int64) gens

-- the first parts of a segment
abbrev pub front_bytes : SegInfo → List ℕ
front_bytes s = spelling text (segment_name s.number) ++ (spelling int32 (pos s.size) ++ (spelling int64 (number_or_none s.del_gen) ++ store_bytes s.store))

-- its flags
abbrev pub flag_bytes : SegInfo → List ℕ
flag_bytes s = spelling byte (if s.compound then PACKED else NOT_PACKED) ++ (spelling int32 (pos s.deleted) ++ spelling byte (if s.has_prox then 1 else 0))

-- a segment
abbrev pub line_bytes : SegInfo → List ℕ
line_bytes s = front_bytes s ++ ((spelling byte 1 ++ gens_bytes s.norm_gens) ++ (flag_bytes s ++ map_bytes s.diagnostics))

-- the header
abbrev pub heading_bytes : CommitValue → List ℕ
heading_bytes c = spelling int32 FORMAT_NUMBER ++ (spelling int64 (pos c.version) ++ (spelling int32 (pos c.counter) ++ spelling int32 (pos (length c.segments))))

-- all but the checksum
abbrev pub unsealed_bytes : CommitValue → List ℕ
unsealed_bytes c = heading_bytes c ++ (flat_map line_bytes c.segments ++ map_bytes c.user)

-- the one spelling of a commit
abbrev pub commit_bytes : CommitValue → List ℕ
commit_bytes c = unsealed_bytes c ++ spelling int64 (pos (checksum (unsealed_bytes c)))

-- the pending form of a commit: every bit of its last byte is turned
abbrev pub pending : List ℕ → List ℕ
pending [] = []
pending (b ∷ []) = (255 - b) ∷ []
pending (b ∷ c ∷ rest) = b ∷ pending (c ∷ rest)
