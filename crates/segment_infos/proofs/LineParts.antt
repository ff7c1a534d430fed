-- The parts that a segment is written as.
use Rattle.std.proofs.Common.{rules, get_or, ℕ, zero, suc, ◌<◌, ◌≤◌, ℤ, pos, negsuc, Bool, true, false, not, eqb, cond, List, [], ◌∷◌, ◌++◌, length, flat_map, Option, Some, None, refl, sym, arith, FitsSigned, w32, w64, inl, inr}
use Rattle.std.specs.Prelude.{slice_index}
use Rattle.std.specs.Char.{digit_char}
use Rattle.std.specs.Int.Digits.{digits_of}
use Rattle.std.specs.Str.{IsAscii}
use Rattle.std.proofs.lemmas.Str.{IsUtf8-from_ascii}
use Rattle.std.proofs.lemmas.Int.Digits.{length-digits_of-le}
use Rattle.lu_prims.specs.Base36.{base36, IsPlainByte}
use Rattle.lu_prims.proofs.Base36Lemmas.{spelled_plain}
use Rattle.std.proofs.lemmas.Bool.{cases_Bool}
use Rattle.std.proofs.lemmas.List.{append-nil, length-map}
use Rattle.lu_grammar.specs.Parts.{byte, int32, int64, text, IsValue, spelling}
use Rattle.lu_grammar.specs.Records.{Shape, whole, part, followed, Condition, Spells, first_broken}
use Rattle.lu_grammar.proofs.Records.{Spells-followed}
use Rattle.lu_types.specs.declared.stored.SharedStore.{SharedStore}
use Rattle.lu_types.specs.Names.{greatest_segment, segment_name}
use Rattle.segment_infos.specs.declared.infos.MapPair.{MapPair}
use Rattle.segment_infos.specs.declared.infos.SegInfo.{SegInfo}
use Rattle.segment_infos.specs.declared.record.TheConstants.{MOST_DOCUMENTS, PACKED, NOT_PACKED}
use Rattle.segment_infos.specs.declared.record.SharedStorePart.{SharedStorePart}
use Rattle.segment_infos.specs.declared.record.FrontPart.{FrontPart}
use Rattle.segment_infos.specs.declared.record.NormPart.{NormPart}
use Rattle.segment_infos.specs.declared.record.FlagPart.{FlagPart}
use Rattle.segment_infos.specs.declared.record.MapPart.{MapPart}
use Rattle.segment_infos.specs.declared.record.SegmentLine.{SegmentLine}
use Rattle.segment_infos.specs.Numbers.{is_none_number, number_or_none}
use Rattle.segment_infos.specs.Values.{IsPair, IsMap, IsGeneration, IsStore, IsNormGen, AreNormGens, AreDeleted, IsLine}
use Rattle.segment_infos.specs.Records.{many, store_if, front_shape, gen_shape, norm_shape, flag_shape, pair_shape, map_shape, line_shape}
use Rattle.segment_infos.specs.Spelling.{pair_bytes, map_bytes, store_bytes, gens_bytes, front_bytes, flag_bytes, line_bytes}
use Rattle.segment_infos.proofs.LineReads.{after_front, after_norms, after_flags}
use Rattle.segment_infos.proofs.WrittenPlans.{wrapped-spells, many-spells}

-- ---- the parts

abbrev pub offset_in : Option SharedStore → ℤ
offset_in None = negsuc 0
offset_in (Some s) = pos s.offset

abbrev pub store_in : Option SharedStore → Option SharedStorePart
store_in None = None
store_in (Some s) = Some (record { name = segment_name s.number; flag = cond s.compound PACKED 0 })

abbrev pub front_of : SegInfo → FrontPart
front_of s = record { name = segment_name s.number; size = pos s.size; del_gen = number_or_none s.del_gen; offset = offset_in s.store; store = store_in s.store }

abbrev pub norms_in : Option (List ℤ) → NormPart
norms_in None = record { single = 1; count = negsuc 0; gens = [] }
norms_in (Some gens) = record { single = 1; count = pos (length gens); gens = gens }

abbrev pub flags_of : SegInfo → FlagPart
flags_of s = record { compound = cond s.compound PACKED NOT_PACKED; deleted = pos s.deleted; prox = cond s.has_prox 1 0 }

abbrev pub map_of : List MapPair → MapPart
map_of pairs = record { count = pos (length pairs); pairs = pairs }

unfoldable pub line_of : SegInfo → SegmentLine
line_of s = record { front = front_of s; norms = norms_in s.norm_gens; flags = flags_of s; map = map_of s.diagnostics }

-- ---- their spellings

plain-ascii : (b : ℕ) → IsPlainByte b → b < 128
plain-ascii b (inl digit) = omega arith
plain-ascii b (inr letter) = omega arith

short_name : (n : ℕ) → length (digits_of 36 n) ≤ 6 → length (base36 n) ≤ 6
short_name n few = elim (cases_Bool (eqb n 0)) [
  | inl none ↦ rw none (omega arith)
  | inr more ↦ rw more (omega (arith, few, length-map (digits_of 36 n) digit_char))
]

ascii : (bs : List ℕ) → ((k : ℕ) → k < length bs → IsPlainByte (slice_index bs k)) → IsAscii bs
ascii [] plain i = omega arith
ascii (b ∷ bs) plain zero = let p = plain zero (omega arith) in plain-ascii b p
ascii (b ∷ bs) plain (suc i) = ascii bs (λ k lt. plain (suc k) (omega arith)) i

-- the name of a segment is a text that a file can hold
pub name-value : (n : ℕ) → n ≤ greatest_segment → IsValue text (segment_name n)
name-value n most =
    let few : length (digits_of 36 n) ≤ 6 = length-digits_of-le 36 6 n (omega arith) (omega arith) in
    let plain = (spelled_plain n).0.1 in
    (let short : length (base36 n) ≤ 6 = short_name n few in omega arith, IsUtf8-from_ascii (segment_name n) (named (ascii (base36 n) plain)))
  where
    named : IsAscii (base36 n) → IsAscii (95 ∷ base36 n)
    named rest zero = omega arith
    named rest (suc i) = rest i

pair-spells : (p : MapPair) → IsPair p → Spells pair_shape p (pair_bytes p)
pair-spells p is = (p.key, spelling text p.value, is.0, refl, (p.value, [], is.1, sym (append-nil (spelling text p.value)), (refl, refl)))

pub map-spells : (pairs : List MapPair) → IsMap pairs → Spells map_shape (map_of pairs) (map_bytes pairs)
map-spells pairs is = (
  pos (length pairs),
  flat_map pair_bytes pairs,
  omega (arith, is.0),
  refl,
  wrapped-spells (many pair_shape (length pairs)) (λ (ps : List MapPair). let m : MapPart = record { count = pos (length pairs); pairs = ps } in m) pairs (flat_map pair_bytes pairs) (many-spells pair_shape pair_bytes pairs [] (λ k d lt. pair-spells (get_or pairs k d) (is.1 k d lt))),
)

gen-fits : (g : ℤ) → IsNormGen g → FitsSigned w64 g
gen-fits (pos n) is = omega (arith, is.1)
gen-fits (negsuc n) is = omega (arith, is)

none-fits : FitsSigned w32 (negsuc 0)
none-fits = search rules

gen-spells : (g : ℤ) → IsNormGen g → Spells gen_shape g (spelling int64 g)
gen-spells g is = (g, [], gen-fits g is, sym (append-nil (spelling int64 g)), (refl, refl))

pub norm-spells : (gens : Option (List ℤ)) → AreNormGens gens → Spells norm_shape (norms_in gens) (spelling byte 1 ++ gens_bytes gens)
unfolding Rattle.lu_grammar.specs.Records.repeated
norm-spells None is = (1, spelling int32 (negsuc 0), omega arith, refl, (negsuc 0, [], none-fits, sym (append-nil (spelling int32 (negsuc 0))), (refl, refl)))
norm-spells (Some gens) is = (
  1,
  spelling int32 (pos (length gens)) ++ flat_map (spelling int64) gens,
  omega arith,
  refl,
  (
    pos (length gens),
    flat_map (spelling int64) gens,
    omega (arith, is.0),
    refl,
    wrapped-spells (many gen_shape (length gens)) (λ (gs : List ℤ). let n : NormPart = record { single = 1; count = pos (length gens); gens = gs } in n) gens (flat_map (spelling int64) gens) (many-spells gen_shape (spelling int64) gens [] (λ k d lt. gen-spells (get_or gens k d) (is.1 k d lt))),
  ),
)

pub flag-spells : (s : SegInfo) → s.deleted ≤ s.size → s.size ≤ MOST_DOCUMENTS → Spells flag_shape (flags_of s) (flag_bytes s)
flag-spells s few most = (
  cond s.compound PACKED NOT_PACKED,
  spelling int32 (pos s.deleted) ++ spelling byte (cond s.has_prox 1 0),
  is_byte s.compound,
  refl,
  (pos s.deleted, spelling byte (cond s.has_prox 1 0), omega arith, refl, (cond s.has_prox 1 0, [], is_bit s.has_prox, refl, (refl, refl))),
)
  where
    is_byte : (b : Bool) → cond b PACKED NOT_PACKED < 256
    is_byte true = omega arith
    is_byte false = omega arith

    is_bit : (b : Bool) → cond b 1 0 < 256
    is_bit true = omega arith
    is_bit false = omega arith

store-spells : (store : Option SharedStore) → IsStore store → (next : ℤ → Option SharedStorePart → FrontPart)
    → Spells (part int32 (λ offset. followed (store_if (not (is_none_number offset))) (λ st. whole (next offset st)))) (next (offset_in store) (store_in store)) (store_bytes store)
store-spells None is next = (negsuc 0, [], none-fits, sym (append-nil (spelling int32 (negsuc 0))), (refl, refl))
store-spells (Some s) is next = (
  pos s.offset,
  spelling text (segment_name s.number) ++ spelling byte (cond s.compound PACKED 0),
  omega (arith, is.0),
  refl,
  (segment_name s.number, spelling byte (cond s.compound PACKED 0), name-value s.number is.1, refl, (cond s.compound PACKED 0, [], is_byte s.compound, refl, (refl, refl))),
)
  where
    is_byte : (b : Bool) → cond b PACKED 0 < 256
    is_byte true = omega arith
    is_byte false = omega arith

del_gen-fits : (g : Option ℕ) → IsGeneration g → FitsSigned w64 (number_or_none g)
del_gen-fits None is = search rules
del_gen-fits (Some n) is = omega (arith, is.1)

pub front-spells : (s : SegInfo) → IsLine s → Spells front_shape (front_of s) (front_bytes s)
front-spells s is = (
  segment_name s.number,
  spelling int32 (pos s.size) ++ (spelling int64 (number_or_none s.del_gen) ++ store_bytes s.store),
  name-value s.number is.number,
  refl,
  (
    pos s.size,
    spelling int64 (number_or_none s.del_gen) ++ store_bytes s.store,
    omega (arith, is.size),
    refl,
    (
      number_or_none s.del_gen,
      store_bytes s.store,
      del_gen-fits s.del_gen is.del_gen,
      refl,
      store-spells s.store is.store (λ offset store. record { name = segment_name s.number; size = pos s.size; del_gen = number_or_none s.del_gen; offset = offset; store = store }),
    ),
  ),
)

deleted-most : (g : Option ℕ) (size deleted : ℕ) → AreDeleted g size deleted → deleted ≤ size
deleted-most None size deleted is = omega (arith, is)
deleted-most (Some n) size deleted is = is

-- a segment
pub line-spells : (s : SegInfo) → IsLine s → Spells line_shape (line_of s) (line_bytes s)
unfolding line_of
line-spells s is =
    let l = line_of s in
    let map = map-spells s.diagnostics is.diagnostics in
    let flags = flag-spells s (deleted-most s.del_gen s.size s.deleted is.deleted) is.size in
    let norms = norm-spells s.norm_gens is.norm_gens in
    Spells-followed front_shape after_front (front_of s) l (front_bytes s) ((spelling byte 1 ++ gens_bytes s.norm_gens) ++ (flag_bytes s ++ map_bytes s.diagnostics)) (front-spells s is)
    (Spells-followed norm_shape (after_norms (front_of s)) (norms_in s.norm_gens) l (spelling byte 1 ++ gens_bytes s.norm_gens) (flag_bytes s ++ map_bytes s.diagnostics) norms
    (Spells-followed flag_shape (after_flags (front_of s) (norms_in s.norm_gens)) (flags_of s) l (flag_bytes s) (map_bytes s.diagnostics) flags
    (wrapped-spells map_shape (λ (m : MapPart). let k : SegmentLine = record { front = front_of s; norms = norms_in s.norm_gens; flags = flags_of s; map = m } in k) (map_of s.diagnostics) (map_bytes s.diagnostics) map)))
