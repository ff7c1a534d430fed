-- What the records of `segments_N` must not be (docs/FORMAT.md, "segments_N").
use Rattle.std.specs.Prelude.{ℕ, ◌+◌, Bool, false, not, ◌&&◌, ◌||◌, ◌==◌, List, [], ◌∷◌, ◌++◌, Option, Some, None, ℤ, pos, is_none, nat_lt}
use Rattle.std.specs.List.{list_any}
use Rattle.std.specs.Ordering.{int_eq}
use Rattle.lu_grammar.specs.Records.{Condition}
use Rattle.lu_types.specs.RuleNumbers as rules
use Rattle.lu_prims.specs.Checksum.{checksum}
use Rattle.segment_infos.specs.declared.infos.SegInfo.{SegInfo}
use Rattle.segment_infos.specs.declared.record.TheConstants.{FORMAT_NUMBER, MOST_DOCUMENTS, PACKED, NOT_PACKED}
use Rattle.segment_infos.specs.declared.record.Heading.{Heading}
use Rattle.segment_infos.specs.declared.record.SharedStorePart.{SharedStorePart}
use Rattle.segment_infos.specs.declared.record.FrontPart.{FrontPart}
use Rattle.segment_infos.specs.declared.record.NormPart.{NormPart}
use Rattle.segment_infos.specs.declared.record.FlagPart.{FlagPart}
use Rattle.segment_infos.specs.declared.record.MapPart.{MapPart}
use Rattle.segment_infos.specs.declared.record.SegmentLine.{SegmentLine}
use Rattle.segment_infos.specs.Numbers.{is_negative, is_below_none, is_no_generation, count_or_zero, segment_number_in}
use Rattle.segment_infos.specs.Values.{total_size}

-- a rule, and whether it is broken
abbrev pub rule : ℕ → Bool → Condition
rule number broken = record { rule = number; broken = broken }

-- what a header must not be
abbrev pub heading_conditions : Heading → List Condition
heading_conditions h =
    rule rules.format (not (int_eq h.format FORMAT_NUMBER))
    ∷ rule rules.version (is_negative h.version)
    ∷ rule rules.name_counter (is_negative h.counter)
    ∷ rule rules.seg_count (is_negative h.count)
    ∷ []

-- one of the segments has the number
abbrev pub has_number : List SegInfo → ℕ → Bool
has_number segments number = list_any (λ s. s.number == number) segments

-- one of the segments has the number of the name
abbrev pub is_twice : List SegInfo → Option ℕ → Bool
is_twice segments None = false
is_twice segments (Some number) = has_number segments number

-- the number is below 0, or there are more documents than may be
abbrev pub is_no_size : ℤ → Bool
is_no_size size = is_negative size || nat_lt MOST_DOCUMENTS (count_or_zero size)

-- the store is there, and its name is no segment name
abbrev pub has_other_store : Option SharedStorePart → Bool
has_other_store None = false
has_other_store (Some store) = is_none (segment_number_in store.name)

-- the store is there, and its flag is neither 0 nor 1
abbrev pub has_other_flag : Option SharedStorePart → Bool
has_other_flag None = false
has_other_flag (Some store) = nat_lt PACKED store.flag

-- what the name of a segment must not be after the segments before it
abbrev pub name_conditions : List SegInfo → FrontPart → List Condition
name_conditions segments f = rule rules.seg_name (is_none (segment_number_in f.name)) ∷ rule rules.seg_twice (is_twice segments (segment_number_in f.name)) ∷ []

-- what its size must not be after the segments before it
abbrev pub size_conditions : List SegInfo → FrontPart → List Condition
size_conditions segments f = rule rules.seg_size (is_no_size f.size) ∷ rule rules.size_sum (nat_lt MOST_DOCUMENTS (total_size segments + count_or_zero f.size)) ∷ []

-- what its generation and its store must not be
abbrev pub store_conditions : FrontPart → List Condition
store_conditions f =
    rule rules.del_gen (is_no_generation f.del_gen)
    ∷ rule rules.shared_store (is_below_none f.offset)
    ∷ rule rules.store_name (has_other_store f.store)
    ∷ rule rules.store_flag (has_other_flag f.store)
    ∷ []

-- what is said of the norms must not be so
abbrev pub norm_conditions : NormPart → List Condition
norm_conditions n =
    rule rules.old_norms (not (n.single == 1))
    ∷ rule rules.num_field (is_below_none n.count)
    ∷ rule rules.separate_norms (list_any is_no_generation n.gens)
    ∷ []

-- the flag is neither 01 nor FF
abbrev pub is_no_flag : ℕ → Bool
is_no_flag flag = not (flag == PACKED) && not (flag == NOT_PACKED)

-- the number is below 0, or over the size, or not 0 where there is no file of deleted documents
abbrev pub is_no_deletion : FrontPart → ℤ → Bool
is_no_deletion f deleted = is_negative deleted || (nat_lt (count_or_zero f.size) (count_or_zero deleted) || (is_negative f.del_gen && not (count_or_zero deleted == 0)))

-- what the flags must not be
abbrev pub flag_conditions : FrontPart → FlagPart → List Condition
flag_conditions f flags =
    rule rules.compound_flag (is_no_flag flags.compound)
    ∷ rule rules.deletion_count (is_no_deletion f flags.deleted)
    ∷ rule rules.prox_flag (nat_lt 1 flags.prox)
    ∷ []

-- the count of a Map must not be below 0
abbrev pub map_conditions : MapPart → List Condition
map_conditions m = rule rules.map_count (is_negative m.count) ∷ []

-- what a segment must not be after the segments before it
abbrev pub line_conditions : List SegInfo → SegmentLine → List Condition
line_conditions segments l =
    name_conditions segments l.front ++ (size_conditions segments l.front ++ (store_conditions l.front ++ (norm_conditions l.norms ++ (flag_conditions l.front l.flags ++ map_conditions l.map))))

-- the checksum must not be another than that of the bytes before it
abbrev pub seal_conditions : List ℕ → ℤ → List Condition
seal_conditions before z = rule rules.checksum (not (int_eq z (pos (checksum before)))) ∷ []
