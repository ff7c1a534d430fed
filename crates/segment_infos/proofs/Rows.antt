-- Worked rows on the definitions.
use Rattle.std.proofs.Common.{◌≡◌, ℕ, true, false, List, [], ◌∷◌, ◌++◌, Some, None, Result, Ok, Err, refl, take, take}
use Rattle.std.specs.Prelude.{codes, set}
use Rattle.std.specs.Str.{is_utf8, chars}
use Rattle.lu_grammar.specs.Parts.{groups}
use Rattle.lu_grammar.specs.Reading.{read, read_groups}
use Rattle.lu_grammar.specs.Records.{record_at, repeated}
use Rattle.lu_grammar.specs.Plans.{each, read_plan, read_file, Broken}
use Rattle.lu_prims.specs.Checksum.{lowest_bits, number_of_bits, add_front, divisor, remainder, message, checksum}
use Rattle.segment_infos.specs.declared.infos.MapPair.{MapPair}
use Rattle.segment_infos.specs.declared.infos.SegInfo.{SegInfo}
use Rattle.segment_infos.specs.Values.{CommitValue}
use Rattle.segment_infos.specs.Format.{segment_of_line, commit_plan}
use Rattle.segment_infos.specs.Spelling.{line_bytes, commit_bytes, pending}

tried : List ℕ → Result CommitValue Broken
tried bytes = read_file (commit_plan bytes) bytes

fault : ℕ → ℕ → Result CommitValue Broken
fault offset rule = Err (record { offset = offset; rule = rule })

-- ---- the commit without segments

empty : CommitValue
empty = record { version = 1; counter = 0; segments = []; user = [] }

empty_front : List ℕ
empty_front = 0xFF ∷ 0xFF ∷ 0xFF ∷ 0xF7 ∷ 0 ∷ 0 ∷ 0 ∷ 0 ∷ 0 ∷ 0 ∷ 0 ∷ 1 ∷ 0 ∷ 0 ∷ 0 ∷ 0 ∷ 0 ∷ 0 ∷ 0 ∷ 0 ∷ 0 ∷ 0 ∷ 0 ∷ 0 ∷ []

empty_bytes : List ℕ
unfolding empty_front
empty_bytes = empty_front ++ 0 ∷ 0 ∷ 0 ∷ 0 ∷ 0x07 ∷ 0x9B ∷ 0x2F ∷ 0x0C ∷ []

empty_sum : checksum empty_front ≡ 0x079B2F0C
unfolding empty_front checksum message lowest_bits number_of_bits add_front divisor remainder
empty_sum = refl

empty_spelled : commit_bytes empty ≡ empty_bytes
unfolding empty empty_bytes empty_front checksum message lowest_bits number_of_bits add_front divisor remainder
empty_spelled = refl

empty_read : tried empty_bytes ≡ Ok empty
unfolding tried empty empty_bytes empty_front read each read_plan record_at repeated checksum message lowest_bits number_of_bits add_front divisor remainder
empty_read = refl

-- ---- the commit of one segment

pair : MapPair
pair = record { key = codes "source"; value = codes "flush" }

one_line : SegInfo
unfolding pair
one_line = record { number = 0; size = 1; del_gen = None; store = None; norm_gens = None; compound = false; deleted = 0; has_prox = true; diagnostics = pair ∷ [] }

one : CommitValue
unfolding one_line
one = record { version = 1; counter = 1; segments = one_line ∷ []; user = [] }

-- the header of a commit of one segment
header : List ℕ
header = 0xFF ∷ 0xFF ∷ 0xFF ∷ 0xF7 ∷ 0 ∷ 0 ∷ 0 ∷ 0 ∷ 0 ∷ 0 ∷ 0 ∷ 1 ∷ 0 ∷ 0 ∷ 0 ∷ 1 ∷ 0 ∷ 0 ∷ 0 ∷ 1 ∷ []

-- the parts of its segment, and its user data
front : List ℕ
front = 2 ∷ 0x5F ∷ 0x30 ∷ 0 ∷ 0 ∷ 0 ∷ 1 ∷ 0xFF ∷ 0xFF ∷ 0xFF ∷ 0xFF ∷ 0xFF ∷ 0xFF ∷ 0xFF ∷ 0xFF ∷ 0xFF ∷ 0xFF ∷ 0xFF ∷ 0xFF ∷ []

flags : List ℕ
flags = 1 ∷ 0xFF ∷ 0xFF ∷ 0xFF ∷ 0xFF ∷ 0xFF ∷ 0 ∷ 0 ∷ 0 ∷ 0 ∷ 1 ∷ []

map_of_one : List ℕ
map_of_one = 0 ∷ 0 ∷ 0 ∷ 1 ∷ 6 ∷ codes "source" ++ 5 ∷ codes "flush"

one_bytes : List ℕ
unfolding header front flags map_of_one
one_bytes = header ++ (front ++ (flags ++ (map_of_one ++ 0 ∷ 0 ∷ 0 ∷ 0 ∷ 0 ∷ 0 ∷ 0 ∷ 0 ∷ 0xF1 ∷ 0x2A ∷ 0x80 ∷ 0x60 ∷ [])))

one_spelled : commit_bytes one ≡ one_bytes
unfolding one pair one_line one_bytes header front flags map_of_one groups checksum message lowest_bits number_of_bits add_front divisor remainder
one_spelled = refl

one_read : tried one_bytes ≡ Ok one
unfolding tried one pair one_line one_bytes header front flags map_of_one segment_of_line read read_groups each read_plan record_at repeated is_utf8 chars lib.Utf8.encode checksum message lowest_bits number_of_bits add_front divisor remainder
one_read = refl

-- cut by one byte, and with another last byte
one_cut : tried (take 78 one_bytes) ≡ fault 71 1
unfolding tried fault one_bytes header front flags map_of_one segment_of_line read read_groups each read_plan record_at repeated is_utf8 chars lib.Utf8.encode checksum message lowest_bits number_of_bits add_front divisor remainder
one_cut = refl

one_changed : tried (set one_bytes 78 0x61) ≡ fault 71 27
unfolding tried fault one_bytes header front flags map_of_one segment_of_line read read_groups each read_plan record_at repeated is_utf8 chars lib.Utf8.encode checksum message lowest_bits number_of_bits add_front divisor remainder
one_changed = refl

one_pending : tried (pending one_bytes) ≡ fault 71 27
unfolding tried fault one_bytes header front flags map_of_one segment_of_line read read_groups each read_plan record_at repeated is_utf8 chars lib.Utf8.encode checksum message lowest_bits number_of_bits add_front divisor remainder
one_pending = refl

-- a segment with a shared store
shared_line : SegInfo
shared_line = record { number = 1; size = 1; del_gen = None; store = Some (record { offset = 1; number = 0; compound = false }); norm_gens = None; compound = false; deleted = 0; has_prox = false; diagnostics = [] }

shared_spelled : line_bytes shared_line ≡ 2 ∷ 0x5F ∷ 0x31 ∷ 0 ∷ 0 ∷ 0 ∷ 1 ∷ 0xFF ∷ 0xFF ∷ 0xFF ∷ 0xFF ∷ 0xFF ∷ 0xFF ∷ 0xFF ∷ 0xFF ∷ 0 ∷ 0 ∷ 0 ∷ 1 ∷ 2 ∷ 0x5F ∷ 0x30 ∷ 0
    ∷ 1 ∷ 0xFF ∷ 0xFF ∷ 0xFF ∷ 0xFF ∷ 0xFF ∷ 0 ∷ 0 ∷ 0 ∷ 0 ∷ 0 ∷ 0 ∷ 0 ∷ 0 ∷ 0 ∷ []
unfolding shared_line groups
shared_spelled = refl
