-- The records of `segments_N`: the header, the segments, the user data and the checksum (docs/FORMAT.md, "segments_N").
use Rattle.std.specs.Prelude.{ℕ, Bool, not, List, [], Option, ℤ}
use Rattle.lu_grammar.specs.Parts.{byte, int32, int64, text}
use Rattle.lu_grammar.specs.Records.{Shape, whole, part, followed, optional, repeated}
use Rattle.segment_infos.specs.declared.infos.MapPair.{MapPair}
use Rattle.segment_infos.specs.declared.record.Heading.{Heading}
use Rattle.segment_infos.specs.declared.record.SharedStorePart.{SharedStorePart}
use Rattle.segment_infos.specs.declared.record.FrontPart.{FrontPart}
use Rattle.segment_infos.specs.declared.record.NormPart.{NormPart}
use Rattle.segment_infos.specs.declared.record.FlagPart.{FlagPart}
use Rattle.segment_infos.specs.declared.record.MapPart.{MapPart}
use Rattle.segment_infos.specs.declared.record.SegmentLine.{SegmentLine}
use Rattle.segment_infos.specs.Numbers.{is_none_number, count_or_zero}

-- a record of the file
pub data CommitRecord : Type 0 where
  heading : Heading → CommitRecord
  line : SegmentLine → CommitRecord
  user : MapPart → CommitRecord
  seal : ℤ → CommitRecord

-- so many pieces of one shape, and nothing else
abbrev pub many : {A : Type 0} → Shape A → ℕ → Shape (List A)
many shape n = repeated shape n [] (λ xs. whole xs)

-- Format, Version, NameCounter and SegCount
abbrev pub heading_shape : Shape Heading
heading_shape = part int32 (λ format. part int64 (λ version. part int32 (λ counter. part int32 (λ count. whole (record { format = format; version = version; counter = counter; count = count })))))

-- DocStoreSegment and DocStoreIsCompoundFile
abbrev pub store_shape : Shape SharedStorePart
store_shape = part text (λ name. part byte (λ flag. whole (record { name = name; flag = flag })))

-- the store where it is there
abbrev pub store_if : Bool → Shape (Option SharedStorePart)
store_if there = optional there store_shape (λ store. whole store)

-- SegName, SegSize, DelGen and DocStoreOffset, and where that is not -1 the store
abbrev pub front_shape : Shape FrontPart
front_shape = part text (λ name. part int32 (λ size. part int64 (λ del_gen. part int32 (λ offset.
    followed (store_if (not (is_none_number offset))) (λ store. whole (record { name = name; size = size; del_gen = del_gen; offset = offset; store = store }))))))

-- NormGen
abbrev pub gen_shape : Shape ℤ
gen_shape = part int64 (λ g. whole g)

-- HasSingleNormFile and NumField, and so many NormGen
abbrev pub norm_shape : Shape NormPart
norm_shape = part byte (λ single. part int32 (λ count. followed (many gen_shape (count_or_zero count)) (λ gens. whole (record { single = single; count = count; gens = gens }))))

-- IsCompoundFile, DeletionCount and HasProx
abbrev pub flag_shape : Shape FlagPart
flag_shape = part byte (λ compound. part int32 (λ deleted. part byte (λ prox. whole (record { compound = compound; deleted = deleted; prox = prox }))))

-- a key and its value
abbrev pub pair_shape : Shape MapPair
pair_shape = part text (λ key. part text (λ value. whole (record { key = key; value = value })))

-- a Map: the count, and so many pairs
abbrev pub map_shape : Shape MapPart
map_shape = part int32 (λ count. followed (many pair_shape (count_or_zero count)) (λ pairs. whole (record { count = count; pairs = pairs })))

-- a segment
abbrev pub line_shape : Shape SegmentLine
line_shape = followed front_shape (λ front. followed norm_shape (λ norms. followed flag_shape (λ flags. followed map_shape (λ map. whole (record { front = front; norms = norms; flags = flags; map = map })))))

-- the same as records of the file
abbrev pub heading_record : Shape CommitRecord
heading_record = followed heading_shape (λ h. whole (heading h))

abbrev pub line_record : Shape CommitRecord
line_record = followed line_shape (λ l. whole (line l))

abbrev pub user_record : Shape CommitRecord
user_record = followed map_shape (λ m. whole (user m))

-- the checksum
abbrev pub seal_record : Shape CommitRecord
seal_record = part int64 (λ z. whole (seal z))
