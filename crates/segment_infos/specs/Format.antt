-- The file `segments_N`: which record is due, and what they stand for (docs/FORMAT.md, "segments_N").
use Rattle.std.specs.Prelude.{ℕ, ◌==◌, List, [], ◌∷◌, ◌++◌, take, Option, Some, None, ℤ, if◌then◌else◌, unwrap_or}
use Rattle.lu_types.specs.declared.stored.SharedStore.{SharedStore}
use Rattle.lu_grammar.specs.Records.{Condition}
use Rattle.lu_grammar.specs.Plans.{Plan, done, due, and_then, Kind, times}
use Rattle.segment_infos.specs.declared.infos.SegInfo.{SegInfo}
use Rattle.segment_infos.specs.declared.record.TheConstants.{PACKED}
use Rattle.segment_infos.specs.declared.record.Heading.{Heading}
use Rattle.segment_infos.specs.declared.record.SharedStorePart.{SharedStorePart}
use Rattle.segment_infos.specs.declared.record.NormPart.{NormPart}
use Rattle.segment_infos.specs.declared.record.SegmentLine.{SegmentLine}
use Rattle.segment_infos.specs.Numbers.{is_negative, count_or_zero, given, segment_number_in}
use Rattle.segment_infos.specs.Values.{CommitValue}
use Rattle.segment_infos.specs.Records.{CommitRecord, heading, line, user, seal, heading_record, line_record, user_record, seal_record}
use Rattle.segment_infos.specs.Conditions.{heading_conditions, line_conditions, map_conditions, seal_conditions}

-- ---- what a good line says

-- the store from its place on
abbrev pub store_of : ℤ → Option SharedStorePart → Option SharedStore
store_of offset None = None
store_of offset (Some store) = Some (record { offset = count_or_zero offset; number = unwrap_or (segment_number_in store.name) 0; compound = store.flag == PACKED })

-- the norm generations, where they are counted
abbrev pub norm_gens_of : NormPart → Option (List ℤ)
norm_gens_of n = if is_negative n.count then None else Some n.gens

-- the segment
unfoldable pub segment_of_line : SegmentLine → SegInfo
segment_of_line l = record {
  number = unwrap_or (segment_number_in l.front.name) 0;
  size = count_or_zero l.front.size;
  del_gen = given l.front.del_gen;
  store = store_of l.front.offset l.front.store;
  norm_gens = norm_gens_of l.norms;
  compound = l.flags.compound == PACKED;
  deleted = count_or_zero l.flags.deleted;
  has_prox = l.flags.prox == 1;
  diagnostics = l.map.pairs;
}

-- ---- which record is due

-- the conditions of a record of one kind; a record of another kind has none
abbrev pub of_heading : CommitRecord → List Condition
of_heading (heading h) = heading_conditions h
of_heading _ = []

abbrev pub of_line : List SegInfo → CommitRecord → List Condition
of_line segments (line l) = line_conditions segments l
of_line segments _ = []

abbrev pub of_user : CommitRecord → List Condition
of_user (user m) = map_conditions m
of_user _ = []

abbrev pub of_seal : List ℕ → CommitRecord → List Condition
of_seal before (seal z) = seal_conditions before z
of_seal before _ = []

-- the segments and this one
abbrev pub with_line : List SegInfo → CommitRecord → List SegInfo
with_line segments (line l) = segments ++ segment_of_line l ∷ []
with_line segments _ = segments

-- a segment after those before it
abbrev pub lines_kind : Kind (List SegInfo) CommitRecord
lines_kind = record { shape = λ _. line_record; conditions = λ segments _ r. of_line segments r; after = λ segments _ r. with_line segments r }

-- nothing said
abbrev pub no_commit : CommitValue
no_commit = record { version = 0; counter = 0; segments = []; user = [] }

-- what a header, the segments and the user data say
abbrev pub commit_of : Heading → List SegInfo → CommitRecord → CommitValue
commit_of h segments (user m) = record { version = count_or_zero h.version; counter = count_or_zero h.counter; segments = segments; user = m.pairs }
commit_of h segments _ = no_commit

-- the user data after a header and the segments
abbrev pub user_plan : Heading → List SegInfo → Plan CommitValue CommitRecord
user_plan h segments = due user_record (λ _ r. of_user r) (λ _ r. done (commit_of h segments r))

-- as many segments as the header says, and the user data
abbrev pub after_heading : CommitRecord → Plan CommitValue CommitRecord
after_heading (heading h) = and_then (times lines_kind (count_or_zero h.count) []) (λ segments. user_plan h segments)
after_heading _ = done no_commit

-- all but the checksum
abbrev pub front_plan : Plan CommitValue CommitRecord
front_plan = due heading_record (λ _ r. of_heading r) (λ _ r. after_heading r)

-- the checksum of the bytes before it
abbrev pub seal_plan : List ℕ → CommitValue → Plan CommitValue CommitRecord
seal_plan bytes commit = due seal_record (λ place r. of_seal (take place bytes) r) (λ _ _. done commit)

-- the whole file of these bytes
abbrev pub commit_plan : List ℕ → Plan CommitValue CommitRecord
commit_plan bytes = and_then front_plan (λ commit. seal_plan bytes commit)
