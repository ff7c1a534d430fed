-- A commit is read record by record.
use Rattle.std.proofs.Common.{◌≡◌, ℕ, ◌<◌, ◌≤◌, List, [], length, take, ℤ, Result, Ok, Err, refl, sym, ap, ◌∙◌, arith}
use Rattle.std.proofs.lemmas.List.{length-append}
use Rattle.lu_grammar.specs.RuleNumbers.{trailing}
use Rattle.lu_grammar.specs.Bytes.{IsBytes, Cursor, start_of}
use Rattle.lu_grammar.specs.Reading.{◌>>=◌}
use Rattle.lu_grammar.specs.Records.{record_at}
use Rattle.lu_grammar.specs.Plans.{Plan, Broken, done, times, read_plan}
use Rattle.lu_grammar.specs.Meaning.{bytes_of, Reads, FirstFault}
use Rattle.lu_grammar.proofs.Plans.{read_due, read_due_broken, reads-read_plan}
use Rattle.lu_grammar.proofs.Loops.{read_plan-and_then, times-fault}
use Rattle.lu_grammar.proofs.Files.{file-fault, file-left, file-read}
use Rattle.lu_types.specs.declared.kind.FileKind.TheVariants.{Commit}
use Rattle.lu_types.specs.declared.fault.CodecFault.{CodecFault}
use Rattle.lu_types.specs.declared.fault.CodecFault.TheVariants as faults
use Rattle.segment_infos.specs.declared.infos.SegInfo.{SegInfo}
use Rattle.segment_infos.specs.declared.stop.Stop.{Stop}
use Rattle.segment_infos.specs.declared.stop.Stop.TheVariants as stops
use Rattle.segment_infos.specs.declared.record.Heading.{Heading}
use Rattle.segment_infos.specs.declared.record.MapPart.{MapPart}
use Rattle.segment_infos.specs.declared.record.SegmentLine.{SegmentLine}
use Rattle.segment_infos.specs.declared.reading.Unsealed.{Unsealed}
use Rattle.segment_infos.specs.Numbers.{count_or_zero}
use Rattle.segment_infos.specs.Values.{CommitValue}
use Rattle.segment_infos.specs.Records.{heading, line, user, seal, heading_record, line_record, user_record, seal_record}
use Rattle.segment_infos.specs.Format.{of_heading, of_line, of_user, of_seal, lines_kind, commit_of, user_plan, after_heading, front_plan, seal_plan, commit_plan}
use Rattle.lu_types.specs.Judging.{GivesIn, Checks}
use Rattle.segment_infos.specs.Answers.{GivesOr}
use Rattle.segment_infos.specs.Unsealed.{unsealed_value, fault_of_stop}

-- segments so far, and then a fault or no memory
pub lines-stopped : (i n : ℕ) (c d e f : Cursor) (segments : List SegInfo) (stop : Stop ℕ) → i < n → read_plan (times lines_kind i []) c ≡ Ok (segments, d)
    → GivesOr {X = SegmentLine} (λ l. line l) (record_at line_record (of_line segments) d) e (Err stop) → GivesIn {X = List SegInfo} Commit (λ s. s) (read_plan (times lines_kind n []) c) f (Err (fault_of_stop d.place stop))
lines-stopped i n c d e f segments (stops.Wrong rule) lt before here = (refl, times-fault lines_kind i n [] c segments d rule lt before here)
lines-stopped i n c d e f segments stops.OutOfMemory lt before here = tt

-- a header that breaks a rule
pub front-heading_broken : (c : Cursor) (rule : ℕ) → record_at heading_record of_heading c ≡ Err rule → read_plan front_plan c ≡ Err (record { offset = c.place; rule = rule })
front-heading_broken c rule e = read_due_broken heading_record (λ _ r. of_heading r) (λ _ r. after_heading r) c rule e

module _ (c d : Cursor) (h : Heading) (first : record_at heading_record of_heading c ≡ Ok (heading h, d)) where
  front-heading : read_plan front_plan c ≡ (read_plan (times lines_kind (count_or_zero h.count) []) d >>= λ x. read_plan (user_plan h x.0) x.1)
  front-heading =
      read_due heading_record (λ _ r. of_heading r) (λ _ r. after_heading r) c (heading h) d first ∙ read_plan-and_then (times lines_kind (count_or_zero h.count) []) (λ segments. user_plan h segments) d

  -- a fault of its segments, or no memory
  pub front-lines_fail : (n : ℕ) (e f : Cursor) (found : CodecFault) → n ≡ count_or_zero h.count → GivesIn {X = List SegInfo} Commit (λ s. s) (read_plan (times lines_kind n []) d) e (Err found)
      → GivesIn {X = Unsealed} Commit unsealed_value (read_plan front_plan c) f (Err found)
  front-lines_fail n e f faults.OutOfMemory same given = tt
  front-lines_fail n e f (faults.Spot spot) same given =
      (given.0, front-heading ∙ ap (λ (r : Result (List SegInfo × Cursor) Broken). r >>= λ x. read_plan (user_plan h x.0) x.1) (ap (λ (k : ℕ). read_plan (times lines_kind k []) d) (sym same) ∙ given.1))

  module _ (n : ℕ) (e : Cursor) (segments : List SegInfo) (same : n ≡ count_or_zero h.count) (second : read_plan (times lines_kind n []) d ≡ Ok (segments, e)) where
    front-lines : read_plan front_plan c ≡ read_plan (user_plan h segments) e
    front-lines = front-heading ∙ ap (λ (r : Result (List SegInfo × Cursor) Broken). r >>= λ x. read_plan (user_plan h x.0) x.1) (ap (λ (k : ℕ). read_plan (times lines_kind k []) d) (sym same) ∙ second)

    -- a fault of its user data, or no memory
    pub front-user_stopped : (f g : Cursor) (stop : Stop ℕ) → GivesOr {X = MapPart} (λ m. user m) (record_at user_record of_user e) f (Err stop) → GivesIn {X = Unsealed} Commit unsealed_value (read_plan front_plan c) g (Err (fault_of_stop e.place stop))
    front-user_stopped f g stops.OutOfMemory given = tt
    front-user_stopped f g (stops.Wrong rule) given = (refl, front-lines ∙ read_due_broken user_record (λ _ r. of_user r) (λ _ r. done (commit_of h segments r)) e rule given)

    -- and neither
    pub front-read : (f : Cursor) (m : MapPart) → record_at user_record of_user e ≡ Ok (user m, f) → read_plan front_plan c ≡ Ok (commit_of h segments (user m), f)
    unfolding read_plan
    front-read f m given = front-lines ∙ read_due user_record (λ _ r. of_user r) (λ _ r. done (commit_of h segments r)) e (user m) f given

-- ---- the whole file

-- what was read is within the bytes
pub within : {V R : Type 0} (plan : Plan V R) (bytes : List ℕ) (v : V) (d : Cursor) → IsBytes bytes → read_plan plan (start_of bytes) ≡ Ok (v, d) → d.place ≤ length bytes
within plan bytes v d fits e =
    let h = reads-read_plan plan (start_of bytes) v d fits e in
    omega (arith, h.place, ap length h.front, length-append (bytes_of h.records) d.rest)

module _ (bytes : List ℕ) (fits : IsBytes bytes) where
  -- a fault before the checksum, or no memory
  pub commit-fails : (d : Cursor) (found : CodecFault) → GivesIn {X = Unsealed} Commit unsealed_value (read_plan front_plan (start_of bytes)) d (Err found)
      → Checks {X = CommitValue} (λ c. c) Commit (commit_plan bytes) bytes (Err found)
  commit-fails d faults.OutOfMemory h = tt
  commit-fails d (faults.Spot spot) h =
      (h.0, file-fault (commit_plan bytes) bytes spot.offset spot.rule fits (read_plan-and_then front_plan (λ v. seal_plan bytes v) (start_of bytes) ∙ ap (λ (r : Result (CommitValue × Cursor) Broken). r >>= λ x. read_plan (seal_plan bytes x.0) x.1) h.1))

  module _ (v : CommitValue) (d : Cursor) (first : read_plan front_plan (start_of bytes) ≡ Ok (v, d)) where
    commit-front : read_plan (commit_plan bytes) (start_of bytes) ≡ read_plan (seal_plan bytes v) d
    commit-front = read_plan-and_then front_plan (λ w. seal_plan bytes w) (start_of bytes) ∙ ap (λ (r : Result (CommitValue × Cursor) Broken). r >>= λ x. read_plan (seal_plan bytes x.0) x.1) first

    -- a checksum that is not there, or another one
    pub commit-unsealed : (rule : ℕ) → record_at seal_record (of_seal (take d.place bytes)) d ≡ Err rule → FirstFault (commit_plan bytes) bytes d.place rule
    commit-unsealed rule e =
        file-fault (commit_plan bytes) bytes d.place rule fits (commit-front ∙ read_due_broken seal_record (λ place r. of_seal (take place bytes) r) (λ _ _. done v) d rule e)

    module _ (z : ℤ) (e : Cursor) (second : record_at seal_record (of_seal (take d.place bytes)) d ≡ Ok (seal z, e)) where
      commit-sealed : read_plan (commit_plan bytes) (start_of bytes) ≡ Ok (v, e)
      unfolding read_plan
      commit-sealed = commit-front ∙ read_due seal_record (λ place r. of_seal (take place bytes) r) (λ _ _. done v) d (seal z) e second

      -- bytes after it, and none
      pub commit-left : 0 < length e.rest → FirstFault (commit_plan bytes) bytes e.place trailing
      commit-left some = file-left (commit_plan bytes) bytes v e fits commit-sealed some

      pub commit-read : length e.rest ≡ 0 → Reads (commit_plan bytes) bytes v
      commit-read none = file-read (commit_plan bytes) bytes v e fits commit-sealed none
