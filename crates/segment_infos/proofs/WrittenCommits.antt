-- What is written is read as exactly this commit; a beginning of it, and its pending form, are not good.
use Rattle.std.proofs.Common.{◌≡◌, ℕ, zero, suc, ◌+◌, ◌-◌, ◌<◌, ◌≤◌, ◌^◌, ℤ, pos, true, false, eqb, List, [], ◌∷◌, ◌++◌, length, flat_map, take, drop, get_or, None, refl, sym, ap, subst, ◌∙◌, append_assoc, arith, FitsSigned, w32}
use Rattle.std.specs.Ordering.{int_eq}
use Rattle.std.proofs.lemmas.Bool.{ne_eqb}
use Rattle.std.proofs.lemmas.Bool.Decides.{Decides-int_eq}
use Rattle.std.proofs.lemmas.List.{append-nil, length-append, take_at, append_cancel_left, nil_from_length, take-append-drop, length-drop}
use Rattle.std.proofs.lemmas.List.Folds.{list_any_none}
use Rattle.std.proofs.lemmas.List.Sums.{sum_by-append}
use Rattle.lu_grammar.specs.Parts.{int32, int64, spelling}
use Rattle.lu_grammar.specs.Records.{Spells, first_broken}
use Rattle.lu_grammar.specs.Plans.{done, each, times, read_plan}
use Rattle.lu_grammar.specs.Meaning.{Reads}
use Rattle.lu_grammar.proofs.Records.{at, same_pair}
use Rattle.lu_prims.specs.Checksum.{checksum, message}
use Rattle.lu_prims.proofs.Division.{fed}
use Rattle.lu_prims.proofs.Remainders.{checksum_is}
use Rattle.segment_infos.specs.declared.infos.SegInfo.{SegInfo}
use Rattle.segment_infos.specs.declared.record.TheConstants.{FORMAT_NUMBER, MOST_DOCUMENTS}
use Rattle.segment_infos.specs.declared.record.Heading.{Heading}
use Rattle.segment_infos.specs.Values.{CommitValue, IsLine, AreLines, IsCommit, total_size}
use Rattle.segment_infos.specs.Records.{heading, line, user, seal, heading_shape, map_shape, line_shape, heading_record, user_record, seal_record, line_record}
use Rattle.segment_infos.specs.Conditions.{has_number}
use Rattle.segment_infos.specs.Format.{of_heading, of_line, of_user, of_seal, with_line, lines_kind, commit_of, user_plan, after_heading, front_plan, seal_plan, commit_plan}
use Rattle.segment_infos.specs.Spelling.{line_bytes, map_bytes, heading_bytes, unsealed_bytes, commit_bytes, pending}
use Rattle.segment_infos.proofs.LineParts.{map_of, line_of, map-spells, line-spells}
use Rattle.segment_infos.proofs.LineBack.{line_of-good, segment_of_line-line_of}
use Rattle.segment_infos.proofs.OnlyFiles.{commit-only}
use Rattle.segment_infos.proofs.WrittenPlans.{Written, written-done, written-due, written-then, written-Reads, written-read, wrapped-spells}

-- ---- the segments

-- lines, of which the first may be left off
tail-lines : (before : List SegInfo) (s : SegInfo) (segments : List SegInfo) → AreLines (before ++ s ∷ segments) → AreLines ((before ++ s ∷ []) ++ segments)
tail-lines before s segments are = subst AreLines (sym (append_assoc before (s ∷ []) segments)) are

at-length : (before : List SegInfo) (s d : SegInfo) (segments : List SegInfo) → get_or (before ++ s ∷ segments) (length before) d ≡ s
at-length [] s d segments = refl
at-length (b ∷ before) s d segments = at-length before s d segments

at-front : (before after : List SegInfo) (k : ℕ) (d : SegInfo) → k < length before → get_or (before ++ after) k d ≡ get_or before k d
at-front [] after k d lt = absurd (omega arith)
at-front (b ∷ before) after zero d lt = refl
at-front (b ∷ before) after (suc k) d lt = at-front before after k d (omega arith)

-- one of them is a line, of a new number, and there is room for its documents
pub record IsNext (before : List SegInfo) (s : SegInfo) : Type 0 where
  pub is : IsLine s
  pub new : has_number before s.number ≡ false
  pub room : total_size before + s.size ≤ MOST_DOCUMENTS

next-line : (before : List SegInfo) (s : SegInfo) (segments : List SegInfo) → AreLines (before ++ s ∷ segments) → IsNext before s
next-line before s segments are =
    let longer : length before < length (before ++ s ∷ segments) = omega (arith, length-append before (s ∷ segments)) in
    let total : total_size (before ++ s ∷ segments) ≡ total_size before + total_size (s ∷ segments) = sum_by-append (λ t. t.size) before (s ∷ segments) in
    let first : total_size (s ∷ segments) ≡ (0 + s.size) + total_size segments = sum_by-append (λ t. t.size) (s ∷ []) segments in
    record {
      is = subst IsLine (at-length before s s segments) (are.lines (length before) s longer);
      new = list_any_none (λ t. eqb t.number s.number) before (λ k d lt. ne_eqb (get_or before k d).number s.number (λ same.
          are.apart k (length before) d lt longer (ap (λ (t : SegInfo). t.number) (at-front before (s ∷ segments) k d lt) ∙ same ∙ ap (λ (t : SegInfo). t.number) (sym (at-length before s d segments)))));
      room = omega (arith, are.sizes, total, first);
    }

lines-written : (before segments : List SegInfo) (place : ℕ) → AreLines (before ++ segments) → Written (times lines_kind (length segments) before) place (flat_map line_bytes segments) (before ++ segments)
unfolding each
lines-written before [] place are = subst (Written (times lines_kind 0 before) place []) (sym (append-nil before)) (written-done place before)
lines-written before (s ∷ segments) place are =
    let next = next-line before s segments are in
    let l = line_of s in
    let spelled : Spells line_record (line l) (line_bytes s) = wrapped-spells line_shape (λ k. line k) l (line_bytes s) (line-spells s next.is) in
    let good : first_broken (of_line before (line l)) ≡ None = line_of-good before s next.is next.new next.room in
    let made : before ++ s ∷ [] ≡ with_line before (line l) = ap (λ (t : SegInfo). before ++ t ∷ []) (sym (segment_of_line-line_of s next.is)) in
    let others = lines-written (before ++ s ∷ []) segments (place + length (line_bytes s)) (tail-lines before s segments are) in
    let rest : Written (times lines_kind (length segments) (with_line before (line l))) (place + length (line_bytes s)) (flat_map line_bytes segments) (before ++ s ∷ segments) =
    subst (λ (ls : List SegInfo). Written (times lines_kind (length segments) ls) (place + length (line_bytes s)) (flat_map line_bytes segments) (before ++ s ∷ segments)) made
    (subst (Written (times lines_kind (length segments) (before ++ s ∷ [])) (place + length (line_bytes s)) (flat_map line_bytes segments)) (append_assoc before (s ∷ []) segments) others) in
    written-due line_record (λ _ r. of_line before r) (λ _ r. times lines_kind (length segments) (with_line before r)) place (line l) (line_bytes s) (flat_map line_bytes segments) (before ++ s ∷ segments) spelled good rest

-- ---- all but the checksum

heading_of : CommitValue → Heading
heading_of v = record { format = FORMAT_NUMBER; version = pos v.version; counter = pos v.counter; count = pos (length v.segments) }

heading-spells : (v : CommitValue) → IsCommit v → Spells heading_shape (heading_of v) (heading_bytes v)
unfolding heading_of
heading-spells v is = (
  FORMAT_NUMBER,
  spelling int64 (pos v.version) ++ (spelling int32 (pos v.counter) ++ spelling int32 (pos (length v.segments))),
  format-fits,
  refl,
  (
    pos v.version,
    spelling int32 (pos v.counter) ++ spelling int32 (pos (length v.segments)),
    omega (arith, is.version),
    refl,
    (pos v.counter, spelling int32 (pos (length v.segments)), omega (arith, is.counter), refl, (pos (length v.segments), [], omega (arith, is.count), sym (append-nil (spelling int32 (pos (length v.segments)))), (refl, refl))),
  ),
)
  where
    format-fits : FitsSigned w32 FORMAT_NUMBER
    format-fits = omega arith

user-written : (v : CommitValue) (place : ℕ) → IsCommit v → Written (user_plan (heading_of v) v.segments) place (map_bytes v.user) v
unfolding heading_of
user-written v place is =
    subst (λ (t : List ℕ). Written (user_plan (heading_of v) v.segments) place t v) (append-nil (map_bytes v.user))
    (written-due user_record (λ _ r. of_user r) (λ _ r. done (commit_of (heading_of v) v.segments r)) place (user (map_of v.user)) (map_bytes v.user) [] v
    (wrapped-spells map_shape (λ m. user m) (map_of v.user) (map_bytes v.user) (map-spells v.user is.user)) refl (written-done (place + length (map_bytes v.user)) v))

pub front-written : (v : CommitValue) → IsCommit v → Written front_plan 0 (unsealed_bytes v) v
unfolding heading_of
front-written v is =
    let there = 0 + length (heading_bytes v) in
    written-due heading_record (λ _ r. of_heading r) (λ _ r. after_heading r) 0 (heading (heading_of v)) (heading_bytes v) (flat_map line_bytes v.segments ++ map_bytes v.user) v
    (wrapped-spells heading_shape (λ h. heading h) (heading_of v) (heading_bytes v) (heading-spells v is)) refl
    (written-then (times lines_kind (length v.segments) []) (λ segments. user_plan (heading_of v) segments) there (flat_map line_bytes v.segments) (map_bytes v.user) v.segments v
    (lines-written [] v.segments there is.segments) (user-written v (there + length (flat_map line_bytes v.segments)) is))

-- ---- the whole file

sum-fits : (bytes : List ℕ) → checksum bytes < 2 ^ 63
sum-fits bytes = omega (arith, checksum_is bytes (fed (message bytes) 0xFFFF_FFFF) refl)

seal-written : (v : CommitValue) (bytes : List ℕ) → take (0 + length (unsealed_bytes v)) bytes ≡ unsealed_bytes v
    → Written (seal_plan bytes v) (0 + length (unsealed_bytes v)) (spelling int64 (pos (checksum (unsealed_bytes v)))) v
seal-written v bytes before =
    let place = 0 + length (unsealed_bytes v) in
    let sum = checksum (unsealed_bytes v) in
    let same : int_eq (pos sum) (pos (checksum (take place bytes))) ≡ true = (Decides-int_eq (pos sum) (pos (checksum (take place bytes)))).1 (ap (λ (t : List ℕ). pos (checksum t)) (sym before)) in
    let good : first_broken (of_seal (take place bytes) (seal (pos sum))) ≡ None = rw same refl in
    subst (λ (t : List ℕ). Written (seal_plan bytes v) place t v) (append-nil (spelling int64 (pos sum)))
    (written-due seal_record (λ p r. of_seal (take p bytes) r) (λ _ _. done v) place (seal (pos sum)) (spelling int64 (pos sum)) [] v
    (pos sum, [], omega (arith, sum-fits (unsealed_bytes v)), sym (append-nil (spelling int64 (pos sum))), (refl, refl)) good (written-done (place + length (spelling int64 (pos sum))) v))

pub commit-reads : (v : CommitValue) → IsCommit v → Reads (commit_plan (commit_bytes v)) (commit_bytes v) v
commit-reads v is =
    let front = unsealed_bytes v in
    let sum = spelling int64 (pos (checksum front)) in
    written-Reads (commit_plan (commit_bytes v)) (commit_bytes v) v
    (written-then front_plan (λ w. seal_plan (commit_bytes v) w) 0 front sum v v (front-written v is) (seal-written v (commit_bytes v) (take_at front sum (0 + length front) (omega arith))))

-- ---- beginnings

-- what is written is no beginning of what is written of another commit
pub no_beginning : (v w : CommitValue) (more : List ℕ) → IsCommit v → IsCommit w → commit_bytes w ++ more ≡ commit_bytes v → more ≡ []
no_beginning v w more is other same =
    let sum = spelling int64 (pos (checksum (unsealed_bytes v))) in
    let sum_2 = spelling int64 (pos (checksum (unsealed_bytes w))) in
    let first = written-read front_plan (unsealed_bytes v) sum v (front-written v is) in
    let second = written-read front_plan (unsealed_bytes w) (sum_2 ++ more) w (front-written w other) in
    let joined : unsealed_bytes w ++ (sum_2 ++ more) ≡ unsealed_bytes v ++ sum = sym (append_assoc (unsealed_bytes w) sum_2 more) ∙ same in
    let both = same_pair w v (at (length (unsealed_bytes w)) (sum_2 ++ more)) (at (length (unsealed_bytes v)) sum) (sym second ∙ ap (λ (t : List ℕ). read_plan front_plan (at 0 t)) joined ∙ first) in
    let long : length (commit_bytes w) ≡ length (commit_bytes v) = ap (λ (u : CommitValue). length (commit_bytes u)) both.0 in
    nil_from_length more (omega (arith, ap length same, length-append (commit_bytes w) more, long))

pub prefix-not_good : (bytes : List ℕ) (count : ℕ) (v w : CommitValue) → Reads (commit_plan bytes) bytes v → count < length bytes → Reads (commit_plan (take count bytes)) (take count bytes) w → ⊥
prefix-not_good bytes count v w whole_file less part =
    let first = commit-only bytes v whole_file in
    let second = commit-only (take count bytes) w part in
    let same : commit_bytes w ++ drop count bytes ≡ commit_bytes v = ap (λ (t : List ℕ). t ++ drop count bytes) (sym second.1) ∙ take-append-drop count bytes ∙ first.1 in
    let none : drop count bytes ≡ [] = no_beginning v w (drop count bytes) first.0 second.0 same in
    omega (arith, less, ap length none, length-drop count bytes)

-- ---- the pending form

pub pending-last : (front : List ℕ) (x : ℕ) → pending (front ++ x ∷ []) ≡ front ++ (255 - x) ∷ []
pending-last [] x = refl
pending-last (b ∷ []) x = refl
pending-last (b ∷ c ∷ front) x = ap (λ (t : List ℕ). b ∷ t) (pending-last (c ∷ front) x)

-- seven bytes and one
pub record EightBytes (bytes : List ℕ) : Type 0 where
  pub front : List ℕ
  pub last : ℕ
  pub is : bytes ≡ front ++ last ∷ []
  pub long : length bytes ≡ 8

eight : (z : ℤ) → EightBytes (spelling int64 z)
eight z = record { front = take 7 (spelling int64 z); last = get_or (spelling int64 z) 7 0; is = refl; long = refl }

pub pending-not_good : (bytes : List ℕ) (v w : CommitValue) → Reads (commit_plan bytes) bytes v → Reads (commit_plan (pending bytes)) (pending bytes) w → ⊥
pending-not_good bytes v w final turned =
    let first = commit-only bytes v final in
    let second = commit-only (pending bytes) w turned in
    let u = unsealed_bytes v in
    let x = unsealed_bytes w in
    let sum = eight (pos (checksum u)) in
    let sum_2 = eight (pos (checksum x)) in
    let ends : commit_bytes v ≡ (u ++ sum.front) ++ sum.last ∷ [] = ap (λ (t : List ℕ). u ++ t) sum.is ∙ sym (append_assoc u sum.front (sum.last ∷ [])) in
    let flipped : pending bytes ≡ u ++ (sum.front ++ (255 - sum.last) ∷ []) = ap pending (first.1 ∙ ends) ∙ pending-last (u ++ sum.front) sum.last ∙ append_assoc u sum.front ((255 - sum.last) ∷ []) in
    let other : u ++ (sum.front ++ (255 - sum.last) ∷ []) ≡ x ++ spelling int64 (pos (checksum x)) = sym flipped ∙ second.1 in
    let long : length u ≡ length x = omega (arith, ap length other, length-append u (sum.front ++ (255 - sum.last) ∷ []), length-append x (spelling int64 (pos (checksum x))), sum_2.long, length-append sum.front ((255 - sum.last) ∷ []), ap length sum.is, length-append sum.front (sum.last ∷ []), sum.long) in
    let same : u ≡ x = sym (take_at u (sum.front ++ (255 - sum.last) ∷ []) (length u) refl) ∙ ap (take (length u)) other ∙ take_at x (spelling int64 (pos (checksum x))) (length u) (sym long) in
    let again : sum.front ++ (255 - sum.last) ∷ [] ≡ sum.front ++ sum.last ∷ [] =
    append_cancel_left u (sum.front ++ (255 - sum.last) ∷ []) (sum.front ++ sum.last ∷ []) (other ∙ ap (λ (t : List ℕ). t ++ spelling int64 (pos (checksum t))) (sym same) ∙ ap (λ (t : List ℕ). u ++ t) sum.is) in
    let one : (255 - sum.last) ∷ [] ≡ sum.last ∷ [] = append_cancel_left sum.front ((255 - sum.last) ∷ []) (sum.last ∷ []) again in
    let turned_is : 255 - sum.last ≡ sum.last = ap (λ (t : List ℕ). get_or t 0 0) one in
    omega (arith, turned_is)

-- the last byte alone differs
pub length-pending : (bytes : List ℕ) → length (pending bytes) ≡ length bytes
length-pending [] = refl
length-pending (b ∷ []) = refl
length-pending (b ∷ c ∷ bytes) = ap suc (length-pending (c ∷ bytes))

pub pending-front : (bytes : List ℕ) → take (length bytes - 1) (pending bytes) ≡ take (length bytes - 1) bytes
pending-front [] = refl
pending-front (b ∷ []) = refl
pending-front (b ∷ c ∷ bytes) =
    let n : length (b ∷ c ∷ bytes) - 1 ≡ suc (length (c ∷ bytes) - 1) = omega arith in
    ap (λ (k : ℕ). take k (pending (b ∷ c ∷ bytes))) n ∙ ap (λ (t : List ℕ). b ∷ t) (pending-front (c ∷ bytes)) ∙ ap (λ (k : ℕ). take k (b ∷ c ∷ bytes)) (sym n)
