-- The records of a commit, one after another.
use Rattle.std.proofs.Common.{◌≡◌, ℕ, ◌+◌, ◌<◌, ◌^◌, pos, not, List, [], ◌∷◌, ◌++◌, length, flat_map, take, None, refl, sym, ap, subst, ◌∙◌, arith}
use Rattle.std.specs.Ordering.{int_eq}
use mathlib.Core.Bool.{true≢false}
use Rattle.std.proofs.lemmas.List.{append-nil, take_at}
use Rattle.lu_grammar.specs.Parts.{int32, int64, spelling}
use Rattle.lu_grammar.specs.Records.{whole, Spells, first_broken}
use Rattle.lu_grammar.specs.Plans.{done, times}
use Rattle.lu_grammar.specs.Meaning.{Spelled, bytes_of, AreGood, due_after, Reads}
use Rattle.lu_grammar.proofs.Codecs.{ends, value_of, split_records}
use Rattle.lu_prims.specs.Checksum.{checksum}
use Rattle.lu_types.specs.RuleNumbers as rules
use Rattle.segment_infos.specs.declared.infos.SegInfo.{SegInfo}
use Rattle.segment_infos.specs.declared.record.TheConstants.{FORMAT_NUMBER}
use Rattle.segment_infos.specs.declared.record.Heading.{Heading}
use Rattle.segment_infos.specs.Numbers.{is_negative, count_or_zero}
use Rattle.segment_infos.specs.Values.{CommitValue, IsMap, AreLines, IsCommit}
use Rattle.segment_infos.specs.Records.{CommitRecord, heading, user, seal, heading_shape, map_shape, seal_record}
use Rattle.segment_infos.specs.Conditions.{heading_conditions, map_conditions}
use Rattle.segment_infos.specs.Format.{of_heading, of_user, of_seal, lines_kind, commit_of, user_plan, after_heading, front_plan, seal_plan, commit_plan}
use Rattle.segment_infos.specs.Spelling.{line_bytes, map_bytes, heading_bytes, unsealed_bytes, commit_bytes}
use Rattle.segment_infos.proofs.SpelledPieces.{followed-spelled}
use Rattle.segment_infos.proofs.GoodLines.{not_first}
use Rattle.segment_infos.proofs.OnlyParts.{map-is}
use Rattle.segment_infos.proofs.OnlyCommits.{same_number, heading-is, lines-only}

-- ---- user data

pub record IsFront (v : CommitValue) (a : List ℕ) : Type 0 where
  pub is : IsCommit v
  pub spelled : a ≡ unsealed_bytes v

-- the user data, and what they say besides the header and the segments
pub record IsUser (h : Heading) (segments : List SegInfo) (v : CommitValue) (a : List ℕ) : Type 0 where
  pub is : IsMap v.user
  pub version : v.version ≡ count_or_zero h.version
  pub counter : v.counter ≡ count_or_zero h.counter
  pub segments_are : v.segments ≡ segments
  pub spelled : a ≡ map_bytes v.user

user-only : (h : Heading) (segments : List SegInfo) (place : ℕ) (ss : List (Spelled CommitRecord)) (v : CommitValue) → AreGood (user_plan h segments) place ss → due_after (user_plan h segments) place ss ≡ done v → IsUser h segments v (bytes_of ss)
user-only h segments place [] v good none = absurd (true≢false (sym (ap ends none)))
user-only h segments place (s ∷ []) v good none =
    let then = followed-spelled map_shape (λ m. whole (user m)) s.it s.front good.0.0 in
    let is : user then.it ≡ s.it = then.second.0 in
    let bytes : s.front ≡ then.bytes = then.split ∙ ap (λ (t : List ℕ). then.bytes ++ t) then.second.1 ∙ append-nil then.bytes in
    let unbroken : first_broken (map_conditions then.it) ≡ None = subst (λ (q : CommitRecord). first_broken (of_user q) ≡ None) (sym is) good.0.1 in
    let m = map-is then.it then.bytes then.first (not_first rules.map_count (is_negative then.it.count) [] unbroken).0 in
    let says : commit_of h segments (user then.it) ≡ v = ap (commit_of h segments) is ∙ ap (value_of v) none in
    subst (λ (w : CommitValue). IsUser h segments w (s.front ++ [])) says (record { is = m.is; version = refl; counter = refl; segments_are = refl; spelled = append-nil s.front ∙ bytes ∙ m.spelled })
user-only h segments place (s ∷ t ∷ ss) v good none = absurd good.1

-- ---- all but the checksum

front-only : (ss : List (Spelled CommitRecord)) (v : CommitValue) → AreGood front_plan 0 ss → due_after front_plan 0 ss ≡ done v → IsFront v (bytes_of ss)
front-only [] v good none = absurd (true≢false (sym (ap ends none)))
front-only (s ∷ ss) v good none =
    let then = followed-spelled heading_shape (λ h. whole (heading h)) s.it s.front good.0.0 in
    let is : heading then.it ≡ s.it = then.second.0 in
    let h = then.it in
    let bytes : s.front ≡ then.bytes = then.split ∙ ap (λ (t : List ℕ). then.bytes ++ t) then.second.1 ∙ append-nil then.bytes in
    let unbroken : first_broken (heading_conditions h) ≡ None = subst (λ (q : CommitRecord). first_broken (of_heading q) ≡ None) (sym is) good.0.1 in
    let head = heading-is h then.bytes then.first unbroken in
    let there = 0 + length s.front in
    let split = split_records (times lines_kind (count_or_zero h.count) []) (λ segments. user_plan h segments) there ss v
    (subst (λ (q : CommitRecord). AreGood (after_heading q) there ss) (sym is) good.1) (subst (λ (q : CommitRecord). due_after (after_heading q) there ss ≡ done v) (sym is) none) in
    let no_lines : AreLines [] = record { lines = λ k d lt. absurd (omega arith); apart = λ i j d lt inside. absurd (omega arith); sizes = omega arith } in
    let lines = lines-only (count_or_zero h.count) [] there split.first split.value no_lines split.good split.none in
    let said = user-only h split.value (there + length (bytes_of split.first)) split.second v split.others_good split.others_none in
    let same : v.segments ≡ lines.more = said.segments_are ∙ lines.all in
    let number : length v.segments ≡ count_or_zero h.count = ap length same ∙ lines.count in
    record {
      is = record {
        version = subst (λ (n : ℕ). n < 2 ^ 63) (sym said.version) head.version;
        counter = subst (λ (n : ℕ). n < 2 ^ 31) (sym said.counter) head.counter;
        count = subst (λ (n : ℕ). n < 2 ^ 31) (sym number) head.count;
        segments = subst AreLines (sym said.segments_are) lines.are;
        user = said.is;
      };
      spelled = ap (λ (t : List ℕ). t ++ bytes_of ss) (bytes ∙ head.spelled ∙ heading_same h v said.version said.counter number)
          ∙ ap (λ (t : List ℕ). heading_bytes v ++ t) (split.all ∙ ap (λ (t : List ℕ). t ++ bytes_of split.second) (lines.spelled ∙ ap (flat_map line_bytes) (sym same)) ∙ ap (λ (t : List ℕ). flat_map line_bytes v.segments ++ t) said.spelled);
    }
  where
    heading_same : (h : Heading) (w : CommitValue) → w.version ≡ count_or_zero h.version → w.counter ≡ count_or_zero h.counter → length w.segments ≡ count_or_zero h.count
        → spelling int32 FORMAT_NUMBER ++ (spelling int64 (pos (count_or_zero h.version)) ++ (spelling int32 (pos (count_or_zero h.counter)) ++ spelling int32 (pos (count_or_zero h.count)))) ≡ heading_bytes w
    heading_same h w version counter number =
        ap (λ (n : ℕ). spelling int32 FORMAT_NUMBER ++ (spelling int64 (pos n) ++ (spelling int32 (pos (count_or_zero h.counter)) ++ spelling int32 (pos (count_or_zero h.count))))) (sym version)
        ∙ ap (λ (n : ℕ). spelling int32 FORMAT_NUMBER ++ (spelling int64 (pos w.version) ++ (spelling int32 (pos n) ++ spelling int32 (pos (count_or_zero h.count))))) (sym counter)
        ∙ ap (λ (n : ℕ). spelling int32 FORMAT_NUMBER ++ (spelling int64 (pos w.version) ++ (spelling int32 (pos w.counter) ++ spelling int32 (pos n)))) (sym number)

-- ---- the checksum

pub record IsSealed (v : CommitValue) (w : CommitValue) (before a : List ℕ) : Type 0 where
  pub same : w ≡ v
  pub spelled : a ≡ spelling int64 (pos (checksum before))

seal-only : (bytes : List ℕ) (v w : CommitValue) (place : ℕ) (ss : List (Spelled CommitRecord)) → AreGood (seal_plan bytes v) place ss → due_after (seal_plan bytes v) place ss ≡ done w → IsSealed v w (take place bytes) (bytes_of ss)
seal-only bytes v w place [] good none = absurd (true≢false (sym (ap ends none)))
seal-only bytes v w place (s ∷ t ∷ ss) good none = absurd good.1
seal-only bytes v w place (s ∷ []) good none = go s.it s.front good.0.0 good.0.1
  where
    go : (r : CommitRecord) (front : List ℕ) → Spells seal_record r front → first_broken (of_seal (take place bytes) r) ≡ None → IsSealed v w (take place bytes) (front ++ [])
    go r front (z, back, fits, is, (made, nothing)) unbroken =
        let good_sum : first_broken (of_seal (take place bytes) (seal z)) ≡ None = subst (λ (q : CommitRecord). first_broken (of_seal (take place bytes) q) ≡ None) (sym made) unbroken in
        let sum : z ≡ pos (checksum (take place bytes)) = same_number z (pos (checksum (take place bytes))) (not_first rules.checksum (not (int_eq z (pos (checksum (take place bytes))))) [] good_sum).0 in
        record {
          same = ap (value_of w) (sym none);
          spelled = append-nil front ∙ is ∙ ap (λ (t : List ℕ). spelling int64 z ++ t) nothing ∙ append-nil (spelling int64 z) ∙ ap (spelling int64) sum;
        }

-- ---- the whole file

pub commit-only : (bytes : List ℕ) (v : CommitValue) → Reads (commit_plan bytes) bytes v → IsCommit v × (bytes ≡ commit_bytes v)
commit-only bytes v h =
    let split = split_records front_plan (λ w. seal_plan bytes w) 0 h.records v h.good h.none_due in
    let front = front-only split.first split.value split.good split.none in
    let here = 0 + length (bytes_of split.first) in
    let sealed = seal-only bytes split.value v here split.second split.others_good split.others_none in
    let all : bytes ≡ bytes_of split.first ++ bytes_of split.second = h.front ∙ append-nil (bytes_of h.records) ∙ split.all in
    let before : take here bytes ≡ bytes_of split.first = ap (take here) all ∙ take_at (bytes_of split.first) (bytes_of split.second) here (omega arith) in (
      subst IsCommit (sym sealed.same) front.is,
      all ∙ ap (λ (t : List ℕ). t ++ bytes_of split.second) front.spelled
          ∙ ap (λ (t : List ℕ). unsealed_bytes split.value ++ t) (sealed.spelled ∙ ap (λ (t : List ℕ). spelling int64 (pos (checksum t))) (before ∙ front.spelled))
          ∙ ap commit_bytes (sym sealed.same),
    )

pub Reads-IsCommit : (bytes : List ℕ) (v : CommitValue) → Reads (commit_plan bytes) bytes v → IsCommit v
Reads-IsCommit bytes v h = (commit-only bytes v h).0
