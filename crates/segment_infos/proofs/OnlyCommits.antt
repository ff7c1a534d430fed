-- Bytes that read as a commit are its spelling, and it is one.
use Rattle.std.proofs.Common.{◌≡◌, ◌≢◌, ℕ, zero, suc, ◌+◌, ◌<◌, ◌≤◌, ◌^◌, ℤ, pos, negsuc, Bool, true, false, not, eqb, List, [], ◌∷◌, ◌++◌, length, flat_map, get_or, None, refl, sym, ap, subst, ◌∙◌, append_assoc, arith, FitsSigned, w32, w64}
use Rattle.std.specs.Ordering.{int_eq}
use mathlib.Core.Bool.{true≢false}
use Rattle.std.proofs.lemmas.Bool.{eqb-false}
use Rattle.std.proofs.lemmas.Bool.Decides.{Decides-int_eq}
use Rattle.std.proofs.lemmas.List.{append-nil}
use Rattle.std.proofs.lemmas.List.Elements.{All-push}
use Rattle.std.proofs.lemmas.List.Quantifiers.{all_pairs_push}
use Rattle.std.proofs.lemmas.List.Sums.{sum_by_push}
use Rattle.lu_grammar.specs.Parts.{byte, int32, int64, spelling}
use Rattle.lu_grammar.specs.Records.{whole, Spells, first_broken}
use Rattle.lu_grammar.specs.Plans.{done, each, times}
use Rattle.lu_grammar.specs.Meaning.{Spelled, bytes_of, AreGood, due_after}
use Rattle.lu_grammar.proofs.Codecs.{ends, value_of}
use Rattle.lu_types.specs.RuleNumbers as rules
use Rattle.segment_infos.specs.declared.infos.SegInfo.{SegInfo}
use Rattle.segment_infos.specs.declared.record.TheConstants.{FORMAT_NUMBER, MOST_DOCUMENTS}
use Rattle.segment_infos.specs.declared.record.Heading.{Heading}
use Rattle.segment_infos.specs.declared.record.SegmentLine.{SegmentLine}
use Rattle.segment_infos.specs.Numbers.{is_negative, count_or_zero}
use Rattle.segment_infos.specs.Values.{IsLine, AreLines, total_size}
use Rattle.segment_infos.specs.Records.{CommitRecord, line, heading_shape, front_shape, norm_shape, flag_shape, map_shape, line_shape, line_record}
use Rattle.segment_infos.specs.Conditions.{rule, has_number, heading_conditions, line_conditions}
use Rattle.segment_infos.specs.Format.{segment_of_line, of_line, with_line, lines_kind}
use Rattle.segment_infos.specs.Spelling.{front_bytes, gens_bytes, flag_bytes, line_bytes, map_bytes}
use Rattle.segment_infos.proofs.SpelledPieces.{followed-spelled}
use Rattle.segment_infos.proofs.LineReads.{after_front, after_norms, after_flags, with_map}
use Rattle.segment_infos.proofs.GoodLines.{not_first, line-unbroken, segment_of_line-new, segment_of_line-room}
use Rattle.segment_infos.proofs.OnlyParts.{all_fail, not_negative, map-is, norm-is, flag-is}
use Rattle.segment_infos.proofs.OnlyFronts.{front-is}

-- ---- a segment

-- a segment and its bytes
pub record IsSpelledLine (s : SegInfo) (a : List ℕ) : Type 0 where
  pub is : IsLine s
  pub spelled : a ≡ line_bytes s

line-made : (segments : List SegInfo) (m : SegmentLine) (a w x y z : List ℕ) → Spells front_shape m.front w → Spells norm_shape m.norms x → Spells flag_shape m.flags y → Spells map_shape m.map z → a ≡ w ++ (x ++ (y ++ z))
    → first_broken (line_conditions segments m) ≡ None → IsSpelledLine (segment_of_line m) a
unfolding segment_of_line
line-made segments m a w x y z front norms flags map bytes unbroken =
    let each = line-unbroken segments m unbroken in
    let f = front-is segments m.front w front each.names each.sizes each.stores in
    let n = norm-is m.norms x norms each.norms in
    let g = flag-is m.front m.flags y flags each.flags in
    let d = map-is m.map z map (not_first rules.map_count (is_negative m.map.count) [] each.maps).0 in
    let s = segment_of_line m in
    let fs : w ≡ front_bytes s = f.spelled in
    let ns : x ≡ spelling byte 1 ++ gens_bytes s.norm_gens = n.spelled in
    let gs : y ≡ flag_bytes s = g.spelled in
    let ds : z ≡ map_bytes s.diagnostics = d.spelled in
    record {
      is = record { number = f.number; size = f.size; del_gen = f.del_gen; store = f.store; norm_gens = n.is; deleted = g.deleted; diagnostics = d.is };
      spelled = bytes ∙ ap (λ (t : List ℕ). t ++ (x ++ (y ++ z))) fs ∙ ap (λ (t : List ℕ). front_bytes s ++ (t ++ (y ++ z))) ns ∙ ap (λ (t : List ℕ). front_bytes s ++ ((spelling byte 1 ++ gens_bytes s.norm_gens) ++ (t ++ z))) gs
          ∙ ap (λ (t : List ℕ). front_bytes s ++ ((spelling byte 1 ++ gens_bytes s.norm_gens) ++ (flag_bytes s ++ t))) ds;
    }

pub line-is : (segments : List SegInfo) (l : SegmentLine) (a : List ℕ) → Spells line_shape l a → first_broken (line_conditions segments l) ≡ None → IsSpelledLine (segment_of_line l) a
line-is segments l a spells good =
    let one = followed-spelled front_shape after_front l a spells in
    let two = followed-spelled norm_shape (after_norms one.it) l one.others one.second in
    let three = followed-spelled flag_shape (after_flags one.it two.it) l two.others two.second in
    let four = followed-spelled map_shape (with_map one.it two.it three.it) l three.others three.second in
    let made : record { front = one.it; norms = two.it; flags = three.it; map = four.it } ≡ l = four.second.0 in
    let bytes : a ≡ one.bytes ++ (two.bytes ++ (three.bytes ++ four.bytes)) =
    one.split ∙ ap (λ (t : List ℕ). one.bytes ++ t) (two.split ∙ ap (λ (t : List ℕ). two.bytes ++ t) (three.split ∙ ap (λ (t : List ℕ). three.bytes ++ t) (four.split ∙ ap (λ (t : List ℕ). four.bytes ++ t) four.second.1 ∙ append-nil four.bytes))) in
    subst (λ (m : SegmentLine). first_broken (line_conditions segments m) ≡ None → IsSpelledLine (segment_of_line m) a) made
    (line-made segments (record { front = one.it; norms = two.it; flags = three.it; map = four.it }) a one.bytes two.bytes three.bytes four.bytes one.first two.first three.first four.first bytes) good

-- ---- the segments

-- one segment more, of another number, where there is room for its documents
pub AreLines-push : (segments : List SegInfo) (s : SegInfo) → AreLines segments → IsLine s → has_number segments s.number ≡ false → total_size segments + s.size ≤ MOST_DOCUMENTS → AreLines (segments ++ s ∷ [])
AreLines-push segments s are is new room = record {
  lines = All-push IsLine segments s are.lines is;
  apart = all_pairs_push (λ t later. t.number ≢ later.number) segments s are.apart (λ k d lt same. eqb-false (get_or segments k d).number s.number (all_fail (λ t. eqb t.number s.number) segments new k d lt) same);
  sizes = subst (λ (n : ℕ). n ≤ MOST_DOCUMENTS) (sym (sum_by_push (λ t. t.size) segments s)) room;
}

-- the segments after those before, and their bytes
pub record MoreLines (n : ℕ) (before segments : List SegInfo) (bytes : List ℕ) : Type 0 where
  pub more : List SegInfo
  pub all : segments ≡ before ++ more
  pub count : length more ≡ n
  pub spelled : bytes ≡ flat_map line_bytes more
  pub are : AreLines segments

-- a record that is a segment
pub record IsLineRecord (segments : List SegInfo) (r : CommitRecord) (front : List ℕ) : Type 0 where
  pub it : SegmentLine
  pub is : r ≡ line it
  pub good : first_broken (line_conditions segments it) ≡ None
  pub spelled : IsSpelledLine (segment_of_line it) front

line-record : (segments : List SegInfo) (r : CommitRecord) (front : List ℕ) → Spells line_record r front → first_broken (of_line segments r) ≡ None → IsLineRecord segments r front
line-record segments r front spells good =
    let then = followed-spelled line_shape (λ l. whole (line l)) r front spells in
    let is : line then.it ≡ r = then.second.0 in
    let bytes : front ≡ then.bytes = then.split ∙ ap (λ (t : List ℕ). then.bytes ++ t) then.second.1 ∙ append-nil then.bytes in
    let unbroken : first_broken (line_conditions segments then.it) ≡ None = subst (λ (q : CommitRecord). first_broken (of_line segments q) ≡ None) (sym is) good in
    record { it = then.it; is = sym is; good = unbroken; spelled = subst (IsSpelledLine (segment_of_line then.it)) (sym bytes) (line-is segments then.it then.bytes then.first unbroken) }

pub lines-only : (n : ℕ) (before : List SegInfo) (place : ℕ) (ss : List (Spelled CommitRecord)) (segments : List SegInfo) → AreLines before → AreGood (times lines_kind n before) place ss → due_after (times lines_kind n before) place ss ≡ done segments
    → MoreLines n before segments (bytes_of ss)
unfolding each
lines-only zero before place [] segments are good none =
    let same : before ≡ segments = ap (value_of []) none in
    record { more = []; all = sym same ∙ sym (append-nil before); count = refl; spelled = refl; are = subst AreLines same are }
lines-only zero before place (s ∷ ss) segments are good none = absurd good
lines-only (suc n) before place [] segments are good none = absurd (true≢false (sym (ap ends none)))
lines-only (suc n) before place (s ∷ ss) segments are good none =
    let here = line-record before s.it s.front good.0.0 good.0.1 in
    let one = segment_of_line here.it in
    let next = times lines_kind n in
    let there = place + length s.front in
    let made : with_line before s.it ≡ before ++ one ∷ [] = ap (with_line before) here.is in
    let pushed = AreLines-push before one are here.spelled.is (segment_of_line-new before here.it here.good) (segment_of_line-room before here.it here.good) in
    let rest = lines-only n (before ++ one ∷ []) there ss segments pushed (subst (λ (ls : List SegInfo). AreGood (next ls) there ss) made good.1) (subst (λ (ls : List SegInfo). due_after (next ls) there ss ≡ done segments) made none) in
    record {
      more = one ∷ rest.more;
      all = rest.all ∙ append_assoc before (one ∷ []) rest.more;
      count = ap suc rest.count;
      spelled = ap (λ (t : List ℕ). t ++ bytes_of ss) here.spelled.spelled ∙ ap (λ (t : List ℕ). line_bytes one ++ t) rest.spelled;
      are = rest.are;
    }

-- ---- the whole file

-- a header that is good
pub record IsHeading (h : Heading) (a : List ℕ) : Type 0 where
  pub version : count_or_zero h.version < 2 ^ 63
  pub counter : count_or_zero h.counter < 2 ^ 31
  pub count : count_or_zero h.count < 2 ^ 31
  pub spelled : a ≡ spelling int32 FORMAT_NUMBER ++ (spelling int64 (pos (count_or_zero h.version)) ++ (spelling int32 (pos (count_or_zero h.counter)) ++ spelling int32 (pos (count_or_zero h.count))))

pub same_number : (z w : ℤ) → not (int_eq z w) ≡ false → z ≡ w
same_number z w h = go (int_eq z w) refl h
  where
    go : (b : Bool) → int_eq z w ≡ b → not b ≡ false → z ≡ w
    go true is e = (Decides-int_eq z w).0 is
    go false is e = absurd (true≢false e)

within : (k : ℕ) (z : ℤ) → 0 < k → ((n : ℕ) → z ≡ pos n → n < k) → count_or_zero z < k
within k (pos n) some fits = fits n refl
within k (negsuc n) some fits = some

fits_w32 : (z : ℤ) (n : ℕ) → FitsSigned w32 z → z ≡ pos n → n < 2 ^ 31
fits_w32 z n fits is = let f : FitsSigned w32 (pos n) = subst (FitsSigned w32) is fits in omega (arith, f)

fits_w64 : (z : ℤ) (n : ℕ) → FitsSigned w64 z → z ≡ pos n → n < 2 ^ 63
fits_w64 z n fits is = let f : FitsSigned w64 (pos n) = subst (FitsSigned w64) is fits in omega (arith, f)

pub heading-is : (h : Heading) (a : List ℕ) → Spells heading_shape h a → first_broken (heading_conditions h) ≡ None → IsHeading h a
heading-is h a (format, b, fits, is, (version, c, fits_2, is_2, (counter, d, fits_3, is_3, (count, e, fits_4, is_4, (made, none))))) good =
    subst (λ (g : Heading). first_broken (heading_conditions g) ≡ None → IsHeading g a) made (λ unbroken.
    let one = not_first rules.format (not (int_eq format FORMAT_NUMBER)) (rule rules.version (is_negative version) ∷ rule rules.name_counter (is_negative counter) ∷ rule rules.seg_count (is_negative count) ∷ []) unbroken in
    let two = not_first rules.version (is_negative version) (rule rules.name_counter (is_negative counter) ∷ rule rules.seg_count (is_negative count) ∷ []) one.1 in
    let three = not_first rules.name_counter (is_negative counter) (rule rules.seg_count (is_negative count) ∷ []) two.1 in
    let four = not_first rules.seg_count (is_negative count) [] three.1 in
    let bytes : a ≡ spelling int32 format ++ (spelling int64 version ++ (spelling int32 counter ++ spelling int32 count)) =
    is ∙ ap (λ (t : List ℕ). spelling int32 format ++ t) (is_2 ∙ ap (λ (t : List ℕ). spelling int64 version ++ t) (is_3 ∙ ap (λ (t : List ℕ). spelling int32 counter ++ t) (is_4 ∙ ap (λ (t : List ℕ). spelling int32 count ++ t) none ∙ append-nil (spelling int32 count)))) in
    record {
      version = within (2 ^ 63) version (omega arith) (λ n p. fits_w64 version n fits_2 p);
      counter = within (2 ^ 31) counter (omega arith) (λ n p. fits_w32 counter n fits_3 p);
      count = within (2 ^ 31) count (omega arith) (λ n p. fits_w32 count n fits_4 p);
      spelled = bytes
          ∙ ap (λ (z : ℤ). spelling int32 z ++ (spelling int64 version ++ (spelling int32 counter ++ spelling int32 count))) (same_number format FORMAT_NUMBER one.0)
          ∙ ap (λ (z : ℤ). spelling int32 FORMAT_NUMBER ++ (spelling int64 z ++ (spelling int32 counter ++ spelling int32 count))) (not_negative version two.0)
          ∙ ap (λ (z : ℤ). spelling int32 FORMAT_NUMBER ++ (spelling int64 (pos (count_or_zero version)) ++ (spelling int32 z ++ spelling int32 count))) (not_negative counter three.0)
          ∙ ap (λ (z : ℤ). spelling int32 FORMAT_NUMBER ++ (spelling int64 (pos (count_or_zero version)) ++ (spelling int32 (pos (count_or_zero counter)) ++ spelling int32 z))) (not_negative count four.0);
    }) good
