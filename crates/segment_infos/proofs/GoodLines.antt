-- What the conditions of a segment say where none is broken.
use Rattle.std.proofs.Common.{◌≡◌, ℕ, ◌+◌, ◌≤◌, Bool, true, false, ltb, List, [], ◌∷◌, ◌++◌, Option, None, Some, refl, ap, ◌∙◌}
use Rattle.std.specs.Prelude.{is_none, unwrap_or}
use Rattle.std.proofs.lemmas.Bool.{ltb-false}
use Rattle.lu_grammar.specs.Records.{Condition, first_broken}
use Rattle.lu_types.specs.RuleNumbers as rules
use Rattle.segment_infos.specs.declared.infos.SegInfo.{SegInfo}
use Rattle.segment_infos.specs.declared.record.TheConstants.{MOST_DOCUMENTS}
use Rattle.segment_infos.specs.declared.record.FrontPart.{FrontPart}
use Rattle.segment_infos.specs.declared.record.SegmentLine.{SegmentLine}
use Rattle.segment_infos.specs.Numbers.{count_or_zero, segment_number_in}
use Rattle.segment_infos.specs.Values.{total_size}
use Rattle.segment_infos.specs.Conditions.{rule, has_number, is_twice, is_no_size, name_conditions, size_conditions, store_conditions, norm_conditions, flag_conditions, map_conditions, line_conditions}
use Rattle.segment_infos.specs.Format.{segment_of_line}
use Rattle.segment_infos.proofs.Judged.{first_broken-none}

some_is_none : {n : ℕ} → Some n ≡ None → ⊥
some_is_none h = cc

-- of conditions of which none is broken the first is not, and none of the others
pub not_first : (number : ℕ) (broken : Bool) (others : List Condition) → first_broken (rule number broken ∷ others) ≡ None → (broken ≡ false) × (first_broken others ≡ None)
not_first number true others e = absurd (some_is_none e)
not_first number false others e = (refl, e)

-- the conditions of a segment, list by list
pub record AreUnbroken (segments : List SegInfo) (l : SegmentLine) : Type 0 where
  pub names : first_broken (name_conditions segments l.front) ≡ None
  pub sizes : first_broken (size_conditions segments l.front) ≡ None
  pub stores : first_broken (store_conditions l.front) ≡ None
  pub norms : first_broken (norm_conditions l.norms) ≡ None
  pub flags : first_broken (flag_conditions l.front l.flags) ≡ None
  pub maps : first_broken (map_conditions l.map) ≡ None

pub line-unbroken : (segments : List SegInfo) (l : SegmentLine) → first_broken (line_conditions segments l) ≡ None → AreUnbroken segments l
line-unbroken segments l e =
    let names = name_conditions segments l.front in
    let sizes = size_conditions segments l.front in
    let stores = store_conditions l.front in
    let norms = norm_conditions l.norms in
    let flags = flag_conditions l.front l.flags in
    let maps = map_conditions l.map in
    let one = first_broken-none names (sizes ++ (stores ++ (norms ++ (flags ++ maps)))) e in
    let two = first_broken-none sizes (stores ++ (norms ++ (flags ++ maps))) one.1 in
    let three = first_broken-none stores (norms ++ (flags ++ maps)) two.1 in
    let four = first_broken-none norms (flags ++ maps) three.1 in
    let five = first_broken-none flags maps four.1 in
    record { names = one.0; sizes = two.0; stores = three.0; norms = four.0; flags = five.0; maps = five.1 }

-- a name with a number that no segment has
pub record IsNewName (segments : List SegInfo) (name : List ℕ) : Type 0 where
  pub number : ℕ
  pub is : segment_number_in name ≡ Some number
  pub new : has_number segments number ≡ false

pub name-new : (segments : List SegInfo) (f : FrontPart) → first_broken (name_conditions segments f) ≡ None → IsNewName segments f.name
name-new segments f e = go (segment_number_in f.name) refl e
  where
    go : (o : Option ℕ) → segment_number_in f.name ≡ o → first_broken (rule rules.seg_name (is_none o) ∷ rule rules.seg_twice (is_twice segments o) ∷ []) ≡ None → IsNewName segments f.name
    go None is h = absurd (some_is_none h)
    go (Some n) is h = record { number = n; is = is; new = (not_first rules.seg_twice (has_number segments n) [] h).0 }

-- the number of a segment is new after those before it
pub segment_of_line-new : (segments : List SegInfo) (l : SegmentLine) → first_broken (line_conditions segments l) ≡ None → has_number segments (segment_of_line l).number ≡ false
unfolding segment_of_line
segment_of_line-new segments l e =
    let named = name-new segments l.front (line-unbroken segments l e).names in
    ap (λ (o : Option ℕ). has_number segments (unwrap_or o 0)) named.is ∙ named.new

-- and there is room for its documents
pub segment_of_line-room : (segments : List SegInfo) (l : SegmentLine) → first_broken (line_conditions segments l) ≡ None → total_size segments + (segment_of_line l).size ≤ MOST_DOCUMENTS
unfolding segment_of_line
segment_of_line-room segments l e =
    let sizes = not_first rules.seg_size (is_no_size l.front.size) (rule rules.size_sum (ltb MOST_DOCUMENTS (total_size segments + count_or_zero l.front.size)) ∷ []) (line-unbroken segments l e).sizes in
    let sum = not_first rules.size_sum (ltb MOST_DOCUMENTS (total_size segments + count_or_zero l.front.size)) [] sizes.1 in
    ltb-false MOST_DOCUMENTS (total_size segments + count_or_zero l.front.size) sum.0
