-- A segment is read piece by piece.
use Rattle.std.proofs.Common.{◌≡◌, ℕ, ℤ, List, Ok, Err, subst, ◌∙◌}
use Rattle.lu_grammar.specs.declared.bad.Bad.{Bad}
use Rattle.lu_grammar.specs.Bytes.{Cursor}
use Rattle.lu_grammar.specs.Parts.{byte, int32}
use Rattle.lu_grammar.specs.Reading.{read_part}
use Rattle.lu_grammar.specs.Records.{Shape, whole, part, followed, read_shape}
use Rattle.lu_grammar.proofs.Records.{read_shape-part}
use Rattle.segment_infos.specs.declared.infos.MapPair.{MapPair}
use Rattle.segment_infos.specs.declared.stop.Stop.{Stop}
use Rattle.segment_infos.specs.declared.record.FrontPart.{FrontPart}
use Rattle.segment_infos.specs.declared.record.NormPart.{NormPart}
use Rattle.segment_infos.specs.declared.record.FlagPart.{FlagPart}
use Rattle.segment_infos.specs.declared.record.MapPart.{MapPart}
use Rattle.segment_infos.specs.declared.record.SegmentLine.{SegmentLine}
use Rattle.segment_infos.specs.Numbers.{count_or_zero}
use Rattle.segment_infos.specs.Records.{many, gen_shape, norm_shape, pair_shape, map_shape, front_shape, flag_shape, line_shape}
use Rattle.segment_infos.specs.Answers.{GivesOr}
use Rattle.segment_infos.proofs.Pieces.{followed-read, followed-unread, followed-stopped}

-- ---- norms

abbrev pub with_gens : ℕ → ℤ → List ℤ → Shape NormPart
with_gens single count gens = whole (record { single = single; count = count; gens = gens })

abbrev pub after_count : ℕ → ℤ → Shape NormPart
after_count single count = followed (many gen_shape (count_or_zero count)) (with_gens single count)

module _ (c d e : Cursor) (single : ℕ) (count : ℤ) (first : read_part byte c ≡ Ok (single, d)) (second : read_part int32 d ≡ Ok (count, e)) where
  norm-front : read_shape norm_shape c ≡ read_shape (after_count single count) e
  norm-front = read_shape-part byte (λ s. part int32 (λ n. after_count s n)) c single d first ∙ read_shape-part int32 (λ n. after_count single n) d count e second

  pub norm-stopped : (k : ℕ) (f g : Cursor) (stop : Stop Bad) → k ≡ count_or_zero count → GivesOr {X = List ℤ} (λ x. x) (read_shape (many gen_shape k) e) f (Err stop) → GivesOr {X = NormPart} (λ x. x) (read_shape norm_shape c) g (Err stop)
  norm-stopped k f g stop same h =
      followed-stopped (many gen_shape (count_or_zero count)) (with_gens single count) (read_shape norm_shape c) e f g stop norm-front (subst (λ (n : ℕ). GivesOr {X = List ℤ} (λ x. x) (read_shape (many gen_shape n) e) f (Err stop)) same h)

  pub norm-read : (k : ℕ) (f : Cursor) (gens : List ℤ) → k ≡ count_or_zero count → read_shape (many gen_shape k) e ≡ Ok (gens, f) → read_shape norm_shape c ≡ Ok (record { single = single; count = count; gens = gens }, f)
  norm-read k f gens same h =
      norm-front ∙ followed-read (many gen_shape (count_or_zero count)) (with_gens single count) e gens f (subst (λ (n : ℕ). read_shape (many gen_shape n) e ≡ Ok (gens, f)) same h)

-- ---- a Map

abbrev pub with_pairs : ℤ → List MapPair → Shape MapPart
with_pairs count pairs = whole (record { count = count; pairs = pairs })

abbrev pub after_map_count : ℤ → Shape MapPart
after_map_count count = followed (many pair_shape (count_or_zero count)) (with_pairs count)

module _ (c d : Cursor) (count : ℤ) (first : read_part int32 c ≡ Ok (count, d)) where
  map-front : read_shape map_shape c ≡ read_shape (after_map_count count) d
  map-front = read_shape-part int32 (λ n. after_map_count n) c count d first

  pub map-stopped : (k : ℕ) (f g : Cursor) (stop : Stop Bad) → k ≡ count_or_zero count → GivesOr {X = List MapPair} (λ x. x) (read_shape (many pair_shape k) d) f (Err stop) → GivesOr {X = MapPart} (λ x. x) (read_shape map_shape c) g (Err stop)
  map-stopped k f g stop same h =
      followed-stopped (many pair_shape (count_or_zero count)) (with_pairs count) (read_shape map_shape c) d f g stop map-front (subst (λ (n : ℕ). GivesOr {X = List MapPair} (λ x. x) (read_shape (many pair_shape n) d) f (Err stop)) same h)

  pub map-read : (k : ℕ) (f : Cursor) (pairs : List MapPair) → k ≡ count_or_zero count → read_shape (many pair_shape k) d ≡ Ok (pairs, f) → read_shape map_shape c ≡ Ok (record { count = count; pairs = pairs }, f)
  map-read k f pairs same h =
      map-front ∙ followed-read (many pair_shape (count_or_zero count)) (with_pairs count) d pairs f (subst (λ (n : ℕ). read_shape (many pair_shape n) d ≡ Ok (pairs, f)) same h)

-- ---- a segment

abbrev pub with_map : FrontPart → NormPart → FlagPart → MapPart → Shape SegmentLine
with_map front norms flags map = whole (record { front = front; norms = norms; flags = flags; map = map })

abbrev pub after_flags : FrontPart → NormPart → FlagPart → Shape SegmentLine
after_flags front norms flags = followed map_shape (with_map front norms flags)

abbrev pub after_norms : FrontPart → NormPart → Shape SegmentLine
after_norms front norms = followed flag_shape (after_flags front norms)

abbrev pub after_front : FrontPart → Shape SegmentLine
after_front front = followed norm_shape (after_norms front)

pub line-unread : (c : Cursor) (bad : Bad) → read_shape front_shape c ≡ Err bad → read_shape line_shape c ≡ Err bad
line-unread c bad e = followed-unread front_shape after_front c bad e

module _ (c d : Cursor) (front : FrontPart) (first : read_shape front_shape c ≡ Ok (front, d)) where
  line-front : read_shape line_shape c ≡ read_shape (after_front front) d
  line-front = followed-read front_shape after_front c front d first

  pub line-norms_stopped : (f g : Cursor) (stop : Stop Bad) → GivesOr {X = NormPart} (λ x. x) (read_shape norm_shape d) f (Err stop) → GivesOr {X = SegmentLine} (λ x. x) (read_shape line_shape c) g (Err stop)
  line-norms_stopped f g stop h = followed-stopped norm_shape (after_norms front) (read_shape line_shape c) d f g stop line-front h

  module _ (e : Cursor) (norms : NormPart) (second : read_shape norm_shape d ≡ Ok (norms, e)) where
    line-norms : read_shape line_shape c ≡ read_shape (after_norms front norms) e
    line-norms = line-front ∙ followed-read norm_shape (after_norms front) d norms e second

    pub line-flags_unread : (bad : Bad) → read_shape flag_shape e ≡ Err bad → read_shape line_shape c ≡ Err bad
    line-flags_unread bad h = line-norms ∙ followed-unread flag_shape (after_flags front norms) e bad h

    module _ (f : Cursor) (flags : FlagPart) (third : read_shape flag_shape e ≡ Ok (flags, f)) where
      line-flags : read_shape line_shape c ≡ read_shape (after_flags front norms flags) f
      line-flags = line-norms ∙ followed-read flag_shape (after_flags front norms) e flags f third

      pub line-map_stopped : (g h : Cursor) (stop : Stop Bad) → GivesOr {X = MapPart} (λ x. x) (read_shape map_shape f) g (Err stop) → GivesOr {X = SegmentLine} (λ x. x) (read_shape line_shape c) h (Err stop)
      line-map_stopped g h stop last = followed-stopped map_shape (with_map front norms flags) (read_shape line_shape c) f g h stop line-flags last

      pub line-read : (g : Cursor) (map : MapPart) → read_shape map_shape f ≡ Ok (map, g) → read_shape line_shape c ≡ Ok (record { front = front; norms = norms; flags = flags; map = map }, g)
      line-read g map last = line-flags ∙ followed-read map_shape (with_map front norms flags) f map g last
