use Rattle.std.proofs.Common.{◌≡◌, ℕ, suc, ◌+◌, ◌-◌, ◌/◌, ◌^◌, ◌<◌, ◌≤◌, inl, inr, Ok, List, [], ◌∷◌, length, set, get_or, get_or-set_same, get_or-set_other, refl, sym, subst, ap, ◌∙◌, arith}
use Rattle.std.proofs.Math.ListN.{length-set}
use Rattle.std.proofs.lemmas.Bool.{cases_eq}
use Rattle.lu_grammar.specs.Bytes.{Cursor, place_in}
use Rattle.lu_grammar.specs.Plans.{read_plan}
use Rattle.freq_skips.specs.declared.datum.Point.{Point}
use Rattle.freq_skips.specs.declared.walk.LevelPlace.{LevelPlace}
use Rattle.freq_skips.specs.Entries.{postings_from}
use Rattle.freq_skips.specs.Levels.{no_point, level_count, levels, level_of, AreData}
use Rattle.freq_skips.specs.Walks.{IsOnLevel, no_level_place, start_in, points_in, value_from}
use Rattle.freq_skips.proofs.Powers.{stride-two}
use Rattle.freq_skips.proofs.LevelsLemmas.{power-less}
use Rattle.freq_skips.proofs.WalkLemmas.{LevelsRead-good, levels-read, levels-points, highest-same, IsOnLevel-start}
use Rattle.freq_skips.proofs.walk.level_starts.Goals as goal

pub loop-number-init : goal.loop-number-init
loop-number-init c =
    let t = c.args.term.now in
    let frq = c.args.frq.now in
    let some : 0 < level_count t = omega arith in
    let read = LevelsRead-good t frq (λ i. (c.type_inv.frq i).fits) c.requires.good some in
    record {
      within = omega arith;
      size = refl;
      stride = c.requires.power;
      place_within = read.within;
      above = [];
      above_count = omega arith;
      end = read.end;
      reads = ap (λ (n : ℕ). read_plan (levels t (postings_from t (start_in t frq)) n []) (place_in frq (t.info.freq + t.info.skip))) c.requires.count ∙ read.reads;
      on = λ n ge lt. absurd (omega arith);
    }

pub quotient-requires : goal.quotient-requires
quotient-requires c =
    let s = c.args.term.now.rules.skip_interval in
    let m = c.loop-number.number - 1 in
    let is : c.loop-number.number ≡ suc m = omega arith in
    subst (λ (n : ℕ). 2 ≤ n) (sym (c.loop-number.invariant.stride ∙ ap (λ (k : ℕ). s ^ k) is)) (stride-two s m c.requires.good.interval)

pub loop-number-preserved : goal.loop-number-preserved
loop-number-preserved c =
    let t = c.args.term.now in
    let frq = c.args.frq.now in
    let s = t.rules.skip_interval in
    let i = c.loop-number.invariant in
    let m = c.loop-number.number - 1 in
    let is : c.loop-number.number ≡ suc m = omega arith in
    let ps = postings_from t (start_in t frq) in
    let found = (value_from t (start_in t frq)).levels in
    let one = levels-read t ps c.loop-number.number m i.above (place_in frq c.loop-number.place) found i.end is i.reads in
    let start = c.data_start-start.ensures.data ps i.above one.0 one.1 (highest-same c.loop-number.number c.args.count (length i.above) (omega arith) i.above_count) one.2 in
    let stride = c.quotient.ensures.quotient ∙ ap (λ (n : ℕ). t.info.doc_freq / n) (i.stride ∙ ap (λ (k : ℕ). s ^ k) is) in
    let end = c.data_end-place.ensures ps start.0 i.above one.0.points one.1 stride start.1 in
    let reads : read_plan (levels t ps m (one.0.points ∷ i.above)) (place_in frq c.data_end-place.result) ≡ Ok (found, i.end) = ap (λ (d : Cursor). read_plan (levels t ps m (one.0.points ∷ i.above)) d) (sym end.0) ∙ one.3 in
    let r : LevelPlace = record { place = c.data_start-start.result; count = 0; last = no_point } in
    let points = levels-points t ps m one.0.points i.above (place_in frq c.data_end-place.result) found i.end reads in
    let here : IsOnLevel t ps m (points_in t frq m) frq 0 r =
    IsOnLevel-start t ps m (points_in t frq m) frq start.0 i.above c.data_start-start.result one.1
    (subst (λ (p : List Point). AreData t ps (level_of m start.0 i.above) (place_in frq c.data_start-start.result) p one.1) (sym points) start.1) c.data_start-start.ensures.within in
    let places = c.loop-number.places in
    let size : m < length places = omega (arith, i.size) in
    record {
      within = omega arith;
      size = length-set places m r ∙ i.size;
      stride = power-less s c.loop-number.number m c.loop-number.stride c.from-interval.result c.requires.good.interval is i.stride c.from-interval.ensures;
      place_within = end.1;
      above = one.0.points ∷ i.above;
      above_count = omega (arith, i.above_count);
      end = i.end;
      reads = reads;
      on = λ n ge lt. elim (cases_eq n m) [
        | inl same ↦ subst (λ (k : ℕ). IsOnLevel t ps k (points_in t frq k) frq 0 (get_or (set places m r) k no_level_place)) (sym same)
            (subst (λ (x : LevelPlace). IsOnLevel t ps m (points_in t frq m) frq 0 x) (sym (get_or-set_same places m r no_level_place size)) here)
        | inr ne ↦ let other : get_or (set places m r) n no_level_place ≡ get_or places n no_level_place = rw get_or-set_other refl in
            subst (λ (x : LevelPlace). IsOnLevel t ps n (points_in t frq n) frq 0 x) (sym other) (i.on n (omega arith) lt)
      ];
    }
