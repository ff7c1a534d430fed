-- What a cursor that has moved on has left, and how far a jump led it.
use Rattle.std.proofs.Common.{◌≡◌, ℕ, ◌<◌, Bool, [], ◌∷◌, Some, inl, inr, sym, ap, subst, ◌∙◌, arith}
use Rattle.lu_model.specs.Index.{IndexedEntry}
use Rattle.freq_skips.specs.declared.entry.Entry.{Entry}
use Rattle.freq_skips.specs.declared.skip_point.SkipPoint.{SkipPoint}
use Rattle.freq_skips.specs.Points.{KnownTerm, IsLastBelow}
use Rattle.seg_reader.specs.declared.scan.Scan.{Scan}
use Rattle.seg_reader.specs.declared.beside.Beside.{Beside}
use Rattle.seg_reader.specs.declared.place.Place.{Place}
use Rattle.seg_reader.specs.declared.place.Place.TheVariants.{At, End}
use Rattle.seg_reader.specs.Postings.{PostingsWalk, entries_left}
use Rattle.seg_reader.specs.InnerScan.{IsFound, IsEnded, HasJumped}
use Rattle.seg_reader.specs.InnerCursor.{entry_in, walk_at, AreTogether}
use Rattle.seg_reader.proofs.AnswerLemmas.{entries_left-first, entries_left-none, stop-below}
use Rattle.seg_reader.proofs.StepLemmas.{IsNear}
use Rattle.seg_reader.proofs.SkipLemmas.{before-point, behind-point}
use Rattle.seg_reader.proofs.TogetherLemmas.{together-seen}
use Rattle.seg_reader.proofs.MoveLemmas.{HasMoved, HasSkipped, stands, next-found, next-none, walk-at, walk-end}

module _ (s : Scan) (k : KnownTerm) (b : Beside) (stand : Place) (flag : Bool) (mid new : Scan) (c : Beside) (m : HasMoved s k b stand flag 0 mid new c) where
  pub left-found : (e : Entry) → IsFound 0 mid new e → (x : IndexedEntry) × ((walk_at new c (At e)).here ≡ Some x) × (entries_left (walk_at s b stand) ≡ x ∷ entries_left (walk_at new c (At e)))
  left-found e f =
      let w = walk_at s b stand in
      let x = entry_in w.entries f.index in
      let is = walk-at s k b stand flag 0 mid new c m e f in (
        x,
        ap (λ (u : PostingsWalk). u.here) is,
        entries_left-first w s.passed (stands s k b stand flag 0 mid new c m) f.index (next-found s k b stand flag 0 mid new c m e f) ∙ ap (λ (u : PostingsWalk). x ∷ entries_left u) (sym is),
      )

  pub left-none : IsEnded 0 mid new → (entries_left (walk_at s b stand) ≡ []) × (entries_left (walk_at new c End) ≡ [])
  left-none f =
      let w = walk_at s b stand in
      let none = entries_left-none w s.passed (stands s k b stand flag 0 mid new c m) (next-none s k b stand flag 0 mid new c m f) in
      (none.0, ap entries_left (walk-end s k b stand flag 0 mid new c m f) ∙ none.1)

-- nothing is below the first document
pub near-zero : (w : PostingsWalk) (first : ℕ) → IsNear w 0 first
near-zero w first = record { far = λ i le lt. omega arith }

module _ (s : Scan) (k : KnownTerm) (b : Beside) (stand : Place) (flag : Bool) (h : AreTogether s k b stand flag) (target : ℕ) (mid : Scan) (point : SkipPoint) (jumped : HasJumped s mid point) (last : IsLastBelow k target point) where
  here : IsLastBelow (record { term = s.entries.term; value = s.entries.value }) target point
  here = subst (λ (x : KnownTerm). IsLastBelow x target point) h.skips last

  pub skipped-jump : HasSkipped target s mid
  skipped-jump = record {
    term = jumped.term;
    value = jumped.value;
    hidden = jumped.hidden;
    grows = jumped.grows;
    skipped = record {
      none = λ i low lt. elim jumped.is [
        | inl stays ↦ absurd (omega (arith, stays, low, lt))
        | inr leads ↦ stop-below s.live.documents target _ (before-point s.entries.term s.entries.value target point h.interval h.scan.order here i (omega (arith, leads, lt)))
      ];
    };
  }

  pub near-jump : IsNear (walk_at s b stand) target mid.passed
  near-jump =
      let seen = together-seen s k b stand flag h in
      let far = jumped.far in
      record {
        far = λ i le lt.
            let inside : i < s.entries.term.info.doc_freq = omega (arith, lt, seen.count) in
            let high = behind-point s.entries.term s.entries.value target point h.interval h.scan.order here h.levels i (omega (arith, far, le)) inside in
            omega (arith, high, seen.documents i inside);
      }
