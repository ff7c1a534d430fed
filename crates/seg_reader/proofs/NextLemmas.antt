-- What a cursor answers that moves on.
use Rattle.std.proofs.Common.{◌≡◌, ℕ, ◌+◌, ◌≤◌, Bool, Option, Some, None, refl}
use Rattle.std.specs.Prelude.{option_map}
use Rattle.lu_model.specs.Index.{IndexedEntry}
use Rattle.freq_skips.specs.declared.entry.Entry.{Entry}
use Rattle.freq_skips.specs.declared.skip_point.SkipPoint.{SkipPoint}
use Rattle.freq_skips.specs.Points.{KnownTerm, IsLastBelow}
use Rattle.check_index.specs.Positions.{TermOccurrences}
use Rattle.seg_reader.specs.declared.scan.Scan.{Scan}
use Rattle.seg_reader.specs.declared.beside.Beside.{Beside}
use Rattle.seg_reader.specs.declared.place.Place.{Place}
use Rattle.seg_reader.specs.declared.place.Place.TheVariants.{At, End}
use Rattle.seg_reader.specs.Postings.{PostingsWalk, next_entry, answered, most_steps_to}
use Rattle.seg_reader.specs.InnerScan.{IsScan, HasRead, HasJumped, IsFound, IsEnded}
use Rattle.seg_reader.specs.InnerBeside.{IsBeside}
use Rattle.seg_reader.specs.InnerCursor.{walk_at, AreTogether}
use Rattle.seg_reader.proofs.StepLemmas.{IsNear}
use Rattle.seg_reader.proofs.TogetherLemmas.{all_read, stands-beside}
use Rattle.seg_reader.proofs.MoveLemmas.{HasMoved, HasSkipped-none, document-found, walk-found, bound-found, document-none, walk-none, bound-none}
use Rattle.seg_reader.proofs.AheadLemmas.{skipped-jump}

-- a walk answers the document that is next, and goes on behind it, in so many steps
pub record IsAnswered (w new : PostingsWalk) (target : ℕ) (answer : Option ℕ) (begun read : ℕ) : Type 0 where
  pub document : answer ≡ option_map (λ (e : IndexedEntry). e.document) (next_entry w target)
  pub walk : new ≡ answered w (next_entry w target)
  pub bound : read ≤ begun + most_steps_to w target

module _ (s : Scan) (k : KnownTerm) (b : Beside) (stand : Place) (flag : Bool) (target : ℕ) (mid new : Scan) (c : Beside) (m : HasMoved s k b stand flag target mid new c) (near : IsNear (walk_at s b stand) target mid.passed) (begun found read : ℕ) (le : found ≤ begun + (walk_at s b stand).search) where
  pub answered-found : (e : Entry) → IsFound target mid new e → read + mid.passed ≤ found + new.passed → IsAnswered (walk_at s b stand) (walk_at new c (At e)) target (Some e.doc) begun read
  answered-found e f steps = record {
    document = document-found s k b stand flag target mid new c m e f;
    walk = walk-found s k b stand flag target mid new c m e f;
    bound = bound-found s k b stand flag target mid new c m e f begun found read near le steps;
  }

  pub answered-none : IsEnded target mid new → read + mid.passed ≤ found + new.passed + 1 → IsAnswered (walk_at s b stand) (walk_at new c End) target None begun read
  answered-none f steps = record {
    document = document-none s k b stand flag target mid new c m f;
    walk = walk-none s k b stand flag target mid new c m f;
    bound = bound-none s k b stand flag target mid new c m f begun found read near le steps;
  }

module _ (s : Scan) (k : KnownTerm) (b : Beside) (stand : Place) (flag : Bool) (h : AreTogether s k b stand flag) where
  -- from where the cursor stands
  pub moved-next : (new : Scan) → HasRead s new → IsScan new → HasMoved s k b stand flag 0 s new b
  moved-next new read scan = record {
    together = h;
    skipped = HasSkipped-none 0 s;
    read = read;
    scan = scan;
    same = refl;
    beside = λ kept. stands-beside s (all_read s k b stand flag h) b stand (h.beside kept);
  }

  -- from where a jump has led
  pub moved-jump : (target : ℕ) (point : SkipPoint) (mid new : Scan) (c : Beside) → IsLastBelow k target point → HasJumped s mid point → HasRead mid new → IsScan new → c.occurrences ≡ b.occurrences
      → ((all : TermOccurrences) → IsBeside s.entries.term s.entries.value all s.passed s.passed s.between b → IsBeside s.entries.term s.entries.value all mid.passed mid.passed mid.between c) → HasMoved s k b stand flag target mid new c
  moved-jump target point mid new c last jumped read scan same beside = record {
    together = h;
    skipped = skipped-jump s k b stand flag h target mid point jumped last;
    read = read;
    scan = scan;
    same = same;
    beside = λ kept. beside (all_read s k b stand flag h) (stands-beside s (all_read s k b stand flag h) b stand (h.beside kept));
  }
