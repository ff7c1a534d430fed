use Rattle.std.proofs.Common.{◌≡◌, ℕ, ◌+◌, ◌<◌, ◌≤◌, inl, inr, refl, sym, ap, subst, ◌∙◌, arith}
use Rattle.std.proofs.lemmas.Bool.{cases_lt}
use Rattle.lu_grammar.specs.Bytes.{IsBytes, Cursor, place_in}
use Rattle.lu_grammar.proofs.Parts.{IsBytes-drop}
use Rattle.positions.specs.Views.{occurrence_record_of}
use Rattle.positions.specs.Standing.{Skims}
use Rattle.positions.proofs.StandLemmas.{Skims-none}
use Rattle.positions.proofs.PassLemmas.{passes-more, passes-never, occurrence-moves, Skims-same, Skims-less}
use Rattle.positions.proofs.placing.force_before.Goals as goal

pub loop-reading-init : goal.loop-reading-init
loop-reading-init c =
    let start = place_in c.args.prx.now c.args.start in
    record {
      payloads = refl;
      bytes = subst (λ (d : Cursor). IsBytes d.rest) (sym c.at.ensures) (IsBytes-drop c.args.start c.args.prx.now (λ i. (c.type_inv.prx i).fits));
      count = 0;
      skims = subst (λ (d : Cursor). Skims c.args.payloads start 0 0 d) (sym c.at.ensures) (Skims-none c.args.payloads start);
      within = λ n force h. omega arith;
    }

-- so many are not all where the place is not reached
before : (payloads : _) (start : Cursor) (m n f g : ℕ) (c d : Cursor) → m ≤ n → Skims payloads start m f c → Skims payloads start n g d → c.place < d.place → m < n
before payloads start m n f g c d le h k lt = elim (cases_lt m n) [
  | inl less ↦ less
  | inr more ↦
      let same : n ≡ m = omega arith in
      let is = Skims-same payloads start m f g c d h (subst (λ (x : ℕ). Skims payloads start x g d) same k) in
      absurd (omega (arith, ap (λ (x : Cursor). x.place) is.1))
]

pub returns-in-Err : goal.returns-in-Err
returns-in-Err c = λ n force h.
    let i = c.loop-reading.invariant in
    let r = c.loop-reading.reading in
    let start = place_in c.args.prx.now c.args.start in
    let there = place_in c.args.prx.now c.args.place in
    let lt = before c.args.payloads start i.count n r.force force r.cur there (i.within n force h) i.skims h (omega (arith, c.place.ensures)) in
    absurd (passes-never c.args.payloads r.payloads i.count n 0 start r.force r.cur c.in-Err._bad force there i.payloads i.skims.reads lt h.reads c.in-Err.ensures.taken)

pub loop-reading-smaller : goal.loop-reading-smaller
loop-reading-smaller c =
    let r = c.loop-reading.reading in
    let moves = occurrence-moves r.payloads r.force r.cur (occurrence_record_of c.in-Ok._parts) c.take.new.self.cur c.loop-reading.invariant.bytes c.in-Ok.ensures.taken.0 in
    omega (arith, c.place.ensures, moves.0)

pub loop-reading-preserved : goal.loop-reading-preserved
loop-reading-preserved c =
    let i = c.loop-reading.invariant in
    let r = c.loop-reading.reading in
    let new = c.take.new.self in
    let read = c.in-Ok.ensures in
    let start = place_in c.args.prx.now c.args.start in
    let there = place_in c.args.prx.now c.args.place in
    let moves = occurrence-moves r.payloads r.force r.cur (occurrence_record_of c.in-Ok._parts) new.cur i.bytes read.taken.0 in
    record {
      payloads = read.payloads ∙ i.payloads;
      bytes = moves.1;
      count = i.count + 1;
      skims = record { reads = passes-more c.args.payloads r.payloads i.count 0 start r.force r.cur (occurrence_record_of c.in-Ok._parts) new.cur new.force i.payloads i.skims.reads read.taken.0 read.taken.1 };
      within = λ n force h.
          let lt = before c.args.payloads start i.count n r.force force r.cur there (i.within n force h) i.skims h (omega (arith, c.place.ensures)) in omega arith;
    }

pub returns : goal.returns
returns c = λ n force h.
    let i = c.loop-reading.invariant in
    let r = c.loop-reading.reading in
    let start = place_in c.args.prx.now c.args.start in
    let there = place_in c.args.prx.now c.args.place in
    elim (cases_lt i.count n) [
      | inl less ↦ absurd (let lt = Skims-less c.args.payloads start i.count n r.force force r.cur there (IsBytes-drop c.args.start c.args.prx.now (λ i. (c.type_inv.prx i).fits)) less i.skims h in omega (arith, c.place.ensures))
      | inr more ↦
          let same : n ≡ i.count = let le = i.within n force h in omega arith in
          (Skims-same c.args.payloads start i.count r.force force r.cur there i.skims (subst (λ (x : ℕ). Skims c.args.payloads start x force there) same h)).0
    ]
