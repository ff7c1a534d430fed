-- A datum of a good level, read again: what is wanted of it, and where it ends.
use Rattle.std.proofs.Common.{◌≡◌, ℕ, zero, suc, add-one, ◌+◌, ◌<◌, ◌≤◌, List, ◌++◌, length, drop, Result, Ok, refl, sym, ap, subst, ◌∙◌, arith}
use Rattle.std.specs.Prelude.{slice_index_or}
use Rattle.std.proofs.lemmas.List.{length-append}
use Rattle.lu_grammar.specs.declared.bad.Bad.{Bad}
use Rattle.lu_grammar.specs.Bytes.{IsBytes, Cursor, place_in}
use Rattle.lu_grammar.specs.Parts.{vlong}
use Rattle.lu_grammar.specs.Records.{Shape, read_shape}
use Rattle.lu_grammar.specs.Plans.{Plan, times, read_plan}
use Rattle.lu_grammar.proofs.Records.{TakesRecord, ShapeJudges, read_shape-judges}
use Rattle.lu_grammar.proofs.Parts.{IsBytes-drop}
use Rattle.lu_grammar.proofs.Codecs.{place_in-after, IsBytes-after, reads-read_plan, record_at-kept, record_at-was, all_unbroken, same-of}
use Rattle.freq_skips.specs.declared.rules.RuledTerm.{RuledTerm}
use Rattle.freq_skips.specs.declared.datum.Point.{Point}
use Rattle.freq_skips.specs.declared.datum.Skip.{Skip}
use Rattle.freq_skips.specs.Records.{Record, skip_of, datum_shape, datum_length}
use Rattle.freq_skips.specs.Written.{optional_bytes}
use Rattle.freq_skips.specs.Entries.{Posting}
use Rattle.freq_skips.specs.Levels.{Level, no_datum, no_point, wanted, datum_conditions, point_of, datum_kind, data_count, Follows, AreData}
use Rattle.freq_skips.proofs.DatumParts.{DatumSpelled, datum-spelled, optional-length}
use Rattle.freq_skips.proofs.LevelLemmas.{datum_at, Follows-none, Follows-more, Follows-again, point-is}

-- a place does not fall while a plan is read
pub read_plan-on : {V R : Type 0} (plan : Plan V R) (c : Cursor) (v : V) (d : Cursor) → IsBytes c.rest → read_plan plan c ≡ Ok (v, d) → c.place ≤ d.place
read_plan-on plan c v d fits e = let h = reads-read_plan plan c v d fits e in omega (arith, h.place)

-- where all data are good the first so many are read
pub Follows-upto : (t : RuledTerm) (ps : List Posting) (l : Level) (start : Cursor) (points : List Point) (end : Cursor) (i : ℕ) → AreData t ps l start points end → i ≤ data_count t l.number → (last : Point) × (here : Cursor) × Follows t ps l start i last here
Follows-upto t ps l start points end zero all le = (no_point, start, Follows-none t ps l start)
Follows-upto t ps l start points end (suc i) all le = go (Follows-upto t ps l start points end i all (omega arith))
  where
    go : ((last : Point) × (here : Cursor) × Follows t ps l start i last here) → (last : Point) × (here : Cursor) × Follows t ps l start (suc i) last here
    go (last, here, h) =
        let again = Follows-again t ps l start points end i last here all h (omega arith) in
        let p = point_of t last here.place again.0 in
        (p, again.1, subst (λ (n : ℕ). Follows t ps l start n p again.1) (add-one i) (Follows-more t ps l start i last here again.0 p again.1 h again.2 refl refl))

-- the datum with a number, from 0, as it is read again: from where, which record, and where it ends
pub record DatumAgain (t : RuledTerm) (ps : List Posting) (l : Level) (start : Cursor) (points : List Point) (m : ℕ) : Type 0 where
  pub last : Point
  pub here : Cursor
  pub before : Follows t ps l start m last here
  pub read : Record
  pub next : Cursor
  pub good : datum_at t l (wanted t ps l (suc m)) start.place last here ≡ Ok (read, next)
  pub point : slice_index_or points m no_point ≡ point_of t last here.place read
  pub behind : Follows t ps l start (suc m) (slice_index_or points m no_point) next

pub datum-again : (t : RuledTerm) (ps : List Posting) (l : Level) (start : Cursor) (points : List Point) (end : Cursor) (m : ℕ) → AreData t ps l start points end → m < data_count t l.number → DatumAgain t ps l start points m
datum-again t ps l start points end m all lt = go (Follows-upto t ps l start points end m all (omega arith))
  where
    go : ((last : Point) × (here : Cursor) × Follows t ps l start m last here) → DatumAgain t ps l start points m
    go (last, here, h) =
        let again = Follows-again t ps l start points end m last here all h lt in
        let p = point_of t last here.place again.0 in
        let is = point-is t ps l start points end m last here again.0 p again.1 all h lt again.2 refl refl in
        let more = Follows-more t ps l start m last here again.0 p again.1 h again.2 refl refl in
        record {
          last = last;
          here = here;
          before = h;
          read = again.0;
          next = again.1;
          good = again.2;
          point = is;
          behind = subst (λ (q : Point). Follows t ps l start (suc m) q again.1) (sym is) (subst (λ (n : ℕ). Follows t ps l start n p again.1) (add-one m) more);
        }

-- a datum leads to the document, and behind the bytes, that are wanted
pub point-wanted : (t : RuledTerm) (ps : List Posting) (l : Level) (start : Cursor) (points : List Point) (end : Cursor) (m : ℕ) → AreData t ps l start points end → m < data_count t l.number
    → ((slice_index_or points m no_point).doc ≡ (wanted t ps l (suc m)).doc) × ((slice_index_or points m no_point).freq ≡ (wanted t ps l (suc m)).freq)
point-wanted t ps l start points end m all lt =
    let a = datum-again t ps l start points end m all lt in
    let w = wanted t ps l (suc m) in
    let conditions = datum_conditions t w start.place a.last a.here.place in
    let kept = all_unbroken (conditions a.read) (record_at-kept (datum_shape t l.number) conditions a.here a.read a.next a.good) in
    (ap (λ (p : Point). p.doc) a.point ∙ same-of _ w.doc kept.1.0, ap (λ (p : Point). p.freq) a.point ∙ same-of _ w.freq kept.1.1.0)

-- what a shape was read from
pub shape-taken : {R : Type 0} (shape : Shape R) (c : Cursor) (r : R) (d : Cursor) → IsBytes c.rest → read_shape shape c ≡ Ok (r, d) → TakesRecord shape c r d
shape-taken {R} shape c r d fits e = subst (λ (x : Result (R × Cursor) Bad). ShapeJudges shape c x) e (read_shape-judges shape c fits)

-- the bytes of a datum that was read again in a file
pub record DatumBytes (frq : List ℕ) (level : ℕ) (r : Record) (here next : Cursor) : Type 0 where
  pub front : List ℕ
  pub spelled : DatumSpelled level (skip_of r) front
  pub rest : drop here.place frq ≡ front ++ next.rest
  pub end : next.place ≡ here.place + length front
  pub next_is : next ≡ place_in frq next.place
  pub next_within : next.place ≤ length frq

pub datum-bytes : (t : RuledTerm) (ps : List Posting) (l : Level) (frq : List ℕ) (begin : ℕ) (points : List Point) (m : ℕ) → IsBytes frq → begin ≤ length frq → (a : DatumAgain t ps l (place_in frq begin) points m) → DatumBytes frq l.number a.read a.here a.next × (begin ≤ a.here.place)
datum-bytes t ps l frq begin points m fits le a =
    let at = place_in-after (times (datum_kind t ps l) m no_datum) frq begin a.before.along a.here fits le a.before.reads in
    let to = place_in-after (times (datum_kind t ps l) (suc m) no_datum) frq begin a.behind.along a.next fits le a.behind.reads in
    let on = read_plan-on (times (datum_kind t ps l) m no_datum) (place_in frq begin) a.before.along a.here (IsBytes-drop begin frq fits) a.before.reads in
    let bytes = IsBytes-after (times (datum_kind t ps l) m no_datum) (place_in frq begin) a.before.along a.here (IsBytes-drop begin frq fits) a.before.reads in
    let conditions = datum_conditions t (wanted t ps l (suc m)) begin a.last a.here.place in
    let taken = shape-taken (datum_shape t l.number) a.here a.read a.next bytes (record_at-was (datum_shape t l.number) conditions a.here a.read a.next a.good).0 in
    let parts = datum-spelled t l.number a.read taken.front taken.spells in (
      record {
        front = taken.front;
        spelled = subst (λ (r : Record). DatumSpelled l.number (skip_of r) taken.front) parts.1 parts.2;
        rest = sym (ap (λ (c : Cursor). c.rest) at.0) ∙ taken.rest;
        end = taken.place;
        next_is = to.0;
        next_within = to.1;
      },
      on,
    )

-- how long a datum is
pub datum-long : (level : ℕ) (d : Skip) (front : List ℕ) → DatumSpelled level d front → length front ≡ datum_length d
datum-long level d front h = ap length h.split ∙ length-append h.before (optional_bytes vlong d.child) ∙ omega (arith, h.to_child, optional-length vlong d.child)
