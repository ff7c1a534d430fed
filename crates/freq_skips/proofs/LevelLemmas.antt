-- So many data of a level are good, and are read again.
use Rattle.std.proofs.Common.{◌≡◌, ℕ, suc, ◌+◌, ◌-◌, ◌<◌, ◌≤◌, List, [], ◌∷◌, ◌++◌, get_or, Option, Some, None, Result, Ok, Err, refl, sym, ap, ◌∙◌, append_assoc, arith}
use Rattle.std.specs.Prelude.{slice_index_or}
use Rattle.std.proofs.lemmas.List.{length-append, append-nil}
use Rattle.std.proofs.Math.Seq.{get_or-append_seam}
use Rattle.lu_grammar.specs.Bytes.{Cursor}
use Rattle.lu_grammar.specs.declared.bad.Bad.{Bad}
use Rattle.lu_grammar.specs.Records.{Shape, Condition, first_broken, unless_broken, judged, read_shape, record_at}
use Rattle.lu_grammar.proofs.Records.{ok_pair, same_pair}
use Rattle.lu_grammar.specs.Plans.{times, read_plan}
use Rattle.lu_grammar.proofs.Plans.{ok_of, err_is_not_ok}
use Rattle.lu_grammar.proofs.Loops.{each-none, each-rest, times-more, times-fault, times-again, times-keeps}
use Rattle.lu_grammar.proofs.Codecs.{record_at-kept, all_unbroken, same-of}
use Rattle.freq_skips.specs.declared.rules.RuledTerm.{RuledTerm}
use Rattle.freq_skips.specs.declared.datum.Point.{Point}
use Rattle.freq_skips.specs.declared.datum.Wanted.{Wanted}
use Rattle.freq_skips.specs.Records.{Record, datum_shape}
use Rattle.freq_skips.specs.Entries.{Posting}
use Rattle.freq_skips.specs.Levels.{Along, no_datum, no_point, Level, level_start, wanted, datum_conditions, point_of, datum_kind, data_count, level_data, Follows, AreData, AreGoodData, IsNextDatum}

-- what is asked of the datum that stands next
abbrev pub datum_at : RuledTerm → Level → Wanted → ℕ → Point → Cursor → Result (Record × Cursor) ℕ
datum_at t l w start last here = record_at (datum_shape t l.number) (datum_conditions t w start last here.place) here

pub Follows-none : (t : RuledTerm) (postings : List Posting) (l : Level) (start : Cursor) → Follows t postings l start 0 no_point start
Follows-none t postings l start = record { along = no_datum; reads = each-none _ no_datum start; last_is = refl; number = refl; begins = refl }

-- the same, by the state
kind_at : (t : RuledTerm) (postings : List Posting) (l : Level) (start : Cursor) (count : ℕ) (last : Point) (here : Cursor) (h : Follows t postings l start count last here)
    → record_at ((datum_kind t postings l).shape h.along) ((datum_kind t postings l).conditions h.along here.place) here ≡ datum_at t l (wanted t postings l (suc count)) start.place last here
kind_at t postings l start count last here h =
    ap (λ (n : ℕ). datum_at t l (wanted t postings l (suc n)) (level_start h.along.points here.place) h.along.last here) h.number
    ∙ ap (λ (n : ℕ). datum_at t l (wanted t postings l (suc count)) n h.along.last here) h.begins
    ∙ ap (λ (p : Point). datum_at t l (wanted t postings l (suc count)) start.place p here) h.last_is

-- one datum more starts the level only where it is the first
pub level_start-push : (points : List Point) (p : Point) (place : ℕ) → level_start (points ++ p ∷ []) place ≡ level_start points p.place
level_start-push [] p place = refl
level_start-push (q ∷ qs) p place = refl

pub Follows-more : (t : RuledTerm) (postings : List Posting) (l : Level) (start : Cursor) (count : ℕ) (last : Point) (here : Cursor) (r : Record) (p : Point) (next : Cursor) → Follows t postings l start count last here
    → datum_at t l (wanted t postings l (suc count)) start.place last here ≡ Ok (r, next) → point_of t last here.place r ≡ p → p.place ≡ here.place → Follows t postings l start (count + 1) p next
Follows-more t postings l start count last here r p next h e is at =
    let q = point_of t h.along.last here.place r in
    let same : q ≡ p = ap (λ (o : Point). point_of t o here.place r) h.last_is ∙ is in
    record {
      along = (datum_kind t postings l).after h.along here.place r;
      reads = times-more (datum_kind t postings l) count no_datum start h.along here r next h.reads (kind_at t postings l start count last here h ∙ e);
      last_is = same;
      number = omega (arith, length-append h.along.points (q ∷ []), h.number);
      begins = level_start-push h.along.points q next.place ∙ ap (λ (n : ℕ). level_start h.along.points n) (ap (λ (o : Point). o.place) same ∙ at) ∙ h.begins;
    }

pub Follows-fault : (t : RuledTerm) (postings : List Posting) (l : Level) (start : Cursor) (count : ℕ) (last : Point) (here : Cursor) (rule : ℕ) → Follows t postings l start count last here → count < data_count t l.number
    → datum_at t l (wanted t postings l (suc count)) start.place last here ≡ Err rule → read_plan (level_data t postings l) start ≡ Err (record { offset = here.place; rule = rule })
Follows-fault t postings l start count last here rule h lt e =
    times-fault (datum_kind t postings l) count (data_count t l.number) no_datum start h.along here rule lt h.reads (kind_at t postings l start count last here h ∙ e)

-- where all data are good the next one is, whenever the first so many are read again
pub Follows-again : (t : RuledTerm) (postings : List Posting) (l : Level) (start : Cursor) (points : List Point) (end : Cursor) (count : ℕ) (last : Point) (here : Cursor) → AreData t postings l start points end
    → Follows t postings l start count last here → count < data_count t l.number → (r : Record) × (next : Cursor) × (datum_at t l (wanted t postings l (suc count)) start.place last here ≡ Ok (r, next))
Follows-again t postings l start points end count last here all h lt =
    let again = times-again (datum_kind t postings l) count (data_count t l.number) no_datum start h.along here (all.along, end) lt all.reads h.reads in
    (again.0, again.1, sym (kind_at t postings l start count last here h) ∙ again.2)

-- these data, and then others
abbrev BeginsWith : List Point → Along → Type 0
BeginsWith front s = (back : List Point) × (s.points ≡ front ++ back)

keeps_front : (t : RuledTerm) (postings : List Posting) (l : Level) (front : List Point) (s : Along) (c : Cursor) (r : Record) (d : Cursor) → BeginsWith front s
    → record_at ((datum_kind t postings l).shape s) ((datum_kind t postings l).conditions s c.place) c ≡ Ok (r, d) → BeginsWith front ((datum_kind t postings l).after s c.place r)
keeps_front t postings l front s c r d h e =
    let p = point_of t s.last c.place r in (h.0 ++ p ∷ [], ap (λ (x : List Point). x ++ p ∷ []) h.1 ∙ append_assoc front h.0 (p ∷ []))

points_begin : (t : RuledTerm) (postings : List Posting) (l : Level) (start : Cursor) (points : List Point) (end : Cursor) (count : ℕ) (last : Point) (here : Cursor) (all : AreData t postings l start points end)
    (h : Follows t postings l start count last here) → count ≤ data_count t l.number → BeginsWith h.along.points all.along
points_begin t postings l start points end count last here all h le =
    times-keeps (datum_kind t postings l) (BeginsWith h.along.points) (keeps_front t postings l h.along.points) (data_count t l.number - count) h.along here all.along end ([], sym (append-nil h.along.points))
    (sym (each-rest _ count (data_count t l.number) no_datum start h.along here le h.reads) ∙ all.reads)

-- a datum that is read again is the point with its number
pub point-is : (t : RuledTerm) (postings : List Posting) (l : Level) (start : Cursor) (points : List Point) (end : Cursor) (count : ℕ) (last : Point) (here : Cursor) (r : Record) (p : Point) (next : Cursor)
    → AreData t postings l start points end → Follows t postings l start count last here → count < data_count t l.number
    → datum_at t l (wanted t postings l (suc count)) start.place last here ≡ Ok (r, next) → point_of t last here.place r ≡ p → p.place ≡ here.place → slice_index_or points count no_point ≡ p
unfolding Follows-more
point-is t postings l start points end count last here r p next all h lt e is at =
    let more = Follows-more t postings l start count last here r p next h e is at in
    let begins = points_begin t postings l start points end (count + 1) p next all more (omega arith) in
    let q = point_of t h.along.last here.place r in
    let are : points ≡ h.along.points ++ q ∷ begins.0 = sym all.points_are ∙ begins.1 ∙ append_assoc h.along.points (q ∷ []) begins.0 in
    ap (λ (x : List Point). get_or x count no_point) are
    ∙ ap (λ (n : ℕ). get_or (h.along.points ++ q ∷ begins.0) n no_point) (sym h.number)
    ∙ get_or-append_seam h.along.points q begins.0 no_point
    ∙ ap (λ (o : Point). point_of t o here.place r) h.last_is ∙ is

-- a good record was read
record_at-was : {R : Type 0} (shape : Shape R) (conditions : R → List Condition) (c : Cursor) (r : R) (d : Cursor) → record_at shape conditions c ≡ ok_pair r d → read_shape shape c ≡ Ok (r, d)
unfolding record_at
record_at-was {R} shape conditions c r d e = go (read_shape shape c) e
  where
    kept : (x : R × Cursor) (o : Option ℕ) → unless_broken x o ≡ ok_pair r d → ok_of {E = Bad} x ≡ Ok (r, d)
    kept x None h = let p = same_pair x.0 r x.1 d h in ap (λ (a : R). ok_pair {E = Bad} a x.1) p.0 ∙ ap (λ (b : Cursor). ok_pair r b) p.1
    kept x (Some rule) h = absurd (err_is_not_ok h)

    go : (x : Result (R × Cursor) Bad) → judged conditions x ≡ ok_pair r d → x ≡ Ok (r, d)
    go (Ok x) h = kept x (first_broken (conditions x.0)) h
    go (Err bad) h = absurd (err_is_not_ok h)

pub IsNextDatum-read : (t : RuledTerm) (postings : List Posting) (l : Level) (start : Cursor) (points : List Point) (end : Cursor) (count : ℕ) (last : Point) (here : Cursor) (r : Record) (p : Point) (next : Cursor)
    → read_shape (datum_shape t l.number) here ≡ Ok (r, next) → point_of t last here.place r ≡ p → p.place ≡ here.place → AreData t postings l start points end → Follows t postings l start count last here → count < data_count t l.number
    → IsNextDatum t postings l start points count p next
IsNextDatum-read t postings l start points end count last here r p next read is at all h lt = go (Follows-again t postings l start points end count last here all h lt)
  where
    go : ((s : Record) × (to : Cursor) × (datum_at t l (wanted t postings l (suc count)) start.place last here ≡ Ok (s, to))) → IsNextDatum t postings l start points count p next
    go (s, to, e) =
        let was = record_at-was (datum_shape t l.number) _ here s to e in
        let same = same_pair r s next to (sym read ∙ was) in
        let good : datum_at t l (wanted t postings l (suc count)) start.place last here ≡ Ok (r, next) = e ∙ ap (λ (a : Record). ok_pair a to) (sym same.0) ∙ ap (λ (b : Cursor). ok_pair r b) (sym same.1) in
        let w = wanted t postings l (suc count) in
        let conditions = datum_conditions t w start.place last here.place in
        let kept = all_unbroken (conditions r) (record_at-kept (datum_shape t l.number) conditions here r next good) in
        record {
          follows = Follows-more t postings l start count last here r p next h good is at;
          doc = ap (λ (o : Point). o.doc) (sym is) ∙ same-of _ w.doc kept.1.0;
          freq = ap (λ (o : Point). o.freq) (sym is) ∙ same-of _ w.freq kept.1.1.0;
          point = point-is t postings l start points end count last here r p next all h lt good is at;
        }

-- and that none fails to be read
pub never_unread : (t : RuledTerm) (postings : List Posting) (l : Level) (start : Cursor) (points : List Point) (end : Cursor) (count : ℕ) (last : Point) (here : Cursor) (bad : Bad) → read_shape (datum_shape t l.number) here ≡ Err bad
    → AreData t postings l start points end → Follows t postings l start count last here → count < data_count t l.number → ⊥
never_unread t postings l start points end count last here bad read all h lt = go (Follows-again t postings l start points end count last here all h lt)
  where
    go : ((s : Record) × (to : Cursor) × (datum_at t l (wanted t postings l (suc count)) start.place last here ≡ Ok (s, to))) → ⊥
    go (s, to, e) = err_is_not_ok (sym read ∙ record_at-was (datum_shape t l.number) _ here s to e)

-- what is asked of the datum by numbers that are equal
pub datum_at-as : (t : RuledTerm) (l : Level) (v w : Wanted) (m n : ℕ) (last : Point) (here : Cursor) → w ≡ v → m ≡ n → datum_at t l v m last here ≡ datum_at t l w n last here
datum_at-as t l v w m n last here e f = ap (λ (u : Wanted). datum_at t l u m last here) (sym e) ∙ ap (λ (k : ℕ). datum_at t l w k last here) f

-- all data are read
pub Follows-all : (t : RuledTerm) (postings : List Posting) (l : Level) (start : Cursor) (count : ℕ) (last : Point) (here : Cursor) → Follows t postings l start count last here → count ≡ data_count t l.number → AreGoodData t postings l start here
Follows-all t postings l start count last here h all = record { along = h.along; reads = ap (λ (n : ℕ). read_plan (times (datum_kind t postings l) n no_datum) start) (sym all) ∙ h.reads }

-- where all are passed the cursor is at the end
pub Follows-end : (t : RuledTerm) (postings : List Posting) (l : Level) (start : Cursor) (points : List Point) (end : Cursor) (count : ℕ) (last : Point) (here : Cursor) → AreData t postings l start points end → Follows t postings l start count last here
    → count ≡ data_count t l.number → end ≡ here
Follows-end t postings l start points end count last here all h is =
    (same_pair all.along h.along end here (sym all.reads ∙ ap (λ (n : ℕ). read_plan (times (datum_kind t postings l) n no_datum) start) (sym is) ∙ h.reads)).1
