-- A level is entered where the level above leads.
use Rattle.std.proofs.Common.{◌≡◌, ℕ, suc, ◌+◌, ◌-◌, ◌*◌, ◌/◌, ◌%◌, ◌<◌, ◌≤◌, ◌⊎◌, inl, inr, eqb, true, false, List, [], ◌∷◌, ◌++◌, length, drop, Option, Some, Ok, refl, sym, ap, subst, ◌∙◌, append_assoc, arith}
use Rattle.std.specs.Prelude.{slice_index_or}
use Rattle.std.proofs.lemmas.Bool.{cases_eq, eq-eqb}
use Rattle.std.proofs.lemmas.List.{length-append, append-nil, drop-drop}
use Rattle.std.proofs.Math.Seq.{drop-append_seam}
use Rattle.std.proofs.Math.Nat.{le-div_iff_mul-le, pow-suc, mul_comm, mul_assoc, mul-mod_left, mul-div_cancel, mul-le-mul_right}
use Rattle.lu_grammar.specs.Bytes.{IsBytes, Cursor, place_in}
use Rattle.lu_grammar.specs.Parts.{IsValue, vlong, spelling}
use Rattle.lu_grammar.specs.Reading.{read_part}
use Rattle.lu_grammar.proofs.Records.{ok_pair, read_shape-spelled}
use Rattle.lu_grammar.proofs.Codecs.{alone_was, record_at-kept, all_unbroken}
use Rattle.freq_skips.specs.declared.rules.RuledTerm.{RuledTerm}
use Rattle.freq_skips.specs.declared.datum.Point.{Point}
use Rattle.freq_skips.specs.declared.datum.Skip.{Skip}
use Rattle.freq_skips.specs.Records.{skip_of, alone, datum_shape, length_to_child}
use Rattle.freq_skips.specs.Written.{optional_bytes}
use Rattle.freq_skips.specs.Entries.{Posting, no_posting, postings_from}
use Rattle.freq_skips.specs.Levels.{no_point, level_of, level_count, stride, data_count, wanted, child_above, differs, datum_conditions, number_or, Follows}
use Rattle.freq_skips.specs.Walks.{start_in, points_in}
use Rattle.freq_skips.specs.Finding.{CanSearch, LevelStands, IsLike, last_of, HasPassedData, StandsOn}
use Rattle.freq_skips.proofs.AboveLemmas.{data_count-above}
use Rattle.freq_skips.proofs.DatumParts.{DatumSpelled}
use Rattle.freq_skips.proofs.LevelLemmas.{Follows-none}
use Rattle.freq_skips.proofs.BoundLemmas.{differs-not}
use Rattle.freq_skips.proofs.PointLemmas.{leads-there}
use Rattle.freq_skips.proofs.AgainLemmas.{datum-again, datum-bytes}

-- where a child pointer leads: behind the ProxSkip of a datum
pub record Lands (frq : List ℕ) (level at child : ℕ) (next : Cursor) : Type 0 where
  pub within : at ≤ length frq
  pub lowest : level ≡ 0 → (child ≡ 0) × (next ≡ place_in frq at)
  pub higher : 0 < level → read_part vlong (place_in frq at) ≡ ok_pair child next

-- the bytes behind the front of a datum are those of its child pointer
front-dropped : (before child rest frq : List ℕ) (place : ℕ) → drop place frq ≡ (before ++ child) ++ rest → drop (place + length before) frq ≡ child ++ rest
front-dropped before child rest frq place e =
    sym (drop-drop (length before) place frq) ∙ ap (drop (length before)) (e ∙ append_assoc before child rest) ∙ drop-append_seam before (child ++ rest)

-- a child pointer is read
child-read : (n place : ℕ) (rest : List ℕ) → IsValue vlong n → read_part vlong (record { place = place; rest = spelling vlong n ++ rest }) ≡ ok_pair n (record { place = place + length (spelling vlong n); rest = rest })
child-read n place rest value =
    let shape = read_shape-spelled (alone vlong) n (spelling vlong n) place rest (n, [], value, sym (append-nil (spelling vlong n)), (refl, refl)) in
    let was = alone_was vlong (λ (m : ℕ). m) (record { place = place; rest = spelling vlong n ++ rest }) n (record { place = place + length (spelling vlong n); rest = rest }) shape in
    was.1 ∙ ap (λ (m : ℕ). ok_pair m (record { place = place + length (spelling vlong n); rest = rest })) was.2

lands : (frq : List ℕ) (level : ℕ) (d : Skip) (here next : Cursor) (front : List ℕ) → here.place ≤ length frq → DatumSpelled level d front → drop here.place frq ≡ front ++ next.rest → next.place ≡ here.place + length front → next ≡ place_in frq next.place
    → next.place ≤ length frq → Lands frq level (here.place + length_to_child d) (number_or 0 d.child) next
lands frq level d here next front le spelled rest end is within = record {
  within = omega (arith, ap length spelled.split, length-append spelled.before (optional_bytes vlong d.child), spelled.to_child);
  lowest = λ zero_is. let none = spelled.lowest zero_is in (
    ap (number_or 0) none,
    is ∙ ap (λ (n : ℕ). place_in frq n) (end ∙ ap (λ (n : ℕ). here.place + n) (ap length (spelled.split ∙ ap (λ (o : Option ℕ). spelled.before ++ optional_bytes vlong o) none ∙ append-nil spelled.before) ∙ spelled.to_child)),
  );
  higher = λ pos. go (spelled.higher pos);
}
  where
    go : ((n : ℕ) × (d.child ≡ Some n) × IsValue vlong n) → read_part vlong (place_in frq (here.place + length_to_child d)) ≡ ok_pair (number_or 0 d.child) next
    go (n, is_some, value) =
        let bytes : optional_bytes vlong d.child ≡ spelling vlong n = ap (λ (o : Option ℕ). optional_bytes vlong o) is_some in
        let split : drop here.place frq ≡ (spelled.before ++ spelling vlong n) ++ next.rest = rest ∙ ap (λ (l : List ℕ). l ++ next.rest) (spelled.split ∙ ap (λ (l : List ℕ). spelled.before ++ l) bytes) in
        let at : here.place + length spelled.before ≡ here.place + length_to_child d = ap (λ (k : ℕ). here.place + k) spelled.to_child in
        let dropped : drop (here.place + length_to_child d) frq ≡ spelling vlong n ++ next.rest = ap (λ (k : ℕ). drop k frq) (sym at) ∙ front-dropped spelled.before (spelling vlong n) next.rest frq here.place split in
        let long : here.place + length_to_child d + length (spelling vlong n) ≡ next.place =
        omega (arith, end, ap length spelled.split, length-append spelled.before (optional_bytes vlong d.child), ap length bytes, spelled.to_child) in
        ap (λ (l : List ℕ). read_part vlong (record { place = here.place + length_to_child d; rest = l })) dropped
        ∙ child-read n (here.place + length_to_child d) next.rest value
        ∙ ap (λ (k : ℕ). ok_pair n (record { place = k; rest = next.rest })) long
        ∙ ap (λ (o : Option ℕ). ok_pair (number_or 0 o) next) (sym is_some)

-- the datum that so many data above lead to is one of the level
pub led-within : (t : RuledTerm) (level c : ℕ) → 2 ≤ t.rules.skip_interval → c ≤ data_count t (suc level) → c * t.rules.skip_interval ≤ data_count t level
led-within t level c two le =
    let s = t.rules.skip_interval in
    let up : c ≤ data_count t level / s = subst (λ (n : ℕ). c ≤ n) (sym (data_count-above t level)) le in
    let pos : 0 < s = omega arith in
    (le-div_iff_mul-le pos).0 up

-- and it belongs to the same entry
pub led-entry : (t : RuledTerm) (level c : ℕ) → c * t.rules.skip_interval * stride t level ≡ c * stride t (suc level)
led-entry t level c =
    let s = t.rules.skip_interval in
    mul_assoc c s (stride t level) ∙ ap (λ (n : ℕ). c * n) (mul_comm s (stride t level) ∙ sym (pow-suc s (suc level)))

-- where the last of so many data above leads, the level goes on
pub record Led (t : RuledTerm) (frq : List ℕ) (level begin m : ℕ) (s : LevelStands t frq level begin) (child : ℕ) : Type 0 where
  pub next : Cursor
  pub behind : Follows t (postings_from t (start_in t frq)) (level_of level s.stated s.above) (place_in frq begin) (suc m) (slice_index_or (points_in t frq level) m no_point) next
  pub lands : Lands frq level (begin + child) (slice_index_or (points_in t frq level) m no_point).child next

wanted-child : (t : RuledTerm) (ps : List Posting) (level c m : ℕ) (stated : Option ℕ) (points : List Point) (rest : List (List Point)) → 2 ≤ t.rules.skip_interval → 0 < c → suc m ≡ c * t.rules.skip_interval
    → (wanted t ps (level_of level stated (points ∷ rest)) (suc m)).child ≡ Some (slice_index_or points (c - 1) no_point).child
wanted-child t ps level c m stated points rest two pos is =
    let s = t.rules.skip_interval in
    let whole : suc m % s ≡ 0 = ap (λ (n : ℕ). n % s) is ∙ mul-mod_left c s in
    let some : 0 < s = omega arith in
    let times : suc m / s ≡ c = ap (λ (n : ℕ). n / s) is ∙ mul-div_cancel c some in
    let test : eqb (suc m % s) 0 ≡ true = eq-eqb _ _ whole in
    rw test (ap (λ (n : ℕ). Some (slice_index_or points (n - 1) no_point).child) times)

pub led : (t : RuledTerm) (frq : List ℕ) (level begin c m : ℕ) (s : LevelStands t frq level begin) (rest : List (List Point)) → IsBytes frq → 2 ≤ t.rules.skip_interval → s.above ≡ points_in t frq (suc level) ∷ rest → 0 < c → suc m ≡ c * t.rules.skip_interval
    → m < data_count t level → Led t frq level begin m s (slice_index_or (points_in t frq (suc level)) (c - 1) no_point).child
led t frq level begin c m s rest fits two above pos is lt =
    let ps = postings_from t (start_in t frq) in
    let l = level_of level s.stated s.above in
    let points = points_in t frq level in
    let a = datum-again t ps l (place_in frq begin) points s.end m s.all lt in
    let bytes = datum-bytes t ps l frq begin points m fits s.within a in
    let d = skip_of a.read in
    let conditions = datum_conditions t (wanted t ps l (suc m)) begin a.last a.here.place in
    let kept = all_unbroken (conditions a.read) (record_at-kept (datum_shape t level) conditions a.here a.read a.next a.good) in
    let child : (wanted t ps l (suc m)).child ≡ Some (slice_index_or (points_in t frq (suc level)) (c - 1) no_point).child =
    ap (λ (x : List (List Point)). child_above t x (suc m)) above ∙ wanted-child t ps level c m s.stated (points_in t frq (suc level)) rest two pos is in
    let same = differs-not _ _ (subst (λ (o : Option ℕ). differs o (a.here.place + length_to_child d - begin) ≡ false) child kept.1.1.1.1.0) in
    let at : a.here.place + length_to_child d ≡ begin + (slice_index_or (points_in t frq (suc level)) (c - 1) no_point).child = omega (arith, same, bytes.1) in
    let within : a.here.place ≤ length frq = omega (arith, bytes.0.end, bytes.0.next_within) in
    let there = lands frq level d a.here a.next bytes.0.front within bytes.0.spelled bytes.0.rest bytes.0.end bytes.0.next_is bytes.0.next_within in
    record {
      next = a.next;
      behind = a.behind;
      lands = subst (λ (k : ℕ). Lands frq level k (slice_index_or points m no_point).child a.next) at
          (subst (λ (k : ℕ). Lands frq level (a.here.place + length_to_child d) k a.next) (ap (λ (p : Point). p.child) (sym a.point)) there);
    }

-- the datum above and the one that it leads to lead to one place
like-led : (t : RuledTerm) (frq : List ℕ) (level k m : ℕ) (p : Point) (child : ℕ) → CanSearch t frq → suc level < level_count t → k < data_count t (suc level) → m < data_count t level → suc m ≡ suc k * t.rules.skip_interval
    → IsLike p (slice_index_or (points_in t frq (suc level)) k no_point) → child ≡ (slice_index_or (points_in t frq level) m no_point).child
    → IsLike (record { doc = p.doc; freq = p.freq; prox = p.prox; payload = p.payload; child = child; place = p.place }) (slice_index_or (points_in t frq level) m no_point)
like-led t frq level k m p child search lt below there is like same =
    let above = leads-there t frq (suc level) k search.bytes search.good lt below in
    let here = leads-there t frq level m search.bytes search.good (omega arith) there in
    let entry : suc k * stride t (suc level) - 1 ≡ suc m * stride t level - 1 = ap (λ (n : ℕ). n - 1) (sym (led-entry t level (suc k)) ∙ ap (λ (n : ℕ). n * stride t level) (sym is)) in
    let ps = postings_from t (start_in t frq) in
    record {
      doc = like.doc ∙ above.doc ∙ ap (λ (n : ℕ). (slice_index_or ps n no_posting).before) entry ∙ sym here.doc;
      freq = like.freq ∙ above.freq ∙ ap (λ (n : ℕ). (slice_index_or ps n no_posting).place - t.info.freq) entry ∙ sym here.freq;
      prox = like.prox ∙ search.places.sums (suc level) k lt below ∙ ap search.prox entry ∙ sym (search.places.sums level m (omega arith) there);
      child = same;
    }

-- what was read of a child pointer is what stands there
pub landed : (frq : List ℕ) (level at child n : ℕ) (next d : Cursor) → Lands frq level at child next → (level ≡ 0 → (n ≡ 0) × (d ≡ place_in frq at)) → ((m : ℕ) (to : Cursor) → 0 < level → read_part vlong (place_in frq at) ≡ Ok (m, to) → (n ≡ m) × (d ≡ to))
    → (n ≡ child) × (d ≡ next)
landed frq level at child n next d lands low high = elim (cases_eq level 0) [
  | inl none ↦ let a = low none in let b = lands.lowest none in (a.0 ∙ sym b.0, a.1 ∙ sym b.1)
  | inr some ↦ let pos : 0 < level = omega arith in high child next pos (lands.higher pos)
]

-- the level above is one of the term, and tells where this one goes on
pub record IsLed (t : RuledTerm) (frq : List ℕ) (level begin k : ℕ) (s : LevelStands t frq level begin) : Type 0 where
  pub level_within : suc level < level_count t
  pub above_within : k < data_count t (suc level)
  pub within : suc k * t.rules.skip_interval ≤ data_count t level
  pub is : suc (suc k * t.rules.skip_interval - 1) ≡ suc k * t.rules.skip_interval
  pub led : Led t frq level begin (suc k * t.rules.skip_interval - 1) s (slice_index_or (points_in t frq (suc level)) k no_point).child

pub is-led : (t : RuledTerm) (frq : List ℕ) (level begin k : ℕ) (p : Point) (s : LevelStands t frq level begin) → CanSearch t frq → HasPassedData t frq (suc level) (suc k) p → IsLed t frq level begin k s
is-led t frq level begin k p s search passed = go passed.level_within s.above_is
  where
    go : (suc k ≡ 0) ⊎ (suc level < level_count t) → (suc level ≡ level_count t) ⊎ ((rest : List (List Point)) × (s.above ≡ points_in t frq (suc level) ∷ rest)) → IsLed t frq level begin k s
    go (inl none) above = absurd (omega arith)
    go (inr lt) (inl same) = absurd (omega arith)
    go (inr lt) (inr (rest, is)) =
        let two = search.good.interval in
        let within = led-within t level (suc k) two passed.within in
        let many : 1 * t.rules.skip_interval ≤ suc k * t.rules.skip_interval = mul-le-mul_right t.rules.skip_interval (let z : 1 ≤ suc k = omega arith in z) in
        let m = suc k * t.rules.skip_interval - 1 in
        let suc_is : suc m ≡ suc k * t.rules.skip_interval = omega arith in
        let one : suc k - 1 ≡ k = omega arith in
        let led = led t frq level begin (suc k) m s rest search.bytes two is (omega arith) suc_is (omega arith) in
        let above_in = passed.within in
        record {
          level_within = lt;
          above_within = omega arith;
          within = within;
          is = suc_is;
          led = subst (λ (n : ℕ). Led t frq level begin m s (slice_index_or (points_in t frq (suc level)) n no_point).child) one led;
        }

pub entered-led : (t : RuledTerm) (frq : List ℕ) (level begin k n : ℕ) (p : Point) (d : Cursor) (s : LevelStands t frq level begin) → CanSearch t frq → HasPassedData t frq (suc level) (suc k) p → (h : IsLed t frq level begin k s)
    → n ≡ (slice_index_or (points_in t frq level) (suc k * t.rules.skip_interval - 1) no_point).child → d ≡ h.led.next
    → StandsOn t frq level (suc k * t.rules.skip_interval) (record { doc = p.doc; freq = p.freq; prox = p.prox; payload = p.payload; child = n; place = p.place }) d
entered-led t frq level begin k n p d s search passed h child at =
    let m = suc k * t.rules.skip_interval - 1 in
    let points = points_in t frq level in
    let last : Point = record { doc = p.doc; freq = p.freq; prox = p.prox; payload = p.payload; child = n; place = p.place } in
    let within = h.within in
    let is = h.is in
    let like = like-led t frq level k m p n search h.level_within h.above_within (omega arith) is passed.like child in
    let l = level_of level s.stated s.above in
    let ps = postings_from t (start_in t frq) in
    record {
      begin = begin;
      level_within = let lt = h.level_within in omega arith;
      stands = s;
      last = slice_index_or points m no_point;
      follows = subst (λ (c : Cursor). Follows t ps l (place_in frq begin) (suc k * t.rules.skip_interval) (slice_index_or points m no_point) c) (sym at)
          (subst (λ (c : ℕ). Follows t ps l (place_in frq begin) c (slice_index_or points m no_point) h.led.next) is h.led.behind);
      like = like;
      passed = record { within = within; level_within = let lt = h.level_within in inr (omega arith); like = subst (λ (c : ℕ). IsLike last (last_of points c)) is like };
    }

-- before the first datum
pub entered-none : (t : RuledTerm) (frq : List ℕ) (level begin : ℕ) (s : LevelStands t frq level begin) → level < level_count t → StandsOn t frq level 0 no_point (place_in frq begin)
entered-none t frq level begin s lt = record {
  begin = begin;
  level_within = lt;
  stands = s;
  last = no_point;
  follows = Follows-none t (postings_from t (start_in t frq)) (level_of level s.stated s.above) (place_in frq begin);
  like = record { doc = refl; freq = refl; prox = refl; child = refl };
  passed = record { within = omega arith; level_within = inl refl; like = record { doc = refl; freq = refl; prox = refl; child = refl } };
}
