-- The walk along the level above.
use Rattle.std.proofs.Common.{◌≡◌, ◌≢◌, ℕ, suc, add-one, ◌+◌, ◌-◌, ◌/◌, ◌%◌, ◌^◌, ◌<◌, ◌≤◌, eqb, true, false, List, [], ◌∷◌, Option, Some, None, refl, sym, ap, subst, ◌∙◌, arith}
use Rattle.std.specs.Prelude.{slice_index_or}
use Rattle.std.proofs.lemmas.Bool.{eq-eqb, ne_eqb}
use Rattle.std.proofs.Math.Nat.{pow-suc, div-div-eq-div-mul, zero-div}
use Rattle.lu_grammar.specs.Bytes.{Cursor, place_in}
use Rattle.freq_skips.specs.declared.rules.RuledTerm.{RuledTerm}
use Rattle.freq_skips.specs.declared.datum.Point.{Point}
use Rattle.freq_skips.specs.declared.following.Following.{Following}
use Rattle.freq_skips.specs.Entries.{Posting}
use Rattle.freq_skips.specs.Levels.{no_point, level_of, child_above, data_count, Follows, AreData, IsNextDatum}
use Rattle.freq_skips.specs.Walking.{FollowsPoints, FollowsAbove, IsStart, StartsAbove, StandPoints, StandAbove}
use Rattle.freq_skips.proofs.LevelLemmas.{Follows-none}
use Rattle.freq_skips.proofs.Powers.{quotient-next, quotient-same, quotient-below}

-- a level has as many data as the one below has multiples of the interval
pub data_count-above : (t : RuledTerm) (n : ℕ) → data_count t n / t.rules.skip_interval ≡ data_count t (suc n)
data_count-above t n =
    let s = t.rules.skip_interval in div-div-eq-div-mul t.info.doc_freq (s ^ suc n) s ∙ ap (λ (k : ℕ). t.info.doc_freq / k) (sym (pow-suc s (suc n)))

-- the next datum of the level below is none that the level above leads to
pub above-skips : (t : RuledTerm) (postings : List Posting) (level : ℕ) (points : List (List Point)) (passed : ℕ) (o : Option Following) (f : Following) → o ≡ Some f → 2 ≤ t.rules.skip_interval → (passed + 1) % t.rules.skip_interval ≢ 0
    → FollowsAbove t postings level points passed o → (None ≡ child_above t points (suc passed)) × FollowsAbove t postings level points (suc passed) (Some f)
above-skips t postings level points passed o f is two ne h = go points (subst (λ (x : Option Following). FollowsAbove t postings level points passed x) is h)
  where
    go : (points : List (List Point)) → FollowsAbove t postings level points passed (Some f) → (None ≡ child_above t points (suc passed)) × FollowsAbove t postings level points (suc passed) (Some f)
    go [] h = absurd h
    go (ps ∷ rest) h =
        let test : eqb (suc passed % t.rules.skip_interval) 0 ≡ false = ne_eqb _ _ (λ e. ne (ap (λ (n : ℕ). n % t.rules.skip_interval) (add-one passed) ∙ e)) in
        (rw test refl, record { stated = h.stated; begin = h.begin; end = h.end; all = h.all; follows = h.follows; number = h.number ∙ sym (quotient-same passed t.rules.skip_interval (omega arith) ne) })

-- where it is one, there is a datum above to take
pub above-has : (t : RuledTerm) (postings : List Posting) (level n : ℕ) (points : List Point) (rest : List (List Point)) (passed : ℕ) (f : Following) → level ≡ suc n → 2 ≤ t.rules.skip_interval → (passed + 1) % t.rules.skip_interval ≡ 0
    → passed < data_count t n → FollowsPoints t postings level points rest passed f → f.count < data_count t level
above-has t postings level n points rest passed f is two e lt h =
    let s = t.rules.skip_interval in
    let below = quotient-below passed s (data_count t n) (omega arith) e lt in
    subst (λ (k : ℕ). f.count < data_count t k) (sym is) (subst (λ (k : ℕ). f.count < k) (data_count-above t n) (subst (λ (k : ℕ). k < data_count t n / s) (sym h.number) below))

-- and its child pointer is the one that is wanted
abbrev TakesAbove : RuledTerm → List Posting → ℕ → Following → Following → Type 0
TakesAbove t postings level f g = (stated : Option ℕ) (above : List (List Point)) (begin : Cursor) (points : List Point) (end : Cursor) → AreData t postings (level_of level stated above) begin points end
    → Follows t postings (level_of level stated above) begin f.count f.last f.cur → f.count < data_count t level
    → IsNextDatum t postings (level_of level stated above) begin points f.count g.last g.cur × (g.count ≡ f.count + 1)

pub above-passes : (t : RuledTerm) (postings : List Posting) (level n : ℕ) (points : List (List Point)) (passed : ℕ) (o : Option Following) (f g : Following) → o ≡ Some f → level ≡ suc n → 2 ≤ t.rules.skip_interval
    → (passed + 1) % t.rules.skip_interval ≡ 0 → passed < data_count t n → TakesAbove t postings level f g → FollowsAbove t postings level points passed o
    → (Some g.last.child ≡ child_above t points (suc passed)) × FollowsAbove t postings level points (suc passed) (Some g)
above-passes t postings level n points passed o f g is at two e lt takes h = go points (subst (λ (x : Option Following). FollowsAbove t postings level points passed x) is h)
  where
    s : ℕ
    s = t.rules.skip_interval

    go : (points : List (List Point)) → FollowsAbove t postings level points passed (Some f) → (Some g.last.child ≡ child_above t points (suc passed)) × FollowsAbove t postings level points (suc passed) (Some g)
    go [] h = absurd h
    go (ps ∷ rest) h =
        let test : eqb (suc passed % t.rules.skip_interval) 0 ≡ true = eq-eqb _ _ (ap (λ (n : ℕ). n % t.rules.skip_interval) (sym (add-one passed)) ∙ e) in
        let taken = takes h.stated rest h.begin ps h.end h.all h.follows (above-has t postings level n ps rest passed f at two e lt h) in
        let next = quotient-next passed t.rules.skip_interval (omega arith) e in
        let index : suc passed / t.rules.skip_interval - 1 ≡ f.count = omega (arith, next, h.number) in (
          rw test (ap (λ (p : Point). Some p.child) (sym taken.0.point) ∙ ap (λ (k : ℕ). Some (slice_index_or ps k no_point).child) (sym index)),
          record {
            stated = h.stated;
            begin = h.begin;
            end = h.end;
            all = h.all;
            follows = subst (λ (k : ℕ). Follows t postings (level_of level h.stated rest) h.begin k g.last g.cur) (sym taken.1) taken.0.follows;
            number = omega (arith, next, h.number, taken.1);
          },
        )

-- before the first datum
pub above-starts : (t : RuledTerm) (postings : List Posting) (level : ℕ) (points : List (List Point)) (frq : List ℕ) (o : Option ℕ) (r : Option Following)
    → StartsAbove frq o r → StandAbove t postings level points frq o → FollowsAbove t postings level points 0 r
above-starts t postings level points frq o r starts h = go points o r starts h
  where
    start : (level : ℕ) (ps : List Point) (rest : List (List Point)) (place : ℕ) (f : Following) → IsStart frq place f → StandPoints t postings level ps rest frq place → FollowsPoints t postings level ps rest 0 f
    start level ps rest place f is h =
        let l = level_of level h.stated rest in
        record {
          stated = h.stated;
          begin = place_in frq place;
          end = h.end;
          all = h.all;
          follows = subst (λ (d : Cursor). Follows t postings l (place_in frq place) f.count f.last d) (sym is.cur)
              (subst (λ (p : Point). Follows t postings l (place_in frq place) f.count p (place_in frq place)) (sym is.last)
              (subst (λ (n : ℕ). Follows t postings l (place_in frq place) n no_point (place_in frq place)) (sym is.count) (Follows-none t postings l (place_in frq place))));
          number = is.count ∙ sym (zero-div t.rules.skip_interval);
        }

    go : (points : List (List Point)) (o : Option ℕ) (r : Option Following) → StartsAbove frq o r → StandAbove t postings level points frq o → FollowsAbove t postings level points 0 r
    go [] None None starts h = tt
    go [] None (Some f) starts h = absurd starts
    go [] (Some place) r starts h = absurd h
    go (ps ∷ rest) None r starts h = absurd h
    go (ps ∷ rest) (Some place) None starts h = absurd starts
    go (ps ∷ rest) (Some place) (Some f) starts h = start level ps rest place f starts h
