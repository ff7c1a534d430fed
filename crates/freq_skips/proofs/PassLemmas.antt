-- A walk along a level passes one datum more.
use Rattle.std.proofs.Common.{◌≡◌, ℕ, zero, suc, add-one, ◌+◌, ◌-◌, ◌*◌, ◌^◌, ◌<◌, ◌≤◌, ◌⊎◌, inl, inr, List, length, Ok, Err, refl, sym, ap, subst, arith}
use Rattle.std.specs.Prelude.{slice_index_or}
use Rattle.lu_grammar.specs.declared.bad.Bad.{Bad}
use Rattle.lu_grammar.specs.Bytes.{Cursor, place_in}
use Rattle.lu_grammar.specs.Records.{read_shape}
use Rattle.freq_skips.specs.declared.rules.RuledTerm.{RuledTerm}
use Rattle.freq_skips.specs.declared.datum.Point.{Point}
use Rattle.freq_skips.specs.Records.{Record, datum_shape, skip_of}
use Rattle.freq_skips.specs.Entries.{postings_from}
use Rattle.freq_skips.specs.Levels.{no_point, level_of, level_count, stride, data_count, skipped, point_of, AreSmallSums}
use Rattle.freq_skips.specs.Walks.{start_in, points_in}
use Rattle.freq_skips.specs.Finding.{CanSearch, IsLike, last_of, HasPassedData, StandsOn}
use Rattle.freq_skips.proofs.LevelLemmas.{IsNextDatum-read, never_unread}
use Rattle.freq_skips.proofs.PostingLemmas.{before-small, posting-place}
use Rattle.freq_skips.proofs.PointLemmas.{entries-good, leads-there}

-- behind like points one datum leads to like points
like-more : (t : RuledTerm) (q p : Point) (place : ℕ) (r : Record) → IsLike q p → IsLike (point_of t q place r) (point_of t p place r)
like-more t q p place r like = record {
  doc = ap (λ (n : ℕ). n + skipped t (skip_of r).doc) like.doc;
  freq = ap (λ (n : ℕ). n + (skip_of r).freq) like.freq;
  prox = ap (λ (n : ℕ). n + (skip_of r).prox) like.prox;
  child = refl;
}

like-trans : (o p q : Point) → IsLike o p → p ≡ q → IsLike o q
like-trans o p q like e = subst (λ (x : Point). IsLike o x) e like

pub StandsOn-next : (t : RuledTerm) (frq : List ℕ) (level count : ℕ) (last : Point) (here : Cursor) (r : Record) (p : Point) (next : Cursor) → StandsOn t frq level count last here → count < data_count t level
    → read_shape (datum_shape t level) here ≡ Ok (r, next) → point_of t last here.place r ≡ p
    → StandsOn t frq level (count + 1) p next × (p.doc ≡ (slice_index_or (points_in t frq level) count no_point).doc)
StandsOn-next t frq level count last here r p next h lt read is =
    let ps = postings_from t (start_in t frq) in
    let l = level_of level h.stands.stated h.stands.above in
    let points = points_in t frq level in
    let q = point_of t h.last here.place r in
    let passes = IsNextDatum-read t ps l (place_in frq h.begin) points h.stands.end count h.last here r q next read refl refl h.stands.all h.follows lt in
    let like : IsLike p q = subst (λ (x : Point). IsLike x q) is (like-more t last h.last here.place r h.like) in
    let point : IsLike p (slice_index_or points count no_point) = like-trans p q _ like (sym passes.point) in (
      record {
        begin = h.begin;
        level_within = h.level_within;
        stands = h.stands;
        last = q;
        follows = passes.follows;
        like = like;
        passed = record { within = omega arith; level_within = inr h.level_within; like = subst (λ (n : ℕ). IsLike p (last_of points n)) (sym (add-one count)) point };
      },
      point.doc,
    )

pub StandsOn-unread : (t : RuledTerm) (frq : List ℕ) (level count : ℕ) (last : Point) (here : Cursor) (bad : Bad) → StandsOn t frq level count last here → count < data_count t level → read_shape (datum_shape t level) here ≡ Err bad → ⊥
StandsOn-unread t frq level count last here bad h lt read =
    never_unread t (postings_from t (start_in t frq)) (level_of level h.stands.stated h.stands.above) (place_in frq h.begin) (points_in t frq level) h.stands.end count h.last here bad read h.stands.all h.follows lt

-- the sums of the data that are passed are small: they are those of an entry
pub record SmallSums (t : RuledTerm) (frq : List ℕ) (last : Point) : Type 0 where
  pub doc : last.doc < 2 ^ 32
  pub freq : t.info.freq + last.freq ≤ length frq
  pub prox : t.info.prox + last.prox < 2 ^ 32

pub HasPassedData-small : (t : RuledTerm) (frq : List ℕ) (level count : ℕ) (last : Point) → CanSearch t frq → HasPassedData t frq level count last → SmallSums t frq last
HasPassedData-small t frq level zero last search h =
    let like = h.like in
    let within = search.good.within in
    let small = search.prox_small in
    record { doc = let e = like.doc in omega arith; freq = let e = like.freq in omega arith; prox = let e = like.prox in omega arith }
HasPassedData-small t frq level (suc m) last search h = go h.level_within
  where
    go : (suc m ≡ 0) ⊎ (level < level_count t) → SmallSums t frq last
    go (inl none) = absurd (omega arith)
    go (inr lt) =
        let within = h.within in
        let below : m < data_count t level = omega arith in
        let there = leads-there t frq level m search.bytes search.good lt below in
        let good = entries-good t frq search.good in
        let index = suc m * stride t level - 1 in
        let small = before-small t (start_in t frq) good.0 index (2 ^ 32) good.1 there.within (omega (arith, search.documents)) (omega arith) in
        let place = posting-place t frq t.info.freq good.0 index search.bytes search.good.within good.1 there.within in
        let sum = search.places.sums level m lt below in
        let prox = search.places.within index there.within in
        let like = h.like in
        record {
          doc = omega (arith, like.doc, there.doc, small);
          freq = omega (arith, like.freq, there.freq, place.0, place.1);
          prox = omega (arith, like.prox, sum, prox);
        }

pub SmallSums-AreSmallSums : (t : RuledTerm) (frq : List ℕ) (level count : ℕ) (last : Point) → CanSearch t frq → HasPassedData t frq level count last → AreSmallSums count last
SmallSums-AreSmallSums t frq level zero last search h = let like = h.like in record { doc = let e = like.doc in omega arith; freq = let e = like.freq in omega arith; prox = let e = like.prox in omega arith }
SmallSums-AreSmallSums t frq level (suc m) last search h =
    let sums = HasPassedData-small t frq level (suc m) last search h in
    let small = search.small in
    record { doc = omega (arith, sums.doc); freq = omega (arith, sums.freq, small); prox = omega (arith, sums.prox) }
