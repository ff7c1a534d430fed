-- What a writer keeps while terms are added.
use Rattle.std.proofs.Common.{◌≡◌, ℕ, suc, ◌+◌, ◌*◌, ◌/◌, ◌%◌, ◌<◌, ◌≤◌, ◌^◌, Bool, true, false, eqb, ltb, List, [], ◌∷◌, ◌++◌, length, drop, refl, sym, ap, subst, ◌∙◌, add-one, arith, inl, inr}
use Rattle.std.specs.Prelude.{if◌then◌else◌}
use Rattle.std.proofs.lemmas.Bool.{cases_eq}
use Rattle.std.proofs.lemmas.List.{nil_from_length, length-append, drop-append-le, length-drop}
use Rattle.std.proofs.Math.Nat.{div-eq_of_lt}
use Rattle.std.proofs.Math.Seq.{take-append_seam}
use Rattle.lu_grammar.specs.Parts.{spelling, num, groups}
use Rattle.lu_types.specs.declared.term.TermInfo.{TermInfo}
use Rattle.term_dict.specs.Terms.{DictionaryTerm, no_term, last_term}
use Rattle.term_dict.specs.Index.{blank, point_after}
use Rattle.term_dict.specs.Canonical.{TermPoint, intervals_begun, entry_between, term_record_bytes, terms_bytes, start_of_term, point_before, point_bytes, points_bytes}
use Rattle.term_dict.specs.declared.writer.IndexOutput.{IndexOutput}
use Rattle.term_dict.specs.Writing.{IsPassed, last_point, TermsWritten, no_terms_written, term_before, FollowsTerm, IsSpellable, AreSpellable, AreIntervals, terms_in, terms_written_in, IsBehind, IsWritten}
use Rattle.term_dict.proofs.WriteLemmas.{last_after, last_after-last, terms_bytes-push, spellable-push, terms_in-spelled}
use Rattle.term_dict.proofs.LoopLemmas.{last_term-push}
use Rattle.term_dict.proofs.IndexLemmas.{intervals_begun-next, intervals_begun-at, intervals_begun-inside, point_after-push, point_before-push, points_bytes-push, term_before-is, index_point_of}

abbrev pub written : ℕ → ℕ → ℕ → List DictionaryTerm → TermsWritten
written index_interval interval levels terms = record { index_interval = index_interval; skip_interval = interval; max_levels = levels; terms = terms }

-- bytes that are the same, said otherwise
pub written-same : (index_interval interval levels count : ℕ) (tis tis' : List ℕ) (last last' : DictionaryTerm) (tii tii' : List ℕ) (point point' : TermPoint) → IsWritten (terms_written_in index_interval interval levels count tis) tis last tii point count
    → tis' ≡ tis → last' ≡ last → tii' ≡ tii → point' ≡ point → IsWritten (terms_written_in index_interval interval levels count tis') tis' last' tii' point' count
written-same index_interval interval levels count tis tis' last last' tii tii' point point' h a b c d =
    let one = subst (λ (x : TermPoint). IsWritten (terms_written_in index_interval interval levels count tis) tis last tii x count) (sym d) h in
    let two = subst (λ (x : List ℕ). IsWritten (terms_written_in index_interval interval levels count tis) tis last x point' count) (sym c) one in
    let three = subst (λ (x : DictionaryTerm). IsWritten (terms_written_in index_interval interval levels count tis) tis x tii' point' count) (sym b) two in
    subst (λ (x : List ℕ). IsWritten (terms_written_in index_interval interval levels count x) x last' tii' point' count) (sym a) three

-- there are no more terms than bytes
groups-some : (n : ℕ) → 1 ≤ length (groups 4 n)
unfolding groups
groups-some n = go (ltb n 128) (128 + n % 128) (groups 3 (n / 128))
  where
    go : (b : Bool) (x : ℕ) (xs : List ℕ) → 1 ≤ length (if b then n ∷ [] else x ∷ xs)
    go true x xs = omega arith
    go false x xs = omega arith

append-some : (xs ys : List ℕ) → 1 ≤ length xs → 1 ≤ length (xs ++ ys)
append-some xs ys some = omega (arith, some, length-append xs ys)

entry-some : (interval : ℕ) (before t : DictionaryTerm) → 1 ≤ length (term_record_bytes interval (entry_between before t) [])
entry-some interval before t = append-some (spelling num (entry_between before t).prefix) _ (groups-some (entry_between before t).prefix)

pub terms-few : (interval : ℕ) (before : DictionaryTerm) (ts : List DictionaryTerm) → length ts ≤ length (terms_bytes interval before ts)
terms-few interval before [] = omega arith
terms-few interval before (t ∷ ts) =
    omega (arith, terms-few interval t ts, entry-some interval before t, length-append (term_record_bytes interval (entry_between before t) []) (terms_bytes interval t ts))

behind-length : (body bytes : List ℕ) → IsBehind body bytes → length bytes ≡ 24 + length body
behind-length body bytes h = omega (arith, h.0, length-drop 24 bytes, ap length h.1)

behind-more : (body bytes more : List ℕ) → IsBehind body bytes → IsBehind (body ++ more) (bytes ++ more)
behind-more body bytes more h = (omega (arith, h.0, length-append bytes more), drop-append-le 24 bytes more h.0 ∙ ap (λ (b : List ℕ). b ++ more) h.1)

-- what the index is after one term more
pub record IsIndexed (index_interval interval : ℕ) (us : List DictionaryTerm) (tii : List ℕ) (point : TermPoint) (count : ℕ) : Type 0 where
  pub entries : IsBehind (points_bytes index_interval interval us (intervals_begun index_interval count)) tii
  pub is_point : point ≡ point_before index_interval interval us (intervals_begun index_interval count)

indexed-same : (index_interval interval : ℕ) (ts : List DictionaryTerm) (t : DictionaryTerm) (tii : List ℕ) (point : TermPoint) (count : ℕ) → 1 ≤ index_interval → count ≡ length ts → IsIndexed index_interval interval ts tii point count → (count % index_interval ≡ 0 → ⊥)
    → IsIndexed index_interval interval (ts ++ t ∷ []) tii point (count + 1)
indexed-same index_interval interval ts t tii point count some is h inside =
    let next : intervals_begun index_interval (count + 1) ≡ intervals_begun index_interval count = intervals_begun-next index_interval count some ∙ sym (intervals_begun-inside index_interval count some inside) in
    let le : intervals_begun index_interval count ≤ intervals_begun index_interval (length ts) = omega (arith, ap (intervals_begun index_interval) is) in
    let us = ts ++ t ∷ [] in
    record {
      entries = subst (λ (b : List ℕ). IsBehind b tii) (sym (ap (points_bytes index_interval interval us) next ∙ points_bytes-push index_interval interval ts t (intervals_begun index_interval count) some le)) h.entries;
      is_point = h.is_point ∙ sym (ap (point_before index_interval interval us) next ∙ point_before-push index_interval interval ts t (intervals_begun index_interval count) some le);
    }

-- the point where this term begins an interval
begins-at : (interval : ℕ) (ts : List DictionaryTerm) (t : DictionaryTerm) (index_interval q place : ℕ) → q * index_interval ≡ length ts → place ≡ 24 + length (terms_bytes interval no_term ts)
    → index_point_of (term_before (length ts) (last_term ts)) place ≡ point_before index_interval interval (ts ++ t ∷ []) (suc q)
begins-at interval ts t index_interval q place whole is =
    let us = ts ++ t ∷ [] in
    let start : place ≡ start_of_term interval us (length ts) = is ∙ ap (λ (xs : List DictionaryTerm). 24 + length (terms_bytes interval no_term xs)) (sym (take-append_seam ts (t ∷ []))) in
    ap (λ (x : DictionaryTerm). index_point_of x place) (term_before-is ts ∙ sym (point_after-push ts t (length ts) (omega arith)))
    ∙ ap (index_point_of (point_after us (length ts))) start
    ∙ ap (λ (n : ℕ). index_point_of (point_after us n) (start_of_term interval us n)) (sym whole)

indexed-more : (index_interval interval : ℕ) (ts : List DictionaryTerm) (t : DictionaryTerm) (tii tii' : List ℕ) (point point' : TermPoint) (count place : ℕ) → 1 ≤ index_interval → count ≡ length ts → IsIndexed index_interval interval ts tii point count → count % index_interval ≡ 0
    → place ≡ 24 + length (terms_bytes interval no_term ts) → tii' ≡ tii ++ point_bytes interval point (index_point_of (term_before count (last_term ts)) place) → point' ≡ index_point_of (term_before count (last_term ts)) place
    → IsIndexed index_interval interval (ts ++ t ∷ []) tii' point' (count + 1)
indexed-more index_interval interval ts t tii tii' point point' count place some is h none at to to_point =
    let us = ts ++ t ∷ [] in
    let q = count / index_interval in
    let here = intervals_begun-at index_interval count some none in
    let next : intervals_begun index_interval (count + 1) ≡ suc q = intervals_begun-next index_interval count some ∙ add-one q in
    let le : q ≤ intervals_begun index_interval (length ts) = omega (arith, ap (intervals_begun index_interval) is, here.0) in
    let p = index_point_of (term_before count (last_term ts)) place in
    let p_is : p ≡ point_before index_interval interval us (suc q) = ap (λ (n : ℕ). index_point_of (term_before n (last_term ts)) place) is ∙ begins-at interval ts t index_interval q place (here.1 ∙ is) at in
    let old_point : point ≡ point_before index_interval interval us q = h.is_point ∙ ap (point_before index_interval interval ts) here.0 ∙ sym (point_before-push index_interval interval ts t q some le) in
    let old_bytes : points_bytes index_interval interval ts (intervals_begun index_interval count) ≡ points_bytes index_interval interval us q = ap (points_bytes index_interval interval ts) here.0 ∙ sym (points_bytes-push index_interval interval ts t q some le) in
    let body : points_bytes index_interval interval ts (intervals_begun index_interval count) ++ point_bytes interval point p ≡ points_bytes index_interval interval us (intervals_begun index_interval (count + 1)) =
    ap (λ (b : List ℕ). b ++ point_bytes interval point p) old_bytes
    ∙ ap (λ (x : TermPoint). points_bytes index_interval interval us q ++ point_bytes interval x p) old_point
    ∙ ap (λ (x : TermPoint). points_bytes index_interval interval us q ++ point_bytes interval (point_before index_interval interval us q) x) p_is
    ∙ ap (points_bytes index_interval interval us) (sym next) in
    record {
      entries = subst (λ (b : List ℕ). IsBehind (points_bytes index_interval interval us (intervals_begun index_interval (count + 1))) b) (sym to) (subst (λ (b : List ℕ). IsBehind b (tii ++ point_bytes interval point p)) body (behind-more (points_bytes index_interval interval ts (intervals_begun index_interval count)) tii (point_bytes interval point p) h.entries));
      is_point = to_point ∙ p_is ∙ ap (point_before index_interval interval us) (sym next);
    }

-- ---- one term more

-- what was passed in the index
pub record Passed (index_interval interval count : ℕ) (last : DictionaryTerm) (place : ℕ) (tii tii' : List ℕ) (point point' : TermPoint) : Type 0 where
  pub entered : count % index_interval ≡ 0 → (tii' ≡ tii ++ point_bytes interval point (index_point_of (term_before count last) place)) × (point' ≡ index_point_of (term_before count last) place)
  pub same : (count % index_interval ≡ 0 → ⊥) → (tii' ≡ tii) × (point' ≡ point)

-- what the files are after one term more
pub record IsMore (index_interval interval levels count : ℕ) (ts : List DictionaryTerm) (tis' : List ℕ) (t : DictionaryTerm) (tii' : List ℕ) (point' : TermPoint) : Type 0 where
  pub terms : terms_in interval (count + 1) tis' ≡ ts ++ t ∷ []
  pub written : IsWritten (terms_written_in index_interval interval levels (count + 1) tis') tis' t tii' point' (count + 1)

blank-follows : (number : ℕ) (last info : TermInfo) → FollowsTerm last info → last.freq ≤ info.freq → FollowsTerm (term_before number (record { text = []; info = last })).info info
blank-follows number last info h le = go (eqb number 0)
  where
    go : (b : Bool) → FollowsTerm (if b then blank.info else last) info
    go true = record { doc_freq = h.doc_freq; skip = h.skip; freq = omega arith; prox = omega arith }
    go false = h

pub written-more : (index_interval interval levels count : ℕ) (tis tis' : List ℕ) (last t : DictionaryTerm) (tii tii' : List ℕ) (point point' : TermPoint) → (h : IsWritten (terms_written_in index_interval interval levels count tis) tis last tii point count)
    → tis' ≡ tis ++ term_record_bytes interval (entry_between last t) [] → Passed index_interval interval count last (length tis) tii tii' point point' → IsSpellable interval t → FollowsTerm last.info t.info
    → IsMore index_interval interval levels count (terms_in interval count tis) tis' t tii' point'
written-more index_interval interval levels count tis tis' last t tii tii' point point' h to passed here follows =
    let ts = terms_in interval count tis in
    let us = ts ++ t ∷ [] in
    let last_is : last_after no_term ts ≡ last = last_after-last ts ∙ sym h.is_last in
    let spellable : AreSpellable interval no_term us = spellable-push interval no_term ts t h.spellable here (subst (λ (x : DictionaryTerm). FollowsTerm x.info t.info) (sym last_is) follows) in
    let counted : count + 1 ≡ length us = omega (arith, h.counted, length-append ts (t ∷ [])) in
    let more : terms_bytes interval no_term ts ++ term_record_bytes interval (entry_between last t) [] ≡ terms_bytes interval no_term us =
    ap (λ (x : DictionaryTerm). terms_bytes interval no_term ts ++ term_record_bytes interval (entry_between x t) []) (sym last_is) ∙ sym (terms_bytes-push interval no_term ts t) in
    let body : IsBehind (terms_bytes interval no_term us) tis' =
    subst (λ (b : List ℕ). IsBehind (terms_bytes interval no_term us) b) (sym to) (subst (λ (b : List ℕ). IsBehind b (tis ++ term_record_bytes interval (entry_between last t) [])) more (behind-more (terms_bytes interval no_term ts) tis (term_record_bytes interval (entry_between last t) []) h.terms)) in
    let terms : terms_in interval (count + 1) tis' ≡ us = terms_in-spelled interval (count + 1) us tis' spellable counted body in
    let place : length tis ≡ 24 + length (terms_bytes interval no_term ts) = behind-length (terms_bytes interval no_term ts) tis h.terms in
    let long : length tis ≤ length tis' = omega (arith, ap length to, length-append tis (term_record_bytes interval (entry_between last t) [])) in
    let old : IsIndexed index_interval interval ts tii point count = record { entries = h.entries; is_point = h.is_point } in
    let kept = written_parts index_interval interval levels us tis' t tii' point' count (sym (last_term-push ts t)) spellable body counted here.small h.intervals in
    elim (cases_eq (count % index_interval) 0) [
      | inl none ↦
          let entered = passed.entered none in
          let to_tii = entered.0 ∙ ap (λ (x : DictionaryTerm). tii ++ point_bytes interval point (index_point_of (term_before count x) (length tis))) h.is_last in
          let to_point = entered.1 ∙ ap (λ (x : DictionaryTerm). index_point_of (term_before count x) (length tis)) h.is_last in
          let index = indexed-more index_interval interval ts t tii tii' point point' count (length tis) h.intervals.index_interval.0 h.counted old none place to_tii to_point in
          record {
            terms = terms;
            written = subst (λ (xs : List DictionaryTerm). IsWritten (written index_interval interval levels xs) tis' t tii' point' (count + 1)) (sym terms) (kept index
                (subst (λ (p : TermPoint). FollowsTerm p.term.info t.info) (sym entered.1) (blank-follows count last.info t.info follows follows.freq)) (omega (arith, ap (λ (p : TermPoint). p.place) entered.1, long)));
          }
      | inr some ↦
          let same = passed.same some in
          let index = indexed-same index_interval interval ts t tii point count h.intervals.index_interval.0 h.counted old some in
          let moved : IsIndexed index_interval interval us tii' point' (count + 1) = subst (λ (b : List ℕ). IsIndexed index_interval interval us b point' (count + 1)) (sym same.0) (subst (λ (p : TermPoint). IsIndexed index_interval interval us tii p (count + 1)) (sym same.1) index) in
          record {
            terms = terms;
            written = subst (λ (xs : List DictionaryTerm). IsWritten (written index_interval interval levels xs) tis' t tii' point' (count + 1)) (sym terms) (kept moved
                (subst (λ (p : TermPoint). FollowsTerm p.term.info t.info) (sym same.1) (record { doc_freq = follows.doc_freq; skip = follows.skip; freq = omega (arith, h.follows.freq, follows.freq); prox = omega (arith, h.follows.prox, follows.prox) })) (omega (arith, ap (λ (p : TermPoint). p.place) same.1, h.place, long)));
          }
    ]
  where
    written_parts : (index_interval interval levels : ℕ) (us : List DictionaryTerm) (tis' : List ℕ) (t : DictionaryTerm) (tii' : List ℕ) (point' : TermPoint) (count : ℕ) → t ≡ last_term us → AreSpellable interval no_term us → IsBehind (terms_bytes interval no_term us) tis' → count + 1 ≡ length us
        → length t.text < 2 ^ 31 → AreIntervals (written index_interval interval levels (terms_in interval count tis)) → IsIndexed index_interval interval us tii' point' (count + 1) → FollowsTerm point'.term.info t.info → point'.place ≤ length tis'
        → IsWritten (written index_interval interval levels us) tis' t tii' point' (count + 1)
    written_parts index_interval interval levels us tis' t tii' point' count is spellable body counted small intervals index follows place = record {
      intervals = record { index_interval = intervals.index_interval; skip_interval = intervals.skip_interval; max_levels = intervals.max_levels };
      counted = counted;
      terms = body;
      entries = index.entries;
      is_last = is;
      is_point = index.is_point;
      spellable = spellable;
      small = small;
      follows = follows;
      place = place;
    }

behind-none : (bytes : List ℕ) → length bytes ≡ 24 → IsBehind [] bytes
behind-none bytes e = (omega (arith, e), nil_from_length (drop 24 bytes) (omega (arith, length-drop 24 bytes, e)))

-- nothing yet
pub terms_in-none : (interval : ℕ) (tis : List ℕ) → length tis ≡ 24 → terms_in interval 0 tis ≡ []
terms_in-none interval tis e = terms_in-spelled interval 0 [] tis tt refl (behind-none tis e)

pub written-none : (index_interval interval levels : ℕ) (tis : List ℕ) (last : DictionaryTerm) (tii : List ℕ) (point : TermPoint) → AreIntervals (no_terms_written index_interval interval levels) → length tis ≡ 24 → length tii ≡ 24 → last ≡ no_term → point ≡ index_point_of no_term 0
    → IsWritten (terms_written_in index_interval interval levels 0 tis) tis last tii point 0
written-none index_interval interval levels tis last tii point intervals long long_index is is_point =
    let none : intervals_begun index_interval 0 ≡ 0 = div-eq_of_lt (omega (arith, intervals.index_interval.0)) in
    let here : IsWritten (written index_interval interval levels []) tis last tii point 0 = record {
      intervals = record { index_interval = intervals.index_interval; skip_interval = intervals.skip_interval; max_levels = intervals.max_levels };
      counted = refl;
      terms = behind-none tis long;
      entries = subst (λ (n : ℕ). IsBehind (points_bytes index_interval interval [] n) tii) (sym none) (behind-none tii long_index);
      is_last = is;
      is_point = is_point ∙ ap (point_before index_interval interval []) (sym none);
      spellable = tt;
      small = omega (arith, ap (λ (t : DictionaryTerm). length t.text) is);
      follows = record {
        doc_freq = omega (arith, ap (λ (t : DictionaryTerm). t.info.doc_freq) is);
        skip = omega (arith, ap (λ (t : DictionaryTerm). t.info.skip) is);
        freq = omega (arith, ap (λ (p : TermPoint). p.term.info.freq) is_point);
        prox = omega (arith, ap (λ (p : TermPoint). p.term.info.prox) is_point);
      };
      place = omega (arith, ap (λ (p : TermPoint). p.place) is_point);
    } in
    subst (λ (ts : List DictionaryTerm). IsWritten (written index_interval interval levels ts) tis last tii point 0) (sym (terms_in-none interval tis long)) here

-- what was passed, by the parts of the index
pub passed-from : (index_interval interval count place place' : ℕ) (last last' : DictionaryTerm) (old new : IndexOutput) → IsPassed count index_interval interval old new last' place' → last' ≡ last → place' ≡ place
    → Passed index_interval interval count last place old.bytes.items new.bytes.items (last_point old) (last_point new)
passed-from index_interval interval count place place' last last' old new h is at =
    let g : IsPassed count index_interval interval old new last place = subst (λ (n : ℕ). IsPassed count index_interval interval old new last n) at (subst (λ (t : DictionaryTerm). IsPassed count index_interval interval old new t place') is h) in
    record { entered = g.0; same = g.1 }

-- there is room for the number of the next term
pub counted-few : (index_interval interval levels count : ℕ) (tis : List ℕ) (last : DictionaryTerm) (tii : List ℕ) (point : TermPoint) → IsWritten (terms_written_in index_interval interval levels count tis) tis last tii point count → count + 24 ≤ length tis
counted-few index_interval interval levels count tis last tii point h =
    omega (arith, h.counted, terms-few interval no_term (terms_in interval count tis), behind-length (terms_bytes interval no_term (terms_in interval count tis)) tis h.terms)
