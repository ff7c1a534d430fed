-- What skip data tell of a term that stands in both files.
use Rattle.std.proofs.Common.{◌≡◌, ℕ, zero, suc, add-zero, ◌+◌, ◌-◌, ◌*◌, ◌^◌, ◌<◌, ◌≤◌, Bool, true, false, List, [], length, Result, Ok, Err, ◌⊎◌, inl, inr, refl, sym, ap, subst, ◌∙◌, arith}
use Rattle.std.proofs.lemmas.Bool.{cases_lt}
use Rattle.lu_grammar.specs.Bytes.{IsBytes, Cursor, place_in}
use Rattle.lu_grammar.specs.Plans.{Broken, times, read_plan}
use Rattle.lu_grammar.proofs.Parts.{IsBytes-drop}
use Rattle.lu_grammar.proofs.Codecs.{read_plan-ReadsTo, place_in-after}
use Rattle.lu_types.specs.Occurrences.{Occurrence}
use Rattle.freq_skips.specs.declared.rules.RuledTerm.{RuledTerm}
use Rattle.freq_skips.specs.Levels.{stride}
use Rattle.freq_skips.specs.Terms.{TermData}
use Rattle.freq_skips.specs.ProxPlaces.{HasProxPlaces}
use Rattle.freq_skips.proofs.Powers.{power-pos}
use Rattle.positions.specs.Occurrences.{PostedTerm, count_at}
use Rattle.positions.specs.Terms.{term_plan}
use Rattle.positions.specs.Standing.{passed_kind, count_before, Skims}
use Rattle.positions.specs.Cursors.{StandsInBoth, posted_term}
use Rattle.positions.proofs.AgainLemmas.{StandsFirst, Stands-upto}
use Rattle.positions.proofs.PassLemmas.{plan-rises, Skims-same, Skims-less}
use Rattle.positions.proofs.PlaceLemmas.{datum-entry, entry-some, sum-is}
use Rattle.positions.proofs.OmittedData.{omitted-points}

-- the place that was read to
place_of : Result (ℕ × Cursor) Broken → ℕ
place_of (Ok x) = x.1.place
place_of (Err b) = 0

-- how many bytes the positions of so many entries take
prox_of : PostedTerm → Cursor → ℕ → ℕ
prox_of p start k = place_of (read_plan (times (passed_kind p.term.rules.payloads) (count_before p k) 0) start) - p.term.info.prox

prox_of-is : (p : PostedTerm) (start : Cursor) (k : ℕ) (first : StandsFirst p start k) → prox_of p start k ≡ first.here.place - p.term.info.prox
unfolding prox_of place_of
prox_of-is p start k first =
    ap (λ (n : ℕ). place_of (read_plan (times (passed_kind p.term.rules.payloads) n 0) start) - p.term.info.prox) (sym (add-zero (count_before p k)))
    ∙ ap (λ (r : Result (ℕ × Cursor) Broken). place_of r - p.term.info.prox) first.stands.skims.reads

count_before-rises : (p : PostedTerm) (j n : ℕ) → count_before p j ≤ count_before p (n + j)
count_before-rises p j zero = let e = ap (count_before p) (let k : 0 + j ≡ j = omega arith in k) in omega arith
count_before-rises p j (suc n) =
    let e = ap (count_before p) (let k : suc n + j ≡ suc (n + j) = omega arith in k) in
    let h = count_before-rises p j n in
    omega arith

module _ (t : RuledTerm) (value : TermData) (prx : List ℕ) (occurrences : List (List Occurrence)) (fits : IsBytes prx) (good : StandsInBoth t value prx occurrences) (small : length prx < 2 ^ 31) (omit : t.rules.omit_tf ≡ false) where
  first_at : (k : ℕ) → k < t.info.doc_freq → StandsFirst (posted_term t value) (place_in prx t.info.prox) k
  first_at k lt = Stands-upto (posted_term t value) (place_in prx t.info.prox) occurrences good.end (read_plan-ReadsTo (term_plan (posted_term t value)) (place_in prx t.info.prox) occurrences good.end good.reads) k (omega arith)

  -- it stands in the bytes
  first-within : (k : ℕ) (lt : k < t.info.doc_freq) → (t.info.prox ≤ (first_at k lt).here.place) × ((first_at k lt).here.place ≤ length prx)
  first-within k lt =
      let p = posted_term t value in
      let start = place_in prx t.info.prox in
      let first = first_at k lt in
      let plan = times (passed_kind t.rules.payloads) (count_before p k + 0) 0 in
      let after = place_in-after plan prx t.info.prox first.force first.here fits (good.within omit) first.stands.skims.reads in
      (plan-rises plan start first.force first.here (IsBytes-drop t.info.prox prx fits) first.stands.skims.reads, after.1)

  kept_places : HasProxPlaces t value (prox_of (posted_term t value) (place_in prx t.info.prox))
  kept_places =
      let p = posted_term t value in
      let start = place_in prx t.info.prox in
      record {
        rises = λ j k le lt.
            let a = first_at j (omega arith) in
            let b = first_at k lt in
            let sum : k - j + j ≡ k = omega arith in
            let counts = count_before-rises p j (k - j) in
            let same = ap (count_before p) sum in
            let at = prox_of-is p start j a in
            let to = prox_of-is p start k b in
            elim (cases_lt (count_before p j + 0) (count_before p k + 0)) [
              | inl less ↦ let order = Skims-less t.rules.payloads start (count_before p j + 0) (count_before p k + 0) a.force b.force a.here b.here (IsBytes-drop t.info.prox prx fits) less a.stands.skims b.stands.skims in omega arith
              | inr more ↦
                  let equal : count_before p j + 0 ≡ count_before p k + 0 = omega arith in
                  let is = Skims-same t.rules.payloads start (count_before p k + 0) a.force b.force a.here b.here (subst (λ (n : ℕ). Skims t.rules.payloads start n a.force a.here) equal a.stands.skims) b.stands.skims in
                  let place = ap (λ (c : Cursor). c.place) is.1 in omega arith
            ];
        within = λ k lt. let at = prox_of-is p start k (first_at k lt) in let inside = first-within k lt in omega (arith, inside.0, inside.1);
        sums = λ level m below lt.
            let pos : 0 < stride t level = power-pos t.rules.skip_interval (suc level) good.interval in
            let at = datum-entry m (stride t level) t.info.doc_freq pos lt in
            let first = first_at (suc m * stride t level - 1) at.0 in
            sum-is p start occurrences good.end level m first.force first.here good.interval (read_plan-ReadsTo (term_plan p) start occurrences good.end good.reads) below lt
            (entry-some t value prx occurrences (suc m * stride t level - 1) good omit at.0) first.stands
            ∙ sym (prox_of-is p start (suc m * stride t level - 1) first);
      }

-- a term that stands in both files has its places told
pub known_places : (t : RuledTerm) (value : TermData) (prx : List ℕ) (occurrences : List (List Occurrence)) → IsBytes prx → StandsInBoth t value prx occurrences → t.info.prox < 2 ^ 31 → length prx < 2 ^ 31 → (prox : ℕ → ℕ) × HasProxPlaces t value prox
known_places t value prx occurrences fits good low small = go t.rules.omit_tf refl
  where
    go : (b : Bool) → t.rules.omit_tf ≡ b → (prox : ℕ → ℕ) × HasProxPlaces t value prox
    go true omit = (
      (λ k. 0),
      record {
        rises = λ j k le lt. omega arith;
        within = λ k lt. omega arith;
        sums = λ level m below lt. omitted-points t (place_in good.frq t.info.freq) value good.behind good.entries omit level m;
      },
    )
    go false kept = (prox_of (posted_term t value) (place_in prx t.info.prox), kept_places t value prx occurrences fits good small kept)
