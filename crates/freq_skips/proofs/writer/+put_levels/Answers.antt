use Rattle.std.proofs.Common.{◌≡◌, ℕ, suc, add-one, ◌+◌, ◌-◌, ◌*◌, ◌^◌, ◌<◌, ◌≤◌, ◌≢◌, ◌⊎◌, inl, inr, ◌++◌, List, rules, sym, ap, subst, ◌∙◌, append_assoc, arith}
use Rattle.std.proofs.lemmas.List.{append-nil}
use Rattle.freq_skips.specs.Written.{with_level_length}
use Rattle.freq_skips.specs.InnerLevels.{LevelMarks, level_marks, marked_count, marked_above, marked_bytes, places_after, marked_levels, AreSmallPlaces}
use Rattle.freq_skips.proofs.WriterLemmas.{marked_levels-none, marked_levels-next, OnOk-then, step-fits, step-next, step-pos, places-enough}
use Rattle.freq_skips.proofs.writer.+put_levels.Goals as goal

pub returns-then-left-eq0 : goal.returns-then-left-eq0
returns-then-left-eq0 t c =
    let r = level_marks c.args.level.now.payloads c.args.level.now.marks.now c.args.level.now.interval c.args.level.now.number c.args.level.now.step c.args.level.now.children.now in
    sym (ap (λ (b : List ℕ). c.args.out.now.items ++ b) (marked_levels-none r c.args.left c.if-left-eq0.true) ∙ append-nil c.args.out.now.items)

-- the steps of the levels that are left
low : (left step interval : ℕ) → left ≢ 0 → (left ≡ 0) ⊎ (step * interval ^ (left - 1) ≤ 2 ^ 32) → step * interval ^ (left - 1) ≤ 2 ^ 32
low left step interval ne (inl e) = absurd (ne e)
low left step interval ne (inr le) = le

pub overflow_mul-above : goal.overflow_mul-above
overflow_mul-above t c =
    let lt : c.args.level.now.step * c.args.level.now.interval < 2 ^ 64 = step-fits c.args.level.now.step c.args.level.now.interval (c.args.left - 1) c.requires.interval (omega arith) (low c.args.left c.args.level.now.step c.args.level.now.interval c.if-left-eq0.false c.requires.steps) in
    search rules

pub put_levels-requires : goal.put_levels-requires
put_levels-requires t c =
    let r = level_marks c.args.level.now.payloads c.args.level.now.marks.now c.args.level.now.interval c.args.level.now.number c.args.level.now.step c.args.level.now.children.now in
    let places = c.deref.ensures.value ∙ c.in_ok-written.ensures.places in (
      omega (arith, c.decreases),
      (
        step-pos c.args.level.now.step c.args.level.now.interval c.requires.step c.requires.interval,
        (
          c.requires.interval,
          (
            c.requires.small,
            (
              inr (places-enough r c.deref.result.now c.requires.interval places),
              (
                subst (λ (l : List ℕ). AreSmallPlaces l) (sym c.deref.ensures.value) c.in_ok-written.ensures.small,
                (step-next c.args.level.now.step c.args.level.now.interval c.args.left (omega arith) (low c.args.left c.args.level.now.step c.args.level.now.interval c.if-left-eq0.false c.requires.steps), omega arith),
              ),
            ),
          ),
        ),
      ),
    )

-- the levels above, and then this one
all-levels : (r : LevelMarks) (k left : ℕ) (old out children bytes : List ℕ) (number : ℕ) → left ≡ suc k → number ≡ suc r.number → children ≡ places_after r (marked_count r) → bytes ≡ marked_bytes r (marked_count r)
    → out ≡ old ++ marked_levels k (level_marks r.payloads r.marks r.interval number (r.step * r.interval) children) → out ++ with_level_length r.number bytes ≡ old ++ marked_levels left r
all-levels r k left old out children bytes number is next places same e =
    ap (λ (b : List ℕ). b ++ with_level_length r.number bytes) e ∙ append_assoc old (marked_levels k (level_marks r.payloads r.marks r.interval number (r.step * r.interval) children)) (with_level_length r.number bytes)
    ∙ ap (λ (b : List ℕ). old ++ b)
    (ap (λ (n : ℕ). marked_levels k (level_marks r.payloads r.marks r.interval n (r.step * r.interval) children) ++ with_level_length r.number bytes) next
    ∙ ap (λ (l : List ℕ). marked_levels k (level_marks r.payloads r.marks r.interval (suc r.number) (r.step * r.interval) l) ++ with_level_length r.number bytes) places
    ∙ ap (λ (b : List ℕ). marked_levels k (marked_above r) ++ with_level_length r.number b) same
    ∙ sym (marked_levels-next r k left is))

pub returns : goal.returns
returns t c =
    let r = level_marks c.args.level.now.payloads c.args.level.now.marks.now c.args.level.now.interval c.args.level.now.number c.args.level.now.step c.args.level.now.children.now in
    let k = c.args.left - 1 in
    let is : c.args.left ≡ suc k = omega arith in
    let places = c.deref.ensures.value ∙ c.in_ok-written.ensures.places in
    let bytes = c.deref-2.ensures.value ∙ c.in_ok-written.ensures.bytes in
    OnOk-then c.put_with_length.result c.put_with_length.ensures (λ e. e ∙ all-levels r k c.args.left c.args.out.now.items c.put_levels.new.out.items c.deref.result.now c.deref-2.result.now (c.args.level.now.number + 1) is (add-one c.args.level.now.number) places bytes c.in_ok-put_levels.ensures)
