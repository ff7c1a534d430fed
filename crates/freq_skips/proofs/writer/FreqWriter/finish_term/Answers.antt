use Rattle.std.proofs.Common.{◌≡◌, ℕ, ◌-◌, ◌^◌, ◌<◌, ◌≤◌, ◌++◌, [], eqb, true, false, Bool, List, length, take, inl, inr, refl, ap, sym, subst, ◌∙◌, append_assoc, arith, ◌*◌}
use Rattle.std.proofs.Math.Nat.{pow-suc, pow-zero}
use Rattle.std.proofs.Math.Seq.{take-length}
use Rattle.std.proofs.lemmas.Bool.{eq-eqb, ne_eqb}
use Rattle.freq_skips.specs.declared.writer.Mark.{Mark}
use Rattle.freq_skips.specs.Levels.{greatest_power}
use Rattle.freq_skips.specs.Written.{Handed, entries_bytes, skip_level, skip_bytes}
use Rattle.freq_skips.specs.InnerLevels.{HasMarks, lowest_marks, marked_levels}
use Rattle.freq_skips.specs.Writing.{FrqWriting, levels_due, skips, finished, skip_delta}
use Rattle.freq_skips.proofs.Powers.{greatest_power-is}
use Rattle.freq_skips.proofs.HandedLemmas.{entries-long}
use Rattle.freq_skips.proofs.WriterLemmas.{steps-start}
use Rattle.freq_skips.proofs.MadeLemmas.{levels-made}
use Rattle.freq_skips.proofs.writer.FreqWriter.finish_term.Goals as goal
use Rattle.freq_skips.proofs.writer.FreqWriter.finish_term.Goals.{then-left-eq0, else-left-eq0}

pub put_levels-requires-clause-steps : goal.put_levels-requires-clause-steps
put_levels-requires-clause-steps c =
    let g = c.greatest_power-left in
    let i = c.self.invariant in
    steps-start c.self.inside.skip_interval g.result.0 g.result.1 c.self.inside.count i.interval g.ensures.power g.ensures.low (omega arith)

abbrev state : ℕ → ℕ → List ℕ → Bool → Bool → List Handed → FrqWriting
state interval most bytes omit payloads entries = record { interval = interval; most = most; bytes = bytes; omit = omit; payloads = payloads; entries = entries }

-- the skip data that were put are those of the term
skips-put : (omit payloads : Bool) (interval most count left : ℕ) (bytes out : List ℕ) (entries : List Handed) (marks now : List Mark) → 2 ≤ interval → HasMarks omit interval entries marks → now ≡ marks → count ≡ length entries → left ≡ greatest_power interval count most
    → out ≡ [] ++ marked_levels left (lowest_marks payloads now interval) → out ≡ skips (state interval most bytes omit payloads entries)
skips-put omit payloads interval most count left bytes out entries marks now two has same is many e =
    e ∙ ap (λ (m : List Mark). marked_levels left (lowest_marks payloads m interval)) same ∙ levels-made left omit payloads interval entries marks two has
    ∙ ap (λ (k : ℕ). skip_bytes k (skip_level omit payloads interval entries 0)) (many ∙ ap (λ (n : ℕ). greatest_power interval n most) is)

-- the whole file
whole : (omit payloads : Bool) (interval most start size : ℕ) (bytes more skip_part : List ℕ) (entries : List Handed) → bytes ≡ take start bytes ++ entries_bytes omit 0 entries → more ≡ bytes ++ skip_part → skip_part ≡ skips (state interval most (take start bytes) omit payloads entries)
    → size ≡ length more → take size more ≡ (finished (state interval most (take start bytes) omit payloads entries)).bytes
whole omit payloads interval most start size bytes more skip_part entries is grown put long =
    let e = entries_bytes omit 0 entries in
    ap (λ (n : ℕ). take n more) long ∙ take-length more ∙ grown ∙ ap (λ (b : List ℕ). b ++ skip_part) is ∙ append_assoc (take start bytes) e skip_part
    ∙ ap (λ (b : List ℕ). take start bytes ++ (e ++ b)) put

-- how far the skip data start
delta-none : (w : FrqWriting) (left : ℕ) → left ≡ levels_due w → left ≡ 0 → 0 ≡ skip_delta w
delta-none w left is none = let test : eqb (levels_due w) 0 ≡ true = eq-eqb _ _ (sym is ∙ none) in rw test refl

delta-some : (w : FrqWriting) (left delta : ℕ) → left ≡ levels_due w → (left ≡ 0 → ⊥) → delta ≡ length (entries_bytes w.omit 0 w.entries) → delta ≡ skip_delta w
delta-some w left delta is some e = let test : eqb (levels_due w) 0 ≡ false = ne_eqb _ _ (λ z. some (is ∙ z)) in rw test e

delta-few : (w : FrqWriting) → 2 ≤ w.interval → length w.entries < w.interval → skip_delta w ≡ 0
delta-few w two lt =
    let one : w.interval ^ 1 ≡ w.interval = pow-suc w.interval 0 ∙ ap (λ (n : ℕ). n * w.interval) (pow-zero w.interval) ∙ (omega arith) in
    let none = greatest_power-is w.interval (length w.entries) w.most 0 (omega arith) (omega arith) (inl refl) (inr (omega arith)) in
    sym (delta-none w (levels_due w) refl none)

delta-told : (c : goal.After-drop-skips-2) → c.if-left-eq0.delta ≡ skip_delta c.args.self.now
delta-told c =
    let i = c.self.invariant in
    let s = c.self.inside in
    let w0 = state s.skip_interval s.max_levels (take s.start s.bytes.items) s.omit_tf s.payloads s.entries.items in
    let left = c.greatest_power-left.result.0 in
    let many : left ≡ levels_due w0 = c.greatest_power-left.ensures.count ∙ ap (λ (n : ℕ). greatest_power s.skip_interval n s.max_levels) i.count in
    let long = entries-long s.omit_tf s.start s.bytes.items s.entries.items i.start_within i.written in
    elim c.if-left-eq0.branch [
      | then-left-eq0 w ↦ w.delta-is ∙ delta-none w0 left many w.if-left-eq0.true ∙ ap skip_delta c.self.view_is
      | else-left-eq0 w ↦ w.delta-is ∙ delta-some w0 left (c.len-before.result - s.start) many w.if-left-eq0.false (ap (λ (n : ℕ). n - s.start) (let e : c.len-before.result ≡ length s.bytes.items = omega (arith, c.len-before.ensures) in e) ∙ long) ∙ ap skip_delta c.self.view_is
    ]

pub returns-clause-ok : goal.returns-clause-ok
returns-clause-ok c =
    let i = c.self.invariant in
    let s = c.self.inside in
    let w0 = state s.skip_interval s.max_levels (take s.start s.bytes.items) s.omit_tf s.payloads s.entries.items in
    let left = c.greatest_power-left.result.0 in
    let many : left ≡ levels_due w0 = c.greatest_power-left.ensures.count ∙ ap (λ (n : ℕ). greatest_power s.skip_interval n s.max_levels) i.count in
    let out : c.put_levels.new.out.items ≡ [] ++ marked_levels left (lowest_marks s.payloads c.deref.result.now s.skip_interval) = c.in_ok-put_levels.ensures ∙ ap (λ (b : List ℕ). b ++ marked_levels left (lowest_marks s.payloads c.deref.result.now s.skip_interval)) c.new-skips.ensures.items in
    let put = skips-put s.omit_tf s.payloads s.skip_interval s.max_levels s.count left (take s.start s.bytes.items) c.put_levels.new.out.items s.entries.items s.marks.items c.deref.result.now i.interval i.marks c.deref.ensures.value i.count c.greatest_power-left.ensures.count out in
    let grown : c.extend_from_slice.new.self.items ≡ s.bytes.items ++ c.put_levels.new.out.items = c.in_ok-extend_from_slice.ensures.items ∙ ap (λ (b : List ℕ). s.bytes.items ++ b) c.deref-2.ensures.value in
    let bytes = whole s.omit_tf s.payloads s.skip_interval s.max_levels s.start c.len-self-inside.result s.bytes.items c.extend_from_slice.new.self.items c.put_levels.new.out.items s.entries.items i.written grown put (omega (arith, c.len-self-inside.ensures)) in
    let view = ap (λ (b : List ℕ). state s.skip_interval s.max_levels b s.omit_tf s.payloads c.clear.new.self.items) bytes
    ∙ ap (λ (l : List Handed). state s.skip_interval s.max_levels (finished w0).bytes s.omit_tf s.payloads l) c.clear.ensures.items
    ∙ ap (λ (w : FrqWriting). finished w) c.self.view_is in
    let long = entries-long s.omit_tf s.start s.bytes.items s.entries.items i.start_within i.written in
    (view, delta-told c)

pub returns-clause-below : goal.returns-clause-below
returns-clause-below c = λ few. delta-told c ∙ delta-few c.args.self.now (subst (λ (w : FrqWriting). 2 ≤ w.interval) c.self.view_is c.self.invariant.interval) few
