-- The skip levels of a term whose entries were handed over lead to those entries.
use Rattle.std.proofs.Common.{◌≡◌, ℕ, zero, suc, ◌-◌, ◌*◌, ◌/◌, ◌^◌, ◌<◌, ◌≤◌, Bool, true, List, ◌++◌, length, inl, inr, refl, sym, ap, subst, ◌∙◌, arith}
use Rattle.std.specs.Prelude.{nat_lt}
use Rattle.std.proofs.lemmas.Bool.{cases_eq}
use Rattle.std.proofs.lemmas.Bool.Decides.{nat_tests}
use Rattle.std.proofs.lemmas.List.{length-append}
use Rattle.std.proofs.Math.Nat.{div-div-eq-div-mul, div-mul-le_self, mul-le-mul_right, pow-suc}
use Rattle.lu_grammar.specs.Parts.{vlong, spelling}
use Rattle.freq_skips.specs.declared.rules.RuledTerm.{RuledTerm}
use Rattle.freq_skips.specs.Levels.{stride, data_count}
use Rattle.freq_skips.specs.Written.{Handed, optional_bytes, entries_bytes, mark_of, written_postings, AreInOrder, SkipLevel, skip_level, mark_after, child_after, child_pointer, data_bytes, data_number, level_above, with_level_length, skip_bytes, bytes_to_child, written_skip, place_with}
use Rattle.freq_skips.specs.Writing.{IsRisingProx}
use Rattle.freq_skips.proofs.Powers.{stride-two}
use Rattle.freq_skips.proofs.MarkLemmas.{postings-at, marks-up, mark-small}
use Rattle.freq_skips.proofs.WrittenEntries.{Stated}
use Rattle.freq_skips.proofs.WrittenLevels.{IsUpTo, data_bytes-more}
use Rattle.freq_skips.proofs.WrittenTerms.{Leads, AllLead, skip_bytes-next}

-- what a term that was handed over is to be
pub record IsHandedOver (t : RuledTerm) (handed : List Handed) : Type 0 where
  pub two : 2 ≤ t.rules.skip_interval
  pub doc_freq : t.info.doc_freq ≡ length handed
  pub order : AreInOrder t.rules.documents true 0 handed
  pub prox : IsRisingProx handed
  pub small : length (entries_bytes t.rules.omit_tf 0 handed) < 2 ^ 31

-- a level of the term
abbrev pub level_for : RuledTerm → List Handed → ℕ → SkipLevel
level_for t handed n = skip_level t.rules.omit_tf t.rules.payloads t.rules.skip_interval handed n

-- the index of the entry of a datum
mark-index : (m step marks : ℕ) → 0 < step → m < marks / step → suc m * step - 1 < marks
mark-index m step marks pos lt =
    let up : suc m * step ≤ marks / step * step = mul-le-mul_right step lt in
    let low = div-mul-le_self marks step in
    let some : 1 * step ≤ suc m * step = mul-le-mul_right step (let one : 1 ≤ suc m = omega arith in one) in
    omega arith

pub level-count : (t : RuledTerm) (handed : List Handed) (n : ℕ) → IsHandedOver t handed → data_number (level_for t handed n) ≡ data_count t n
level-count t handed n o = ap (λ (k : ℕ). k / stride t n) (sym o.doc_freq)

-- the entry of a datum is one of the term
entry-in : (t : RuledTerm) (handed : List Handed) (n m : ℕ) → IsHandedOver t handed → m < data_number (level_for t handed n) → suc m * stride t n - 1 < length handed
entry-in t handed n m o lt = let s2 = stride-two t.rules.skip_interval n o.two in mark-index m (stride t n) (length handed) (omega arith) lt

step-up : (t : RuledTerm) (handed : List Handed) (n m : ℕ) → IsHandedOver t handed → m < data_number (level_for t handed n) → IsUpTo (mark_after (level_for t handed n) m) (mark_after (level_for t handed n) (suc m))
step-up t handed n zero o lt = (omega arith, omega arith, omega arith)
step-up t handed n (suc m) o lt =
    let st = stride t n in
    let up : suc m * st ≤ suc (suc m) * st = mul-le-mul_right st (let le : suc m ≤ suc (suc m) = omega arith in le) in
    marks-up t.rules.documents t.rules.omit_tf handed (suc m * st - 1) (suc (suc m) * st - 1) o.order o.prox (omega arith) (entry-in t handed n (suc m) o lt)

no-prox : (omit : Bool) (handed : List Handed) (k : ℕ) → omit ≡ true → (mark_of omit handed k).prox ≡ 0
no-prox omit handed k e = rw e refl

-- a level has as many data as the one below has multiples of the interval
pub above-number : (l : SkipLevel) → data_number (level_above l) ≡ data_number l / l.interval
above-number l = sym (div-div-eq-div-mul (length l.entries) (l.interval ^ suc l.number) l.interval ∙ ap (λ (k : ℕ). length l.entries / k) (sym (pow-suc l.interval (suc l.number))))

-- the child pointers of a level can be told
abbrev AreTold : SkipLevel → Type 0
AreTold l = (m : ℕ) → m < data_number l → Stated vlong (nat_lt 0 l.number) (child_after l m)

Leads-level : (t : RuledTerm) (handed : List Handed) (n : ℕ) → IsHandedOver t handed → AreTold (level_for t handed n) → length (data_bytes (level_for t handed n) (data_number (level_for t handed n))) < 2 ^ 63
    → Leads t (written_postings t.rules.omit_tf t.info.freq 0 handed) (level_for t handed n)
Leads-level t handed n o told small =
    let omit = t.rules.omit_tf in
    let index = λ (m : ℕ). suc m * stride t n - 1 in
    record {
      interval = refl;
      payloads = refl;
      count = level-count t handed n o;
      up = λ m lt. step-up t handed n m o lt;
      doc = λ m lt. sym (postings-at omit t.info.freq 0 handed (index m) (entry-in t handed n m o lt)).0;
      freq = λ m lt. let p = postings-at omit t.info.freq 0 handed (index m) (entry-in t handed n m o lt) in omega (arith, p.1);
      omit = λ m lt e. no-prox omit handed (index m) e;
      small = λ m lt. mark-small t.rules.documents omit handed (index m) o.order o.prox (entry-in t handed n m o lt) o.small;
      child_small = told;
      above_count = above-number (level_for t handed n);
      bytes_small = small;
    }

-- more data take more bytes
data-grow : (l : SkipLevel) (a b : ℕ) → a ≤ b → length (data_bytes l a) ≤ length (data_bytes l b)
data-grow l a zero le = let e : a ≡ 0 = omega arith in subst (λ (k : ℕ). length (data_bytes l k) ≤ length (data_bytes l 0)) (sym e) (omega arith)
data-grow l a (suc b) le = elim (cases_eq a (suc b)) [
  | inl e ↦ subst (λ (k : ℕ). length (data_bytes l k) ≤ length (data_bytes l (suc b))) (sym e) (omega arith)
  | inr ne ↦
      let rest = data-grow l a b (omega arith) in
      let more = ap length (data_bytes-more l b) ∙ length-append (data_bytes l b) (bytes_to_child (written_skip l b) ++ optional_bytes vlong (written_skip l b).child) in
      omega (arith, rest, more)
]

-- the place just after the ProxSkip of a datum is within the level
place-in : (l : SkipLevel) (m count : ℕ) → m < count → place_with l (child_after l) m ≤ length (data_bytes l count)
place-in l m count lt =
    let rest = data-grow l (suc m) count (omega arith) in
    let size = ap length (data_bytes-more l m) ∙ length-append (data_bytes l m) (bytes_to_child (written_skip l m) ++ optional_bytes vlong (written_skip l m).child) in
    let more = length-append (bytes_to_child (written_skip l m)) (optional_bytes vlong (written_skip l m).child) in
    omega (arith, rest, size, more)

AreTold-lowest : (t : RuledTerm) (handed : List Handed) → AreTold (level_for t handed 0)
unfolding child_pointer
AreTold-lowest t handed m lt = tt

AreTold-above : (t : RuledTerm) (handed : List Handed) (n : ℕ) → IsHandedOver t handed → length (data_bytes (level_for t handed n) (data_number (level_for t handed n))) < 2 ^ 63 → AreTold (level_for t handed (suc n))
unfolding child_pointer
AreTold-above t handed n o small m lt =
    let l = level_for t handed n in
    let s = t.rules.skip_interval in
    let two = o.two in
    let test : nat_lt 0 (suc n) ≡ true = grind (arith, nat_tests) in
    let below : m < data_number l / s = subst (λ (k : ℕ). m < k) (above-number l) lt in
    let within = place-in l (suc m * s - 1) (data_number l) (mark-index m s (data_number l) (omega arith) below) in
    let fits : place_with l (child_after l) (suc m * s - 1) < 2 ^ 63 = omega arith in
    rw test fits

pub with_level_length-more : (n : ℕ) (bytes : List ℕ) → length bytes ≤ length (with_level_length n bytes)
with_level_length-more zero bytes = omega arith
with_level_length-more (suc n) bytes = omega (arith, length-append (spelling vlong (length bytes)) bytes)

-- all levels from this one on
levels-lead : (t : RuledTerm) (handed : List Handed) (k n : ℕ) → IsHandedOver t handed → AreTold (level_for t handed n) → length (skip_bytes k (level_for t handed n)) < 2 ^ 63 → AllLead t (written_postings t.rules.omit_tf t.info.freq 0 handed) k (level_for t handed n)
levels-lead t handed zero n o told small = tt
levels-lead t handed (suc k) n o told small =
    let l = level_for t handed n in
    let bytes = data_bytes l (data_number l) in
    let size = ap length (skip_bytes-next l k (suc k) refl) ∙ length-append (skip_bytes k (level_above l)) (with_level_length n bytes) in
    let more = with_level_length-more n bytes in
    let own : length bytes < 2 ^ 63 = omega arith in
    (Leads-level t handed n o told own, levels-lead t handed k (suc n) o (AreTold-above t handed n o own) (omega arith))

pub all-lead : (t : RuledTerm) (handed : List Handed) (k : ℕ) → IsHandedOver t handed → length (skip_bytes k (level_for t handed 0)) < 2 ^ 63 → AllLead t (written_postings t.rules.omit_tf t.info.freq 0 handed) k (level_for t handed 0)
all-lead t handed k o small = levels-lead t handed k 0 o (AreTold-lowest t handed) small
