-- Pairs that were read are those that are written of the bytes of the dense form.
use Rattle.std.proofs.Common.{◌≡◌, ℕ, zero, suc, ◌+◌, ◌-◌, ◌*◌, ◌/◌, ◌<◌, ◌≤◌, Bool, true, false, not, ◌||◌, ◌&&◌, ◌⊎◌, eqb, leb, ltb, List, [], ◌∷◌, ◌++◌, length, refl, sym, ap, subst, ◌∙◌, append_assoc, arith, inl, inr}
use mathlib.Core.Bool.{true≢false}
use Rattle.std.proofs.lemmas.Bool.{cases_lt, cases_eq, eq-eqb, ne_eqb, le-ltb, ltb-false}
use Rattle.std.proofs.lemmas.List.{append-nil, length-append}
use Rattle.std.proofs.lemmas.List.Folds.{list_any-append}
use Rattle.lu_grammar.specs.Bytes.{IsBytes}
use Rattle.lu_grammar.specs.Parts.{groups}
use Rattle.lu_grammar.specs.Plans.{Plan, done, due}
use Rattle.lu_grammar.specs.Meaning.{Spelled, bytes_of, AreGood, due_after}
use Rattle.lu_grammar.proofs.Codecs.{IsBytes-nil, IsBytes-cons}
use Rattle.doc_marks.specs.Marking.{flags, places, marked_at}
use Rattle.doc_marks.specs.Deletions.{DelRecord, pair, body_bytes, is_past, is_wrong_gap, pair_shape, pair_conditions, PairsRead, with_pair, pairs_plan}
use Rattle.doc_marks.specs.Spelling.{pairs_bytes}
use Rattle.doc_marks.proofs.DelLemmas.{marked_at-some, pairs-due}
use Rattle.doc_marks.proofs.PairLemmas.{GoodPair, good-pair}
use Rattle.doc_marks.proofs.WriteLemmas.{pairs_bytes-zero, pairs_bytes-some}
use Rattle.doc_marks.proofs.DelLaws.{neither, places-byte, marked_at-none}

-- so many bytes that are 0 before these
abbrev zeros_before : ℕ → List ℕ → List ℕ
zeros_before zero found = found
zeros_before (suc n) found = 0 ∷ zeros_before n found

length-zeros_before : (n : ℕ) (found : List ℕ) → length (zeros_before n found) ≡ n + length found
length-zeros_before zero found = omega arith
length-zeros_before (suc n) found = omega (arith, length-zeros_before n found)

IsBytes-zeros_before : (n : ℕ) (found : List ℕ) → IsBytes found → IsBytes (zeros_before n found)
IsBytes-zeros_before zero found fits = fits
IsBytes-zeros_before (suc n) found fits = IsBytes-cons 0 (zeros_before n found) (omega arith) (IsBytes-zeros_before n found fits)

pairs_bytes-zeros_before : (last i n : ℕ) (found : List ℕ) → pairs_bytes last i (zeros_before n found) ≡ pairs_bytes last (i + n) found
pairs_bytes-zeros_before last i zero found = ap (λ (k : ℕ). pairs_bytes last k found) (let e : i ≡ i + 0 = omega arith in e)
pairs_bytes-zeros_before last i (suc n) found =
    pairs_bytes-zero last i (zeros_before n found) ∙ pairs_bytes-zeros_before last (suc i) n found ∙ ap (λ (k : ℕ). pairs_bytes last k found) (let e : suc i + n ≡ i + suc n = omega arith in e)

places-zeros_before : (i n : ℕ) (found : List ℕ) → places (8 * i) (flags (zeros_before n found)) ≡ places (8 * (i + n)) (flags found)
places-zeros_before i zero found = ap (λ (k : ℕ). places (8 * k) (flags found)) (let e : i ≡ i + 0 = omega arith in e)
places-zeros_before i (suc n) found =
    places-byte i 0 (zeros_before n found)
    ∙ ap (λ (t : List ℕ). t ++ places (8 * suc i) (flags (zeros_before n found))) (marked_at-none i 0 refl)
    ∙ places-zeros_before (suc i) n found
    ∙ ap (λ (k : ℕ). places (8 * k) (flags found)) (let e : suc i + n ≡ i + suc n = omega arith in e)

-- the bytes of the dense form from an index on, of which these pairs are written; behind documents that earlier pairs mark they mark the rest
pub record ArePairsOf (size count more index from : ℕ) (before docs front : List ℕ) : Type 0 where
  pub found : List ℕ
  pub long : from + length found ≡ body_bytes size
  pub fits : IsBytes found
  pub all : docs ≡ before ++ places (8 * from) (flags found)
  pub below : is_past size (places (8 * from) (flags found)) ≡ false
  pub number : count ≤ length before + more → length before ≤ count → length docs ≡ count
  pub pairs : front ≡ pairs_bytes index from found

no_bytes : (last i : ℕ) → [] ≡ pairs_bytes last i []
unfolding pairs_bytes
no_bytes last i = refl

no_places : (i : ℕ) → places (8 * i) (flags []) ≡ []
unfolding places flags
no_places i = refl

no_more : (size count more index from : ℕ) (before docs : List ℕ) → before ≡ docs → from ≤ body_bytes size → (count ≤ length before + more → count ≤ length before) → ArePairsOf size count more index from before docs []
no_more size count more index from before docs is within enough =
    let n = body_bytes size - from in
    let none : places (8 * from) (flags (zeros_before n [])) ≡ [] = places-zeros_before from n [] ∙ no_places (from + n) in
    record {
      found = zeros_before n [];
      long = omega (arith, length-zeros_before n []);
      fits = IsBytes-zeros_before n [] IsBytes-nil;
      all = sym is ∙ sym (append-nil before) ∙ ap (λ (t : List ℕ). before ++ t) (sym none);
      below = ap (is_past size) none;
      number = λ le few. omega (arith, enough le, ap length is);
      pairs = no_bytes index (from + n) ∙ sym (pairs_bytes-zeros_before index from n []);
    }

-- where the next pair may stand: anywhere at first, and then behind the last
abbrev StandsNext : (before index from : ℕ) → Type 0
StandsNext before index from = ((before ≡ 0) × (from ≡ index)) ⊎ ((0 < before) × (from ≡ index + 1))

gap-within : (size index before gap from : ℕ) → is_wrong_gap size index before gap ≡ false → StandsNext before index from → (from ≤ index + gap) × (index + gap ≤ size / 8)
gap-within size index before gap from right next =
    let both = neither ((eqb gap 0) && not (eqb before 0)) (ltb (size / 8) (index + gap)) right in
    (behind next both.0, ltb-false (size / 8) (index + gap) both.1)
  where
    behind : StandsNext before index from → ((eqb gap 0) && not (eqb before 0)) ≡ false → from ≤ index + gap
    behind (inl (none, is)) far = omega arith
    behind (inr (some, is)) far = elim (cases_eq gap 0) [
      | inl none ↦
          let zeroth : eqb gap 0 ≡ true = eq-eqb gap 0 none in
          let later : eqb before 0 ≡ false = ne_eqb before 0 (omega arith) in absurd (true≢false (rw (zeroth, later) at far))
      | inr further ↦ omega arith
    ]

one_more : (size count more : ℕ) (s : PairsRead) (from : ℕ) (r : DelRecord) (front docs rest : List ℕ) (p : GoodPair size count s.index (length s.documents) r front) → StandsNext (length s.documents) s.index from
    → ArePairsOf size count more (s.index + p.gap) (s.index + p.gap + 1) (s.documents ++ marked_at (s.index + p.gap) p.marks) docs rest → ArePairsOf size count (suc more) s.index from s.documents docs (front ++ rest)
one_more size count more s from r front docs rest p next later =
    let index = s.index + p.gap in
    let here = marked_at index p.marks in
    let after = places (8 * suc index) (flags later.found) in
    let within = gap-within size s.index (length s.documents) p.gap from p.right next in
    let n = index - from in
    let found = p.marks ∷ later.found in
    let to : from + n ≡ index = omega (arith, within.0) in
    let suc-is : index + 1 ≡ suc index = omega arith in
    let rest-is : places (8 * (index + 1)) (flags later.found) ≡ after = ap (λ (k : ℕ). places (8 * k) (flags later.found)) suc-is in
    let both : places (8 * from) (flags (zeros_before n found)) ≡ here ++ after = places-zeros_before from n found ∙ ap (λ (k : ℕ). places (8 * k) (flags found)) to ∙ places-byte index p.marks later.found in
    record {
      found = zeros_before n found;
      long = omega (arith, length-zeros_before n found, later.long, to);
      fits = IsBytes-zeros_before n found (IsBytes-cons p.marks later.found p.marks_fit later.fits);
      all = later.all ∙ append_assoc s.documents here (places (8 * (index + 1)) (flags later.found)) ∙ ap (λ (t : List ℕ). s.documents ++ (here ++ t)) rest-is ∙ ap (λ (t : List ℕ). s.documents ++ t) (sym both);
      below = ap (is_past size) both ∙ list_any-append (λ doc. leb size doc) here after ∙ ap (λ (b : Bool). b || is_past size after) p.below ∙ ap (is_past size) (sym rest-is) ∙ later.below;
      number = λ enough few. later.number (omega (arith, length-append s.documents here, marked_at-some index p.marks p.marks_fit p.some, enough)) (omega (arith, length-append s.documents here, p.few));
      pairs =
          ap (λ (t : List ℕ). t ++ rest) p.spelled
          ∙ append_assoc (groups 4 p.gap) (p.marks ∷ []) rest
          ∙ ap (λ (t : List ℕ). groups 4 p.gap ++ p.marks ∷ t) (later.pairs ∙ ap (λ (k : ℕ). pairs_bytes index k later.found) suc-is)
          ∙ ap (λ (k : ℕ). groups 4 k ++ p.marks ∷ pairs_bytes index (suc index) later.found) (let e : p.gap ≡ index - s.index = omega arith in e)
          ∙ sym (pairs_bytes-some s.index index p.marks later.found p.some)
          ∙ ap (λ (k : ℕ). pairs_bytes s.index k found) (sym to)
          ∙ sym (pairs_bytes-zeros_before s.index from n found);
    }

abbrev finished : List ℕ → Plan (List ℕ) DelRecord
finished docs = done docs

finished-same : (a b : List ℕ) → finished a ≡ finished b → a ≡ b
finished-same a b e = cc

-- where nothing is due there are no records
none_due : (plan : Plan (List ℕ) DelRecord) (before docs : List ℕ) (place : ℕ) (records : List (Spelled DelRecord)) → plan ≡ finished before → AreGood plan place records → due_after plan place records ≡ finished docs
    → (before ≡ docs) × (bytes_of records ≡ [])
none_due plan before docs place [] is good end = (finished-same before docs (sym is ∙ end), refl)
none_due plan before docs place (r ∷ rs) is good end = absurd (subst (λ (p : Plan (List ℕ) DelRecord). AreGood p place (r ∷ rs)) is good)

pairs-done : (size count more : ℕ) (s : PairsRead) → count ≤ length s.documents → pairs_plan size count more s ≡ finished s.documents
unfolding pairs_plan
pairs-done size count zero s le = refl
pairs-done size count (suc more) s le = let enough : ltb (length s.documents) count ≡ false = le-ltb (length s.documents) count le in rw enough refl

pairs-zero : (size count : ℕ) (s : PairsRead) → pairs_plan size count 0 s ≡ finished s.documents
unfolding pairs_plan
pairs-zero size count s = refl

abbrev pair_due : ℕ → ℕ → ℕ → PairsRead → Plan (List ℕ) DelRecord
pair_due size count more s = due pair_shape (λ place r. pair_conditions size count s.index (length s.documents) r) (λ place r. pairs_plan size count more (with_pair s r))

due-finished : (size count more : ℕ) (s : PairsRead) (docs : List ℕ) → pair_due size count more s ≡ finished docs → ⊥
due-finished size count more s docs e = cc

-- what is said of the pairs from a state on
abbrev IsReadForm : (size count more : ℕ) → List ℕ → Type 0
IsReadForm size count more docs =
    (s : PairsRead) (place from : ℕ) (records : List (Spelled DelRecord)) → AreGood (pairs_plan size count more s) place records → due_after (pairs_plan size count more s) place records ≡ finished docs
    → StandsNext (length s.documents) s.index from → from ≤ body_bytes size → ArePairsOf size count more s.index from s.documents docs (bytes_of records)

one_due : (size count more : ℕ) (docs : List ℕ) (s : PairsRead) (place from : ℕ) (records : List (Spelled DelRecord)) → IsReadForm size count more docs → AreGood (pair_due size count more s) place records
    → due_after (pair_due size count more s) place records ≡ finished docs → StandsNext (length s.documents) s.index from → ArePairsOf size count (suc more) s.index from s.documents docs (bytes_of records)
one_due size count more docs s place from [] later good end next = absurd (due-finished size count more s docs end)
one_due size count more docs s place from (r ∷ rs) later good end next =
    let p = good-pair size count s.index (length s.documents) r.it r.front good.0.0 good.0.1 in
    let t = with_pair s (pair p.gap p.marks) in
    let is = ap (λ (x : DelRecord). pairs_plan size count more (with_pair s x)) p.it in
    let here = place + length r.front in
    let within = gap-within size s.index (length s.documents) p.gap from p.right next in
    let some = marked_at-some (s.index + p.gap) p.marks p.marks_fit p.some in
    let rest =
    later t here (s.index + p.gap + 1) rs (subst (λ (x : Plan (List ℕ) DelRecord). AreGood x here rs) is good.1) (ap (λ (x : Plan (List ℕ) DelRecord). due_after x here rs) (sym is) ∙ end)
    (inr (omega (arith, some, length-append s.documents (marked_at (s.index + p.gap) p.marks)), refl)) (omega (arith, within.1)) in
    one_more size count more s from r.it r.front docs (bytes_of rs) p next rest

pub pairs-were : (size count more : ℕ) (docs : List ℕ) → IsReadForm size count more docs
pairs-were size count zero docs s place from records good end next within =
    let none = none_due (pairs_plan size count 0 s) s.documents docs place records (pairs-zero size count s) good end in
    subst (ArePairsOf size count 0 s.index from s.documents docs) (sym none.1) (no_more size count 0 s.index from s.documents docs none.0 within (λ le. omega arith))
pairs-were size count (suc more) docs s place from records good end next within = elim (cases_lt (length s.documents) count) [
  | inl lt ↦
      let is = pairs-due size count more s lt in
      one_due size count more docs s place from records (pairs-were size count more docs) (subst (λ (p : Plan (List ℕ) DelRecord). AreGood p place records) is good)
      (ap (λ (p : Plan (List ℕ) DelRecord). due_after p place records) (sym is) ∙ end) next
  | inr le ↦
      let none = none_due (pairs_plan size count (suc more) s) s.documents docs place records (pairs-done size count (suc more) s le) good end in
      subst (ArePairsOf size count (suc more) s.index from s.documents docs) (sym none.1) (no_more size count (suc more) s.index from s.documents docs none.0 within (λ h. le))
]
