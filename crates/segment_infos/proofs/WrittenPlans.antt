-- Good records, put together to all of a plan.
use Rattle.std.proofs.Common.{◌≡◌, ℕ, suc, ◌+◌, Bool, true, false, List, [], ◌∷◌, ◌++◌, length, flat_map, All, None, Result, Ok, refl, sym, ap, subst, ◌∙◌, append_assoc, arith}
use mathlib.Core.Bool.{true≢false}
use Rattle.std.proofs.lemmas.List.{append-nil, length-append}
use Rattle.lu_grammar.specs.Bytes.{Cursor}
use Rattle.lu_grammar.specs.Records.{Shape, whole, followed, repeated, Condition, Spells, first_broken}
use Rattle.lu_grammar.specs.Plans.{Plan, done, due, and_then, Broken, read_plan}
use Rattle.lu_grammar.specs.Meaning.{Spelled, bytes_of, AreGood, due_after, Reads}
use Rattle.lu_grammar.proofs.Records.{at, Spells-followed}
use Rattle.lu_grammar.proofs.Plans.{read_plan-good}

-- the bytes from this place on are all records of the plan, and they stand for the value
pub record Written {V R : Type 0} (plan : Plan V R) (place : ℕ) (bytes : List ℕ) (value : V) : Type 0 where
  pub records : List (Spelled R)
  pub good : AreGood plan place records
  pub none_due : due_after plan place records ≡ done value
  pub spelled : bytes ≡ bytes_of records

-- nothing more
pub written-done : {V R : Type 0} (place : ℕ) (v : V) → Written {V = V} {R = R} (done v) place [] v
written-done place v = record { records = []; good = tt; none_due = refl; spelled = refl }

-- a good record, and what is due after it
pub written-due : {V R : Type 0} (shape : Shape R) (conditions : ℕ → R → List Condition) (after : ℕ → R → Plan V R) (place : ℕ) (r : R) (front bytes : List ℕ) (v : V) → Spells shape r front → first_broken (conditions place r) ≡ None
    → Written (after place r) (place + length front) bytes v → Written (due shape conditions after) place (front ++ bytes) v
written-due shape conditions after place r front bytes v spells good w = record {
  records = (let s : Spelled _ = record { it = r; front = front } in s) ∷ w.records;
  good = ((spells, good), w.good);
  none_due = w.none_due;
  spelled = ap (λ (t : List ℕ). front ++ t) w.spelled;
}

abbrev value_of : {V R : Type 0} → V → Plan V R → V
value_of other (done v) = v
value_of other (due shape conditions after) = other

abbrev ends : {V R : Type 0} → Plan V R → Bool
ends (done v) = true
ends (due shape conditions after) = false

not_done : {V R : Type 0} {v : V} {shape : Shape R} {conditions : ℕ → R → List Condition} {after : ℕ → R → Plan V R} → done v ≡ due shape conditions after → ⊥
not_done e = true≢false (ap ends e)

abbrev ok_at : {V : Type 0} → V → ℕ → List ℕ → Result (V × Cursor) Broken
ok_at v place rest = Ok (v, at place rest)

-- one plan, and then another
pub written-then : {V W R : Type 0} (plan : Plan V R) (next : V → Plan W R) (place : ℕ) (a b : List ℕ) (v : V) (w : W) → Written plan place a v → Written (next v) (place + length a) b w → Written (and_then plan next) place (a ++ b) w
written-then {V} {W} {R} plan next place a b v w first second =
    let joined = join plan place first.records first.good first.none_due second.records
    (subst (λ (n : ℕ). AreGood (next v) (place + n) second.records) (ap length first.spelled) second.good) (subst (λ (n : ℕ). due_after (next v) (place + n) second.records ≡ done w) (ap length first.spelled) second.none_due) in
    record { records = first.records ++ second.records; good = joined.0; none_due = joined.1; spelled = ap (λ (t : List ℕ). t ++ b) first.spelled ∙ ap (λ (t : List ℕ). bytes_of first.records ++ t) second.spelled ∙ sym (joined.2) }
  where
    join : (p : Plan V R) (here : ℕ) (xs : List (Spelled R)) → AreGood p here xs → due_after p here xs ≡ done v → (ys : List (Spelled R)) → AreGood (next v) (here + length (bytes_of xs)) ys → due_after (next v) (here + length (bytes_of xs)) ys ≡ done w
        → AreGood (and_then p next) here (xs ++ ys) × (due_after (and_then p next) here (xs ++ ys) ≡ done w) × (bytes_of (xs ++ ys) ≡ bytes_of xs ++ bytes_of ys)
    join (done u) here [] good none ys others others_none =
        let same : here + 0 ≡ here = omega arith in
        let is : v ≡ u = ap (value_of v) (sym none) in
        (subst (λ (x : V). AreGood (next x) here ys) is (subst (λ (n : ℕ). AreGood (next v) n ys) same others), subst (λ (x : V). due_after (next x) here ys ≡ done w) is (subst (λ (n : ℕ). due_after (next v) n ys ≡ done w) same others_none), refl)
    join (done u) here (x ∷ xs) good none ys others others_none = absurd good
    join (due shape conditions after) here [] good none ys others others_none = absurd (not_done (sym none))
    join (due shape conditions after) here (x ∷ xs) good none ys others others_none =
        let there = here + length x.front in
        let long : here + length (x.front ++ bytes_of xs) ≡ there + length (bytes_of xs) = omega (arith, length-append x.front (bytes_of xs)) in
        let rest = join (after here x.it) there xs good.1 none ys (subst (λ (n : ℕ). AreGood (next v) n ys) long others) (subst (λ (n : ℕ). due_after (next v) n ys ≡ done w) long others_none) in
        ((good.0, rest.0), rest.1, ap (λ (t : List ℕ). x.front ++ t) rest.2 ∙ sym (append_assoc x.front (bytes_of xs) (bytes_of ys)))

-- all of the bytes
pub written-Reads : {V R : Type 0} (plan : Plan V R) (bytes : List ℕ) (v : V) → Written plan 0 bytes v → Reads plan bytes v
written-Reads plan bytes v w = record { records = w.records; good = w.good; none_due = w.none_due; front = w.spelled ∙ sym (append-nil (bytes_of w.records)); place = ap length w.spelled ∙ (let e : length (bytes_of w.records) ≡ 0 + length (bytes_of w.records) = omega arith in e) }

-- what is written is read so, whatever follows
pub written-read : {V R : Type 0} (plan : Plan V R) (bytes rest : List ℕ) (v : V) → Written plan 0 bytes v → read_plan plan (at 0 (bytes ++ rest)) ≡ Ok (v, at (length bytes) rest)
unfolding read_plan
written-read {V} {R} plan bytes rest v w =
    ap (λ (t : List ℕ). read_plan plan (at 0 (t ++ rest))) w.spelled ∙ read_plan-good plan 0 w.records rest w.good
    ∙ ap (λ (p : Plan V R). read_plan p (at (0 + length (bytes_of w.records)) rest)) w.none_due
    ∙ ap (λ (n : ℕ). ok_at v n rest) (let e : 0 + length (bytes_of w.records) ≡ length bytes = omega (arith, ap length w.spelled) in e)

-- ---- pieces

-- a shape whose value is made something else
pub wrapped-spells : {A R : Type 0} (shape : Shape A) (f : A → R) (x : A) (a : List ℕ) → Spells shape x a → Spells (followed shape (λ y. whole (f y))) (f x) a
wrapped-spells shape f x a h = subst (Spells (followed shape (λ y. whole (f y))) (f x)) (append-nil a) (Spells-followed shape (λ y. whole (f y)) x (f x) a [] h (refl, refl))

-- pieces after those in front
pub many-spells : {A : Type 0} (shape : Shape A) (spell : A → List ℕ) (xs front : List A) → All (λ x. Spells shape x (spell x)) xs → Spells (repeated shape (length xs) front (λ ys. whole ys)) (front ++ xs) (flat_map spell xs)
unfolding repeated
many-spells shape spell [] front all = (sym (append-nil front), refl)
many-spells {A} shape spell (x ∷ xs) front all =
    let others = many-spells shape spell xs (front ++ x ∷ []) (λ k d lt. all (suc k) d (omega arith)) in
    Spells-followed shape (λ y. repeated shape (length xs) (front ++ y ∷ []) (λ ys. whole ys)) x (front ++ x ∷ xs) (spell x) (flat_map spell xs) (all 0 x (omega arith))
    (subst (λ (ys : List A). Spells (repeated shape (length xs) (front ++ x ∷ []) (λ zs. whole zs)) ys (flat_map spell xs)) (append_assoc front (x ∷ []) xs) others)
