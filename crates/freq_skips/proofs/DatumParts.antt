-- The parts of a datum that was read: what stands before its child pointer, and the child pointer.
use Rattle.std.proofs.Common.{◌≡◌, ℕ, ◌+◌, ◌<◌, Bool, true, false, List, [], ◌++◌, length, Option, Some, None, refl, sym, ap, ◌∙◌, append_assoc, arith}
use Rattle.std.specs.Prelude.{nat_lt}
use Rattle.std.proofs.lemmas.Bool.Decides.{nat_tests}
use Rattle.std.proofs.lemmas.List.{length-append, append-nil}
use Rattle.lu_grammar.specs.Parts.{Part, Value, IsValue, vint, num, vlong, spelling}
use Rattle.lu_grammar.specs.Records.{Shape, whole, part, optional, Spells}
use Rattle.freq_skips.specs.declared.rules.RuledTerm.{RuledTerm}
use Rattle.freq_skips.specs.declared.datum.Skip.{Skip}
use Rattle.freq_skips.specs.Records.{Record, datum, alone, datum_shape, states_payload, optional_length, length_to_child}
use Rattle.freq_skips.specs.Written.{optional_bytes}

-- a part that may be there: it stands exactly where the test holds
pub record OptionalSpelled {R : Type 0} (test : Bool) (p : Part) (next : Option (Value p) → Shape R) (r : R) (front : List ℕ) : Type 0 where
  pub found : Option (Value p)
  pub back : List ℕ
  pub split : front ≡ optional_bytes p found ++ back
  pub spells : Spells (next found) r back
  pub absent : test ≡ false → found ≡ None
  pub stands : test ≡ true → (v : Value p) × (found ≡ Some v) × IsValue p v

pub optional-spelled : {R : Type 0} (test : Bool) (p : Part) (next : Option (Value p) → Shape R) (r : R) (front : List ℕ) → Spells (optional test (alone p) next) r front → OptionalSpelled test p next r front
optional-spelled true p next r front (v, back, value, is, spells) = record { found = Some v; back = back; split = is; spells = spells; absent = λ e. cc; stands = λ e. (v, refl, value) }
optional-spelled false p next r front spells = record { found = None; back = front; split = refl; spells = spells; absent = λ e. refl; stands = λ e. cc }

-- the length of what may be there
pub optional-length : (p : Part) (o : Option (Value p)) → length (optional_bytes p o) ≡ optional_length p o
optional-length p None = refl
optional-length p (Some v) = refl

-- a datum is what stands before its child pointer, and the child pointer, which the lowest level has not
pub record DatumSpelled (level : ℕ) (d : Skip) (front : List ℕ) : Type 0 where
  pub before : List ℕ
  pub split : front ≡ before ++ optional_bytes vlong d.child
  pub to_child : length before ≡ length_to_child d
  pub lowest : level ≡ 0 → d.child ≡ None
  pub higher : 0 < level → (n : ℕ) × (d.child ≡ Some n) × IsValue vlong n

abbrev skip_of_parts : ℕ → Option ℕ → ℕ → ℕ → Option ℕ → Skip
skip_of_parts doc payload freq prox child = record { doc = doc; payload = payload; freq = freq; prox = prox; child = child }

-- what is left of a datum behind its payload length
abbrev rest_shape : ℕ → ℕ → Option ℕ → Shape Record
rest_shape level doc payload = part num (λ freq. part num (λ prox. optional (nat_lt 0 level) (alone vlong) (λ child. whole (datum (skip_of_parts doc payload freq prox child)))))

-- the lengths of four pieces
four_long : (a b c d rest : List ℕ) → length (a ++ (b ++ (c ++ d))) ≡ length a + length b + length c + length d
four_long a b c d rest = omega (arith, length-append a (b ++ (c ++ d)), length-append b (c ++ d), length-append c d)

four_split : (a b c d rest : List ℕ) → a ++ (b ++ (c ++ (d ++ rest))) ≡ (a ++ (b ++ (c ++ d))) ++ rest
four_split a b c d rest =
    ap (λ (x : List ℕ). a ++ (b ++ x)) (sym (append_assoc c d rest)) ∙ ap (λ (x : List ℕ). a ++ x) (sym (append_assoc b (c ++ d) rest)) ∙ sym (append_assoc a (b ++ (c ++ d)) rest)

made : (level doc : ℕ) (payload : Option ℕ) (freq prox : ℕ) (r : Record) (first back b3 b4 : List ℕ) → first ≡ spelling vint doc ++ (optional_bytes num payload ++ back) → back ≡ spelling num freq ++ b3 → b3 ≡ spelling num prox ++ b4
    → OptionalSpelled (nat_lt 0 level) vlong (λ child. whole (datum (skip_of_parts doc payload freq prox child))) r b4 → (d : Skip) × (datum d ≡ r) × DatumSpelled level d first
made level doc payload freq prox r first back b3 b4 e1 e2 e3 o =
    let d = skip_of_parts doc payload freq prox o.found in
    let a = spelling vint doc in
    let b = optional_bytes num payload in
    let c = spelling num freq in
    let x = spelling num prox in
    let tail : b4 ≡ optional_bytes vlong o.found = o.split ∙ ap (λ (l : List ℕ). optional_bytes vlong o.found ++ l) o.spells.1 ∙ append-nil (optional_bytes vlong o.found) in
    let all : first ≡ (a ++ (b ++ (c ++ x))) ++ optional_bytes vlong o.found =
    e1 ∙ ap (λ (l : List ℕ). a ++ (b ++ l)) (e2 ∙ ap (λ (l : List ℕ). c ++ l) (e3 ∙ ap (λ (l : List ℕ). x ++ l) tail)) ∙ four_split a b c x (optional_bytes vlong o.found) in (
      d,
      o.spells.0,
      record {
        before = a ++ (b ++ (c ++ x));
        split = all;
        to_child = four_long a b c x [] ∙ ap (λ (n : ℕ). length a + n + length c + length x) (optional-length num payload);
        lowest = λ e. o.absent (let z : nat_lt 0 level ≡ false = grind (arith, nat_tests) in z);
        higher = λ lt. o.stands (let z : nat_lt 0 level ≡ true = grind (arith, nat_tests) in z);
      },
    )

pub datum-spelled : (t : RuledTerm) (level : ℕ) (r : Record) (front : List ℕ) → Spells (datum_shape t level) r front → (d : Skip) × (datum d ≡ r) × DatumSpelled level d front
datum-spelled t level r front (doc, b1, value, is, spells) = go (optional-spelled (states_payload t doc) num (λ payload. rest_shape level doc payload) r b1 spells)
  where
    go : OptionalSpelled (states_payload t doc) num (λ payload. rest_shape level doc payload) r b1 → (d : Skip) × (datum d ≡ r) × DatumSpelled level d front
    go o = rest o.spells
      where
        rest : Spells (rest_shape level doc o.found) r o.back → (d : Skip) × (datum d ≡ r) × DatumSpelled level d front
        rest (freq, b3, v3, e3, (prox, b4, v4, e4, more)) =
            made level doc o.found freq prox r front o.back b3 b4 (is ∙ ap (λ (l : List ℕ). spelling vint doc ++ l) o.split) e3 e4
            (optional-spelled (nat_lt 0 level) vlong (λ child. whole (datum (skip_of_parts doc o.found freq prox child))) r b4 more)
