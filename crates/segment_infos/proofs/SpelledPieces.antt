-- What the bytes of a spelled record are.
use Rattle.std.proofs.Common.{◌≡◌, ℕ, zero, suc, List, [], ◌∷◌, ◌++◌, length, map, flat_map, All, refl, sym, ap, subst, ◌∙◌, append_assoc, arith}
use Rattle.std.proofs.lemmas.List.{append-nil, length-map}
use Rattle.lu_grammar.specs.Parts.{spelling}
use Rattle.lu_grammar.specs.Records.{Shape, whole, part, followed, repeated, Spells}
use Rattle.lu_grammar.specs.Meaning.{Spelled, bytes_of}
use Rattle.lu_grammar.proofs.Records.{AreSpelled}

-- a piece, what follows it, and the bytes of both
pub record SpelledThen {A R : Type 0} (shape : Shape A) (next : A → Shape R) (r : R) (front : List ℕ) : Type 0 where
  pub it : A
  pub bytes : List ℕ
  pub others : List ℕ
  pub first : Spells shape it bytes
  pub second : Spells (next it) r others
  pub split : front ≡ bytes ++ others

pub followed-spelled : {A R : Type 0} (shape : Shape A) (next : A → Shape R) (r : R) (front : List ℕ) → Spells (followed shape next) r front → SpelledThen shape next r front
followed-spelled (whole x) next r front h = record { it = x; bytes = []; others = front; first = (refl, refl); second = h; split = refl }
followed-spelled (part p more) next r front (v, back, value, is, spells) =
    let after = followed-spelled (more v) next r back spells in
    record {
      it = after.it;
      bytes = spelling p v ++ after.bytes;
      others = after.others;
      first = (v, after.bytes, value, refl, after.first);
      second = after.second;
      split = is ∙ ap (λ (t : List ℕ). spelling p v ++ t) after.split ∙ sym (append_assoc (spelling p v) after.bytes after.others);
    }

-- so many pieces after those in front, and their bytes
pub record SpelledPieces {A : Type 0} (shape : Shape A) (n : ℕ) (front xs : List A) (bytes : List ℕ) : Type 0 where
  pub pieces : List (Spelled A)
  pub are : AreSpelled shape pieces
  pub all : xs ≡ front ++ map (λ s. s.it) pieces
  pub spelled : bytes ≡ bytes_of pieces
  pub count : length pieces ≡ n

pub repeated-spelled : {A : Type 0} (shape : Shape A) (n : ℕ) (front xs : List A) (bytes : List ℕ) → Spells (repeated shape n front (λ ys. whole ys)) xs bytes → SpelledPieces shape n front xs bytes
unfolding repeated
repeated-spelled {A} shape zero front xs bytes h = record { pieces = []; are = tt; all = sym h.0 ∙ sym (append-nil front); spelled = h.1; count = refl }
repeated-spelled {A} shape (suc n) front xs bytes h =
    let first = followed-spelled shape (λ x. repeated shape n (front ++ x ∷ []) (λ ys. whole ys)) xs bytes h in
    let others = repeated-spelled shape n (front ++ first.it ∷ []) xs first.others first.second in
    let piece : Spelled A = record { it = first.it; front = first.bytes } in
    record {
      pieces = piece ∷ others.pieces;
      are = (first.first, others.are);
      all = others.all ∙ append_assoc front (first.it ∷ []) (map (λ s. s.it) others.pieces);
      spelled = first.split ∙ ap (λ (t : List ℕ). first.bytes ++ t) others.spelled;
      count = ap suc others.count;
    }

-- a fact of each of one more
pub All-cons : {X : Type 0} (P : X → Type 0) (x : X) (xs : List X) → P x → All P xs → All P (x ∷ xs)
All-cons P x xs first others zero d lt = first
All-cons P x xs first others (suc k) d lt = others k d (omega arith)

-- the same of pieces whose spelling says what they are, with their bytes
pub pieces-are : {A : Type 0} (shape : Shape A) (P : A → Type 0) (spell : A → List ℕ) → ((x : A) (a : List ℕ) → Spells shape x a → P x × (a ≡ spell x)) → (pieces : List (Spelled A)) → AreSpelled shape pieces
    → All P (map (λ s. s.it) pieces) × (bytes_of pieces ≡ flat_map spell (map (λ s. s.it) pieces))
pieces-are shape P spell says [] are = ((λ k d lt. absurd (omega arith)), refl)
pieces-are shape P spell says (s ∷ ss) are =
    let here = says s.it s.front are.0 in
    let others = pieces-are shape P spell says ss are.1 in
    (All-cons P s.it (map (λ t. t.it) ss) here.0 others.0, ap (λ (t : List ℕ). t ++ bytes_of ss) here.1 ∙ ap (λ (t : List ℕ). spell s.it ++ t) others.1)

-- what so many of them are
pub record AreMany {A : Type 0} (P : A → Type 0) (spell : A → List ℕ) (n : ℕ) (xs : List A) (bytes : List ℕ) : Type 0 where
  pub each : All P xs
  pub count : length xs ≡ n
  pub spelled : bytes ≡ flat_map spell xs

pub many-are : {A : Type 0} (shape : Shape A) (P : A → Type 0) (spell : A → List ℕ) → ((x : A) (a : List ℕ) → Spells shape x a → P x × (a ≡ spell x)) → (n : ℕ) (xs : List A) (bytes : List ℕ)
    → Spells (repeated shape n [] (λ ys. whole ys)) xs bytes → AreMany P spell n xs bytes
many-are {A} shape P spell says n xs bytes h =
    let h' = repeated-spelled shape n [] xs bytes h in
    let are = pieces-are shape P spell says h'.pieces h'.are in
    let is : map (λ s. s.it) h'.pieces ≡ xs = sym h'.all in
    record {
      each = subst (All P) is are.0;
      count = sym (ap length is) ∙ length-map h'.pieces (λ s. s.it) ∙ h'.count;
      spelled = h'.spelled ∙ are.1 ∙ ap (flat_map spell) is;
    }
