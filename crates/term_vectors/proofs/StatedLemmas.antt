-- Where the places of each document stand in `.tvx`.
use Rattle.std.proofs.Common.{◌≡◌, ℕ, zero, suc, ◌+◌, ◌*◌, ◌<◌, ◌≤◌, List, [], ◌∷◌, length, drop, get_or, Option, Some, None, Ok, refl, sym, ap, subst, ◌∙◌, arith, ℤ}
use Rattle.std.specs.Option.{unwrap_or}
use Rattle.std.proofs.lemmas.List.{length-drop, drop-drop}
use Rattle.lu_grammar.specs.declared.bad.Bad.{Bad}
use Rattle.lu_grammar.specs.Bytes.{Cursor, start_of, place_in, moved}
use Rattle.lu_grammar.specs.Parts.{int32, int64}
use Rattle.lu_grammar.specs.Reading.{◌>>=◌, read_part}
use Rattle.lu_grammar.specs.Records.{whole, part, read_shape}
use Rattle.lu_grammar.specs.Plans.{read_plan, read_file}
use Rattle.lu_grammar.proofs.Codecs.{ok_pair, same_pair, ok_of, then_ok, due_was, record_at-was, alone_was, file_was, read_shape-part, int64_read, int32_read}
use Rattle.term_vectors.specs.declared.layout.DocumentPlaces.{DocumentPlaces}
use Rattle.term_vectors.specs.Format.{place_of_number, headed, format_shape}
use Rattle.term_vectors.specs.Places.{TvxRecord, format, places, format_conditions, places_shape, places_conditions, stated_places, places_plan, tvx_plan}
use Rattle.term_vectors.specs.InnerFields.{IsStatedAt}
use Rattle.term_vectors.proofs.Steps.{headed_was}
use Rattle.term_vectors.proofs.PlaceLemmas.{reads_places}

-- two numbers that stand there are the places
pub stated_at : (tvx : List ℕ) (place : ℕ) (a b : ℤ) (c d : Cursor) (x y : ℕ) → read_part int64 (place_in tvx place) ≡ Ok (a, c) → read_part int64 c ≡ Ok (b, d) → x ≡ unwrap_or (place_of_number a) 0 → y ≡ unwrap_or (place_of_number b) 0
    → IsStatedAt tvx place (record { tvd = x; tvf = y })
stated_at tvx place a b c d x y first second tvd tvf = (
  places (place_of_number a) (place_of_number b),
  d,
  read_shape-part int64 (λ v. part int64 (λ w. whole (places (place_of_number v) (place_of_number w)))) (place_in tvx place) a c first ∙ read_shape-part int64 (λ w. whole (places (place_of_number a) (place_of_number w))) c b d second,
  ap (λ (n : ℕ). both n y) tvd ∙ ap (λ (n : ℕ). both (unwrap_or (place_of_number a) 0) n) tvf,
)
  where
    both : ℕ → ℕ → DocumentPlaces
    both m n = record { tvd = m; tvf = n }

-- one document has its places there
pub stated_once : (tvx : List ℕ) (place : ℕ) (p q : DocumentPlaces) → IsStatedAt tvx place p → IsStatedAt tvx place q → p ≡ q
stated_once tvx place p q (r, d, there, is) (s, e, here, too) = is ∙ ap stated_places (same_pair r s d e (sym there ∙ here)).0 ∙ sym too

-- the records behind which the cursor stands
pub behind_places : (c d : Cursor) (r : TvxRecord) → read_shape places_shape c ≡ Ok (r, d) → (16 ≤ length c.rest) × (d ≡ moved 16 c)
behind_places c d r e =
    let first = then_ok (read_part int64 c) (λ x. read_part int64 x.1 >>= λ y. ok_pair {E = Bad} (places (place_of_number x.0) (place_of_number y.0)) y.1) (r, d) e in
    let second = then_ok (read_part int64 first.0.1) (λ y. ok_pair {E = Bad} (places (place_of_number first.0.0) (place_of_number y.0)) y.1) (r, d) first.2 in
    let a = int64_read c first.0.1 first.0.0 first.1 in
    let b = int64_read first.0.1 second.0.1 second.0.0 second.1 in
    let same = same_pair (places (place_of_number first.0.0) (place_of_number second.0.0)) r second.0.1 d second.2 in
    let rest : first.0.1.rest ≡ drop 8 c.rest = ap (λ (x : Cursor). x.rest) a.2 in (
      omega (arith, a.0, b.0, ap length rest, length-drop 8 c.rest),
      sym same.1 ∙ b.2 ∙ ap (λ (x : Cursor). moved 8 x) a.2 ∙ ap (λ (x : List ℕ). at (c.place + 8 + 8) x) (drop-drop 8 8 c.rest) ∙ ap (λ (n : ℕ). at n (drop 16 c.rest)) (let n : c.place + 8 + 8 ≡ c.place + 16 = omega arith in n),
    )
  where
    at : ℕ → List ℕ → Cursor
    at n bs = record { place = n; rest = bs }

-- where so many documents stand, from a place on
pub record AreStated (tvx : List ℕ) (place n : ℕ) (all : List DocumentPlaces) : Type 0 where
  pub many : length all ≡ n
  pub long : place + 16 * n ≤ length tvx
  pub each : (i : ℕ) → i < n → IsStatedAt tvx (place + 16 * i) (get_or all i (record { tvd = 0; tvf = 0 }))

pub are_stated : (tvx : List ℕ) (n : ℕ) (place : ℕ) (before : Option ℕ) (all : List DocumentPlaces) (d : Cursor) → place ≤ length tvx → reads_places n before (place_in tvx place) ≡ Ok (all, d) → AreStated tvx place n all
unfolding places_plan read_plan
are_stated tvx zero place before all d le e =
    let same = same_pair [] all (place_in tvx place) d e in record { many = ap length (sym same.0); long = omega arith; each = λ i lt. absurd (omega arith) }
are_stated tvx (suc n) place before all d le e =
    let head = due_was places_shape (λ _ r. places_conditions before r) (λ _ r. headed (stated_places r) (places_plan n (Some (stated_places r).tvd))) (place_in tvx place) (all, d) e in
    let judged = record_at-was places_shape (places_conditions before) (place_in tvx place) head.0.0 head.0.1 head.1 in
    let rest = headed_was (stated_places head.0.0) (places_plan n (Some (stated_places head.0.0).tvd)) head.0.1 all d head.2 in
    let move = behind_places (place_in tvx place) head.0.1 head.0.0 judged.0 in
    let there : head.0.1 ≡ place_in tvx (place + 16) = move.1 ∙ ap (λ (x : List ℕ). at (place + 16) x) (drop-drop 16 place tvx) in
    let within : place + 16 ≤ length tvx = omega (arith, move.0, length-drop place tvx) in
    let later = are_stated tvx n (place + 16) (Some (stated_places head.0.0).tvd) rest.0 d within (ap (λ (x : Cursor). reads_places n (Some (stated_places head.0.0).tvd) x) (sym there) ∙ rest.1) in
    record {
      many = ap length rest.2 ∙ ap suc later.many;
      long = omega (arith, later.long);
      each = each_of n place all rest.0 (stated_places head.0.0) rest.2 (head.0.0, head.0.1, judged.0, refl) later.each;
    }
  where
    at : ℕ → List ℕ → Cursor
    at k bs = record { place = k; rest = bs }

    each_of : (n place : ℕ) (all more : List DocumentPlaces) (p : DocumentPlaces) → all ≡ p ∷ more → IsStatedAt tvx place p
        → ((i : ℕ) → i < n → IsStatedAt tvx (place + 16 + 16 * i) (get_or more i (record { tvd = 0; tvf = 0 })))
        → (i : ℕ) → i < suc n → IsStatedAt tvx (place + 16 * i) (get_or all i (record { tvd = 0; tvf = 0 }))
    each_of n place all more p is here later zero lt =
        subst (λ (ps : List DocumentPlaces). IsStatedAt tvx (place + 16 * 0) (get_or ps 0 (record { tvd = 0; tvf = 0 }))) (sym is)
        (subst (λ (k : ℕ). IsStatedAt tvx k p) (let k : place ≡ place + 16 * 0 = omega arith in k) here)
    each_of n place all more p is here later (suc i) lt =
        subst (λ (ps : List DocumentPlaces). IsStatedAt tvx (place + 16 * suc i) (get_or ps (suc i) (record { tvd = 0; tvf = 0 }))) (sym is)
        (subst (λ (k : ℕ). IsStatedAt tvx k (get_or more i (record { tvd = 0; tvf = 0 }))) (let k : place + 16 + 16 * i ≡ place + 16 * suc i = omega arith in k) (later i (omega arith)))

-- those of a `.tvx` that was read
pub tvx_stated : (total : ℕ) (tvx : List ℕ) (all : List DocumentPlaces) → read_file (tvx_plan total) tvx ≡ ok_of all → AreStated tvx 4 total all
tvx_stated total tvx all e =
    let file = file_was (tvx_plan total) tvx all e in
    let head = due_was (format_shape format) (λ _ r. format_conditions r) (λ _ _. places_plan total None) (start_of tvx) (all, file.0) file.1 in
    let judged = record_at-was (format_shape format) format_conditions (start_of tvx) head.0.0 head.0.1 head.1 in
    let number = alone_was int32 (λ z. format z) (start_of tvx) head.0.0 head.0.1 judged.0 in
    let four = int32_read (start_of tvx) head.0.1 number.0 number.1 in
    are_stated tvx total 4 None all file.0 four.0 (ap (λ (x : Cursor). reads_places total None x) (sym four.1) ∙ head.2)
