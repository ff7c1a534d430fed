-- Records of so many bytes, and what it says that one was read.
use Rattle.std.proofs.Common.{◌≡◌, ℕ, ◌≤◌, List, length, take, true, false, ltb, None, Ok, ap, refl, ◌∙◌, sym, inl, inr}
use Rattle.std.proofs.lemmas.Bool.{cases_lt, lt-ltb, le-ltb}
use Rattle.lu_grammar.specs.Bytes.{Cursor, moved}
use Rattle.lu_grammar.specs.Parts.{Part, bytes, Value}
use Rattle.lu_grammar.specs.Reading.{read, read_part}
use Rattle.lu_grammar.specs.Records.{Shape, whole, part, Condition, first_broken, read_shape, record_at}
use Rattle.lu_grammar.proofs.Codecs.{ok_pair, same_pair, ok_of, err_is_not_ok, then_ok, alone, record_at-was}

pub bytes-given : (n : ℕ) (c : Cursor) → n ≤ length c.rest → read_part (bytes n) c ≡ Ok (take n c.rest, moved n c)
unfolding read
bytes-given n c le = let enough : ltb (length c.rest) n ≡ false = le-ltb (length c.rest) n le in rw enough refl

pub bytes-taken : (n : ℕ) (c : Cursor) (v : List ℕ) (d : Cursor) → read_part (bytes n) c ≡ ok_pair v d → (v ≡ take n c.rest) × (d ≡ moved n c) × (n ≤ length c.rest)
unfolding read
bytes-taken n c v d e =
    elim (cases_lt (length c.rest) n) [
      | inl lt ↦ let short : ltb (length c.rest) n ≡ true = lt-ltb (length c.rest) n lt in absurd (err_is_not_ok (rw short at e))
      | inr le ↦ let p = same_pair (take n c.rest) v (moved n c) d (sym (bytes-given n c le) ∙ e) in (sym p.0, sym p.1, le)
    ]

-- the first part of a record that was read, and the others
pub part_was : {R : Type 0} (p : Part) (next : Value p → Shape R) (c : Cursor) (r : R) (d : Cursor) → read_shape (part p next) c ≡ ok_pair r d
    → (x : Value p × Cursor) × (read_part p c ≡ ok_of x) × (read_shape (next x.0) x.1 ≡ ok_pair r d)
part_was p next c r d e = then_ok (read_part p c) (λ x. read_shape (next x.0) x.1) (r, d) e

-- the bytes that a record of bytes was read from
pub block_was : {R : Type 0} (n : ℕ) (f : List ℕ → R) (conditions : R → List Condition) (c : Cursor) (r : R) (d : Cursor) → record_at (alone (bytes n) f) conditions c ≡ ok_pair r d
    → (f (take n c.rest) ≡ r) × (d ≡ moved n c) × (n ≤ length c.rest) × (first_broken (conditions r) ≡ None)
block_was n f conditions c r d e =
    let was = record_at-was (alone (bytes n) f) conditions c r d e in
    let first = part_was (bytes n) (λ v. whole (f v)) c r d was.0 in
    let taken = bytes-taken n c first.0.0 first.0.1 first.1 in
    let same = same_pair (f first.0.0) r first.0.1 d first.2 in
    (ap f (sym taken.0) ∙ same.0, sym same.1 ∙ taken.1, taken.2, was.1)
