-- How far reading moves, and the places in some bytes.
use Rattle.std.proofs.Common.{◌≡◌, ℕ, ◌+◌, ◌≤◌, ◌++◌, length, drop, List, Ok, sym, ap, subst, ◌∙◌, arith}
use Rattle.std.proofs.lemmas.List.{length-append, length-drop, drop-drop}
use Rattle.std.proofs.Math.Seq.{drop-append_seam}
use Rattle.lu_grammar.specs.declared.bad.Bad.{Bad}
use Rattle.lu_grammar.specs.Bytes.{IsBytes, Cursor, place_in, moved}
use Rattle.lu_grammar.specs.Parts.{Part, Value, spelling}
use Rattle.lu_grammar.specs.Reading.{read, read_part}
use Rattle.lu_grammar.specs.Plans.{Plan, read_plan}
use Rattle.lu_grammar.specs.Meaning.{bytes_of}
use Rattle.lu_grammar.proofs.Parts.{IsBytes-drop, IsBytes-back}
use Rattle.lu_grammar.proofs.Records.{ok_pair, same_pair}
use Rattle.lu_grammar.proofs.Plans.{reads-read_plan}
use Rattle.lu_grammar.proofs.Loops.{then_ok}
use Rattle.lu_grammar.proofs.LawLemmas.{read_is_spelled}

-- a part that was read takes as many bytes as its spelling
pub read_part-place : (p : Part) (c : Cursor) (v : Value p) (d : Cursor) → IsBytes c.rest → read_part p c ≡ Ok (v, d) → (d.place ≡ c.place + length (spelling p v)) × IsBytes d.rest
read_part-place p c v d fits e = go (then_ok (read p c.rest) (λ x. ok_pair {E = Bad} x.0 (moved x.1 c)) (v, d) e)
  where
    go : ((x : Value p × ℕ) × (read p c.rest ≡ Ok x) × (ok_pair {E = Bad} x.0 (moved x.1 c) ≡ ok_pair v d)) → (d.place ≡ c.place + length (spelling p v)) × IsBytes d.rest
    go (x, taken, is) =
        let same = same_pair x.0 v (moved x.1 c) d is in
        let count = (read_is_spelled p c.rest x.0 x.1 fits taken).2 ∙ ap (λ (w : Value p). length (spelling p w)) same.0 in
        (sym (ap (λ (e : Cursor). e.place) same.1) ∙ ap (λ (n : ℕ). c.place + n) count, subst (λ (e : Cursor). IsBytes e.rest) same.1 (IsBytes-drop x.1 c.rest fits))

-- behind what was read are bytes
pub IsBytes-after : {V R : Type 0} (plan : Plan V R) (c : Cursor) (v : V) (d : Cursor) → IsBytes c.rest → read_plan plan c ≡ Ok (v, d) → IsBytes d.rest
IsBytes-after plan c v d fits e =
    let h = reads-read_plan plan c v d fits e in IsBytes-back (bytes_of h.records) c.rest d.rest h.front fits

-- what follows in the bytes
drop-front : (front more bs : List ℕ) (n : ℕ) → drop n bs ≡ front ++ more → n ≤ length bs → (more ≡ drop (n + length front) bs) × (n + length front ≤ length bs)
drop-front front more bs n e le =
    (sym (drop-append_seam front more) ∙ ap (drop (length front)) (sym e) ∙ drop-drop (length front) n bs, omega (arith, ap length e, length-drop n bs, length-append front more))

-- the place behind what was read is a place in the bytes
pub place_in-after : {V R : Type 0} (plan : Plan V R) (bytes : List ℕ) (at : ℕ) (v : V) (d : Cursor) → IsBytes bytes → at ≤ length bytes → read_plan plan (place_in bytes at) ≡ Ok (v, d) → (d ≡ place_in bytes d.place) × (d.place ≤ length bytes)
place_in-after plan bytes at v d fits le e =
    let h = reads-read_plan plan (place_in bytes at) v d (IsBytes-drop at bytes fits) e in
    let f = drop-front (bytes_of h.records) d.rest bytes at h.front le in
    (ap (λ (bs : List ℕ). record { place = d.place; rest = bs }) (f.0 ∙ ap (λ (n : ℕ). drop n bytes) (sym h.place)), omega (arith, f.1, h.place))
