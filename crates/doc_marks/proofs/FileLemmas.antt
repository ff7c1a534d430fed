-- A whole `.del`, as the check reads it.
use Rattle.std.proofs.Common.{◌≡◌, ℕ, ℤ, pos, ◌+◌, ◌<◌, ◌≤◌, Bool, true, false, not, eqb, ltb, List, length, drop, Ok, Err, refl, sym, ap, subst, ◌∙◌, arith, inl, inr}
use mathlib.Core.Bool.{true≢false}
use Rattle.std.specs.Borrow.{Bor}
use Rattle.std.specs.Ordering.{int_eq}
use Rattle.std.proofs.lemmas.Bool.{cases_lt, lt-ltb, le-ltb, eqb-true}
use Rattle.std.proofs.lemmas.List.{drop-drop, length-drop}
use Rattle.lu_grammar.specs.Bytes.{IsBytes, Cursor, start_of, moved}
use Rattle.lu_grammar.specs.Parts.{int32}
use Rattle.lu_grammar.specs.Reading.{read, read_part}
use Rattle.lu_grammar.specs.Records.{whole, part, read_shape, record_at}
use Rattle.lu_grammar.specs.Plans.{done, read_plan}
use Rattle.lu_grammar.specs.Meaning.{Reads, FirstFault}
use Rattle.lu_grammar.proofs.Parts.{IsBytes-drop}
use Rattle.lu_grammar.proofs.Records.{at, ok_pair, same_pair}
use Rattle.lu_grammar.proofs.Plans.{ok_of, err_is_not_ok, read_due, read_due_broken}
use Rattle.lu_grammar.proofs.Files.{file-fault, file-left, file-read}
use Rattle.doc_marks.specs.Marking.{marked, flags, AreRising}
use Rattle.doc_marks.specs.Deletions.{DelRecord, header, header_shape, sizes_shape, sparse_mark, header_conditions, body_shape, body_bytes, body_conditions, body_documents, is_past, dense_plan, no_pairs, pairs_plan, pairs_documents, after_header, del_plan}
use Rattle.doc_marks.specs.Lent.{behind_header, IsSoundForm}
use Rattle.doc_marks.specs.declared.segment.Segment.{Segment}
use Rattle.doc_marks.specs.declared.form.Form.TheVariants.{Dense, Sparse}
use Rattle.lu_grammar.proofs.Codecs.{record_at-was, due_was}
use Rattle.doc_marks.proofs.Steps.{part_was}
use Rattle.doc_marks.proofs.MarkLemmas.{AreRising-places, AreRising-not_past}
use Rattle.doc_marks.proofs.PairLemmas.{first-good, pairs-later}

-- ---- the header

int32-taken : (c : Cursor) (x : ℤ × Cursor) → read_part int32 c ≡ ok_of x → (x.1 ≡ moved 4 c) × (4 ≤ length c.rest)
unfolding read
int32-taken c x e =
    elim (cases_lt (length c.rest) 4) [
      | inl lt ↦ let short : ltb (length c.rest) 4 ≡ true = lt-ltb (length c.rest) 4 lt in absurd (err_is_not_ok (rw short at e))
      | inr le ↦ let enough : ltb (length c.rest) 4 ≡ false = le-ltb (length c.rest) 4 le in (sym (same_pair _ x.0 (moved 4 c) x.1 (rw enough at e)).1, le)
    ]

abbrev is_sparse_of : DelRecord → Bool
is_sparse_of (header is_sparse s n) = is_sparse
is_sparse_of r = false

-- three numbers stand before the pairs
-- what follows the first number
sizes_were : (is_sparse : Bool) (z s n : ℤ) (c d : Cursor) → read_shape (sizes_shape is_sparse z) c ≡ ok_pair (header true s n) d → (d ≡ moved 4 (moved 4 c)) × (8 ≤ length c.rest)
sizes_were true z s n c d e =
    let one = part_was int32 (λ size. part int32 (λ count. whole (header true size count))) c (header true s n) d e in
    let two = part_was int32 (λ count. whole (header true one.0.0 count)) one.0.1 (header true s n) d one.2 in
    let first = int32-taken c one.0 one.1 in
    let second = int32-taken one.0.1 two.0 two.1 in
    let end = (same_pair (header true one.0.0 two.0.0) (header true s n) two.0.1 d two.2).1 in
    let left : length one.0.1.rest ≡ length (drop 4 c.rest) = ap (λ (x : Cursor). length x.rest) first.0 in
    (sym end ∙ second.0 ∙ ap (moved 4) first.0, omega (arith, left, length-drop 4 c.rest, second.1, first.1))
sizes_were false z s n c d e =
    let one = part_was int32 (λ count. whole (header false z count)) c (header true s n) d e in
    absurd (true≢false (sym (ap is_sparse_of (same_pair (header false z one.0.0) (header true s n) one.0.1 d one.2).0)))

-- three numbers stand before the pairs
pub heading_was : (size count : ℕ) (del : List ℕ) (s n : ℤ) (d : Cursor) → record_at header_shape (header_conditions size count) (start_of del) ≡ Ok (header true s n, d) → (d ≡ behind_header del) × (12 ≤ length del)
heading_was size count del s n d e =
    let was = record_at-was header_shape (header_conditions size count) (start_of del) (header true s n) d e in
    let first = part_was int32 (λ z. sizes_shape (int_eq z sparse_mark) z) (start_of del) (header true s n) d was.0 in
    let one = int32-taken (start_of del) first.0 first.1 in
    let more = sizes_were (int_eq first.0.0 sparse_mark) first.0.0 s n first.0.1 d first.2 in
    let left : length first.0.1.rest ≡ length (drop 4 del) = ap (λ (x : Cursor). length x.rest) one.0 in (
      more.0 ∙ ap (λ (x : Cursor). moved 4 (moved 4 x)) one.0
          ∙ ap (λ (t : List ℕ). at 12 t) (ap (drop 4) (drop-drop 4 4 del) ∙ drop-drop 4 8 del),
      omega (arith, left, length-drop 4 del, more.1, one.1),
    )

-- ---- a dense body

-- the documents of a body that was read
pub dense_was : (size count : ℕ) (c d : Cursor) (docs : List ℕ) → read_plan (dense_plan size count) c ≡ ok_pair docs d → (is_past size docs ≡ false) × (length docs ≡ count)
unfolding read_plan
dense_was size count c d docs e =
    let was = due_was (body_shape size) (λ place r. body_conditions size count r) (λ place r. done (body_documents r)) c (docs, d) e in
    let good = record_at-was (body_shape size) (body_conditions size count) c was.0.0 was.0.1 was.1 in
    let is : body_documents was.0.0 ≡ docs = (same_pair (body_documents was.0.0) docs was.0.1 d was.2).0 in
    let past = first-good (is_past size (body_documents was.0.0)) 91 _ good.1 in
    let total = first-good (not (eqb (length (body_documents was.0.0)) count)) 92 _ past.1 in
    (ap (is_past size) (sym is) ∙ past.0, ap length (sym is) ∙ eqb-true _ _ (not-false _ total.0))
  where
    not-false : (b : Bool) → not b ≡ false → b ≡ true
    not-false true h = refl
    not-false false h = absurd (true≢false h)

pub dense-sound : (s : Segment) (found : Bor (List ℕ)) (c d : Cursor) → length found.now ≡ body_bytes s.size → read_plan (dense_plan s.size s.count) c ≡ ok_pair (marked found.now) d → IsSoundForm (Dense found) s
dense-sound s found c d long e =
    let was = dense_was s.size s.count c d (marked found.now) e in
    record {
      read = long;
      rise = AreRising-not_past 0 (0 + length (flags found.now)) s.size (marked found.now) (AreRising-places 0 (flags found.now)) was.0;
      number = was.1;
    }

pub sparse-sound : (s : Segment) (del : Bor (List ℕ)) (d : Cursor) → IsBytes del.now → 12 ≤ length del.now
    → read_plan (pairs_plan s.size s.count s.count no_pairs) (behind_header del.now) ≡ Ok (pairs_documents s.size s.count (behind_header del.now), d) → IsSoundForm (Sparse del) s
sparse-sound s del d fits long e =
    let docs = pairs_documents s.size s.count (behind_header del.now) in
    let all = pairs-later s.size s.count s.count no_pairs (behind_header del.now) docs d (IsBytes-drop 12 del.now fits) e in
    record {
      read = (long, fits, (d, e));
      rise = subst (AreRising 0 s.size) (sym all.all) all.rise;
      number = all.number (omega arith) (omega arith);
    }

-- ---- the whole file

module _ (size count : ℕ) (del : List ℕ) (fits : IsBytes del) where
  pub del-heading_fault : (rule : ℕ) → record_at header_shape (header_conditions size count) (start_of del) ≡ Err rule → FirstFault (del_plan size count) del 0 rule
  del-heading_fault rule e =
      file-fault (del_plan size count) del 0 rule fits (read_due_broken header_shape (λ place r. header_conditions size count r) (λ place r. after_header size count r) (start_of del) rule e)

  module _ (is_sparse : Bool) (c : Cursor) (heading_is : record_at header_shape (header_conditions size count) (start_of del) ≡ Ok (header is_sparse (pos size) (pos count), c)) where
    after_heading : read_plan (del_plan size count) (start_of del) ≡ read_plan (after_header size count (header is_sparse (pos size) (pos count))) c
    after_heading = read_due header_shape (λ place r. header_conditions size count r) (λ place r. after_header size count r) (start_of del) (header is_sparse (pos size) (pos count)) c heading_is

    pub del-fault : (offset rule : ℕ) → read_plan (after_header size count (header is_sparse (pos size) (pos count))) c ≡ Err (record { offset = offset; rule = rule }) → FirstFault (del_plan size count) del offset rule
    del-fault offset rule e = file-fault (del_plan size count) del offset rule fits (after_heading ∙ e)

    pub del-left : (docs : List ℕ) (d : Cursor) → read_plan (after_header size count (header is_sparse (pos size) (pos count))) c ≡ Ok (docs, d) → 0 < length d.rest → FirstFault (del_plan size count) del d.place 6
    del-left docs d e some = file-left (del_plan size count) del docs d fits (after_heading ∙ e) some

    pub del-read : (docs : List ℕ) (d : Cursor) → read_plan (after_header size count (header is_sparse (pos size) (pos count))) c ≡ Ok (docs, d) → length d.rest ≡ 0 → Reads (del_plan size count) del docs
    del-read docs d e none = file-read (del_plan size count) del docs d fits (after_heading ∙ e) none
