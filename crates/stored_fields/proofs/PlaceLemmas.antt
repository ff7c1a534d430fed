-- The records of `.fdx`, one after another.
use Rattle.std.proofs.Common.{◌≡◌, ℕ, zero, suc, ◌+◌, ◌*◌, ◌<◌, ◌≤◌, Bool, true, false, List, [], ◌∷◌, ◌++◌, length, drop, get_or, Option, Some, None, Result, Ok, Err, refl, sym, ap, subst, ◌∙◌, arith, ℤ, pos, append_assoc}
use Rattle.std.specs.List.{last_or}
use Rattle.lu_types.specs.declared.stored.Window.{Window}
use Rattle.lu_grammar.specs.Bytes.{Cursor, start_of, moved}
use Rattle.lu_grammar.specs.Parts.{int32, int64}
use borrow.Author.Tests.{ltb-false}
use Rattle.std.proofs.lemmas.List.{drop-drop, append-nil, length-drop}
use Rattle.lu_grammar.specs.Reading.{◌>>=◌, read, read_part}
use Rattle.lu_grammar.specs.Records.{first_broken, record_at}
use Rattle.lu_grammar.specs.Plans.{times, one, each, Broken, read_plan, ended, read_file}
use Rattle.lu_grammar.proofs.Codecs.{ok_of, read_due, read_due_broken, ok_pair, same_pair, read_plan-and_then, then_ok, times-more, times-fault, each-none, alone_read, alone_breaks, alone_was, record_at-was, due_was, file_was, nothing_left, trailing, int32_read, int64_read}
use Rattle.lu_grammar.proofs.Loops.{one-was}
use Rattle.stored_fields.specs.Format.{store_format, format_shape, is_other_store_format}
use Rattle.stored_fields.specs.Places.{is_past_store, fdx_header_conditions, place_shape, fdx_place_conditions, is_misplaced, places_kind, fdx_plan}
use Rattle.stored_fields.proofs.SpotLemmas.{same_format}

-- ---- one record

pub place_given : (before : Option ℤ) (c d : Cursor) (z w : ℤ) → w ≡ z → read_part int64 c ≡ Ok (z, d) → is_misplaced before w ≡ false → record_at place_shape (fdx_place_conditions before) c ≡ Ok (w, d)
place_given before c d z w is e good =
    let here : is_misplaced before z ≡ false = ap (is_misplaced before) (sym is) ∙ good in
    alone_read int64 (λ z. z) (fdx_place_conditions before) c d z e (rw here refl) ∙ ap (λ (x : ℤ). Ok (x, d)) (sym is)

pub place_broken : (before : Option ℤ) (c d : Cursor) (z w : ℤ) → w ≡ z → read_part int64 c ≡ Ok (z, d) → is_misplaced before w ≡ true → record_at place_shape (fdx_place_conditions before) c ≡ Err 41
place_broken before c d z w is e bad =
    let here : is_misplaced before z ≡ true = ap (is_misplaced before) (sym is) ∙ bad in
    alone_breaks int64 (λ z. z) (fdx_place_conditions before) c d z 41 e (rw here refl)

-- a good header has the format number, and the window is in the store
pub header_format : (total : ℕ) (window : Window) (z : ℤ) → first_broken (fdx_header_conditions total window z) ≡ None → is_other_store_format z ≡ false
header_format total window z e = go (is_other_store_format z) (is_past_store total window) refl e
  where
    go : (other past : Bool) → is_other_store_format z ≡ other → first_broken (record { rule = 40; broken = other } ∷ record { rule = 42; broken = past } ∷ []) ≡ None → is_other_store_format z ≡ false
    go true past is h = cc
    go false past is h = is

pub header_given : (total : ℕ) (window : Window) (c d : Cursor) (z w : ℤ) → w ≡ z → read_part int32 c ≡ Ok (z, d) → None ≡ first_broken (fdx_header_conditions total window w) → record_at format_shape (fdx_header_conditions total window) c ≡ Ok (store_format, d)
header_given total window c d z w is e good =
    alone_read int32 (λ z. z) (fdx_header_conditions total window) c d z e (ap (λ (x : ℤ). first_broken (fdx_header_conditions total window x)) (sym is) ∙ sym good)
    ∙ ap (λ (x : ℤ). Ok (x, d)) (sym is ∙ same_format w (header_format total window w (sym good)))

pub header_broken_by : (total : ℕ) (window : Window) (c d : Cursor) (z w : ℤ) (rule : ℕ) → w ≡ z → read_part int32 c ≡ Ok (z, d) → Some rule ≡ first_broken (fdx_header_conditions total window w)
    → record_at format_shape (fdx_header_conditions total window) c ≡ Err rule
header_broken_by total window c d z w rule is e broken =
    alone_breaks int32 (λ z. z) (fdx_header_conditions total window) c d z rule e (ap (λ (x : ℤ). first_broken (fdx_header_conditions total window x)) (sym is) ∙ sym broken)

-- ---- so many places

pub last_push : {A : Type 0} (o : Option A) (xs : List A) (x : A) → last_or o (xs ++ x ∷ []) ≡ Some x
last_push o [] x = refl
last_push o (y ∷ ys) x = last_push (Some y) ys x

-- from this cursor on so many places are good, the last of them is this one, and the cursor stands behind it
pub record PassedPlaces (from : Cursor) (number : ℕ) (last : Option ℤ) (here : Cursor) : Type 0 where
  pub places : List ℤ
  pub last_is : last_or None places ≡ last
  pub reads : read_plan (times places_kind number []) from ≡ Ok (places, here)

pub passed_no_place : (from : Cursor) → PassedPlaces from 0 None from
passed_no_place from = record { places = []; last_is = refl; reads = each-none (one places_kind) [] from }

pub passed_place : (from : Cursor) (number : ℕ) (last : Option ℤ) (here : Cursor) (z : ℤ) (next : Cursor) → PassedPlaces from number last here
    → record_at place_shape (fdx_place_conditions last) here ≡ Ok (z, next) → PassedPlaces from (number + 1) (Some z) next
passed_place from number last here z next before e = record {
  places = before.places ++ z ∷ [];
  last_is = last_push None before.places z;
  reads = times-more places_kind number [] from before.places here z next before.reads (subst (λ (o : Option ℤ). record_at place_shape (fdx_place_conditions o) here ≡ Ok (z, next)) (sym before.last_is) e);
}

-- ---- the file

-- the header is passed
abbrev pub IsBehindHeader : ℕ → Window → List ℕ → Cursor → Type 0
IsBehindHeader total window bytes here = record_at format_shape (fdx_header_conditions total window) (start_of bytes) ≡ Ok (store_format, here)

fdx_from : (total : ℕ) (window : Window) (bytes : List ℕ) (from : Cursor) → IsBehindHeader total window bytes from → read_plan (fdx_plan total window) (start_of bytes) ≡ read_plan (times places_kind total []) from
fdx_from total window bytes from e = read_due format_shape (λ _ z. fdx_header_conditions total window z) (λ _ _. times places_kind total []) (start_of bytes) store_format from e

pub fdx_header_fault : (total : ℕ) (window : Window) (bytes : List ℕ) (rule : ℕ) → record_at format_shape (fdx_header_conditions total window) (start_of bytes) ≡ Err rule
    → read_file (fdx_plan total window) bytes ≡ Err (record { offset = 0; rule = rule })
fdx_header_fault total window bytes rule e =
    ap (λ (r : Result (List ℤ × Cursor) Broken). r >>= ended) (read_due_broken format_shape (λ _ z. fdx_header_conditions total window z) (λ _ _. times places_kind total []) (start_of bytes) rule e)

pub fdx_place_fault : (total : ℕ) (window : Window) (bytes : List ℕ) (from : Cursor) (number : ℕ) (last : Option ℤ) (here : Cursor) (rule : ℕ) → IsBehindHeader total window bytes from → PassedPlaces from number last here → number < total
    → record_at place_shape (fdx_place_conditions last) here ≡ Err rule → read_file (fdx_plan total window) bytes ≡ Err (record { offset = here.place; rule = rule })
fdx_place_fault total window bytes from number last here rule header before lt e =
    ap (λ (r : Result (List ℤ × Cursor) Broken). r >>= ended)
    (fdx_from total window bytes from header ∙ times-fault places_kind number total [] from before.places here rule lt before.reads (subst (λ (o : Option ℤ). record_at place_shape (fdx_place_conditions o) here ≡ Err rule) (sym before.last_is) e))

pub fdx_trailing : (total : ℕ) (window : Window) (bytes : List ℕ) (from : Cursor) (number : ℕ) (last : Option ℤ) (here : Cursor) → IsBehindHeader total window bytes from → PassedPlaces from number last here → number ≡ total → 0 < length here.rest
    → read_file (fdx_plan total window) bytes ≡ Err (record { offset = here.place; rule = 6 })
fdx_trailing total window bytes from number last here header before all some =
    ap (λ (r : Result (List ℤ × Cursor) Broken). r >>= ended) (fdx_from total window bytes from header ∙ ap (λ (n : ℕ). read_plan (times places_kind n []) from) (sym all) ∙ before.reads)
    ∙ trailing before.places here some

pub fdx_read : (total : ℕ) (window : Window) (bytes : List ℕ) (from : Cursor) (number : ℕ) (last : Option ℤ) (here : Cursor) → IsBehindHeader total window bytes from → (before : PassedPlaces from number last here) → number ≡ total → length here.rest ≡ 0
    → read_file (fdx_plan total window) bytes ≡ Ok before.places
fdx_read total window bytes from number last here header before all none =
    ap (λ (r : Result (List ℤ × Cursor) Broken). r >>= ended) (fdx_from total window bytes from header ∙ ap (λ (n : ℕ). read_plan (times places_kind n []) from) (sym all) ∙ before.reads)
    ∙ nothing_left before.places here none

-- ---- what a file without a fault holds

-- from this cursor on so many places are read: they come after those in front, each takes eight bytes
record Walked (number : ℕ) (front : List ℤ) (c d : Cursor) (places : List ℤ) : Type 0 where
  more : List ℤ
  all : places ≡ front ++ more
  many : length more ≡ number
  long : 8 * number ≤ length c.rest
  behind : d ≡ moved (8 * number) c
  at : (i : ℕ) → i < number → read int64 (drop (8 * i) c.rest) ≡ Ok (get_or more i (pos 0), 8)

moved_none : (c : Cursor) → moved 0 c ≡ c
moved_none c = ap (λ (n : ℕ). cursor n c.rest) (let e : c.place + 0 ≡ c.place = omega arith in e)
  where
    cursor : ℕ → List ℕ → Cursor
    cursor n rest = record { place = n; rest = rest }

moved_again : (m n : ℕ) (c : Cursor) → moved n (moved m c) ≡ moved (m + n) c
moved_again m n c = ap (λ (k : ℕ). cursor k (drop n (drop m c.rest))) (let e : c.place + m + n ≡ c.place + (m + n) = omega arith in e) ∙ ap (λ (t : List ℕ). cursor (c.place + (m + n)) t) (drop-drop n m c.rest)
  where
    cursor : ℕ → List ℕ → Cursor
    cursor k rest = record { place = k; rest = rest }

walked : (number : ℕ) (front : List ℤ) (c d : Cursor) (places : List ℤ) → read_plan (times places_kind number front) c ≡ ok_pair places d → Walked number front c d places
unfolding each read_plan
walked zero front c d places e =
    let p = same_pair front places c d e in
    record { more = []; all = sym p.0 ∙ sym (append-nil front); many = refl; long = omega arith; behind = sym p.1 ∙ sym (moved_none c); at = λ i lt. absurd (omega arith) }
walked (suc n) front c d places e =
    let first = then_ok (read_plan (one places_kind front) c) (λ x. read_plan (times places_kind n x.0) x.1) (places, d) (sym (read_plan-and_then (one places_kind front) (times places_kind n) c) ∙ e) in
    let was = one-was places_kind front c first.0 first.1 in
    let part = alone_was int64 (λ z. z) c was.0 first.0.1 (record_at-was place_shape (fdx_place_conditions (last_or None front)) c was.0 first.0.1 was.1).0 in
    let here = int64_read c first.0.1 part.0 part.1 in
    let rest = walked n first.0.0 first.0.1 d places first.2 in
    let behind_first : first.0.1.rest ≡ drop 8 c.rest = ap (λ (x : Cursor). x.rest) here.2 in
    record {
      more = part.0 ∷ rest.more;
      all = rest.all ∙ ap (λ (t : List ℤ). t ++ rest.more) (sym was.2) ∙ ap (λ (z : ℤ). (front ++ z ∷ []) ++ rest.more) (sym part.2) ∙ append_assoc front (part.0 ∷ []) rest.more;
      many = ap suc rest.many;
      long = omega (arith, rest.long, here.0, ap length behind_first, length-drop 8 c.rest);
      behind = rest.behind ∙ ap (moved (8 * n)) here.2 ∙ moved_again 8 (8 * n) c ∙ ap (λ (k : ℕ). moved k c) (let k : 8 + 8 * n ≡ 8 * suc n = omega arith in k);
      at = at_each n part.0 rest.more c first.0.1 here.1 behind_first rest.at;
    }
  where
    at_each : (n : ℕ) (z : ℤ) (more : List ℤ) (c x : Cursor) → read int64 c.rest ≡ Ok (z, 8) → x.rest ≡ drop 8 c.rest → ((i : ℕ) → i < n → read int64 (drop (8 * i) x.rest) ≡ Ok (get_or more i (pos 0), 8))
        → (i : ℕ) → i < suc n → read int64 (drop (8 * i) c.rest) ≡ Ok (get_or (z ∷ more) i (pos 0), 8)
    at_each n z more c x first behind later zero lt = first
    at_each n z more c x first behind later (suc i) lt =
        ap (λ (t : List ℕ). read int64 t) (ap (λ (k : ℕ). drop k c.rest) (let k : 8 * suc i ≡ 8 + 8 * i = omega arith in k) ∙ sym (drop-drop (8 * i) 8 c.rest) ∙ ap (drop (8 * i)) (sym behind))
        ∙ later i (omega arith)

-- `.fdx` of a store of so many documents holds these places
pub record HasPlaces (fdx : List ℕ) (total : ℕ) (window : Window) (places : List ℤ) : Type 0 where
  pub long : length fdx ≡ 4 + 8 * total
  pub many : length places ≡ total
  pub at : (i : ℕ) → i < total → read int64 (drop (4 + 8 * i) fdx) ≡ Ok (get_or places i (pos 0), 8)
  pub within : window.offset + window.count ≤ total

pub has_places : (total : ℕ) (window : Window) (fdx : List ℕ) (places : List ℤ) → read_file (fdx_plan total window) fdx ≡ ok_of places → HasPlaces fdx total window places
has_places total window fdx places e =
    let file = file_was (fdx_plan total window) fdx places e in
    let header = due_was format_shape (λ _ z. fdx_header_conditions total window z) (λ _ _. times places_kind total []) (start_of fdx) (places, file.0) file.1 in
    let judged = record_at-was format_shape (fdx_header_conditions total window) (start_of fdx) header.0.0 header.0.1 header.1 in
    let part = alone_was int32 (λ z. z) (start_of fdx) header.0.0 header.0.1 judged.0 in
    let four = int32_read (start_of fdx) header.0.1 part.0 part.1 in
    let walk = walked total [] header.0.1 file.0 places header.2 in
    let behind : header.0.1.rest ≡ drop 4 fdx = ap (λ (c : Cursor). c.rest) four.1 in
    let last : file.0.rest ≡ drop (8 * total) header.0.1.rest = ap (λ (c : Cursor). c.rest) walk.behind in
    record {
      long = omega (arith, four.0, walk.long, file.2, ap length behind, ap length last, length-drop 4 fdx, length-drop (8 * total) header.0.1.rest);
      many = ap length walk.all ∙ walk.many;
      at = λ i lt. ap (λ (t : List ℕ). read int64 t) (sym (drop-drop (8 * i) 4 fdx) ∙ ap (drop (8 * i)) (sym behind)) ∙ walk.at i lt ∙ ap (λ (xs : List ℤ). ok_pair (get_or xs i (pos 0)) 8) (sym walk.all);
      within = not_past (is_other_store_format header.0.0) (is_past_store total window) refl judged.1;
    }
  where
    not_past : (other past : Bool) → is_past_store total window ≡ past → first_broken (record { rule = 40; broken = other } ∷ record { rule = 42; broken = past } ∷ []) ≡ None → window.offset + window.count ≤ total
    not_past true past is h = cc
    not_past false true is h = cc
    not_past false false is h = ltb-false total (window.offset + window.count) is

-- the place that stands in `.fdx` is that of the document
pub place_is : (total : ℕ) (window : Window) (fdx : List ℕ) (places : List ℤ) → read_file (fdx_plan total window) fdx ≡ ok_of places → (number : ℕ) → number < total → (z : ℤ) → read int64 (drop (4 + 8 * number) fdx) ≡ Ok (z, 8)
    → get_or places number (pos 0) ≡ z
place_is total window fdx places e number lt z here =
    (same_pair (get_or places number (pos 0)) z 8 8 (sym ((has_places total window fdx places e).at number lt) ∙ here)).0
