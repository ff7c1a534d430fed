-- What it says that terms, and a whole file of them, were read.
use Rattle.std.proofs.Common.{◌≡◌, ℕ, zero, suc, ◌+◌, ◌-◌, ◌≤◌, true, false, Bool, eqb, ltb, List, [], ◌∷◌, ◌++◌, length, take, drop, None, Result, Ok, Err, refl, sym, ap, subst, ◌∙◌, append_assoc, arith}
use Rattle.std.specs.Prelude.{if◌then◌else◌}
use Rattle.std.specs.Int.{Width, w32, w64}
use Rattle.std.specs.Prelude.{ℤ}
use Rattle.std.proofs.lemmas.Bool.{eqb-true}
use Rattle.lu_types.specs.RuleNumbers as number
use Rattle.std.proofs.lemmas.List.{length-append, drop-drop, append-nil}
use Rattle.lu_grammar.specs.declared.bad.Bad.{Bad}
use Rattle.lu_grammar.specs.declared.bad.Bad.TheVariants.{Ends}
use Rattle.lu_grammar.specs.Bytes.{IsBytes, Cursor, start_of, moved, place_in}
use Rattle.lu_grammar.specs.Parts.{int32, int64}
use Rattle.lu_grammar.specs.Reading.{◌>>=◌, read, read_part, signed_of}
use Rattle.lu_grammar.specs.Records.{whole, followed, first_broken, read_shape, record_at}
use Rattle.lu_grammar.specs.Plans.{Broken, broken_at, one, each, times, read_plan, ended}
use Rattle.lu_grammar.proofs.Records.{ok_pair, same_pair, TakesRecord, ShapeJudges, read_shape-judges}
use Rattle.lu_grammar.proofs.Plans.{ok_of, err_of, err_is_not_ok}
use Rattle.lu_grammar.proofs.Loops.{read_plan-and_then, read_shape-followed, then_ok, one-was}
use Rattle.term_dict.specs.declared.heading.Heading.{Heading}
use Rattle.lu_types.specs.declared.term.TermNumbers.{TermNumbers}
use Rattle.term_dict.specs.Headings.{heading_shape, header, heading_conditions, numbers_of, Line, heading, entry, heading_of, on_entry}
use Rattle.term_dict.specs.Entries.{TermRecord, entry_shape}
use Rattle.term_dict.specs.Terms.{DictionaryTerm, last_term, term_after}
use Rattle.term_dict.specs.Dictionary.{Dictionary, TermConditions, anywhere, Progress, no_terms, with_term, term_conditions, term_kind, terms_plan, dictionary_plan}
use Rattle.term_dict.specs.Content.{dictionary_in, IsRead}
use Rattle.term_dict.proofs.FileLemmas.{record_at-was, dictionary_of, finish, inner}

-- ---- the header

moved-moved : (m n : ℕ) (c : Cursor) → moved n (moved m c) ≡ moved (m + n) c
moved-moved m n c = ap (λ (p : ℕ). at p (drop n (drop m c.rest))) (let e : c.place + m + n ≡ c.place + (m + n) = omega arith in e) ∙ ap (at (c.place + (m + n))) (drop-drop n m c.rest)
  where
    at : ℕ → List ℕ → Cursor
    at p rest = record { place = p; rest = rest }

-- ---- terms after terms

-- terms were added to those before
pub record Grows (before after : Progress) (n : ℕ) : Type 0 where
  pub more : List DictionaryTerm
  pub more_starts : List ℕ
  pub terms : after.terms ≡ before.terms ++ more
  pub starts : after.starts ≡ before.starts ++ more_starts
  pub count : length more ≡ n
  pub count_starts : length more_starts ≡ n

grows-first : (s z : Progress) (place : ℕ) (e : TermRecord) (n : ℕ) → Grows (with_term s place e) z n → Grows s z (suc n)
grows-first s z place e n g = record {
  more = term_after (last_term s.terms) e ∷ g.more;
  more_starts = place ∷ g.more_starts;
  terms = g.terms ∙ append_assoc s.terms (term_after (last_term s.terms) e ∷ []) g.more;
  starts = g.starts ∙ append_assoc s.starts (place ∷ []) g.more_starts;
  count = omega (arith, g.count);
  count_starts = omega (arith, g.count_starts);
}

-- an entry was read as a line
entry-read : (interval : ℕ) (c : Cursor) (line : Line TermRecord) (d : Cursor) → read_shape (followed (entry_shape false interval) (λ e. whole (entry e))) c ≡ ok_pair line d → (e : TermRecord) × (read_shape (entry_shape false interval) c ≡ ok_pair e d) × (line ≡ entry e)
entry-read interval c line d e =
    let x = then_ok (read_shape (entry_shape false interval) c) (λ y. read_shape (whole (entry y.0)) y.1) (line, d) (sym (read_shape-followed (entry_shape false interval) (λ e. whole (entry e)) c) ∙ e) in
    let same = same_pair (entry x.0.0) line x.0.1 d x.2 in
    (x.0.0, x.1 ∙ ap (λ (f : Cursor). ok_pair x.0.0 f) same.1, sym same.0)

-- a good line is a good entry
pub record IsGoodEntry (standing : TermConditions) (interval : ℕ) (s : Progress) (c : Cursor) (e : TermRecord) (d : Cursor) : Type 0 where
  pub read : read_shape (entry_shape false interval) c ≡ ok_pair e d
  pub good : first_broken (term_conditions standing s.terms e) ≡ None
  pub whole_record : record_at ((term_kind standing interval).shape s) ((term_kind standing interval).conditions s c.place) c ≡ ok_pair (entry e) d

pub good_entry : (standing : TermConditions) (interval : ℕ) (s : Progress) (c : Cursor) (line : Line TermRecord) (d : Cursor) → record_at ((term_kind standing interval).shape s) ((term_kind standing interval).conditions s c.place) c ≡ ok_pair line d
    → (e : TermRecord) × IsGoodEntry standing interval s c e d × (line ≡ entry e)
good_entry standing interval s c line d e =
    let was = record_at-was ((term_kind standing interval).shape s) ((term_kind standing interval).conditions s c.place) c line d e in
    let x = entry-read interval c line d was.0 in (
      x.0,
      record {
        read = x.1;
        good = subst (λ (l : Line TermRecord). first_broken (on_entry [] (term_conditions standing s.terms) l) ≡ None) x.2 was.1;
        whole_record = e ∙ ap (λ (l : Line TermRecord). ok_pair l d) x.2;
      },
      x.2,
    )

pub grows : (standing : TermConditions) (interval n : ℕ) (s : Progress) (c : Cursor) (z : Progress × Cursor) → read_plan (times (term_kind standing interval) n s) c ≡ ok_of z → Grows s z.0 n
unfolding each read_plan
grows standing interval zero s c z e =
    let same : (s, c) ≡ z = inner (s, c) z e in
    record { more = []; more_starts = []; terms = ap (λ (x : Progress × Cursor). x.0.terms) (sym same) ∙ sym (append-nil s.terms); starts = ap (λ (x : Progress × Cursor). x.0.starts) (sym same) ∙ sym (append-nil s.starts); count = refl; count_starts = refl }
grows standing interval (suc n) s c z e =
    let first = then_ok (read_plan (one (term_kind standing interval) s) c) (λ x. read_plan (times (term_kind standing interval) n x.0) x.1) z (sym (read_plan-and_then (one (term_kind standing interval) s) (times (term_kind standing interval) n) c) ∙ e) in
    let was = one-was (term_kind standing interval) s c first.0 first.1 in
    let good = good_entry standing interval s c was.0 first.0.1 was.1 in
    let next : with_term s c.place good.0 ≡ first.0.0 = ap (λ (l : Line TermRecord). on_entry s (with_term s c.place) l) (sym good.2) ∙ was.2 in
    let later = grows standing interval n first.0.0 first.0.1 z first.2 in
    grows-first s z.0 c.place good.0 n (subst (λ (m : Progress). Grows m z.0 n) (sym next) later)

-- ---- the whole file

abbrev front_if : Width → ℕ → List ℕ → Bool → Result (ℤ × ℕ) Bad
front_if w n bs b = if b then Err Ends else Ok (signed_of w (take n bs), n)

front_moved : (w : Width) (n : ℕ) (c : Cursor) (x : ℤ × Cursor) (b : Bool) → (front_if w n c.rest b >>= λ y. ok_pair y.0 (moved y.1 c)) ≡ ok_of x → x.1 ≡ moved n c
front_moved w n c x true e = absurd (err_is_not_ok e)
front_moved w n c x false e = ap (λ (y : ℤ × Cursor). y.1) (sym (inner (signed_of w (take n c.rest), moved n c) x e))

part_moved4 : (c : Cursor) (x : ℤ × Cursor) → read_part int32 c ≡ ok_of x → x.1 ≡ moved 4 c
unfolding read
part_moved4 c x e = front_moved w32 4 c x (ltb (length c.rest) 4) e

part_moved8 : (c : Cursor) (x : ℤ × Cursor) → read_part int64 c ≡ ok_of x → x.1 ≡ moved 8 c
unfolding read
part_moved8 c x e = front_moved w64 8 c x (ltb (length c.rest) 8) e

-- a header takes 24 bytes
heading_moved : (c : Cursor) (h : Heading) (d : Cursor) → read_shape heading_shape c ≡ ok_pair h d → d ≡ moved 24 c
heading_moved c h d e =
    let a = then_ok (read_part int32 c) _ (h, d) e in
    let b = then_ok (read_part int64 a.0.1) _ (h, d) a.2 in
    let f = then_ok (read_part int32 b.0.1) _ (h, d) b.2 in
    let g = then_ok (read_part int32 f.0.1) _ (h, d) f.2 in
    let k = then_ok (read_part int32 g.0.1) _ (h, d) g.2 in
    let to_a = part_moved4 c a.0 a.1 in
    let to_b = part_moved8 a.0.1 b.0 b.1 ∙ ap (moved 8) to_a ∙ moved-moved 4 8 c in
    let to_f = part_moved4 b.0.1 f.0 f.1 ∙ ap (moved 4) to_b ∙ moved-moved 12 4 c in
    let to_g = part_moved4 f.0.1 g.0 g.1 ∙ ap (moved 4) to_f ∙ moved-moved 16 4 c in
    let to_k = part_moved4 g.0.1 k.0 k.1 ∙ ap (moved 4) to_g ∙ moved-moved 20 4 c in
    let end : k.0.1 ≡ d = ap (λ (x : Heading × Cursor). x.1) (inner _ (h, d) k.2) in
    sym end ∙ to_k

-- all terms of a file that was read
pub record AllRead (bytes : List ℕ) (numbers : TermNumbers) (z : Progress) (d : Cursor) : Type 0 where
  pub read : read_plan (times (term_kind anywhere numbers.skip_interval) numbers.count no_terms) (place_in bytes 24) ≡ ok_pair z d
  pub value : dictionary_in bytes ≡ dictionary_of numbers (length bytes) z
  pub whole_file : length d.rest ≡ 0
  pub inside : 24 ≤ length bytes

pub was_ok : {A : Type 0} (place : ℕ) (r : Result A ℕ) (x : A) → broken_at place r ≡ ok_of x → r ≡ ok_of x
was_ok place (Ok y) x e = ap (λ (t : _). ok_of t) (inner y x e)
was_ok place (Err rule) x e = absurd (err_is_not_ok e)

abbrev broken_of : ℕ → ℕ → Broken
broken_of place rule = record { offset = place; rule = rule }

pub was_ended : {V : Type 0} (x : V × Cursor) (v : V) → ended x ≡ ok_of v → (x.0 ≡ v) × (length x.1.rest ≡ 0)
was_ended {V} x v e = go (eqb (length x.1.rest) 0) refl e
  where
    go : (b : Bool) → eqb (length x.1.rest) 0 ≡ b → (if b then ok_of x.0 else err_of (broken_of x.1.place number.trailing)) ≡ ok_of v → (x.0 ≡ v) × (length x.1.rest ≡ 0)
    go true t e = (inner x.0 v e, eqb-true _ _ t)
    go false t e = absurd (err_is_not_ok e)

abbrev heading_line : Heading → Line TermRecord
heading_line h = heading h

header_place : (bytes : List ℕ) (line : Line TermRecord) (d : Cursor) → read_shape (header {E = TermRecord}) (start_of bytes) ≡ ok_pair line d → d ≡ place_in bytes 24
header_place bytes line d e =
    let x = then_ok (read_shape heading_shape (start_of bytes)) (λ y. read_shape (whole (heading_line y.0)) y.1) (line, d) (sym (read_shape-followed heading_shape (λ h. whole (heading_line h)) (start_of bytes)) ∙ e) in
    let same = same_pair (heading_line x.0.0) line x.0.1 d x.2 in
    sym same.1 ∙ heading_moved (start_of bytes) x.0.0 x.0.1 x.1

header_inside : (bytes : List ℕ) (line : Line TermRecord) (d : Cursor) → IsBytes bytes → read_shape (header {E = TermRecord}) (start_of bytes) ≡ ok_pair line d → d ≡ place_in bytes 24 → 24 ≤ length bytes
header_inside bytes line d fits e is =
    let taken : TakesRecord (header {E = TermRecord}) (start_of bytes) line d = subst (λ (r : Result (Line TermRecord × Cursor) Bad). ShapeJudges (header {E = TermRecord}) (start_of bytes) r) e (read_shape-judges (header {E = TermRecord}) (start_of bytes) fits) in
    omega (arith, taken.place, ap (λ (c : Cursor). c.place) is, ap length taken.rest, length-append taken.front d.rest)

pub all_read : (bytes : List ℕ) (numbers : TermNumbers) (longest : ℕ) → IsBytes bytes → IsRead bytes numbers longest → (z : Progress) × (d : Cursor) × AllRead bytes numbers z d
unfolding read_plan
all_read bytes numbers longest fits h =
    let size = length bytes in
    let c = start_of bytes in
    let file = then_ok (read_plan (dictionary_plan anywhere size) c) ended (dictionary_in bytes) h.read in
    let head = then_ok (broken_at 0 (record_at (header {E = TermRecord}) (λ line. heading_conditions (heading_of line)) c)) (λ x. read_plan (terms_plan anywhere size (numbers_of (heading_of x.0))) x.1) file.0 file.1 in
    let was = record_at-was (header {E = TermRecord}) (λ line. heading_conditions (heading_of line)) c head.0.0 head.0.1 (was_ok 0 (record_at (header {E = TermRecord}) (λ line. heading_conditions (heading_of line)) c) head.0 head.1) in
    let place = header_place bytes head.0.0 head.0.1 was.0 in
    let n = numbers_of (heading_of head.0.0) in
    let body = then_ok (read_plan (times (term_kind anywhere n.skip_interval) n.count no_terms) head.0.1) (λ x. read_plan (finish n size x.0) x.1) file.0
    (sym (read_plan-and_then (times (term_kind anywhere n.skip_interval) n.count no_terms) (finish n size) head.0.1) ∙ head.2) in
    let end = was_ended file.0 (dictionary_in bytes) file.2 in
    let last = same_pair (dictionary_of n size body.0.0) file.0.0 body.0.1 file.0.1 body.2 in
    let value : dictionary_in bytes ≡ dictionary_of n size body.0.0 = sym end.0 ∙ sym last.0 in
    let same : n ≡ numbers = sym (h.numbers_are ∙ ap (λ (v : Dictionary). v.numbers) value) in (
      body.0.0,
      body.0.1,
      record {
        read = ap (λ (x : Cursor). read_plan (times (term_kind anywhere numbers.skip_interval) numbers.count no_terms) x) (sym place) ∙ subst (λ (m : TermNumbers). read_plan (times (term_kind anywhere m.skip_interval) m.count no_terms) head.0.1 ≡ ok_of body.0) same body.1;
        value = value ∙ ap (λ (m : TermNumbers). dictionary_of m size body.0.0) same;
        whole_file = ap (λ (x : Cursor). length x.rest) last.1 ∙ end.1;
        inside = header_inside bytes head.0.0 head.0.1 fits was.0 place;
      },
    )
