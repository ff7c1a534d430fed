-- What a check of a whole file shows.
use Rattle.std.proofs.Common.{◌≡◌, ℕ, zero, suc, true, false, Bool, eqb, ltb, List, [], ◌∷◌, ◌++◌, length, Option, Some, None, Result, Ok, Err, refl, sym, ap, ◌∙◌}
use Rattle.std.specs.Prelude.{if◌then◌else◌, not}
use Rattle.std.specs.Str.{is_utf8}
use Rattle.lu_types.specs.RuleNumbers as number
use Rattle.std.proofs.lemmas.Bool.{eq-eqb, ne_eqb}
use Rattle.lu_grammar.specs.Bytes.{IsBytes, Cursor, start_of}
use Rattle.lu_grammar.specs.Reading.{◌>>=◌, value_or}
use Rattle.lu_grammar.specs.Records.{Shape, Condition, first_broken, read_shape, record_at, judged, unless_broken}
use Rattle.lu_grammar.specs.declared.bad.Bad.{Bad}
use Rattle.lu_grammar.specs.Plans.{Plan, done, Broken, broken_at, one, each, times, read_plan, ended, read_file}
use Rattle.lu_grammar.proofs.Plans.{read_due, read_due_broken, ok_of, err_is_not_ok}
use Rattle.lu_grammar.proofs.Loops.{read_plan-and_then, then_ok, one-was, one-read}
use Rattle.lu_grammar.proofs.Records.{ok_pair, record_at-read}
use Rattle.lu_grammar.proofs.Files.{FirstFault-from}
use Rattle.lu_types.specs.declared.fault.CodecFault.{CodecFault}
use Rattle.lu_types.specs.declared.fault.CodecFault.TheVariants.{Spot, OutOfMemory}
use Rattle.lu_types.specs.declared.kind.FileKind.{FileKind}
use Rattle.lu_types.specs.declared.term.TermNumbers.{TermNumbers}
use Rattle.term_dict.specs.Headings.{header, heading_conditions, numbers_of, Line, heading, entry, heading_of, on_entry}
use Rattle.term_dict.specs.Entries.{TermRecord}
use Rattle.term_dict.specs.Terms.{DictionaryTerm, last_term, term_after}
use Rattle.term_dict.specs.Dictionary.{Dictionary, TermConditions, anywhere, Progress, no_terms, term_place_conditions, against, term_conditions, term_kind, terms_plan, dictionary_plan}
use Rattle.term_dict.specs.Checks.{IsHeader}
use Rattle.lu_types.specs.Judging.{IsBrokenSo, IsFault}
use Rattle.term_dict.specs.Content.{dictionary_in, no_dictionary}

-- ---- from the parts of a file to the whole

pub header-good : (standing : TermConditions) (size : ℕ) (c d : Cursor) (numbers : TermNumbers) → IsHeader c d (Ok numbers) → read_plan (dictionary_plan standing size) c ≡ read_plan (terms_plan standing size numbers) d
header-good standing size c d numbers (h, read, is, bounded) =
    read_due header (λ place line. heading_conditions (heading_of line)) (λ place line. terms_plan standing size (numbers_of (heading_of line))) c (heading h) d read
    ∙ ap (λ (n : TermNumbers). read_plan (terms_plan standing size n) d) (sym is)

pub header-broken : (standing : TermConditions) (size : ℕ) (c d : Cursor) (rule : ℕ) → IsHeader c d (Err rule) → read_plan (dictionary_plan standing size) c ≡ Err (record { offset = c.place; rule = rule })
header-broken standing size c d rule broken =
    read_due_broken header (λ place line. heading_conditions (heading_of line)) (λ place line. terms_plan standing size (numbers_of (heading_of line))) c rule broken

-- what the terms make of the numbers
abbrev pub dictionary_of : TermNumbers → ℕ → Progress → Dictionary
dictionary_of numbers size s = record { numbers = numbers; terms = s.terms; starts = s.starts; size = size }

-- nothing more after the terms
abbrev pub finish : TermNumbers → ℕ → Progress → Plan Dictionary (Line TermRecord)
finish numbers size s = done (dictionary_of numbers size s)

pub terms-read : (standing : TermConditions) (size : ℕ) (numbers : TermNumbers) (c d : Cursor) (s : Progress) → read_plan (times (term_kind standing numbers.skip_interval) numbers.count no_terms) c ≡ Ok (s, d)
    → read_plan (terms_plan standing size numbers) c ≡ Ok (dictionary_of numbers size s, d)
unfolding read_plan
terms-read standing size numbers c d s read =
    read_plan-and_then (times (term_kind standing numbers.skip_interval) numbers.count no_terms) (finish numbers size) c
    ∙ ap (λ (r : Result (Progress × Cursor) Broken). r >>= λ x. read_plan (finish numbers size x.0) x.1) read

pub terms-broken : (standing : TermConditions) (size : ℕ) (numbers : TermNumbers) (c : Cursor) (b : Broken) → read_plan (times (term_kind standing numbers.skip_interval) numbers.count no_terms) c ≡ Err b
    → read_plan (terms_plan standing size numbers) c ≡ Err b
terms-broken standing size numbers c b broken =
    read_plan-and_then (times (term_kind standing numbers.skip_interval) numbers.count no_terms) (finish numbers size) c
    ∙ ap (λ (r : Result (Progress × Cursor) Broken). r >>= λ x. read_plan (finish numbers size x.0) x.1) broken

-- a file that was read to its end, or not
pub file-read : {V R : Type 0} (plan : Plan V R) (bytes : List ℕ) (v : V) (d : Cursor) → read_plan plan (start_of bytes) ≡ Ok (v, d) → length d.rest ≡ 0 → read_file plan bytes ≡ Ok v
file-read {V} {R} plan bytes v d read none = let t : eqb (length d.rest) 0 ≡ true = eq-eqb _ _ none in ap (λ (r : Result (V × Cursor) Broken). r >>= ended) read ∙ rw t refl

pub file-trailing : {V R : Type 0} (plan : Plan V R) (bytes : List ℕ) (v : V) (d : Cursor) → read_plan plan (start_of bytes) ≡ Ok (v, d) → (length d.rest ≡ 0 → ⊥) → read_file plan bytes ≡ Err (record { offset = d.place; rule = number.trailing })
file-trailing {V} {R} plan bytes v d read some = let f : eqb (length d.rest) 0 ≡ false = ne_eqb _ _ some in ap (λ (r : Result (V × Cursor) Broken). r >>= ended) read ∙ rw f refl

pub file-broken : {V R : Type 0} (plan : Plan V R) (bytes : List ℕ) (b : Broken) → read_plan plan (start_of bytes) ≡ Err b → read_file plan bytes ≡ Err b
file-broken {V} {R} plan bytes b broken = ap (λ (r : Result (V × Cursor) Broken). r >>= ended) broken

-- what is so of reading is so of the file
pub IsFault-from : {V R : Type 0} (kind : FileKind) (plan : Plan V R) (bytes : List ℕ) (fault : CodecFault) → IsBytes bytes → IsBrokenSo kind (read_file plan bytes) fault → IsFault kind plan bytes fault
IsFault-from kind plan bytes (Spot s) fits h = (h.0, FirstFault-from plan bytes (record { offset = s.offset; rule = s.rule }) fits h.1)
IsFault-from kind plan bytes OutOfMemory fits h = tt

-- ---- the same terms, whatever segment they are in

-- what is good under more conditions is good under some of them
good-back : (xs ys : List Condition) → first_broken (xs ++ ys) ≡ None → first_broken ys ≡ None
good-back [] ys good = good
good-back (c ∷ xs) ys good = go c.broken good (good-back xs ys)
  where
    go : (b : Bool) → (if b then Some c.rule else first_broken (xs ++ ys)) ≡ None → (first_broken (xs ++ ys) ≡ None → first_broken ys ≡ None) → first_broken ys ≡ None
    go true e later = cc
    go false e later = later e

good-front : (a b : Bool) (rule other : ℕ) (x y : Option ℕ) → (x ≡ None → y ≡ None) → (if a then Some rule else if b then Some other else x) ≡ None → (if a then Some rule else if b then Some other else y) ≡ None
good-front true b rule other x y less good = cc
good-front false true rule other x y less good = cc
good-front false false rule other x y less good = less good

good-anywhere : (standing : TermConditions) (before : List DictionaryTerm) (e : TermRecord) (t : DictionaryTerm) → first_broken (against standing before e t) ≡ None → first_broken (against anywhere before e t) ≡ None
good-anywhere standing before e t good =
    good-front (ltb (length (last_term before).text) e.prefix) (not (is_utf8 t.text)) number.term_prefix number.term_utf8 (first_broken (standing before t ++ term_place_conditions t)) (first_broken (term_place_conditions t)) (good-back (standing before t) (term_place_conditions t)) good

line-anywhere : (standing : TermConditions) (before : List DictionaryTerm) (line : Line TermRecord) → first_broken (on_entry [] (term_conditions standing before) line) ≡ None → first_broken (on_entry [] (term_conditions anywhere before) line) ≡ None
line-anywhere standing before (heading h) good = refl
line-anywhere standing before (entry e) good = good-anywhere standing before e (term_after (last_term before) e) good

-- what two answers that are one are
pub inner : {A E : Type 0} (x y : A) → ok_of {E = E} x ≡ ok_of y → x ≡ y
inner {A} {E} x y e = ap out e
  where
    out : Result A E → A
    out (Ok z) = z
    out (Err b) = x

-- a record that was good was read
pub record_at-was : {R : Type 0} (shape : Shape R) (conditions : R → List Condition) (c : Cursor) (x : R) (d : Cursor) → record_at shape conditions c ≡ ok_pair x d → (read_shape shape c ≡ ok_pair x d) × (first_broken (conditions x) ≡ None)
unfolding record_at
record_at-was {R} shape conditions c x d e = go (read_shape shape c) e
  where
    good : (y : R × Cursor) (o : Option ℕ) → unless_broken y o ≡ ok_of (x, d) → (y ≡ (x, d)) × (o ≡ None)
    good y None e = (inner y (x, d) e, refl)
    good y (Some rule) e = absurd (err_is_not_ok e)

    go : (r : Result (R × Cursor) Bad) → judged conditions r ≡ ok_of (x, d) → (r ≡ ok_pair x d) × (first_broken (conditions x) ≡ None)
    go (Err bad) e = absurd (err_is_not_ok e)
    go (Ok y) e = let p = good y (first_broken (conditions y.0)) e in (ap (λ (z : R × Cursor). ok_of z) p.0, ap (λ (z : R × Cursor). first_broken (conditions z.0)) (sym p.0) ∙ p.1)

times-anywhere : (standing : TermConditions) (interval n : ℕ) (s : Progress) (c : Cursor) (z : Progress × Cursor) → read_plan (times (term_kind standing interval) n s) c ≡ ok_of z → read_plan (times (term_kind anywhere interval) n s) c ≡ ok_of z
unfolding each read_plan
times-anywhere standing interval zero s c z e = e
times-anywhere standing interval (suc n) s c z e =
    let first = then_ok (read_plan (one (term_kind standing interval) s) c) (λ x. read_plan (times (term_kind standing interval) n x.0) x.1) z (sym (read_plan-and_then (one (term_kind standing interval) s) (times (term_kind standing interval) n) c) ∙ e) in
    let was = one-was (term_kind standing interval) s c first.0 first.1 in
    let good = record_at-was ((term_kind standing interval).shape s) ((term_kind standing interval).conditions s c.place) c was.0 first.0.1 was.1 in
    let again = record_at-read ((term_kind anywhere interval).shape s) ((term_kind anywhere interval).conditions s c.place) c was.0 first.0.1 good.0 (line-anywhere standing s.terms was.0 good.1) in
    let turn : read_plan (one (term_kind anywhere interval) s) c ≡ ok_of first.0 = one-read (term_kind anywhere interval) s c was.0 first.0.1 again ∙ ap (λ (t : Progress). ok_pair t first.0.1) was.2 in
    read_plan-and_then (one (term_kind anywhere interval) s) (times (term_kind anywhere interval) n) c
    ∙ ap (λ (r : Result (Progress × Cursor) Broken). r >>= λ x. read_plan (times (term_kind anywhere interval) n x.0) x.1) turn
    ∙ times-anywhere standing interval n first.0.0 first.0.1 z first.2

pub file-anywhere : (standing : TermConditions) (size : ℕ) (bytes : List ℕ) (v : Dictionary) → read_file (dictionary_plan standing size) bytes ≡ ok_of v → read_file (dictionary_plan anywhere size) bytes ≡ ok_of v
unfolding read_plan
file-anywhere standing size bytes v e =
    let c = start_of bytes in
    let whole = then_ok (read_plan (dictionary_plan standing size) c) ended v e in
    let head = then_ok (broken_at 0 (record_at (header {E = TermRecord}) (λ line. heading_conditions (heading_of line)) c)) (λ x. read_plan (terms_plan standing size (numbers_of (heading_of x.0))) x.1) whole.0 whole.1 in
    let numbers = numbers_of (heading_of head.0.0) in
    let body = then_ok (read_plan (times (term_kind standing numbers.skip_interval) numbers.count no_terms) head.0.1) (λ x. read_plan (finish numbers size x.0) x.1) whole.0
    (sym (read_plan-and_then (times (term_kind standing numbers.skip_interval) numbers.count no_terms) (finish numbers size) head.0.1) ∙ head.2) in
    ap (λ (r : Result (Line TermRecord × Cursor) Broken). (r >>= λ x. read_plan (terms_plan anywhere size (numbers_of (heading_of x.0))) x.1) >>= ended) head.1
    ∙ ap (λ (r : Result (Dictionary × Cursor) Broken). r >>= ended)
    (read_plan-and_then (times (term_kind anywhere numbers.skip_interval) numbers.count no_terms) (finish numbers size) head.0.1
    ∙ ap (λ (r : Result (Progress × Cursor) Broken). r >>= λ x. read_plan (finish numbers size x.0) x.1) (times-anywhere standing numbers.skip_interval numbers.count no_terms head.0.1 body.0 body.1)
    ∙ body.2)
    ∙ whole.2

-- and so the bytes stand for what they stand for in a segment
pub dictionary_in-is : (standing : TermConditions) (bytes : List ℕ) (v : Dictionary) → read_file (dictionary_plan standing (length bytes)) bytes ≡ ok_of v → dictionary_in bytes ≡ v
dictionary_in-is standing bytes v e = ap (λ (r : Result Dictionary Broken). value_or no_dictionary r) (file-anywhere standing (length bytes) bytes v e)
