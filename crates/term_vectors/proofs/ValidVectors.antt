-- What every vector that was read is: its terms.
use Rattle.std.proofs.Common.{◌≡◌, ℕ, zero, suc, ◌+◌, ◌<◌, ◌≤◌, ◌^◌, Bool, true, false, not, cond, ltb, eqb, List, [], ◌∷◌, ◌++◌, length, take, map, Option, Some, None, Ok, refl, sym, ap, subst, ◌∙◌, arith}
use Rattle.std.specs.Prelude.{All}
use Rattle.std.specs.Option.{unwrap_or}
use Rattle.std.specs.Ordering.{is_lt}
use Rattle.std.specs.Str.{IsUtf8, is_utf8}
use Rattle.std.specs.List.{AllByRecursion}
use Rattle.std.specs.List.Sorted.{IsStrictlySortedBy}
use Rattle.std.specs.declared.cmp.Ordering.{Ordering}
use Rattle.std.specs.declared.cmp.Ordering.TheVariants.{Less, Equal, Greater}
use Rattle.std.proofs.lemmas.Bool.{eqb-false}
use Rattle.std.proofs.lemmas.List.{length-append, length-take, nil_from_length}
use Rattle.std.proofs.lemmas.List.Elements.{All-cons}
use Rattle.lu_prims.specs.Order.{text_cmp}
use Rattle.lu_prims.proofs.Units.{text_order}
use Rattle.lu_grammar.specs.Bytes.{IsBytes, Cursor, moved}
use Rattle.lu_grammar.proofs.LawLemmas.{read_is_spelled}
use Rattle.std.proofs.lemmas.Str.{IsUtf8-from_is_utf8}
use Rattle.lu_grammar.specs.Parts.{Part, Value, IsValue, num, bytes}
use Rattle.lu_grammar.specs.Reading.{read, read_part}
use Rattle.lu_grammar.specs.Records.{Shape, whole, part, first_broken, read_shape}
use Rattle.lu_grammar.specs.Plans.{Plan, done, read_plan}
use Rattle.lu_grammar.proofs.Codecs.{ok_pair, same_pair, then_ok, due_was, record_at-was, read_plan-and_then, IsBytes-after, reads-read_plan, read_part-place}
use Rattle.lu_grammar.specs.declared.bad.Bad.{Bad}
use Rattle.lu_model.specs.Index.{VectorTerm}
use Rattle.lu_model.specs.Valid.{AreAsMany, IsVectorTerm}
use Rattle.term_vectors.specs.Format.{bit_positions, bit_offsets}
use Rattle.term_vectors.specs.Vectors.{TvfRecord, term, text_after, is_above, freq_of, prefix_of, kept_count, positions_plan, spans_plan, term_shape, term_conditions, term_plan, terms_plan}
use Rattle.term_vectors.proofs.OccurrenceLemmas.{reads_positions, reads_spans}
use Rattle.term_vectors.proofs.TermLemmas.{reads_terms, term_of, spans_after, rest_of_term}
use Rattle.term_vectors.proofs.LeftLemmas.{terms-next}
use Rattle.term_vectors.proofs.ValidTerms.{positions-valid, spans-valid}

-- what is read ends behind where it starts
pub forward : {V R : Type 0} (plan : Plan V R) (c : Cursor) (v : V) (d : Cursor) → IsBytes c.rest → read_plan plan c ≡ Ok (v, d) → c.place ≤ d.place
forward plan c v d fits e = let h = reads-read_plan plan c v d fits e in omega (arith, h.place)

-- a record of a term that was read, and how far it reaches
record TermRead (c : Cursor) (r : TvfRecord) (b : Cursor) : Type 0 where
  prefix : ℕ
  suffix : List ℕ
  freq : ℕ
  is : r ≡ term prefix suffix freq
  small : freq < 2 ^ 31
  long : c.place + length suffix ≤ b.place
  fits : IsBytes b.rest

-- what a part that was read is
pub part_value : (p : Part) (c : Cursor) (v : Value p) (d : Cursor) → IsBytes c.rest → read_part p c ≡ ok_pair v d → IsValue p v
part_value p c v d fits e =
    let was = then_ok (read p c.rest) (λ x. ok_pair {E = Bad} x.0 (moved x.1 c)) (v, d) e in
    subst (IsValue p) (same_pair was.0.0 v (moved was.0.1 c) d was.2).0 (read_is_spelled p c.rest was.0.0 was.0.1 fits was.1).0

term_read : (c : Cursor) (r : TvfRecord) (b : Cursor) → IsBytes c.rest → read_shape term_shape c ≡ Ok (r, b) → TermRead c r b
term_read c r b fits e =
    let one = then_ok (read_part num c) (λ x. read_shape (after_prefix x.0) x.1) (r, b) e in
    let two = then_ok (read_part num one.0.1) (λ x. read_shape (after_length one.0.0 x.0) x.1) (r, b) one.2 in
    let three = then_ok (read_part (bytes two.0.0) two.0.1) (λ x. read_shape (after_suffix one.0.0 x.0) x.1) (r, b) two.2 in
    let four = then_ok (read_part num three.0.1) (λ x. ok_pair {E = Bad} (term one.0.0 three.0.0 x.0) x.1) (r, b) three.2 in
    let a = read_part-place num c one.0.0 one.0.1 fits one.1 in
    let k = read_part-place num one.0.1 two.0.0 two.0.1 a.1 two.1 in
    let s = read_part-place (bytes two.0.0) two.0.1 three.0.0 three.0.1 k.1 three.1 in
    let f = read_part-place num three.0.1 four.0.0 four.0.1 s.1 four.1 in
    let same = same_pair (term one.0.0 three.0.0 four.0.0) r four.0.1 b four.2 in
    let small : four.0.0 < 2 ^ 31 = part_value num three.0.1 four.0.0 four.0.1 s.1 four.1 in
    let end : four.0.1.place ≡ b.place = ap (λ (x : Cursor). x.place) same.1 in
    record { prefix = one.0.0; suffix = three.0.0; freq = four.0.0; is = sym same.0; small = small; long = omega (arith, a.0, k.0, s.0, f.0, end); fits = subst (λ (x : Cursor). IsBytes x.rest) same.1 f.1 }
  where
    after_suffix : ℕ → List ℕ → Shape TvfRecord
    after_suffix prefix suffix = part num (λ freq. whole (term prefix suffix freq))

    after_length : ℕ → ℕ → Shape TvfRecord
    after_length prefix n = part (bytes n) (λ suffix. part num (λ freq. whole (term prefix suffix freq)))

    after_prefix : ℕ → Shape TvfRecord
    after_prefix prefix = part num (λ n. part (bytes n) (λ suffix. part num (λ freq. whole (term prefix suffix freq))))

-- what a good term keeps
record GoodTerm (before : Option (List ℕ)) (r : TvfRecord) : Type 0 where
  text : IsUtf8 (text_after before r)
  above : is_above before (text_after before r) ≡ true
  some : 0 < freq_of r

good_term : (before : Option (List ℕ)) (r : TvfRecord) → first_broken (term_conditions before r) ≡ None → GoodTerm before r
good_term before r h = go (ltb (length (unwrap_or before [])) (prefix_of r)) (is_utf8 (text_after before r)) (is_above before (text_after before r)) (eqb (freq_of r) 0) refl refl refl h
  where
    go : (a b c d : Bool) → is_utf8 (text_after before r) ≡ b → is_above before (text_after before r) ≡ c → eqb (freq_of r) 0 ≡ d
        → first_broken (record { rule = 108; broken = a } ∷ record { rule = 109; broken = not b } ∷ record { rule = 110; broken = not c } ∷ record { rule = 111; broken = d } ∷ []) ≡ None → GoodTerm before r
    go true b c d ub uc ud q = cc
    go false false c d ub uc ud q = cc
    go false true false d ub uc ud q = cc
    go false true true true ub uc ud q = cc
    go false true true false ub uc ud q = let other = eqb-false (freq_of r) 0 ud in record { text = IsUtf8-from_is_utf8 (text_after before r) ub; above = uc; some = omega arith }

as_many : {X : Type 0} (bit bits freq : ℕ) (values : List X) → length values ≡ kept_count bit bits freq → AreAsMany bit bits freq values
as_many {X} bit bits freq values e = (
  λ yes. e ∙ ap (λ (b : Bool). cond b freq 0) yes,
  λ none. nil_from_length values (e ∙ ap (λ (b : Bool). cond b freq 0) none),
)

-- a term that was read, of a file that is short enough
pub record TermIs (bits : ℕ) (before : Option (List ℕ)) (t : VectorTerm) (c d : Cursor) : Type 0 where
  pub far : c.place ≤ d.place
  pub long : length t.text ≤ d.place
  pub fits : IsBytes d.rest
  pub above : is_above before t.text ≡ true
  pub valid : d.place < 2 ^ 31 → IsVectorTerm bits t

term_is : (bits : ℕ) (before : Option (List ℕ)) (c : Cursor) (t : VectorTerm) (d : Cursor) → IsBytes c.rest → length (unwrap_or before []) ≤ c.place → read_plan (term_plan bits before) c ≡ ok_pair t d → TermIs bits before t c d
unfolding read_plan
term_is bits before c t d fits short e =
    let head = due_was term_shape (λ _ r. term_conditions before r) (λ _ r. rest_of_term bits before r) c (t, d) e in
    let judged = record_at-was term_shape (term_conditions before) c head.0.0 head.0.1 head.1 in
    let r = head.0.0 in
    let b = head.0.1 in
    let good = good_term before r judged.1 in
    let read = term_read c r b fits judged.0 in
    let first = then_ok (reads_positions (kept_count bit_positions bits (freq_of r)) 0 b) (λ x. read_plan (spans_after bits before r x.0) x.1) (t, d)
    (sym (read_plan-and_then (positions_plan (kept_count bit_positions bits (freq_of r)) 0) (spans_after bits before r) b) ∙ head.2) in
    let second = then_ok (reads_spans (kept_count bit_offsets bits (freq_of r)) 0 first.0.1) (λ x. ok_pair (term_of before r first.0.0 x.0) x.1) (t, d)
    (sym (read_plan-and_then (spans_plan (kept_count bit_offsets bits (freq_of r)) 0) (λ spans. done (term_of before r first.0.0 spans)) first.0.1) ∙ first.2) in
    let ends = same_pair (term_of before r first.0.0 second.0.0) t second.0.1 d second.2 in
    let plan_p = positions_plan (kept_count bit_positions bits (freq_of r)) 0 in
    let plan_s = spans_plan (kept_count bit_offsets bits (freq_of r)) 0 in
    let fits_p = IsBytes-after plan_p b first.0.0 first.0.1 read.fits first.1 in
    let fits_s = IsBytes-after plan_s first.0.1 second.0.0 second.0.1 fits_p second.1 in
    let far_p = forward plan_p b first.0.0 first.0.1 read.fits first.1 in
    let far_s = forward plan_s first.0.1 second.0.0 second.0.1 fits_p second.1 in
    let end : second.0.1.place ≡ d.place = ap (λ (x : Cursor). x.place) ends.1 in
    let text : text_after before r ≡ take read.prefix (unwrap_or before []) ++ read.suffix = ap (text_after before) read.is in
    let size = ap length text in
    let long : length (text_after before r) ≤ d.place = omega (arith, size, length-append (take read.prefix (unwrap_or before [])) read.suffix, length-take read.prefix (unwrap_or before []), read.long, far_p, far_s, end, short) in
    let positions = positions-valid (kept_count bit_positions bits (freq_of r)) 0 b first.0.0 first.0.1 first.1 in
    let spans = spans-valid (kept_count bit_offsets bits (freq_of r)) 0 first.0.1 second.0.0 second.0.1 second.1 in
    let few : freq_of r < 2 ^ 31 = subst (λ (s : TvfRecord). freq_of s < 2 ^ 31) (sym read.is) read.small in
    record {
      far = omega (arith, read.long, far_p, far_s, end);
      long = subst (λ (u : VectorTerm). length u.text ≤ d.place) ends.0 long;
      fits = subst (λ (x : Cursor). IsBytes x.rest) ends.1 fits_s;
      above = subst (λ (u : VectorTerm). is_above before u.text ≡ true) ends.0 good.above;
      valid = λ low. subst (IsVectorTerm bits) ends.0 (record {
        text = (good.text, omega (arith, long, low));
        some = good.some;
        few = few;
        positions = as_many bit_positions bits (freq_of r) first.0.0 positions.0;
        spans = as_many bit_offsets bits (freq_of r) second.0.0 spans.0;
        rise = positions.1.rise;
        low = positions.1.low;
        within = spans.1;
      });
    }

-- ---- terms

-- the texts are above one
abbrev AreAbove : Option (List ℕ) → List VectorTerm → Type 0
AreAbove None terms = Unit {0}
AreAbove (Some s) terms = AllByRecursion (λ y. text_cmp s y ≡ Less) (map (λ t. t.text) terms)

less_of : (o : Ordering) → is_lt o ≡ true → o ≡ Less
less_of Less e = refl
less_of Equal e = cc
less_of Greater e = cc

all_further : (s t : List ℕ) (terms : List VectorTerm) → text_cmp s t ≡ Less → AllByRecursion (λ y. text_cmp t y ≡ Less) (map (λ u. u.text) terms) → AllByRecursion (λ y. text_cmp s y ≡ Less) (map (λ u. u.text) terms)
all_further s t [] less h = tt
all_further s t (u ∷ terms) less (first, rest) = (text_order.trans s t u.text less first, all_further s t terms less rest)

above-cons : (before : Option (List ℕ)) (t : VectorTerm) (terms : List VectorTerm) → is_above before t.text ≡ true → AllByRecursion (λ y. text_cmp t.text y ≡ Less) (map (λ u. u.text) terms) → AreAbove before (t ∷ terms)
above-cons None t terms above rest = tt
above-cons (Some s) t terms above rest = let less = less_of (text_cmp s t.text) above in (less, all_further s t.text terms less rest)

pub record TermsAre (bits n : ℕ) (before : Option (List ℕ)) (terms : List VectorTerm) (c d : Cursor) : Type 0 where
  pub many : length terms ≡ n
  pub far : c.place ≤ d.place
  pub fits : IsBytes d.rest
  pub above : AreAbove before terms
  pub rise : IsStrictlySortedBy text_cmp (map (λ t. t.text) terms)
  pub valid : d.place < 2 ^ 31 → All (IsVectorTerm bits) terms

pub terms_are : (bits n : ℕ) (before : Option (List ℕ)) (c : Cursor) (terms : List VectorTerm) (d : Cursor) → IsBytes c.rest → length (unwrap_or before []) ≤ c.place → reads_terms bits n before c ≡ Ok (terms, d) → TermsAre bits n before terms c d
unfolding terms_plan read_plan IsStrictlySortedBy
terms_are bits zero before c terms d fits short e =
    let same = same_pair [] terms c d e in
    subst (λ (ts : List VectorTerm). TermsAre bits 0 before ts c d) same.0
    (subst (λ (x : Cursor). TermsAre bits 0 before [] c x) same.1 (record { many = refl; far = omega arith; fits = fits; above = none_above before; rise = tt; valid = λ low k x lt. absurd (omega arith) }))
  where
    none_above : (before : Option (List ℕ)) → AreAbove before []
    none_above None = tt
    none_above (Some s) = tt
terms_are bits (suc n) before c terms d fits short e =
    let was = terms-next bits n before c terms d e in
    let t = was.0.0 in
    let b = was.0.1 in
    let one = term_is bits before c t b fits short was.1 in
    let rest = terms_are bits n (Some t.text) b was.2.0 d one.fits one.long was.2.1 in
    subst (λ (ts : List VectorTerm). TermsAre bits (suc n) before ts c d) (sym was.2.2) (record {
      many = ap suc rest.many;
      far = omega (arith, one.far, rest.far);
      fits = rest.fits;
      above = above-cons before t was.2.0 one.above rest.above;
      rise = (rest.above, rest.rise);
      valid = λ low. All-cons (IsVectorTerm bits) t was.2.0 (one.valid (omega (arith, rest.far, low))) (rest.valid low);
    })
