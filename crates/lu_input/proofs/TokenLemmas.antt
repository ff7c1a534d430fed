-- The walk over the characters of a text.
use Rattle.std.proofs.Common.{◌≡◌, ℕ, ◌+◌, ◌-◌, ◌<◌, ◌≤◌, Bool, true, false, cond, ◌&&◌, List, [], ◌∷◌, ◌++◌, length, take, drop, refl, sym, ap, subst, ◌∙◌, arith, append_assoc, length-append}
use Rattle.std.proofs.lemmas.Bool.Decides.{nat_tests}
use Rattle.std.proofs.Math.Seq.{drop-append_seam, take-append_seam}
use Rattle.std.proofs.lemmas.List.{append-nil}
use Rattle.std.specs.Char.{is_whitespace}
use Rattle.std.specs.Char.{len_utf8}
use Rattle.std.specs.Str.{chars, IsUtf8, IsCharBoundary}
use lib.Utf8.{scalars, scalar, encodes, encode}
use Rattle.std.proofs.lemmas.Str.{chars-nil, encodes-chars, chars_past_char, IsUtf8-past_char, chars-append, IsUtf8-append, IsUtf8-encode, IsUtf8-nil, cons_from_encodes, length-encode, len_utf8_bounds, IsCharBoundary-at_seam}
use Rattle.lu_types.specs.declared.document.Token.{Token}
use Rattle.lu_input.specs.Tokens.{width, closed_token, tokens_after, tokens_of}

-- So much of a text was walked: `tokens` are those before the byte `begin`, where what is read of a run begins, at the unit `start`;
-- the walk stands at the byte `place` and the unit `here`, before the rest.
pub record Walked (text : List ℕ) (tokens : List Token) (begin start here place : ℕ) (rest : List ℕ) : Type 0 where
  pub front : List ℕ
  pub run : List ℕ
  pub parts : text ≡ front ++ (run ++ rest)
  pub begins : length front ≡ begin
  pub places : place ≡ begin + length run
  pub run_utf8 : IsUtf8 run
  pub rest_utf8 : IsUtf8 rest
  pub units : here ≤ place
  pub starts : start ≤ here
  pub few : length tokens ≤ begin
  pub same : tokens_of text ≡ tokens ++ tokens_after (length tokens) (chars run) start here (chars rest)

pub closed_token-run : (position : ℕ) (run : List ℕ) (start end : ℕ) → IsUtf8 run → 0 < length run
    → closed_token position (chars run) start end ≡ record { text = run; position = position; start = start; end = end; payload = [] } ∷ []
closed_token-run position run start end utf8 some = at (chars run) (encodes-chars run utf8)
  where
    at : (cs : List ℕ) → encodes cs ≡ run → closed_token position cs start end ≡ record { text = run; position = position; start = start; end = end; payload = [] } ∷ []
    at [] e = absurd (omega (arith, ap length e))
    at (c ∷ cs) e = ap (λ t. record { text = t; position = position; start = start; end = end; payload = [] } ∷ []) e

pub closed_token-empty : (position : ℕ) (run : List ℕ) (start end : ℕ) → length run ≡ 0 → closed_token position (chars run) start end ≡ []
closed_token-empty position [] start end e = ap (λ cs. closed_token position cs start end) chars-nil
closed_token-empty position (b ∷ run) start end e = absurd (omega arith)

pub width-le : (c : ℕ) → width c ≤ len_utf8 c
width-le c = grind (arith, nat_tests)

few_closed : (position : ℕ) (cs : List ℕ) (start end : ℕ) → length (closed_token position cs start end) ≤ 1
few_closed position [] start end = omega arith
few_closed position (c ∷ cs) start end = omega arith

both_true : (a b : Bool) → (a && b) ≡ true → a ≡ true
both_true true b e = refl
both_true false b e = e

first_scalar : (bs rest : List ℕ) (c : ℕ) → IsUtf8 bs → bs ≡ encode c ++ rest → scalar c ≡ true
first_scalar bs rest c utf8 e =
    let cut = cons_from_encodes utf8.0 rest c (utf8.1.1 ∙ e) in
    both_true (scalar c) (scalars cut.0) (sym (ap scalars cut.1) ∙ utf8.1.0)

chars-encode : (c : ℕ) → scalar c ≡ true → chars (encode c) ≡ c ∷ []
chars-encode c h = chars_past_char (encode c) [] c (IsUtf8-encode c h) (sym (append-nil (encode c))) ∙ ap (λ cs. c ∷ cs) chars-nil

pub walked_start : (text rest : List ℕ) (place : ℕ) → IsUtf8 text → rest ≡ text → place ≡ 0 → Walked text [] 0 0 0 place rest
walked_start text rest place utf8 e at = record {
  front = [];
  run = [];
  parts = sym e;
  begins = refl;
  places = at;
  run_utf8 = IsUtf8-nil;
  rest_utf8 = subst IsUtf8 (sym e) utf8;
  units = omega arith;
  starts = omega arith;
  few = omega arith;
  same = ap (λ cs. tokens_after 0 cs 0 0 (chars text)) (sym chars-nil) ∙ ap (λ bs. tokens_after 0 (chars []) 0 0 (chars bs)) (sym e);
}

module _ (text : List ℕ) (tokens : List Token) (begin start here place : ℕ) (rest : List ℕ) (w : Walked text tokens begin start here place rest) where
  pub run_is : take (place - begin) (drop begin text) ≡ w.run
  run_is =
      let n : place - begin ≡ length w.run = omega (arith, w.places) in
      ap (λ bs. take (place - begin) (drop begin bs)) w.parts
      ∙ ap (λ k. take (place - begin) (drop k (w.front ++ (w.run ++ rest)))) (sym w.begins)
      ∙ ap (λ bs. take (place - begin) bs) (drop-append_seam w.front (w.run ++ rest))
      ∙ ap (λ k. take k (w.run ++ rest)) n
      ∙ take-append_seam w.run rest

  no_bytes : (bs : List ℕ) → length bs ≡ 0 → bs ≡ []
  no_bytes [] h = refl
  no_bytes (b ∷ bs) h = absurd (omega arith)

  pub rest_is : length rest ≡ 0 → drop begin text ≡ w.run
  rest_is e =
      ap (λ bs. drop begin bs) w.parts
      ∙ ap (λ k. drop k (w.front ++ (w.run ++ rest))) (sym w.begins)
      ∙ drop-append_seam w.front (w.run ++ rest)
      ∙ ap (λ bs. w.run ++ bs) (no_bytes rest e)
      ∙ append-nil w.run

  pub begins_char : IsCharBoundary text begin
  begins_char = subst (λ k. IsCharBoundary text k) w.begins (IsCharBoundary-at_seam text w.front (w.run ++ rest) w.parts (IsUtf8-append w.run rest w.run_utf8 w.rest_utf8))

  pub stands_char : IsCharBoundary text place
  stands_char =
      let e : text ≡ (w.front ++ w.run) ++ rest = w.parts ∙ sym (append_assoc w.front w.run rest) in
      let n : length (w.front ++ w.run) ≡ place = omega (arith, length-append w.front w.run, w.begins, w.places) in
      subst (λ k. IsCharBoundary text k) n (IsCharBoundary-at_seam text (w.front ++ w.run) rest e w.rest_utf8)

  pub stands_within : place ≤ length text
  stands_within = omega (arith, ap length w.parts, length-append w.front (w.run ++ rest), length-append w.run rest, w.begins, w.places)

  pub walked_end : length rest ≡ 0 → tokens_of text ≡ tokens ++ closed_token (length tokens) (chars w.run) start here
  unfolding tokens_after
  walked_end e = w.same ∙ ap (λ bs. tokens ++ tokens_after (length tokens) (chars w.run) start here (chars bs)) (no_bytes rest e) ∙ ap (λ cs. tokens ++ tokens_after (length tokens) (chars w.run) start here cs) chars-nil

  module _ (c : ℕ) (more : List ℕ) (n : ℕ) (e : rest ≡ encode c ++ more) (wide : n ≡ width c) where
    long : length (encode c) ≡ len_utf8 c
    long = length-encode c

    next : chars rest ≡ c ∷ chars more
    next = chars_past_char rest more c w.rest_utf8 e

    pub place_within : place + length (encode c) ≤ length text
    place_within = omega (arith, stands_within, ap length w.parts, length-append w.front (w.run ++ rest), length-append w.run rest, w.begins, w.places, ap length e, length-append (encode c) more)

    pub walked_dark : (after : ℕ) → after ≡ place + length (encode c) → is_whitespace c ≡ false → Walked text tokens begin start (here + n) after more
    unfolding tokens_after
    walked_dark after at dark =
        let h = first_scalar rest more c w.rest_utf8 e in
        let le = width-le c in
        record {
          front = w.front;
          run = w.run ++ encode c;
          parts = w.parts ∙ ap (λ bs. w.front ++ (w.run ++ bs)) e ∙ ap (λ bs. w.front ++ bs) (sym (append_assoc w.run (encode c) more));
          begins = w.begins;
          places = omega (arith, at, w.places, length-append w.run (encode c));
          run_utf8 = IsUtf8-append w.run (encode c) w.run_utf8 (IsUtf8-encode c h);
          rest_utf8 = IsUtf8-past_char rest more c w.rest_utf8 e;
          units = omega (arith, at, long, le, wide, w.units);
          starts = omega (arith, w.starts);
          few = w.few;
          same = w.same
              ∙ ap (λ cs. tokens ++ tokens_after (length tokens) (chars w.run) start here cs) next
              ∙ ap (λ b. tokens ++ cond b (closed_token (length tokens) (chars w.run) start here ++ tokens_after (length tokens + length (closed_token (length tokens) (chars w.run) start here)) [] (here + width c) (here + width c) (chars more)) (tokens_after (length tokens) (chars w.run ++ c ∷ []) start (here + width c) (chars more))) dark
              ∙ ap (λ cs. tokens ++ tokens_after (length tokens) (chars w.run ++ cs) start (here + width c) (chars more)) (sym (chars-encode c h))
              ∙ ap (λ cs. tokens ++ tokens_after (length tokens) cs start (here + width c) (chars more)) (sym (chars-append w.run (encode c) w.run_utf8))
              ∙ ap (λ k. tokens ++ tokens_after (length tokens) (chars (w.run ++ encode c)) start (here + k) (chars more)) (sym wide);
        }

    pub walked_white : (after : ℕ) → after ≡ place + length (encode c) → is_whitespace c ≡ true
        → (news : List Token) → news ≡ tokens ++ closed_token (length tokens) (chars w.run) start here → Walked text news after (here + n) (here + n) after more
    unfolding tokens_after
    walked_white after at white news is =
        let h = first_scalar rest more c w.rest_utf8 e in
        let le = width-le c in
        let shut = closed_token (length tokens) (chars w.run) start here in
        let few = few_closed (length tokens) (chars w.run) start here in
        let count : length news ≡ length tokens + length (closed_token (length tokens) (chars w.run) start here) = ap length is ∙ length-append tokens (closed_token (length tokens) (chars w.run) start here) in
        record {
          front = w.front ++ (w.run ++ encode c);
          run = [];
          parts = w.parts ∙ ap (λ bs. w.front ++ (w.run ++ bs)) e ∙ ap (λ bs. w.front ++ bs) (sym (append_assoc w.run (encode c) more)) ∙ sym (append_assoc w.front (w.run ++ encode c) more);
          begins = omega (arith, at, w.places, w.begins, length-append w.front (w.run ++ encode c), length-append w.run (encode c));
          places = omega arith;
          run_utf8 = IsUtf8-nil;
          rest_utf8 = IsUtf8-past_char rest more c w.rest_utf8 e;
          units = omega (arith, at, long, le, wide, w.units);
          starts = omega arith;
          few = omega (arith, count, few, at, long, len_utf8_bounds c, w.few, w.places);
          same = w.same
              ∙ ap (λ cs. tokens ++ tokens_after (length tokens) (chars w.run) start here cs) next
              ∙ ap (λ b. tokens ++ cond b (shut ++ tokens_after (length tokens + length shut) [] (here + width c) (here + width c) (chars more)) (tokens_after (length tokens) (chars w.run ++ c ∷ []) start (here + width c) (chars more))) white
              ∙ sym (append_assoc tokens shut _)
              ∙ ap (λ ts. ts ++ tokens_after (length tokens + length shut) [] (here + width c) (here + width c) (chars more)) (sym is)
              ∙ ap (λ k. news ++ tokens_after k [] (here + width c) (here + width c) (chars more)) (sym count)
              ∙ ap (λ k. news ++ tokens_after (length news) [] (here + k) (here + k) (chars more)) (sym wide)
              ∙ ap (λ cs. news ++ tokens_after (length news) cs (here + n) (here + n) (chars more)) (sym chars-nil);
        }

pub width-is : (c n : ℕ) → (c < 65536 → n ≡ 1) → (65536 ≤ c → n ≡ 2) → n ≡ width c
width-is c n low high = grind (arith, nat_tests)

pub pushed-run : (after before : List Token) (text payload run : List ℕ) (position n start end : ℕ) → after ≡ before ++ record { text = text; position = position; start = start; end = end; payload = payload } ∷ []
    → text ≡ run → payload ≡ [] → position ≡ n → IsUtf8 run → 0 < length run → after ≡ before ++ closed_token n (chars run) start end
pushed-run after before text payload run position n start end e t p at utf8 some =
    e
    ∙ ap (λ (x : List ℕ). before ++ record { text = x; position = position; start = start; end = end; payload = payload } ∷ []) t
    ∙ ap (λ (x : List ℕ). before ++ record { text = run; position = position; start = start; end = end; payload = x } ∷ []) p
    ∙ ap (λ (x : ℕ). before ++ record { text = run; position = x; start = start; end = end; payload = [] } ∷ []) at
    ∙ ap (λ ts. before ++ ts) (sym (closed_token-run n run start end utf8 some))
