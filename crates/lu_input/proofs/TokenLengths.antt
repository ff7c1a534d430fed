-- The texts among the tokens of JSON are no longer than what they were read from.
use Rattle.std.proofs.Common.{◌≡◌, ℕ, suc, ◌+◌, ◌-◌, ◌≤◌, max, Bool, true, false, cond, ◌&&◌, ◌==◌, nat_lt, List, [], ◌∷◌, length, take, drop, Option, Some, None, option_and_then, refl, arith}
use Rattle.std.specs.Prelude.{⊤, nat_eq}
use Rattle.std.specs.List.{starts_with}
use Rattle.std.specs.Char.{encode_utf8}
use Rattle.std.proofs.lemmas.List.{length-append}
use Rattle.json.specs.Token.{Token}
use Rattle.json.specs.Text.{code_unit, short_escape, is_high_surrogate, is_low_surrogate, surrogate_pair, Within, plain, after_backslash, after_u, after_high, prepend, content}
use Rattle.json.specs.Ascii as ascii
use Rattle.json.specs.Word.{head, ends_word, literal, number_before, after_number, word}
use Rattle.json.specs.Lex.{Lexeme, token, comma, colon, Class, quote, backslash, operator, space, other, class, operator_lexeme, string_token, Mode, between, in_word, in_string, in_escape, lex_byte, lex, Place, fresh, after_value, after_comma, after_key, begins_colon, may_begin, may_close, if_allowed, place_token, punctuate, tokens}

-- the length of the text of a token, which may be a key elsewhere
abbrev pub text_length : Token → ℕ
text_length Token.begin_object = 0
text_length Token.end_object = 0
text_length Token.begin_array = 0
text_length Token.end_array = 0
text_length (Token.key s) = 0
text_length (Token.string s) = length s
text_length (Token.number s) = 0
text_length (Token.boolean b) = 0
text_length Token.null = 0
text_length Token.bad = 0

abbrev pub longest_text : List Token → ℕ
longest_text [] = 0
longest_text (t ∷ ts) = max (text_length t) (longest_text ts)

abbrev lexeme_length : Lexeme → ℕ
lexeme_length (token t) = text_length t
lexeme_length comma = 0
lexeme_length colon = 0

abbrev longest_lexeme : List Lexeme → ℕ
longest_lexeme [] = 0
longest_lexeme (l ∷ ls) = max (lexeme_length l) (longest_lexeme ls)

-- ---- lexemes

abbrev AtMost : ℕ → Option (List ℕ) → Type 0
AtMost n None = ⊤
AtMost n (Some s) = length s ≤ n

either : (n : ℕ) (b : Bool) (x y : Option (List ℕ)) → AtMost n x → AtMost n y → AtMost n (cond b x y)
either n true x y f g = f
either n false x y f g = g

then : (n : ℕ) (f : ℕ → Option (List ℕ)) (o : Option ℕ) → ((u : ℕ) → AtMost n (f u)) → AtMost n (option_and_then f o)
then n f None h = tt
then n f (Some u) h = h u

wider : (n m : ℕ) (r : Option (List ℕ)) → AtMost m r → m ≤ n → AtMost n r
wider n m None h le = tt
wider n m (Some s) h le = omega arith

longer : (n m : ℕ) (a : List ℕ) (r : Option (List ℕ)) → AtMost m r → length a + m ≤ n → AtMost n (prepend a r)
longer n m a None h le = tt
longer n m a (Some s) h le = omega (arith, length-append a s)

length-encode : (u : ℕ) → length (encode_utf8 u) ≤ 4
unfolding encode_utf8
length-encode u = grind arith

-- what a string of JSON spells is no longer than it
content-le : (w : Within) (xs : List ℕ) → AtMost (length xs) (content w xs)
unfolding content
content-le plain [] = tt
content-le plain (x ∷ xs) =
    let n = suc (length xs) in
    either n (x == 34) _ _ (omega arith) (either n (x == 92) _ _ (wider n (length xs) _ (content-le after_backslash xs) (omega arith))
    (either n (nat_lt x 32) _ _ tt (longer n (length xs) (x ∷ []) _ (content-le plain xs) (omega arith))))
content-le after_backslash [] = tt
content-le after_backslash (x ∷ xs) =
    let n = suc (length xs) in
    either n (x == 117) _ _ (wider n (length xs) _ (content-le after_u xs) (omega arith)) (then n _ (short_escape x) (λ c. longer n (length xs) (c ∷ []) _ (content-le plain xs) (omega arith)))
content-le after_u [] = tt
content-le after_u (a ∷ []) = tt
content-le after_u (a ∷ b ∷ []) = tt
content-le after_u (a ∷ b ∷ c ∷ []) = tt
content-le after_u (a ∷ b ∷ c ∷ d ∷ xs) =
    let n = suc (suc (suc (suc (length xs)))) in
    then n _ (code_unit a b c d) (λ u. either n (is_high_surrogate u) _ _ (wider n (length xs) _ (content-le (after_high u) xs) (omega arith))
    (either n (is_low_surrogate u) _ _ tt (longer n (length xs) (encode_utf8 u) _ (content-le plain xs) (omega (arith, length-encode u)))))
content-le (after_high h) [] = tt
content-le (after_high h) (s ∷ []) = tt
content-le (after_high h) (s ∷ u ∷ []) = tt
content-le (after_high h) (s ∷ u ∷ a ∷ []) = tt
content-le (after_high h) (s ∷ u ∷ a ∷ b ∷ []) = tt
content-le (after_high h) (s ∷ u ∷ a ∷ b ∷ c ∷ []) = tt
content-le (after_high h) (s ∷ u ∷ a ∷ b ∷ c ∷ d ∷ xs) =
    let n = suc (suc (suc (suc (suc (suc (length xs)))))) in
    either n ((s == 92) && (u == 117)) _ _
    (then n _ (code_unit a b c d) (λ l. either n (is_low_surrogate l) _ _ (longer n (length xs) (encode_utf8 (surrogate_pair h l)) _ (content-le plain xs) (omega (arith, length-encode (surrogate_pair h l)))) tt)) tt

of_content : (n : ℕ) (o : Option (List ℕ)) → AtMost n o → text_length (string_token o) ≤ n
of_content n None h = omega arith
of_content n (Some s) h = h

either_lexeme : (b : Bool) (l m : Lexeme) → lexeme_length l ≡ 0 → lexeme_length m ≡ 0 → lexeme_length (cond b l m) ≡ 0
either_lexeme true l m e f = e
either_lexeme false l m e f = f

either_token : (b : Bool) (t u : Token) → text_length t ≡ 0 → text_length u ≡ 0 → text_length (cond b t u) ≡ 0
either_token true t u e f = e
either_token false t u e f = f

operator-none : (x : ℕ) → lexeme_length (operator_lexeme x) ≡ 0
operator-none x =
    either_lexeme (x == ascii.open_brace) (token Token.begin_object) _ refl (either_lexeme (x == ascii.close_brace) (token Token.end_object) _ refl
    (either_lexeme (x == ascii.open_bracket) (token Token.begin_array) _ refl (either_lexeme (x == ascii.close_bracket) (token Token.end_array) _ refl (either_lexeme (x == ascii.comma) comma colon refl refl))))

number-none : (t : List ℕ) (o : Option (List ℕ)) → text_length (number_before t o) ≡ 0
number-none t None = refl
number-none t (Some rest) = either_token (ends_word rest) (Token.number (take (length t - length rest) t)) Token.bad refl refl

literal-none : (name : List ℕ) (u : Token) (t : List ℕ) → text_length u ≡ 0 → text_length (literal name u t) ≡ 0
literal-none name u t e = either_token (starts_with nat_eq t name && ends_word (drop (length name) t)) u Token.bad e refl

word-none : (t : List ℕ) → text_length (word t) ≡ 0
unfolding word
word-none t =
    either_token (head t == ascii.lower_t) (literal ascii.true_text (Token.boolean true) t) _ (literal-none ascii.true_text (Token.boolean true) t refl)
    (either_token (head t == ascii.lower_f) (literal ascii.false_text (Token.boolean false) t) _ (literal-none ascii.false_text (Token.boolean false) t refl)
    (either_token (head t == ascii.lower_n) (literal ascii.null_text Token.null t) _ (literal-none ascii.null_text Token.null t refl) (number-none t (after_number t))))

lex_byte-le : (m : Mode) (c : Class) (x : ℕ) (xs : List ℕ) → ((next : Mode) → longest_lexeme (lex next xs) ≤ length xs) → longest_lexeme (lex_byte m c x xs (λ next. lex next xs)) ≤ suc (length xs)
lex_byte-le between quote x xs h = omega (arith, of_content (length xs) (content plain xs) (content-le plain xs), h in_string)
lex_byte-le between backslash x xs h = omega (arith, h in_word)
lex_byte-le between operator x xs h = omega (arith, operator-none x, h between)
lex_byte-le between space x xs h = omega (arith, h between)
lex_byte-le between other x xs h = omega (arith, word-none (x ∷ xs), h in_word)
lex_byte-le in_word quote x xs h = omega (arith, h in_word)
lex_byte-le in_word backslash x xs h = omega (arith, h in_word)
lex_byte-le in_word operator x xs h = omega (arith, operator-none x, h between)
lex_byte-le in_word space x xs h = omega (arith, h between)
lex_byte-le in_word other x xs h = omega (arith, h in_word)
lex_byte-le in_string quote x xs h = omega (arith, h between)
lex_byte-le in_string backslash x xs h = omega (arith, h in_escape)
lex_byte-le in_string operator x xs h = omega (arith, h in_string)
lex_byte-le in_string space x xs h = omega (arith, h in_string)
lex_byte-le in_string other x xs h = omega (arith, h in_string)
lex_byte-le in_escape c x xs h = omega (arith, h in_string)

lex-le : (m : Mode) (xs : List ℕ) → longest_lexeme (lex m xs) ≤ length xs
unfolding lex
lex-le m [] = omega arith
lex-le m (x ∷ xs) = lex_byte-le m (class x) x xs (λ next. lex-le next xs)

-- ---- tokens

allowed-le : (b : Bool) (t : Token) (k : Place → List Token) (next : Place) (n : ℕ) → ((p : Place) → longest_text (k p) ≤ n) → longest_text (if_allowed b t k next) ≤ max (text_length t) n
allowed-le true t k next n h = omega (arith, h next)
allowed-le false t k next n h = omega arith

place-le : (p : Place) (t : Token) (b : Bool) (k : Place → List Token) (n : ℕ) → ((next : Place) → longest_text (k next) ≤ n) → longest_text (place_token p t b k) ≤ max (text_length t) n
place-le p Token.begin_object b k n h = allowed-le (may_begin p) Token.begin_object k fresh n h
place-le p Token.end_object b k n h = allowed-le (may_close p) Token.end_object k after_value n h
place-le p Token.begin_array b k n h = allowed-le (may_begin p) Token.begin_array k fresh n h
place-le p Token.end_array b k n h = allowed-le (may_close p) Token.end_array k after_value n h
place-le p (Token.key s) b k n h = omega arith
place-le p (Token.string s) true k n h = omega (arith, allowed-le (may_begin p) (Token.key s) k after_key n h)
place-le p (Token.string s) false k n h = allowed-le (may_begin p) (Token.string s) k after_value n h
place-le p (Token.number s) b k n h = allowed-le (may_begin p) (Token.number s) k after_value n h
place-le p (Token.boolean c) b k n h = allowed-le (may_begin p) (Token.boolean c) k after_value n h
place-le p Token.null b k n h = allowed-le (may_begin p) Token.null k after_value n h
place-le p Token.bad b k n h = omega arith

punctuate-le : (p : Place) (ls : List Lexeme) → longest_text (punctuate p ls) ≤ longest_lexeme ls
unfolding punctuate
punctuate-le fresh [] = omega arith
punctuate-le after_value [] = omega arith
punctuate-le after_comma [] = omega arith
punctuate-le after_key [] = omega arith
punctuate-le fresh (token t ∷ ls) = place-le fresh t (begins_colon ls) (λ next. punctuate next ls) (longest_lexeme ls) (λ next. punctuate-le next ls)
punctuate-le after_value (token t ∷ ls) = place-le after_value t (begins_colon ls) (λ next. punctuate next ls) (longest_lexeme ls) (λ next. punctuate-le next ls)
punctuate-le after_comma (token t ∷ ls) = place-le after_comma t (begins_colon ls) (λ next. punctuate next ls) (longest_lexeme ls) (λ next. punctuate-le next ls)
punctuate-le after_key (token t ∷ ls) = place-le after_key t (begins_colon ls) (λ next. punctuate next ls) (longest_lexeme ls) (λ next. punctuate-le next ls)
punctuate-le fresh (comma ∷ ls) = omega arith
punctuate-le after_value (comma ∷ ls) = omega (arith, punctuate-le after_comma ls)
punctuate-le after_comma (comma ∷ ls) = omega arith
punctuate-le after_key (comma ∷ ls) = omega arith
punctuate-le fresh (colon ∷ ls) = omega arith
punctuate-le after_value (colon ∷ ls) = omega arith
punctuate-le after_comma (colon ∷ ls) = omega arith
punctuate-le after_key (colon ∷ ls) = omega (arith, punctuate-le fresh ls)

pub tokens-le : (text : List ℕ) → longest_text (tokens text) ≤ length text
tokens-le text = omega (arith, punctuate-le fresh (lex between text), lex-le between text)
