use Rattle.std.proofs.Common.{◌≡◌, ℕ, ◌+◌, List, ◌∷◌, drop, length, Some, None, Bor, MatchOption, subst, sym, ◌∙◌, lit<}
use mathlib.Core.Bool.{true≢false}
use Rattle.std.specs.Str.Parse.{ParsesUnsigned}
use Rattle.std.specs.Str.Pattern.{FindsCharPrefix}
use Rattle.std.proofs.lemmas.Str.Pattern.{strip_prefix_char}
use Rattle.segment_infos.proofs.Decimals.{field-not_decimal, field-unread, field-read, field-great}
use Rattle.segment_infos.proofs.naming.field_number.Goals as goal

pub returns-in_err-digits : goal.returns-in_err-digits
returns-in_err-digits c = rw c.from_residual.ensures (λ field small same. strip_prefix_char 115 c.args.text.now None c.in_err-digits.ensures.cases (lit< tt) _ same)

split : (text : List ℕ) (rest : Bor (List ℕ)) → MatchOption (Some rest) (FindsCharPrefix 115 text None) (λ x. (n : ℕ) × FindsCharPrefix 115 text (Some n) × (x.now ≡ drop n text) × (length x.now + n ≡ length text)) → text ≡ 115 ∷ rest.now
split text rest found = strip_prefix_char 115 text (Some rest) found (lit< tt)

pub returns-then-not-is_decimal : goal.returns-then-not-is_decimal
returns-then-not-is_decimal c field small same =
    field-not_decimal c.args.text.now c.in_ok-digits.digits.now field (split c.args.text.now c.in_ok-digits.digits c.in_ok-digits.ensures.cases) (λ is. true≢false (sym (c.is_decimal.ensures.1 is) ∙ c.if-not-is_decimal.true)) small same

pub returns-in_default : goal.returns-in_default
returns-in_default c field small same =
    field-unread c.args.text.now c.in_ok-digits.digits.now c.in_default.field-0 field (split c.args.text.now c.in_ok-digits.digits c.in_ok-digits.ensures.cases) (subst (ParsesUnsigned 32 10 c.in_ok-digits.digits.now) c.in_default.is c.parse.ensures.value.0) small same

pub returns-then-field-lt-FIELD_LIMIT : goal.returns-then-field-lt-FIELD_LIMIT
returns-then-field-lt-FIELD_LIMIT c = (
  c.if-field-lt-FIELD_LIMIT.true,
  field-read c.args.text.now c.in_ok-digits.digits.now c.in-Ok.field (split c.args.text.now c.in_ok-digits.digits c.in_ok-digits.ensures.cases) (c.is_decimal.ensures.0 c.if-not-is_decimal.false)
      (subst (ParsesUnsigned 32 10 c.in_ok-digits.digits.now) c.in-Ok.is c.parse.ensures.value.0),
)

pub returns-else-field-lt-FIELD_LIMIT : goal.returns-else-field-lt-FIELD_LIMIT
returns-else-field-lt-FIELD_LIMIT c field small same =
    field-great c.args.text.now c.in_ok-digits.digits.now c.in-Ok.field field (split c.args.text.now c.in_ok-digits.digits c.in_ok-digits.ensures.cases) (c.is_decimal.ensures.0 c.if-not-is_decimal.false)
    (subst (ParsesUnsigned 32 10 c.in_ok-digits.digits.now) c.in-Ok.is c.parse.ensures.value.0) c.if-field-lt-FIELD_LIMIT.false small same
