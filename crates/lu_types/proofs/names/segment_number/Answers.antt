use Rattle.std.proofs.Common.{◌≡◌, ◌∷◌, Some, None, arith, lit<}
use Rattle.std.proofs.lemmas.Str.Pattern.{strip_prefix_char}
use Rattle.lu_types.proofs.NameLemmas.{without_underscore, past_greatest}
use Rattle.lu_types.proofs.names.segment_number.Goals as goal

pub returns-in_err-digits : goal.returns-in_err-digits
returns-in_err-digits c = rw c.from_residual.ensures (without_underscore c.args.text.now (strip_prefix_char 95 c.args.text.now None c.in_err-digits.ensures.cases (lit< tt)))

pub returns-else-number : goal.returns-else-number
returns-else-number c =
    let split : c.args.text.now ≡ 95 ∷ c.in_ok-digits.digits.now = strip_prefix_char 95 c.args.text.now (Some c.in_ok-digits.digits) c.in_ok-digits.ensures.cases (lit< tt) in
    past_greatest c.args.text.now c.in_ok-digits.digits.now c.in_ok-number.number split c.in_ok-number.ensures.1 (omega arith)
