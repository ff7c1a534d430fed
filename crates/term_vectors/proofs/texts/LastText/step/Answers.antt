use Rattle.std.proofs.Common.{◌≡◌, ◌++◌, ◌<◌, ℕ, true, List, take, Some, sym, ap, subst, ◌∙◌, arith}
use Rattle.std.specs.Str.{IsUtf8, is_utf8}
use Rattle.std.proofs.lemmas.Str.{IsUtf8-from_is_utf8}
use Rattle.term_vectors.proofs.OrderLemmas.{text_before-some}
use Rattle.term_vectors.proofs.TermLemmas.{term-below, term-never, term-good, text-is}
use Rattle.term_vectors.proofs.texts.LastText.step.Goals as goal

-- the text that was made is UTF-8
valid_text : (text shared : List ℕ) (valid : _) → text ≡ shared → valid ≡ is_utf8 text → valid ≡ true → is_utf8 shared ≡ true
valid_text text shared valid e test so = ap is_utf8 (sym e) ∙ sym test ∙ so

pub returns-then-not-above-clause-rule : goal.returns-then-not-above-clause-rule
returns-then-not-above-clause-rule c =
    let last = c.args.self.now in
    let e = c.args.entry.now in
    let made = c.in-Ok.ensures.text in
    let valid : is_utf8 (take e.prefix last.bytes.items ++ e.suffix.now) ≡ true = valid_text _ _ _ made.0 made.1 c.if-not-valid.false in
    sym (term-below last c.requires e.prefix e.suffix.now e.freq (omega arith) valid (sym (c.is_below-above.ensures (IsUtf8-from_is_utf8 _ valid)) ∙ c.if-not-above.true))

pub returns-then-entry-eq0-clause-rule : goal.returns-then-entry-eq0-clause-rule
returns-then-entry-eq0-clause-rule c =
    let last = c.args.self.now in
    let e = c.args.entry.now in
    let made = c.in-Ok.ensures.text in
    let valid : is_utf8 (take e.prefix last.bytes.items ++ e.suffix.now) ≡ true = valid_text _ _ _ made.0 made.1 c.if-not-valid.false in
    sym (term-never last c.requires e.prefix e.suffix.now e.freq (omega arith) valid (sym (c.is_below-above.ensures (IsUtf8-from_is_utf8 _ valid)) ∙ c.if-not-above.false) c.if-entry-eq0.true)

pub returns-clause-rule : goal.returns-clause-rule
returns-clause-rule c =
    let last = c.args.self.now in
    let e = c.args.entry.now in
    let made = c.in-Ok.ensures.text in
    let valid : is_utf8 (take e.prefix last.bytes.items ++ e.suffix.now) ≡ true = valid_text _ _ _ made.0 made.1 c.if-not-valid.false in
    let some : 0 < e.freq = omega arith in
    sym (term-good last c.requires e.prefix e.suffix.now e.freq (omega arith) valid (sym (c.is_below-above.ensures (IsUtf8-from_is_utf8 _ valid)) ∙ c.if-not-above.false) some)

pub returns-clause-good : goal.returns-clause-good
returns-clause-good c = λ none.
    let last = c.args.self.now in
    let e = c.args.entry.now in
    let made = c.in-Ok.ensures.text in
    let valid : is_utf8 (take e.prefix last.bytes.items ++ e.suffix.now) ≡ true = valid_text _ _ _ made.0 made.1 c.if-not-valid.false in
    let some : c.set.new.self.is_some ≡ true = c.set.ensures.some in (
      text_before-some c.set.new.self some ∙ ap (λ (t : List ℕ). Some t) (made.0 ∙ text-is last c.requires e.prefix e.suffix.now e.freq (omega arith) valid),
      record { text = subst IsUtf8 (sym made.0) (IsUtf8-from_is_utf8 _ valid); none = λ not. cc },
    )
