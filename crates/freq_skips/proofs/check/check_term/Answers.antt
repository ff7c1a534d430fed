use Rattle.std.proofs.Common.{◌≡◌, ℕ, Err, sym, ap, subst, ◌∙◌, arith}
use Rattle.lu_grammar.specs.Bytes.{Cursor, place_in}
use Rattle.lu_grammar.specs.Plans.{read_plan}
use Rattle.freq_skips.specs.Entries.{entries, AreEntries}
use Rattle.freq_skips.specs.Terms.{ruled_by}
use Rattle.lu_grammar.proofs.Codecs.{place_in-after}
use Rattle.freq_skips.proofs.JudgeLemmas.{term-entries_broken, term-judged}
use Rattle.freq_skips.proofs.WalkLemmas.{IsGoodTerm-checked}
use Rattle.freq_skips.proofs.check.check_term.Goals as goal

pub check_levels-requires-clause-at_within : goal.check_levels-requires-clause-at_within
check_levels-requires-clause-at_within c =
    let t = ruled_by c.args.info.now c.args.rules.now in
    let all = subst (λ (d : Cursor). AreEntries t d c.in-Ok.passing.cur) c.at.ensures c.in-Ok.ensures in
    let after = place_in-after (entries t) c.args.frq.now c.args.at all.passed c.in-Ok.passing.cur (λ i. (c.type_inv.frq i).fits) c.requires.at_within all.reads in
    omega (arith, after.1, c.place.ensures)

pub returns-in-Err-clause-term : goal.returns-in-Err-clause-term
returns-in-Err-clause-term c =
    let t = ruled_by c.args.info.now c.args.rules.now in
    let e = subst (λ (d : Cursor). read_plan (entries t) d ≡ Err (record { offset = c.in-Err.spot.offset; rule = c.in-Err.spot.rule })) c.at.ensures c.in-Err.ensures.1 in
    (c.in-Err.ensures.0, term-entries_broken t c.args.frq.now c.args.at c.in-Err.spot.offset c.in-Err.spot.rule (λ i. (c.type_inv.frq i).fits) e)

pub returns-in-Ok-clause-term : goal.returns-in-Ok-clause-term
returns-in-Ok-clause-term c =
    let t = ruled_by c.args.info.now c.args.rules.now in
    let frq = c.args.frq.now in
    let all = subst (λ (d : Cursor). AreEntries t d c.in-Ok.passing.cur) c.at.ensures c.in-Ok.ensures in
    let after = place_in-after (entries t) frq c.args.at all.passed c.in-Ok.passing.cur (λ i. (c.type_inv.frq i).fits) c.requires.at_within all.reads in
    let here : c.in-Ok.passing.cur ≡ place_in frq c.place.result = after.0 ∙ ap (λ (n : ℕ). place_in frq n) (sym c.place.ensures) in
    term-judged t frq c.args.at c.place.result c.check_levels.result (λ i. (c.type_inv.frq i).fits) (subst (λ (d : Cursor). AreEntries t (place_in frq c.args.at) d) here all) c.check_levels.ensures

pub returns-in-Ok-clause-good : goal.returns-in-Ok-clause-good
returns-in-Ok-clause-good c = λ some.
    let t = ruled_by c.args.info.now c.args.rules.now in
    let frq = c.args.frq.now in
    let all = subst (λ (d : Cursor). AreEntries t d c.in-Ok.passing.cur) c.at.ensures c.in-Ok.ensures in
    let after = place_in-after (entries t) frq c.args.at all.passed c.in-Ok.passing.cur (λ i. (c.type_inv.frq i).fits) c.requires.at_within all.reads in
    let here : c.in-Ok.passing.cur ≡ place_in frq c.place.result = after.0 ∙ ap (λ (n : ℕ). place_in frq n) (sym c.place.ensures) in
    let judged = term-judged t frq c.args.at c.place.result c.check_levels.result (λ i. (c.type_inv.frq i).fits) (subst (λ (d : Cursor). AreEntries t (place_in frq c.args.at) d) here all) c.check_levels.ensures in
    IsGoodTerm-checked t frq c.args.at c.check_levels.result c.requires.interval c.requires.at_within some judged
