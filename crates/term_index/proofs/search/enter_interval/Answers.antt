use Rattle.std.proofs.Common.{◌≡◌, ℕ, ◌-◌, ◌*◌, List, length, refl, sym, ap, ◌∙◌, arith}
use Rattle.std.proofs.lemmas.Option.{slice_get_read}
use Rattle.lu_types.specs.declared.term.TermInfo.{TermInfo}
use Rattle.term_dict.specs.Terms.{DictionaryTerm}
use Rattle.term_index.proofs.MarkLemmas.{LeadsTo, leads, number-fits}
use Rattle.term_index.proofs.search.enter_interval.Goals as goal

abbrev term_with : List ℕ → TermInfo → DictionaryTerm
term_with text info = record { text = text; info = info }

pub overflow_cast-number : goal.overflow_cast-number
overflow_cast-number c = omega (arith, number-fits c.args.cursor.now.dictionary c.requires.marks.0 c.args.marks.now c.args.number c.requires.marks.1 c.requires.marks.2 c.requires.number)

pub overflow_mul-number : goal.overflow_mul-number
overflow_mul-number c =
    let d = c.args.cursor.now.dictionary in
    let l = leads d c.requires.marks.0 c.args.marks.now c.args.number (c.args.number - 1) (c.args.number * c.args.index_interval) c.index-marks-number.result c.requires.marks.1 c.requires.marks.2 (omega (arith, c.if-number-eq0.false)) c.requires.number refl (slice_get_read c.args.marks.now (length c.args.marks.now) (c.args.number - 1) c.index-marks-number.result refl (omega (arith, c.requires.number, c.if-number-eq0.false)) c.index-marks-number.is) (ap (λ (i : ℕ). c.args.number * i) c.requires.interval) in
    omega (arith, l.inside, c.requires.marks.1.count, c.requires.marks.1.bounded.count)

pub move_to-requires-clause-number : goal.move_to-requires-clause-number
move_to-requires-clause-number c =
    let d = c.args.cursor.now.dictionary in
    (leads d c.requires.marks.0 c.args.marks.now c.args.number (c.args.number - 1) (c.args.number * c.args.index_interval) c.index-marks-number.result c.requires.marks.1 c.requires.marks.2 (omega (arith, c.if-number-eq0.false)) c.requires.number refl (slice_get_read c.args.marks.now (length c.args.marks.now) (c.args.number - 1) c.index-marks-number.result refl (omega (arith, c.requires.number, c.if-number-eq0.false)) c.index-marks-number.is) (ap (λ (i : ℕ). c.args.number * i) c.requires.interval)).inside

pub move_to-requires-clause-place : goal.move_to-requires-clause-place
move_to-requires-clause-place c =
    let d = c.args.cursor.now.dictionary in
    (leads d c.requires.marks.0 c.args.marks.now c.args.number (c.args.number - 1) (c.args.number * c.args.index_interval) c.index-marks-number.result c.requires.marks.1 c.requires.marks.2 (omega (arith, c.if-number-eq0.false)) c.requires.number refl (slice_get_read c.args.marks.now (length c.args.marks.now) (c.args.number - 1) c.index-marks-number.result refl (omega (arith, c.requires.number, c.if-number-eq0.false)) c.index-marks-number.is) (ap (λ (i : ℕ). c.args.number * i) c.requires.interval)).place

pub move_to-requires-clause-term : goal.move_to-requires-clause-term
move_to-requires-clause-term c =
    let d = c.args.cursor.now.dictionary in
    ap (λ (t : List ℕ). term_with t c.index-marks-number.result.info) c.as_str.ensures.same
    ∙ (leads d c.requires.marks.0 c.args.marks.now c.args.number (c.args.number - 1) (c.args.number * c.args.index_interval) c.index-marks-number.result c.requires.marks.1 c.requires.marks.2 (omega (arith, c.if-number-eq0.false)) c.requires.number refl (slice_get_read c.args.marks.now (length c.args.marks.now) (c.args.number - 1) c.index-marks-number.result refl (omega (arith, c.requires.number, c.if-number-eq0.false)) c.index-marks-number.is) (ap (λ (i : ℕ). c.args.number * i) c.requires.interval)).term
