use Rattle.std.proofs.Common.{◌≡◌, ℕ, Ok, Err, sym, ap, subst, ◌∙◌}
use Rattle.lu_types.specs.Judging.{IsBroken}
use Rattle.lu_types.specs.declared.kind.FileKind.TheVariants.{Tvf}
use Rattle.lu_grammar.specs.Plans.{read_plan}
use Rattle.lu_types.proofs.SpotLemmas.{spot-broken}
use Rattle.term_vectors.specs.Format.{bit_positions, bit_offsets}
use Rattle.term_vectors.specs.Vectors.{kept_count, term_plan, freq_of}
use Rattle.term_vectors.specs.InnerTexts.{text_before}
use Rattle.term_vectors.specs.InnerVectors.{IsTermTaken}
use Rattle.term_vectors.proofs.OccurrenceLemmas.{reads_positions, reads_spans}
use Rattle.term_vectors.proofs.TermLemmas.{term_of, term-broken, term-positions_broken, term-spans_broken, term-read}
use Rattle.term_vectors.proofs.vectors.pass_term.Goals as goal

pub returns-in-Ok-Err : goal.returns-in-Ok-Err
returns-in-Ok-Err c =
    let taken : IsTermTaken c.args.last.now c.next_term.new.last c.args.here.now c.next_term.new.here (Err c.in-Ok-Err.rule) =
    subst (IsTermTaken c.args.last.now c.next_term.new.last c.args.here.now c.next_term.new.here) c.in-Ok-Err.field-0-is c.in-Ok-Err.ensures in
    spot-broken Tvf c.place-start.result c.in-Ok-Err.rule c.at.result (read_plan (term_plan c.args.bits (text_before c.args.last.now)) c.args.here.now) c.at.ensures
    (rw c.place-start.ensures (term-broken c.args.bits (text_before c.args.last.now) c.args.here.now c.in-Ok-Err.rule taken))

pub returns-in-Err-pass_positions : goal.returns-in-Err-pass_positions
returns-in-Err-pass_positions c =
    let taken : IsTermTaken c.args.last.now c.next_term.new.last c.args.here.now c.next_term.new.here (Ok c.in-Ok-Ok.freq) =
    subst (IsTermTaken c.args.last.now c.next_term.new.last c.args.here.now c.next_term.new.here) c.in-Ok-Ok.field-0-is c.in-Ok-Ok.ensures in
    let (r, there, text, sound, freq) = taken in
    let count : c.kept_count.result ≡ kept_count bit_positions c.args.bits (freq_of r) = c.kept_count.ensures ∙ ap (kept_count bit_positions c.args.bits) freq in
    term-positions_broken c.args.bits (text_before c.args.last.now) c.args.here.now Tvf r c.next_term.new.here c.in-Err-pass_positions.spot there
    (subst (λ (n : ℕ). IsBroken Tvf (reads_positions n 0 c.next_term.new.here) c.in-Err-pass_positions.spot) count c.in-Err-pass_positions.ensures)

pub returns-in-Err-pass_pairs : goal.returns-in-Err-pass_pairs
returns-in-Err-pass_pairs c =
    let taken : IsTermTaken c.args.last.now c.next_term.new.last c.args.here.now c.next_term.new.here (Ok c.in-Ok-Ok.freq) =
    subst (IsTermTaken c.args.last.now c.next_term.new.last c.args.here.now c.next_term.new.here) c.in-Ok-Ok.field-0-is c.in-Ok-Ok.ensures in
    let (r, there, text, sound, freq) = taken in
    let (positions, behind) = c.in_default.ensures in
    let count : c.kept_count.result ≡ kept_count bit_positions c.args.bits (freq_of r) = c.kept_count.ensures ∙ ap (kept_count bit_positions c.args.bits) freq in
    let many : c.kept_count-2.result ≡ kept_count bit_offsets c.args.bits (freq_of r) = c.kept_count-2.ensures ∙ ap (kept_count bit_offsets c.args.bits) freq in
    term-spans_broken c.args.bits (text_before c.args.last.now) c.args.here.now Tvf r c.next_term.new.here c.pass_positions.new.here positions c.in-Err-pass_pairs.spot there
    (ap (λ (n : ℕ). reads_positions n 0 c.next_term.new.here) (sym count) ∙ behind)
    (subst (λ (n : ℕ). IsBroken Tvf (reads_spans n 0 c.pass_positions.new.here) c.in-Err-pass_pairs.spot) many c.in-Err-pass_pairs.ensures)

pub returns-in-Ok : goal.returns-in-Ok
returns-in-Ok c =
    let taken : IsTermTaken c.args.last.now c.next_term.new.last c.args.here.now c.next_term.new.here (Ok c.in-Ok-Ok.freq) =
    subst (IsTermTaken c.args.last.now c.next_term.new.last c.args.here.now c.next_term.new.here) c.in-Ok-Ok.field-0-is c.in-Ok-Ok.ensures in
    let (r, there, text, sound, freq) = taken in
    let (positions, behind) = c.in_default.ensures in
    let (spans, last) = c.in-Ok.ensures in
    let count : c.kept_count.result ≡ kept_count bit_positions c.args.bits (freq_of r) = c.kept_count.ensures ∙ ap (kept_count bit_positions c.args.bits) freq in
    let many : c.kept_count-2.result ≡ kept_count bit_offsets c.args.bits (freq_of r) = c.kept_count-2.ensures ∙ ap (kept_count bit_offsets c.args.bits) freq in (
      term_of (text_before c.args.last.now) r positions spans,
      term-read c.args.bits (text_before c.args.last.now) c.args.here.now r c.next_term.new.here c.pass_positions.new.here c.pass_pairs.new.here positions spans there
          (ap (λ (n : ℕ). reads_positions n 0 c.next_term.new.here) (sym count) ∙ behind) (ap (λ (n : ℕ). reads_spans n 0 c.pass_positions.new.here) (sym many) ∙ last),
      text,
      sound,
    )
