use Rattle.std.proofs.Common.{◌≡◌, ◌++◌, ℕ, [], take, sym, ap, subst, ◌∙◌, arith}
use Rattle.std.specs.Option.{unwrap_or}
use Rattle.std.specs.Str.{IsUtf8}
use Rattle.lu_grammar.specs.Bytes.{Cursor, place_in}
use Rattle.lu_grammar.specs.Records.{read_shape}
use Rattle.lu_grammar.proofs.Codecs.{same_pair, err_is_not_ok}
use Rattle.lu_model.specs.Index.{VectorTerm}
use Rattle.term_vectors.specs.Format.{bit_positions, bit_offsets}
use Rattle.term_vectors.specs.Vectors.{kept_count, term_shape}
use Rattle.term_vectors.proofs.OccurrenceLemmas.{reads_positions, reads_spans}
use Rattle.term_vectors.proofs.LeftLemmas.{settled_left, term-no_err, term_from, term-kept}
use Rattle.term_vectors.proofs.terms.term_at.Goals as goal

pub unreachable-requires : goal.unreachable-requires
unreachable-requires c =
    let (before, x, e) = c.requires.there in
    term-no_err c.args.tvf.now (λ i. (c.type_inv.tvf i).fits) c.args.place c.args.bits c.requires.within before x c.in-Err.field-0 e (ap (λ (d : Cursor). read_shape term_shape d) (sym c.at-here.ensures) ∙ c.in-Err.ensures)

pub at-requires : goal.at-requires
at-requires c =
    let (before, x, e) = c.requires.there in
    let p = c.in-Ok.entry in
    let t = term_from c.args.tvf.now (λ i. (c.type_inv.tvf i).fits) c.args.place c.args.bits c.requires.within before x.0 x.1 p.prefix p.suffix.now p.freq c.entry_at.new.cur e (ap (λ (d : Cursor). read_shape term_shape d) (sym c.at-here.ensures) ∙ c.in-Ok.ensures) in
    omega (arith, t.here.1, c.place.ensures)

pub at-positions-requires : goal.at-positions-requires
at-positions-requires c =
    let (before, x, e) = c.requires.there in
    let p = c.in-Ok.entry in
    let t = term_from c.args.tvf.now (λ i. (c.type_inv.tvf i).fits) c.args.place c.args.bits c.requires.within before x.0 x.1 p.prefix p.suffix.now p.freq c.entry_at.new.cur e (ap (λ (d : Cursor). read_shape term_shape d) (sym c.at-here.ensures) ∙ c.in-Ok.ensures) in
    let here : c.at.result ≡ c.entry_at.new.cur = c.at.ensures ∙ ap (λ (n : ℕ). place_in c.args.tvf.now n) c.place.ensures ∙ sym t.here.0 in
    let reads = ap (λ (n : ℕ). reads_positions n 0 c.at.result) c.kept_count-count.ensures ∙ ap (λ (d : Cursor). reads_positions (kept_count bit_positions c.args.bits p.freq) 0 d) here ∙ t.positioned in
    (t.after, (settled_left (reads_positions c.kept_count-count.result 0 c.at.result) ([], c.at.result) t.positions t.after reads).0)

pub unreachable-requires-in-Err-pass_positions : goal.unreachable-requires-in-Err-pass_positions
unreachable-requires-in-Err-pass_positions c =
    let (before, x, e) = c.requires.there in
    let p = c.in-Ok.entry in
    let t = term_from c.args.tvf.now (λ i. (c.type_inv.tvf i).fits) c.args.place c.args.bits c.requires.within before x.0 x.1 p.prefix p.suffix.now p.freq c.entry_at.new.cur e (ap (λ (d : Cursor). read_shape term_shape d) (sym c.at-here.ensures) ∙ c.in-Ok.ensures) in
    err_is_not_ok (sym c.in-Err-pass_positions.ensures.1 ∙ ap (λ (n : ℕ). reads_positions n 0 c.entry_at.new.cur) c.kept_count-count.ensures ∙ t.positioned)

pub at-requires-2 : goal.at-requires-2
at-requires-2 c =
    let (before, x, e) = c.requires.there in
    let p = c.in-Ok.entry in
    let t = term_from c.args.tvf.now (λ i. (c.type_inv.tvf i).fits) c.args.place c.args.bits c.requires.within before x.0 x.1 p.prefix p.suffix.now p.freq c.entry_at.new.cur e (ap (λ (d : Cursor). read_shape term_shape d) (sym c.at-here.ensures) ∙ c.in-Ok.ensures) in
    let passed = c.in-Ok-pass_positions.ensures in
    let same = same_pair passed.0 t.positions c.pass_positions.new.here t.after (sym passed.1 ∙ ap (λ (n : ℕ). reads_positions n 0 c.entry_at.new.cur) c.kept_count-count.ensures ∙ t.positioned) in
    let place : c.place-2.result ≡ t.after.place = c.place-2.ensures ∙ ap (λ (d : Cursor). d.place) same.1 in
    omega (arith, t.behind.1, place)

pub at-pairs-requires : goal.at-pairs-requires
at-pairs-requires c =
    let (before, x, e) = c.requires.there in
    let p = c.in-Ok.entry in
    let t = term_from c.args.tvf.now (λ i. (c.type_inv.tvf i).fits) c.args.place c.args.bits c.requires.within before x.0 x.1 p.prefix p.suffix.now p.freq c.entry_at.new.cur e (ap (λ (d : Cursor). read_shape term_shape d) (sym c.at-here.ensures) ∙ c.in-Ok.ensures) in
    let passed = c.in-Ok-pass_positions.ensures in
    let same = same_pair passed.0 t.positions c.pass_positions.new.here t.after (sym passed.1 ∙ ap (λ (n : ℕ). reads_positions n 0 c.entry_at.new.cur) c.kept_count-count.ensures ∙ t.positioned) in
    let here : c.at-2.result ≡ t.after = c.at-2.ensures ∙ ap (λ (n : ℕ). place_in c.args.tvf.now n) (c.place-2.ensures ∙ ap (λ (d : Cursor). d.place) same.1) ∙ sym t.behind.0 in
    let reads = ap (λ (n : ℕ). reads_spans n 0 c.at-2.result) c.kept_count-many.ensures ∙ ap (λ (d : Cursor). reads_spans (kept_count bit_offsets c.args.bits p.freq) 0 d) here ∙ t.spanned in
    (x.1, (settled_left (reads_spans c.kept_count-many.result 0 c.at-2.result) ([], c.at-2.result) t.spans x.1 reads).0)

pub unreachable-requires-in-Err-pass_pairs : goal.unreachable-requires-in-Err-pass_pairs
unreachable-requires-in-Err-pass_pairs c =
    let (before, x, e) = c.requires.there in
    let p = c.in-Ok.entry in
    let t = term_from c.args.tvf.now (λ i. (c.type_inv.tvf i).fits) c.args.place c.args.bits c.requires.within before x.0 x.1 p.prefix p.suffix.now p.freq c.entry_at.new.cur e (ap (λ (d : Cursor). read_shape term_shape d) (sym c.at-here.ensures) ∙ c.in-Ok.ensures) in
    let passed = c.in-Ok-pass_positions.ensures in
    let same = same_pair passed.0 t.positions c.pass_positions.new.here t.after (sym passed.1 ∙ ap (λ (n : ℕ). reads_positions n 0 c.entry_at.new.cur) c.kept_count-count.ensures ∙ t.positioned) in
    err_is_not_ok (sym c.in-Err-pass_pairs.ensures.1 ∙ ap (λ (n : ℕ). reads_spans n 0 c.pass_positions.new.here) c.kept_count-many.ensures
    ∙ ap (λ (d : Cursor). reads_spans (kept_count bit_offsets c.args.bits p.freq) 0 d) same.1 ∙ t.spanned)

pub returns : goal.returns
returns c = λ before u d e.
    let p = c.in-Ok.entry in
    let t = term_from c.args.tvf.now (λ i. (c.type_inv.tvf i).fits) c.args.place c.args.bits c.requires.within before u d p.prefix p.suffix.now p.freq c.entry_at.new.cur e (ap (λ (x : Cursor). read_shape term_shape x) (sym c.at-here.ensures) ∙ c.in-Ok.ensures) in
    let kept = term-kept before p.prefix p.suffix.now p.freq t.good in
    let passed = c.in-Ok-pass_positions.ensures in
    let same = same_pair passed.0 t.positions c.pass_positions.new.here t.after (sym passed.1 ∙ ap (λ (n : ℕ). reads_positions n 0 c.entry_at.new.cur) c.kept_count-count.ensures ∙ t.positioned) in
    let paired = c.in-Ok-pass_pairs.ensures in
    let last = same_pair paired.0 t.spans c.pass_pairs.new.here d
    (sym paired.1 ∙ ap (λ (n : ℕ). reads_spans n 0 c.pass_positions.new.here) c.kept_count-many.ensures ∙ ap (λ (x : Cursor). reads_spans (kept_count bit_offsets c.args.bits p.freq) 0 x) same.1 ∙ t.spanned) in
    let at_positions : c.at.result ≡ c.entry_at.new.cur = c.at.ensures ∙ ap (λ (n : ℕ). place_in c.args.tvf.now n) c.place.ensures ∙ sym t.here.0 in
    let positions = ap (λ (n : ℕ). reads_positions n 0 c.at.result) c.kept_count-count.ensures ∙ ap (λ (x : Cursor). reads_positions (kept_count bit_positions c.args.bits p.freq) 0 x) at_positions ∙ t.positioned in
    let at_pairs : c.at-2.result ≡ t.after = c.at-2.ensures ∙ ap (λ (n : ℕ). place_in c.args.tvf.now n) (c.place-2.ensures ∙ ap (λ (x : Cursor). x.place) same.1) ∙ sym t.behind.0 in
    let pairs = ap (λ (n : ℕ). reads_spans n 0 c.at-2.result) c.kept_count-many.ensures ∙ ap (λ (x : Cursor). reads_spans (kept_count bit_offsets c.args.bits p.freq) 0 x) at_pairs ∙ t.spanned in
    let text : take p.prefix (unwrap_or before []) ++ p.suffix.now ≡ u.text = sym (ap (λ (w : VectorTerm). w.text) t.all) in
    let end : d.place ≡ c.place-3.result = sym (c.place-3.ensures ∙ ap (λ (x : Cursor). x.place) last.1) in
    record {
      prefix = kept.0;
      text = text;
      is_text = subst IsUtf8 text kept.1;
      freq = sym (ap (λ (w : VectorTerm). w.frequency) t.all);
      positions = c.at-positions.ensures ∙ sym (settled_left (reads_positions c.kept_count-count.result 0 c.at.result) ([], c.at.result) t.positions t.after positions).1 ∙ sym (ap (λ (w : VectorTerm). w.positions) t.all);
      pairs = c.at-pairs.ensures ∙ sym (settled_left (reads_spans c.kept_count-many.result 0 c.at-2.result) ([], c.at-2.result) t.spans d pairs).1 ∙ sym (ap (λ (w : VectorTerm). w.spans) t.all);
      end = t.end.0 ∙ ap (λ (n : ℕ). place_in c.args.tvf.now n) end;
      within = omega (arith, t.end.1, end);
    }
