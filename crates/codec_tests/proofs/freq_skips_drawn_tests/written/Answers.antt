use Rattle.std.proofs.Common.{◌≡◌, ℕ, ◌+◌, ◌<◌, ◌^◌, [], ◌++◌, length, sym, ap, subst, ◌∙◌, arith}
use Rattle.std.specs.Prelude.{slice_index_or}
use Rattle.std.proofs.lemmas.List.{length-append, append-nil}
use Rattle.freq_skips.specs.Written.{no_handed}
use Rattle.freq_skips.specs.Writing.{FrqWriting, bytes_so_far, entry_added, finished}
use Rattle.freq_skips.proofs.RunLemmas.{Runs, Runs-more, Runs-places, added_some}
use Rattle.codec_tests.proofs.freq_skips_drawn_tests.written.Goals as goal

pub loop-given-preserved : goal.loop-given-preserved
loop-given-preserved g c =
    let d = c.args.drawn.now in
    let w = c.loop-given.writer in
    let i = c.loop-given.invariant in
    let given = slice_index_or c.deref-given-items.result.now c.loop-given.given-index (record { doc = 0; freq = 0; prox = 0 }) in
    let h = record no_handed { doc = given.doc; freq = given.freq; prox = given.prox } in
    let more = Runs-more w d.interval d.levels d.omit_tf d.payloads w.bytes 16777216 (length w.entries) c.loop-given.next c.loop-given.prox h (given.doc + 1) given.prox i.runs
    (omega arith) (omega arith) (omega arith) (omega arith) (omega arith) (omega arith) (omega arith) (omega arith) (omega arith) in
    let counted = subst (λ (k : ℕ). Runs (entry_added w h) d.interval d.levels d.omit_tf d.payloads w.bytes 16777216 k (given.doc + 1) given.prox) (sym (added_some w.entries h)) more in
    record {
      runs = subst (λ (v : FrqWriting). Runs v d.interval d.levels d.omit_tf d.payloads v.bytes 16777216 (length v.entries) (given.doc + 1) given.prox) (sym c.in_ok-add.ensures.ok) counted;
      place = i.place ∙ ap (λ (v : FrqWriting). length v.bytes) (sym c.in_ok-add.ensures.ok);
    }

pub returns : goal.returns
returns g c =
    let d = c.args.drawn.now in
    let w = c.loop-given.writer in
    let i = c.loop-given.invariant in
    let ok = c.in_ok-skip.ensures.ok in
    let size : length (bytes_so_far w) < 2 ^ 31 = omega (arith, c.len.ensures) in
    let end = ap (λ (v : FrqWriting). length (bytes_so_far v)) ok.0 in
    let whole : length (finished w).bytes < 2 ^ 31 = omega (arith, c.len-2.ensures, end, length-append (finished w).bytes []) in
    let is : c.finish.result.items ≡ (finished w).bytes ++ [] = c.finish.ensures.whole ∙ ap (λ (v : FrqWriting). v.bytes) ok.0 ∙ sym (append-nil (finished w).bytes) in
    let runs = subst (λ (k : ℕ). Runs w d.interval d.levels d.omit_tf d.payloads w.bytes 16777216 k c.loop-given.next c.loop-given.prox) (sym c.count-doc_freq.ensures) i.runs in
    record {
      places = Runs-places w d.interval d.levels d.omit_tf d.payloads w.bytes 16777216 c.count-doc_freq.result c.loop-given.next c.loop-given.prox c.in_ok-writer.freq c.in_ok-skip.skip
          c.finish.result.items [] runs c.requires size whole i.place ok.1 is c.finish.ensures.bytes;
    }
