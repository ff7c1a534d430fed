use Rattle.std.proofs.Common.{◌≡◌, ℕ, ◌+◌, ◌<◌, ◌^◌, false, List, [], ◌∷◌, ◌++◌, length, refl, sym, ap, subst, ◌∙◌, arith}
use Rattle.std.proofs.lemmas.List.{length-append}
use Rattle.lu_grammar.specs.Bytes.{IsBytes}
use Rattle.lu_grammar.proofs.SpelledBytes.{IsBytes-nil, IsBytes-cons, IsBytes-append}
use Rattle.freq_skips.specs.Written.{no_handed}
use Rattle.freq_skips.specs.Writing.{FrqWriting, entries_begun, bytes_so_far, finished}
use Rattle.freq_skips.proofs.RunLemmas.{Runs, Runs-none, Runs-more, Runs-order, Runs-places}
use Rattle.codec_tests.proofs.freq_skips_tests.written.Goals as goal

pub loop-doc-init : goal.loop-doc-init
loop-doc-init g c =
    let is = c.start-place.ensures.begun ∙ ap (λ (w : FrqWriting). entries_begun w false false) c.in_ok-writer.ensures in
    subst (λ (w : FrqWriting). Runs w c.args.interval c.args.levels false false [] 100 0 0 0) (sym is) (Runs-none c.args.interval c.args.levels false false [] 100 0)

pub loop-doc-preserved : goal.loop-doc-preserved
loop-doc-preserved g c =
    let n = c.loop-doc.doc in
    let lt : n < 100 = omega arith in
    let h = record no_handed { doc = n; freq = 1; prox = n } in
    subst (λ (w : FrqWriting). Runs w c.args.interval c.args.levels false false [] 100 (n + 1) (n + 1) (n + 1)) (sym c.in_ok-add.ensures.ok)
    (Runs-more c.loop-doc.writer c.args.interval c.args.levels false false [] 100 n n n h (n + 1) (n + 1) c.loop-doc.invariant (omega arith) lt (omega arith) (omega arith) (omega arith) (omega arith) (omega arith) (omega arith) (omega arith))

pub add-requires-clause-order : goal.add-requires-clause-order
add-requires-clause-order g c = Runs-order c.loop-doc.writer c.args.interval c.args.levels false false [] 100 c.loop-doc.doc c.loop-doc.doc c.loop-doc.doc c.loop-doc.doc c.loop-doc.invariant (omega arith)

pub returns : goal.returns
returns g c =
    let w = c.loop-doc.writer in
    let n = c.loop-doc.doc in
    let all : n ≡ c.args.documents = omega (arith, c.loop-doc-test.false) in
    let runs = subst (λ (k : ℕ). Runs w c.args.interval c.args.levels false false [] 100 k n n) all c.loop-doc.invariant in
    let ok = c.in_ok-delta.ensures.ok in
    let size : length (bytes_so_far w) < 2 ^ 31 = omega (arith, c.len.ensures) in
    let end = ap (λ (v : FrqWriting). length (bytes_so_far v)) ok.0 in
    let whole : length (finished w).bytes < 2 ^ 31 = omega (arith, c.len-2.ensures, end, length-append (finished w).bytes []) in
    let is : c.push.new.self.items ≡ (finished w).bytes ++ 85 ∷ [] = c.in_ok-push.ensures.items ∙ ap (λ (b : List ℕ). b ++ 85 ∷ []) (c.finish-bytes.ensures.whole ∙ ap (λ (v : FrqWriting). v.bytes) ok.0) in
    let fits : IsBytes c.push.new.self.items = subst (λ (b : List ℕ). IsBytes b) (sym c.in_ok-push.ensures.items) (IsBytes-append c.finish-bytes.result.items (85 ∷ []) c.finish-bytes.ensures.bytes (IsBytes-cons 85 [] (omega arith) IsBytes-nil)) in
    record { places = Runs-places w c.args.interval c.args.levels false false [] 100 c.args.documents n n 0 c.in_ok-delta.delta c.push.new.self.items (85 ∷ []) runs c.requires.interval size whole refl ok.1 is fits }
