use Rattle.std.proofs.Common.{◌≡◌, ℕ, ◌+◌, ◌%◌, ◌++◌, List, Option, length, sym, ap, subst, ◌∙◌, arith}
use Rattle.lu_grammar.specs.Parts.{vlong}
use Rattle.freq_skips.specs.declared.datum.Skip.{Skip}
use Rattle.freq_skips.specs.Written.{optional_bytes, bytes_to_child}
use Rattle.freq_skips.specs.InnerLevels.{level_marks, AreSmallPlaces}
use Rattle.freq_skips.proofs.WriterLemmas.{marked_bytes-none, places_after-none, marked_bytes-next, places_after-next, places_after-same, marked_skip-is, AreSmallPlaces-none, AreSmallPlaces-more}
use Rattle.freq_skips.proofs.writer.written_level.Goals as goal
use Rattle.freq_skips.proofs.writer.written_level.Goals.{then-index-from-eq0+in_ok-push, else-index-from-eq0}

pub loop-index-init : goal.loop-index-init
loop-index-init c =
    let r = level_marks c.args.level.now.payloads c.args.level.now.marks.now c.args.level.now.interval c.args.level.now.number c.args.level.now.step c.args.level.now.children.now in
    record {
      written = c.new-bytes.ensures.items ∙ sym (marked_bytes-none r);
      pointed = c.new-places.ensures.items ∙ sym (places_after-none r);
      small = subst (λ (l : List ℕ). AreSmallPlaces l) (sym c.new-places.ensures.items) AreSmallPlaces-none;
    }

pub loop-index-preserved : goal.loop-index-preserved
loop-index-preserved c =
    let r = level_marks c.args.level.now.payloads c.args.level.now.marks.now c.args.level.now.interval c.args.level.now.number c.args.level.now.step c.args.level.now.children.now in
    let i = c.loop-index.invariant in
    let m = c.loop-index.index in
    let skip = marked_skip-is r m c.skip_to-skip.result c.mark_at.result c.mark_at-in-loop-index.result c.child_at-child.result c.skip_to-skip.ensures c.mark_at.ensures c.mark_at-in-loop-index.ensures c.child_at-child.ensures in
    let d = c.skip_to-skip.result in
    let child : d.child ≡ c.child_at-child.result = ap (λ (s : Skip). s.child) c.skip_to-skip.ensures in
    let bytes : c.put_child.new.out.items ≡ c.loop-index.bytes.items ++ bytes_to_child d ++ optional_bytes vlong d.child =
    c.in_ok-put_child.ensures ∙ ap (λ (b : List ℕ). b ++ optional_bytes vlong c.child_at-child.result) c.in_ok-put_front.ensures
    ∙ ap (λ (o : Option ℕ). c.loop-index.bytes.items ++ bytes_to_child d ++ optional_bytes vlong o) (sym child) in
    record {
      written = marked_bytes-next r m c.loop-index.bytes.items c.put_child.new.out.items c.skip_to-skip.result i.written skip bytes;
      pointed = elim c.if-index-from-eq0.branch [
        | then-index-from-eq0+in_ok-push w ↦
            let place : w.len.result ≡ length (c.loop-index.bytes.items ++ bytes_to_child d) = omega (arith, w.len.ensures, ap length c.in_ok-put_front.ensures) in
            let test = ap (λ (n : ℕ). (m + 1) % n) (sym c.from.ensures) ∙ w.if-index-from-eq0.true in
            places_after-next r m c.loop-index.bytes.items c.loop-index.places.items c.if-index-from-eq0.places.items d w.len.result i.written i.pointed skip test place (rw w.places-is w.in_ok-push.ensures.items)
        | else-index-from-eq0 w ↦ rw w.places-is (places_after-same r m c.loop-index.places.items i.pointed (λ e. w.if-index-from-eq0.false (ap (λ (n : ℕ). (m + 1) % n) c.from.ensures ∙ e)))
      ];
      small = elim c.if-index-from-eq0.branch [
        | then-index-from-eq0+in_ok-push w ↦ rw (w.places-is, w.in_ok-push.ensures.items) (AreSmallPlaces-more c.loop-index.places.items w.len.result i.small (omega (arith, w.len.ensures)))
        | else-index-from-eq0 w ↦ rw w.places-is i.small
      ];
    }
