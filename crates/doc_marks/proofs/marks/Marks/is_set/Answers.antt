use Rattle.std.proofs.Common.{◌≡◌, ◌<◌, ◌/◌, ◌%◌, false, get_or, length, sym, ap, ◌∙◌, arith}
use Rattle.std.proofs.lemmas.List.{get_or_read}
use Rattle.doc_marks.specs.Marking.{bits}
use Rattle.doc_marks.proofs.MarksLemmas.{length-marks, get-marks, byte-within}
use Rattle.doc_marks.proofs.marks.Marks.is_set.Goals as goal

pub returns : goal.returns
returns c =
    let m = c.self.inside in
    let doc = c.args.doc in
    let within : doc < m.size = omega (arith, c.requires, ap length c.self.view_is, length-marks m.size m.count m.bytes.items c.self.invariant) in
    let byte : c.index-byte.result.now ≡ get_or m.bytes.items (doc / 8) 0 = get_or_read m.bytes.items _ _ (byte-within m.size m.count m.bytes.items c.self.invariant doc within) c.index-byte.ensures 0 in
    c.has_bit.ensures ∙ ap (λ b. get_or (bits 8 b) (doc % 8) false) byte ∙ sym (get-marks m.size m.count m.bytes.items c.self.invariant doc within) ∙ ap (λ fs. get_or fs doc false) c.self.view_is
