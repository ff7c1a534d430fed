use Rattle.std.proofs.Common.{◌≡◌, [], arith, ap, sym, ◌∙◌}
use Rattle.std.proofs.lemmas.List.{nil_from_length, append-nil}
use Rattle.segment_infos.specs.Spelling.{pending}
use Rattle.segment_infos.proofs.WrittenCommits.{pending-last}
use Rattle.segment_infos.proofs.writing.write_pending.Goals as goal

pub returns-in-None : goal.returns-in-None
returns-in-None c =
    let was : c.in_ok-bytes.bytes.items ≡ [] = nil_from_length c.in_ok-bytes.bytes.items (omega (arith, c.in_ok-bytes.bytes.ok.0, c.in-None.ensures.cases.0)) in
    let same : c.in_ok-bytes.bytes.items ≡ c.pop.new.self.items = c.in-None.ensures.items ∙ append-nil c.pop.new.self.items in
    sym same ∙ was ∙ ap pending (sym was ∙ c.in_ok-bytes.ensures.spelling)

pub returns-in_ok-push-in-Some : goal.returns-in_ok-push-in-Some
returns-in_ok-push-in-Some c =
    c.in_ok-push-in-Some.ensures.items ∙ sym (pending-last c.pop.new.self.items c.in-Some.last) ∙ ap pending (sym c.in-Some.ensures.items ∙ c.in_ok-bytes.ensures.spelling)
