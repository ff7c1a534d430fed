use Rattle.std.proofs.Common.{◌≡◌, map, ap, ◌∙◌, string_bytes}
use Rattle.segment_infos.specs.Keeping.{is_free}
use Rattle.segment_infos.proofs.KeptNames.{free-pushed, free-passed}
use Rattle.segment_infos.proofs.removing.free_names.Goals as goal
use Rattle.segment_infos.proofs.removing.free_names.Goals.{then-is_free+in_ok-from_str+in_ok-push, else-is_free}

pub loop-name-preserved : goal.loop-name-preserved
loop-name-preserved c all own same =
    let test : c.is_free.result ≡ is_free all (string_bytes c.name-item.result) = c.is_free.ensures all own same ∙ ap (is_free all) c.as_str.ensures.value in
    elim c.if-is_free.branch [
      | then-is_free+in_ok-from_str+in_ok-push w ↦
          free-pushed all c.args.names.now c.loop-name.name-index c.name-item.result w.in_ok-from_str.field-0 c.is_free.result c.loop-name.found.items c.if-is_free.found.items c.loop-name-test.true c.name-item.is test (c.loop-name.invariant all own same)
          w.if-is_free.true (ap (λ v. v.items) w.found-is ∙ w.in_ok-push.ensures.items) (w.in_ok-from_str.ensures.ok ∙ w.as_str-then-is_free.ensures.value)
      | else-is_free w ↦
          ap (λ v. map string_bytes v.items) w.found-is
          ∙ free-passed all c.args.names.now c.loop-name.name-index c.name-item.result c.is_free.result c.loop-name.found.items c.loop-name-test.true c.name-item.is test (c.loop-name.invariant all own same) w.if-is_free.false
    ]
