use Rattle.std.proofs.Common.{◌≡◌, ap, sym, ◌∙◌, string_bytes}
use Rattle.segment_infos.specs.Generations.{generation_in}
use Rattle.segment_infos.proofs.ListedNames.{listed-pushed, listed-passed}
use Rattle.segment_infos.proofs.listing.listed_generations.Goals as goal
use Rattle.segment_infos.proofs.listing.listed_generations.Goals.{in-Some+in_ok-push, in_default}

pub loop-name-preserved : goal.loop-name-preserved
loop-name-preserved c =
    let is : c.generation_in.result ≡ generation_in (string_bytes c.name-item.result) = c.generation_in.ensures ∙ ap generation_in c.as_str.ensures.value in
    elim c.match-generation_in.branch [
      | in-Some+in_ok-push w ↦
          listed-pushed c.args.names.now c.loop-name.name-index c.name-item.result w.in-Some.generation c.loop-name.found.items c.match-generation_in.found.items c.loop-name-test.true c.name-item.is (sym is ∙ w.in-Some.is) c.loop-name.invariant
          (ap (λ v. v.items) w.found-is ∙ w.in_ok-push.ensures.items)
      | in_default w ↦
          ap (λ v. v.items) w.found-is ∙ listed-passed c.args.names.now c.loop-name.name-index c.name-item.result c.loop-name.found.items c.loop-name-test.true c.name-item.is (sym is ∙ w.in_default.is) c.loop-name.invariant
    ]
