use Rattle.std.proofs.Common.{◌≡◌, ◌+◌, ◌∙◌, take, refl, subst, option_map, arith, IsErrOf, Ok, List, ◌∷◌, []}
use Rattle.std.specs.declared.string.String.{String}
use Rattle.std.specs.declared.alloc.Global.{Global}
use Rattle.std.proofs.lemmas.List.{take_all}
use Rattle.lu_dir.specs.Files.{Leaves, without_file}
use Rattle.lu_dir.specs.Loading.{texts}
use Rattle.lu_dir.specs.declared.fail.DirFail.{DirFail}
use Rattle.lu_dir.specs.declared.fail.DirFail.TheVariants.{Failed}
use Rattle.lu_folder.specs.Sweeping.{without_files, RemovesOnly}
use Rattle.lu_dir.proofs.Told.{Leaves-same, Leaves-join, changed-none, changed-changed}
use Rattle.lu_folder.proofs.SweepingLemmas.{RemovesOnly-none, RemovesOnly-next, without_files-next, removal, both_done, one_failed}
use Rattle.lu_folder.proofs.sweeping.sweep.Goals as goal

no_failure : IsErrOf {T = Unit {0}} {E = DirFail} (Ok tt) Failed → ⊥
no_failure e = cc

pub loop-name-init : goal.loop-name-init
loop-name-init g c = record {
  removed = changed-none (without_files (texts (take 0 c.args.names.now))) (g.D.Dir.files c.args.dir.now) (g.D.Dir.files c.args.dir.now) refl (λ files. refl);
  left = Leaves-same (RemovesOnly (texts (take 0 c.args.names.now))) (g.D.Dir.files c.args.dir.now) (g.D.Dir.files c.args.dir.now) refl (RemovesOnly-none (texts (take 0 c.args.names.now)));
  asked = refl;
  cause = record { later = omega arith; rose = λ failed. absurd (no_failure failed) };
}

pub loop-name-preserved : goal.loop-name-preserved
loop-name-preserved g c =
    let names = c.args.names.now in
    let place = c.loop-name.name-index in
    let first = g.D.Dir.files c.args.dir.now in
    let before = g.D.Dir.files c.loop-name.dir in
    let after = g.D.Dir.files c.remove.new.self in
    record {
      removed = both_done c.loop-name.answer c.remove.result c.worse-answer.result
          (before ≡ option_map (without_files (texts (take place names))) first) (after ≡ option_map (without_file c.as_str.result.now) before) (after ≡ option_map (without_files (texts (take (place + 1) names))) first)
          c.worse-answer.ensures.ok c.loop-name.invariant.removed c.remove.ensures.removed
          (λ one other. changed-changed (without_files (texts (take place names))) (without_file c.as_str.result.now) (without_files (texts (take (place + 1) names))) first before after one other
          (λ files. without_files-next names place c.name-item.result c.as_str.result.now files c.loop-name-test.true c.name-item.is c.as_str.ensures.value));
      left = Leaves-join (RemovesOnly (texts (take place names))) (RemovesOnly (c.as_str.result.now ∷ [])) (RemovesOnly (texts (take (place + 1) names))) first before after
          (λ old mid new one other. RemovesOnly-next names place c.name-item.result c.as_str.result.now old mid new c.loop-name-test.true c.name-item.is c.as_str.ensures.value one other)
          c.loop-name.invariant.left
          (removal c.as_str.result.now c.remove.result before after c.remove.ensures.removed c.remove.ensures.left);
      asked = c.remove.ensures.asked ∙ c.loop-name.invariant.asked;
      cause = one_failed c.loop-name.answer c.remove.result c.worse-answer.result (g.D.Dir.faults c.args.dir.now) (g.D.Dir.faults c.loop-name.dir) (g.D.Dir.faults c.remove.new.self) c.worse-answer.ensures.failed c.loop-name.invariant.cause c.remove.ensures.cause;
    }

pub returns-clause-left : goal.returns-clause-left
returns-clause-left g c =
    subst (λ (names : List (String Global)). Leaves (RemovesOnly (texts names)) (g.D.Dir.files c.args.dir.now) (g.D.Dir.files c.loop-name.dir)) (take_all c.loop-name.name-index c.args.names.now c.loop-name-test.false) c.loop-name.invariant.left
