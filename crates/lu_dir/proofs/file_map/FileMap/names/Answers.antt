use Rattle.std.proofs.Common.{◌++◌, map, string_bytes, sym, ap, ◌∙◌, append-nil}
use Rattle.std.specs.FinMap.{keys}
use Rattle.lu_dir.proofs.HeldNames.{keys-files_of, names-push}
use Rattle.lu_dir.proofs.file_map.FileMap.names.Goals as goal

pub loop-name-init : goal.loop-name-init
loop-name-init c =
    ap (λ names. map string_bytes names ++ map string_bytes c.into_iter-name-iterator.result) c.new-names.ensures.items
    ∙ ap (map string_bytes) (c.into_iter-name-iterator.ensures.into_iter_gives ∙ c.keys-name-items.ensures.rest)
    ∙ sym (keys-files_of c.self.inside.held c.keys-name-items.ensures.ordered)
    ∙ ap keys c.self.view_is

pub loop-name-preserved : goal.loop-name-preserved
loop-name-preserved c =
    names-push c.loop-name.names.items c.push.new.self.items c.in_ok-clone.field-0 c.in-Some.name.now c.loop-name.name-iterator c.next.new.self (keys c.args.self.now)
    c.in_ok-push.ensures.items c.in-Some.ensures.steps c.in_ok-clone.ensures.cases c.loop-name.invariant

pub returns : goal.returns
returns c =
    sym (append-nil (map string_bytes c.loop-name.names.items))
    ∙ ap (λ left. map string_bytes c.loop-name.names.items ++ map string_bytes left) (sym c.in-None.ensures.steps.0)
    ∙ c.loop-name.invariant
