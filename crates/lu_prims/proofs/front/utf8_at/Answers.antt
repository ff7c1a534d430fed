use Rattle.std.proofs.Common.{◌≤◌, length, subst, sym, ◌∙◌, arith}
use Rattle.std.specs.Str.{IsUtf8}
use Rattle.lu_prims.proofs.CurLemmas.{read_utf8-text, read_utf8-none}
use Rattle.lu_prims.proofs.front.utf8_at.Goals as goal

pub returns-in-Err : goal.returns-in-Err
returns-in-Err c =
    let le : c.args.count ≤ length c.args.bytes.now = omega arith in
    read_utf8-none c.args.count c.args.bytes.now le (λ valid. c.in-Err.ensures.cases.0 (subst IsUtf8 (sym c.split_at.ensures.front) valid))

pub returns-in-Ok : goal.returns-in-Ok
returns-in-Ok c =
    let le : c.args.count ≤ length c.args.bytes.now = omega arith in
    (le, read_utf8-text c.args.count c.args.bytes.now c.in-Ok.found.now le (subst IsUtf8 c.split_at.ensures.front c.in-Ok.ensures.cases.1) (c.in-Ok.ensures.cases.0 ∙ c.split_at.ensures.front))
