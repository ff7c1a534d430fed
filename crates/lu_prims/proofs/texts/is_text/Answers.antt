use Rattle.std.proofs.Common.{sym, subst}
use Rattle.std.specs.Str.{IsUtf8}
use Rattle.lu_prims.proofs.TextLemmas.{is_utf8-after, is_utf8-not_after}
use Rattle.lu_prims.proofs.texts.is_text.Goals as goal

pub returns-in-Ok : goal.returns-in-Ok
returns-in-Ok c = sym (is_utf8-after c.args.bytes.now c.args.from c.requires.front (subst IsUtf8 c.split_at.ensures.back c.in-Ok.ensures.cases.1))

pub returns-in-Err : goal.returns-in-Err
returns-in-Err c = sym (is_utf8-not_after c.args.bytes.now c.args.from c.requires.front (λ text. c.in-Err.ensures.cases.0 (subst IsUtf8 (sym c.split_at.ensures.back) text)))
