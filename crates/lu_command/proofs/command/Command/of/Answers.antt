use Rattle.std.proofs.Common.{codes}
use Rattle.lu_dir.specs.Loading.{texts}
use Rattle.lu_command.proofs.NoneMeant.{none-postings, words-begin}
use Rattle.lu_command.proofs.command.Command.of.Goals as goal

pub returns-in_err-dir-6 : goal.returns-in_err-dir-6
returns-in_err-dir-6 c =
    let starts = words-begin c.args.words.now c.in_ok-name.name.now c.in_ok-name.rest.now c.as_str-6.result.now (codes "postings") c.eq-6.result c.in_ok-name.ensures.cases.0 c.as_str-6.ensures.value c.eq-6.ensures c.if-eq-6.true in
    rw c.from_residual-in_err-dir-6.ensures (none-postings (texts c.args.words.now) (texts c.in_ok-name.rest.now) starts c.in_err-dir-6.ensures)
