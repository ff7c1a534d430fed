use Rattle.lu_grammar.specs.Bytes.{place_in}
use Rattle.std.proofs.Common.{suc, ◌∙◌}
use Rattle.freq_skips.specs.Entries.{postings_from}
use Rattle.freq_skips.proofs.LengthLemmas.{none_above}
use Rattle.freq_skips.proofs.levels.check_level.Goals as goal

pub returns-in-Err : goal.returns-in-Err
returns-in-Err c = λ points h.
    let ps = postings_from c.args.entries.now.term (place_in c.args.entries.now.frq.now c.args.entries.now.start) in
    c.in-Err.ensures.level ps points (none_above c.args.entries.now.term ps (suc c.args.number) points c.args.entries.now.frq.now c.args.above c.is_none.result c.is_none.ensures h)

pub returns-in-Err-check_data : goal.returns-in-Err-check_data
returns-in-Err-check_data c = λ points h.
    let ps = postings_from c.args.entries.now.term (place_in c.args.entries.now.frq.now c.args.entries.now.start) in
    let same = c.in-Ok.ensures.level ps points (none_above c.args.entries.now.term ps (suc c.args.number) points c.args.entries.now.frq.now c.args.above c.is_none.result c.is_none.ensures h) in
    let fault = c.in-Err-check_data.ensures points h in
    (fault.0, same ∙ fault.1)
