use Rattle.std.proofs.Common.{refl}
use Rattle.check_index.specs.declared.terms.OpenTerms.{OpenTerms}
use Rattle.check_index.specs.Terms.{listed_terms, lists_in}
use Rattle.check_index.specs.Locating.{index_files_of}
use Rattle.term_dict.proofs.FactLemmas.{good-terms}
use Rattle.check_index.proofs.TermFiles.{entries-fault, entries-stand}
use Rattle.check_index.proofs.terms.open_terms.Goals as goal

pub check_entries-requires : goal.check_entries-requires
check_entries-requires c = good-terms c.args.fields.now c.args.size c.in-Ok.tis.now c.in-Ok-check_tis.terms c.in-Ok-check_tis.ensures.ok

pub returns-in-Err-check_entries-clause-judged : goal.returns-in-Err-check_entries-clause-judged
returns-in-Err-check_entries-clause-judged c =
    let size = c.args.size in
    let fields = c.args.fields.now in
    let seen = λ (o : OpenTerms). listed_terms o.terms (lists_in fields size o.terms o.frq.now) in
    entries-fault seen (index_files_of c.args.files.now) size fields c.in-Ok.tis.now c.in-Ok-needed.tii.now c.in-Ok-needed-2.frq.now c.in-Ok-check_tis.terms c.in-Ok.ensures c.in-Ok-check_tis.ensures.ok c.in-Ok-needed.ensures c.in_default.ensures.ok
    c.in-Ok-needed-2.ensures c.in-Err-check_entries.fault c.in-Err-check_entries.ensures.fault

pub returns-in-Ok-check_entries-clause-judged : goal.returns-in-Ok-check_entries-clause-judged
returns-in-Ok-check_entries-clause-judged c =
    let size = c.args.size in
    let fields = c.args.fields.now in
    let d = c.in-Ok-check_tis.terms in
    let frq = c.in-Ok-needed-2.frq in
    let seen = λ (o : OpenTerms). listed_terms o.terms (lists_in fields size o.terms o.frq.now) in
    entries-stand seen (index_files_of c.args.files.now) size fields c.in-Ok.tis.now c.in-Ok-needed.tii.now frq.now d c.in-Ok.ensures c.in-Ok-check_tis.ensures.ok c.in-Ok-needed.ensures c.in_default.ensures.ok
    c.in-Ok-needed-2.ensures (lists_in fields size d frq.now) (record { terms = d; tii = c.in-Ok-needed.tii; frq = frq }) c.in-Ok-check_entries.ensures.listed.reads refl

pub returns-in-Ok-check_entries-clause-good : goal.returns-in-Ok-check_entries-clause-good
returns-in-Ok-check_entries-clause-good c = good-terms c.args.fields.now c.args.size c.in-Ok.tis.now c.in-Ok-check_tis.terms c.in-Ok-check_tis.ensures.ok
