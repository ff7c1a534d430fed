use Rattle.std.proofs.Common.{ℕ, List, Err, refl, subst}
use Rattle.lu_types.specs.FilePlans.{Judges, StandFor}
use Rattle.stored_fields.specs.Values.{StoredDocument}
use Rattle.check_index.specs.declared.standing.OpenContents.{OpenContents}
use Rattle.check_index.specs.declared.terms.OpenTerms.{OpenTerms}
use Rattle.check_index.specs.Documents.{stored_files}
use Rattle.check_index.specs.Locating.{part_files_of}
use Rattle.check_index.specs.Terms.{listed_terms, lists_in}
use Rattle.check_index.specs.Opened.{contents_of}
use Rattle.check_index.proofs.PositionFiles.{seen}
use Rattle.check_index.proofs.ContentFiles.{stored-fault, terms-fault, positions-fault, contents-stand}
use Rattle.check_index.proofs.OmittedTerms.{omitted-terms}
use Rattle.check_index.proofs.judging.open_contents.Goals as goal

pub returns-in-Err-open_stored-clause-judged : goal.returns-in-Err-open_stored-clause-judged
returns-in-Err-open_stored-clause-judged c =
    let files = part_files_of c.args.files.now in
    let line = c.args.info.now in
    stored-fault (contents_of line.size) files line c.in-Ok.fields c.in-Ok.ensures (λ (d : List StoredDocument). d) c.in-Err-open_stored.fault
    (subst (λ (n : ℕ). Judges (λ (d : List StoredDocument). d) (stored_files line.store line.size n files.documents.fdx files.documents.fdt) (Err c.in-Err-open_stored.fault)) c.count.ensures.count c.in-Err-open_stored.ensures.judged)

pub returns-in-Err-open_terms-clause-judged : goal.returns-in-Err-open_terms-clause-judged
returns-in-Err-open_terms-clause-judged c =
    let files = part_files_of c.args.files.now in
    let line = c.args.info.now in
    let fields = c.in-Ok.fields in
    terms-fault (contents_of line.size) files line fields c.in-Ok.ensures c.in-Ok-open_stored.stored
    (subst (λ (n : ℕ). StandFor (stored_files line.store line.size n files.documents.fdx files.documents.fdt) c.in-Ok-open_stored.stored) c.count.ensures.count c.in-Ok-open_stored.ensures.judged)
    (λ (o : OpenTerms). listed_terms o.terms (lists_in fields line.size o.terms o.frq.now)) c.in-Err-open_terms.fault c.in-Err-open_terms.ensures.judged

pub returns-in-Err-open_positions-clause-judged : goal.returns-in-Err-open_positions-clause-judged
returns-in-Err-open_positions-clause-judged c =
    let files = part_files_of c.args.files.now in
    let line = c.args.info.now in
    let fields = c.in-Ok.fields in
    let o = c.in-Ok-open_terms.terms in
    let lists = lists_in fields line.size o.terms o.frq.now in
    positions-fault (contents_of line.size) files line fields c.in-Ok.ensures c.in-Ok-open_stored.stored
    (subst (λ (n : ℕ). StandFor (stored_files line.store line.size n files.documents.fdx files.documents.fdt) c.in-Ok-open_stored.stored) c.count.ensures.count c.in-Ok-open_stored.ensures.judged)
    (listed_terms o.terms lists) c.in-Ok-open_terms.ensures.judged (seen files.index line fields o.terms lists) c.in-Err-open_positions.fault (c.in-Err-open_positions.ensures.judged files.index refl)

pub returns-clause-judged : goal.returns-clause-judged
returns-clause-judged c =
    let files = part_files_of c.args.files.now in
    let line = c.args.info.now in
    let fields = c.in-Ok.fields in
    let o = c.in-Ok-open_terms.terms in
    let lists = lists_in fields line.size o.terms o.frq.now in
    let all : OpenContents = record { fields = fields; stored = c.in-Ok-open_stored.stored; terms = o; prx = c.in-Ok-open_positions.prx } in
    contents-stand (contents_of line.size) files line fields c.in-Ok.ensures c.in-Ok-open_stored.stored
    (subst (λ (n : ℕ). StandFor (stored_files line.store line.size n files.documents.fdx files.documents.fdt) c.in-Ok-open_stored.stored) c.count.ensures.count c.in-Ok-open_stored.ensures.judged)
    (listed_terms o.terms lists) c.in-Ok-open_terms.ensures.judged (contents_of line.size all).occurrences all (c.in-Ok-open_positions.ensures.judged files.index refl) refl

pub open_positions-requires-clause-omitted : goal.open_positions-requires-clause-omitted
open_positions-requires-clause-omitted c =
    omitted-terms (part_files_of c.args.files.now).index c.args.info.now c.in-Ok.fields c.in-Ok-open_terms.terms.terms c.in-Ok.ensures c.in-Ok-open_terms.ensures.good
