use Rattle.lu_listing.proofs.PrintingLemmas.{prints-same, prints-both}
use Rattle.lu_listing.proofs.TermLemmas.{term-lines, omitted-by}
use Rattle.lu_listing.proofs.terms.term_text.Goals as goal

pub entries_text-requires : goal.entries_text-requires
entries_text-requires g c =
    omitted-by c.args.reader.now c.requires.0 c.args.term.now c.omits_occurrences.result c.all_postings-entries.result c.size-size.ensures.valid c.requires.1 c.omits_occurrences.ensures (c.all_postings-entries.ensures c.requires.0 c.requires.1.is_term)

pub returns : goal.returns
returns g c = λ n listed. prints-same _ _ _ _ (term-lines c.args.reader.now n c.args.term.now c.all_postings-entries.result listed (c.all_postings-entries.ensures n listed.is_term)) (prints-both _ _ _ _ _ c.term_heading.ensures c.entries_text.ensures)
