use Rattle.std.proofs.Common.{List, ap, subst, ◌∙◌}
use Rattle.lu_types.specs.Bits as bit
use Rattle.lu_types.specs.Bits.{has_bit}
use Rattle.lu_types.specs.Tables.{TableField, bits_at}
use Rattle.lu_types.specs.declared.term.TermRules.{TermRules}
use Rattle.term_dict.specs.Checks.{AreBounded}
use Rattle.term_dict.specs.Dictionary.{Dictionary}
use Rattle.check_index.specs.Opened.{ruled_term, data_of}
use Rattle.seg_reader.proofs.OverLemmas.{StandsFirst-made, start-is, together-over, walk-over}
use Rattle.seg_reader.proofs.postings.PostingsCursor.over.Goals as goal

pub occurrences-requires : goal.occurrences-requires
occurrences-requires c =
    let s = c.args.standing.now in
    let n = c.requires.0 in
    (n, (c.requires.1, start-is (ruled_term s c.args.term.now) (data_of s n) c.start.result c.start.ensures))

pub invariant_of-result : goal.invariant_of-result
invariant_of-result c =
    let s = c.args.standing.now in
    let n = c.requires.0 in
    let is = c.requires.1 in
    let info = c.args.term.now in
    let first = StandsFirst-made s n info is c.start.result c.occurrences.result c.start.ensures c.occurrences.ensures.kept c.occurrences.ensures.stands in
    let bits = c.bits_of.ensures ∙ ap (λ (fields : List TableField). bits_at fields info.field) c.fields.ensures in
    let flag = ap (λ (r : TermRules). r.omit_tf) c.of-rules.ensures ∙ ap (has_bit bit.omit_tf) bits in
    let numbers = c.numbers-numbers.ensures.numbers ∙ ap (λ (d : Dictionary). d.numbers) c.terms.ensures.terms in
    let bounded = subst AreBounded numbers c.numbers-numbers.ensures.bounded in
    together-over s n info is c.occurrences.result first c.args.live.documents c.entries.result (c.entries.ensures n is) c.walk.result c.walk.ensures c.skips.result c.of-rules.result.omit_tf (c.skips.ensures n is) flag c.terms.ensures.good
    c.size.ensures.valid.small bounded

pub returns : goal.returns
returns c = λ n is.
    let s = c.args.standing.now in
    let info = c.args.term.now in
    let first = StandsFirst-made s n info is c.start.result c.occurrences.result c.start.ensures c.occurrences.ensures.kept c.occurrences.ensures.stands in
    walk-over s n info is c.occurrences.result first c.args.live.documents c.entries.result (c.entries.ensures n is) c.walk.result c.walk.ensures c.terms.ensures.indexed c.terms.ensures.known
