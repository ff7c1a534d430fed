use Rattle.std.proofs.Common.{ap, ◌∙◌}
use Rattle.std.specs.Prelude.{slice_get, option_map}
use Rattle.lu_types.specs.Tables.{bits_at}
use Rattle.lu_types.specs.Terms.{term_rules}
use Rattle.lu_types.specs.declared.term.TermNumbers.{TermNumbers}
use Rattle.term_dict.specs.Terms.{DictionaryTerm}
use Rattle.check_index.specs.Terms.{lists_in}
use Rattle.check_index.specs.Segments.{SegmentValue}
use Rattle.check_index.specs.Opened.{no_data, entries_of}
use Rattle.check_index.proofs.TermLemmas.{good_at, walk_at}
use Rattle.check_index.proofs.standing.Standing.entries.Goals as goal

pub at-requires : goal.at-requires
at-requires c =
    let i = c.self.inside in
    let fields = i.contents.fields in
    let d = i.contents.terms.terms in
    let frq = i.contents.terms.frq.now in
    let info = c.args.term.now in
    let is = c.rules_of-rules.ensures ∙ ap (λ (m : TermNumbers). term_rules m (bits_at fields info.field) i.size) c.numbers-numbers.ensures.numbers in
    let there = ap (λ (s : SegmentValue). option_map (λ (t : DictionaryTerm). t.info) (slice_get s.dictionary.terms c.requires.0)) c.self.view_is ∙ c.requires.1 in
    good_at fields i.size d frq (lists_in fields i.size d frq) c.self.invariant.listed c.requires.0 info c.rules_of-rules.result there is

pub returns : goal.returns
returns c = λ n term.
    let i = c.self.inside in
    let fields = i.contents.fields in
    let d = i.contents.terms.terms in
    let frq = i.contents.terms.frq.now in
    let info = c.args.term.now in
    let is = c.rules_of-rules.ensures ∙ ap (λ (m : TermNumbers). term_rules m (bits_at fields info.field) i.size) c.numbers-numbers.ensures.numbers in
    let there = ap (λ (s : SegmentValue). option_map (λ (t : DictionaryTerm). t.info) (slice_get s.dictionary.terms n)) c.self.view_is ∙ term in
    walk_at fields i.size d frq (lists_in fields i.size d frq) c.self.invariant.listed n info c.rules_of-rules.result there is no_data c.at.result c.at.ensures ∙ ap (λ (s : SegmentValue). entries_of s n info) c.self.view_is
