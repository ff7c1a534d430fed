use Rattle.std.proofs.Common.{ap, ◌∙◌}
use Rattle.std.specs.Prelude.{slice_get, option_map, option_copied}
use Rattle.lu_types.specs.Tables.{bits_at}
use Rattle.lu_types.specs.Terms.{term_rules}
use Rattle.lu_types.specs.declared.term.TermNumbers.{TermNumbers}
use Rattle.term_dict.specs.Terms.{DictionaryTerm}
use Rattle.check_index.specs.Terms.{lists_in}
use Rattle.check_index.specs.Segments.{SegmentValue}
use Rattle.check_index.specs.Opened.{no_data, skips_of}
use Rattle.check_index.proofs.TermLemmas.{good_at}
use Rattle.check_index.proofs.KnownTerms.{places-known, skips_at}
use Rattle.check_index.proofs.standing.Standing.skips.Goals as goal

pub at-requires-clause-good : goal.at-requires-clause-good
at-requires-clause-good c =
    let i = c.self.inside in
    let fields = i.contents.fields in
    let d = i.contents.terms.terms in
    let frq = i.contents.terms.frq.now in
    let info = c.args.term.now in
    let is = c.rules_of-rules.ensures ∙ ap (λ (m : TermNumbers). term_rules m (bits_at fields info.field) i.size) c.numbers-numbers.ensures.numbers in
    let there = ap (λ (s : SegmentValue). option_map (λ (t : DictionaryTerm). t.info) (slice_get s.dictionary.terms c.requires.0)) c.self.view_is ∙ c.requires.1 in
    good_at fields i.size d frq (lists_in fields i.size d frq) c.self.invariant.listed c.requires.0 info c.rules_of-rules.result there is

pub at-requires-clause-places : goal.at-requires-clause-places
at-requires-clause-places c =
    let i = c.self.inside in
    let fields = i.contents.fields in
    let d = i.contents.terms.terms in
    let frq = i.contents.terms.frq.now in
    let info = c.args.term.now in
    let is = c.rules_of-rules.ensures ∙ ap (λ (m : TermNumbers). term_rules m (bits_at fields info.field) i.size) c.numbers-numbers.ensures.numbers in
    let there = ap (λ (s : SegmentValue). option_map (λ (t : DictionaryTerm). t.info) (slice_get s.dictionary.terms c.requires.0)) c.self.view_is ∙ c.requires.1 in
    places-known fields i.size d frq (lists_in fields i.size d frq) c.self.invariant.listed c.requires.0 info c.rules_of-rules.result there is (option_copied i.contents.prx) c.self.invariant.good c.self.invariant.posted

pub returns : goal.returns
returns c = λ n term.
    let i = c.self.inside in
    let fields = i.contents.fields in
    let d = i.contents.terms.terms in
    let frq = i.contents.terms.frq.now in
    let info = c.args.term.now in
    let is = c.rules_of-rules.ensures ∙ ap (λ (m : TermNumbers). term_rules m (bits_at fields info.field) i.size) c.numbers-numbers.ensures.numbers in
    let there = ap (λ (s : SegmentValue). option_map (λ (t : DictionaryTerm). t.info) (slice_get s.dictionary.terms n)) c.self.view_is ∙ term in
    skips_at fields i.size d frq (lists_in fields i.size d frq) c.self.invariant.listed n info c.rules_of-rules.result there is no_data c.at.result c.at.ensures ∙ ap (λ (s : SegmentValue). skips_of s n info) c.self.view_is
