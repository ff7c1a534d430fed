use Rattle.std.proofs.Common.{ℕ, List, sym, ap, subst, ◌∙◌}
use Rattle.std.specs.Prelude.{slice_get, option_map, option_copied}
use Rattle.lu_types.specs.Tables.{bits_at}
use Rattle.lu_types.specs.Terms.{term_rules}
use Rattle.lu_types.specs.declared.term.TermNumbers.{TermNumbers}
use Rattle.term_dict.specs.Terms.{DictionaryTerm}
use Rattle.check_index.specs.Terms.{lists_in}
use Rattle.check_index.specs.Segments.{SegmentValue}
use Rattle.freq_skips.specs.Points.{IsPoint}
use Rattle.lu_types.specs.Occurrences.{Occurrence}
use Rattle.check_index.specs.Opened.{no_data, data_of, ruled_term, KeepsPositions, StandsAt, occurrences_of}
use Rattle.check_index.proofs.KnownTerms.{point-in, among-kept, among-some}
use Rattle.check_index.proofs.standing.Standing.occurrences.Goals as goal

pub at-requires : goal.at-requires
at-requires c =
    let i = c.self.inside in
    let fields = i.contents.fields in
    let d = i.contents.terms.terms in
    let frq = i.contents.terms.frq.now in
    let info = c.args.term.now in
    let is = c.rules_of-rules.ensures ∙ ap (λ (m : TermNumbers). term_rules m (bits_at fields info.field) i.size) c.numbers-numbers.ensures.numbers in
    let there = ap (λ (s : SegmentValue). option_map (λ (t : DictionaryTerm). t.info) (slice_get s.dictionary.terms c.requires.0)) c.self.view_is ∙ c.requires.1.0 in
    let point = subst (λ (s : SegmentValue). IsPoint (ruled_term s info) (data_of s c.requires.0) c.args.at.now) (sym c.self.view_is) c.requires.1.1 in
    point-in fields i.size d frq (lists_in fields i.size d frq) c.self.invariant.listed c.requires.0 info c.rules_of-rules.result there is no_data (option_copied i.contents.prx) c.self.invariant.posted c.bytes_if_any.result.now c.bytes_if_any.ensures c.args.at.now point

pub returns-clause-kept : goal.returns-clause-kept
returns-clause-kept c = λ n term keeps.
    let i = c.self.inside in
    let fields = i.contents.fields in
    let d = i.contents.terms.terms in
    let frq = i.contents.terms.frq.now in
    let info = c.args.term.now in
    let is = c.rules_of-rules.ensures ∙ ap (λ (m : TermNumbers). term_rules m (bits_at fields info.field) i.size) c.numbers-numbers.ensures.numbers in
    let there = ap (λ (s : SegmentValue). option_map (λ (t : DictionaryTerm). t.info) (slice_get s.dictionary.terms n)) c.self.view_is ∙ term.0 in
    let point = subst (λ (s : SegmentValue). IsPoint (ruled_term s info) (data_of s n) c.args.at.now) (sym c.self.view_is) term.1 in
    let kept = subst (λ (s : SegmentValue). KeepsPositions s info) (sym c.self.view_is) keeps in
    subst (λ (s : SegmentValue). StandsAt s n info c.args.at.now (occurrences_of s n) c.at.result) c.self.view_is
    (among-kept fields i.size d frq (lists_in fields i.size d frq) c.self.invariant.listed n info c.rules_of-rules.result there is no_data (option_copied i.contents.prx) c.self.invariant.posted c.bytes_if_any.result.now c.bytes_if_any.ensures c.args.at.now point c.at.result c.at.ensures kept)

pub returns-clause-stands : goal.returns-clause-stands
returns-clause-stands c = λ n term.
    let i = c.self.inside in
    let fields = i.contents.fields in
    let d = i.contents.terms.terms in
    let frq = i.contents.terms.frq.now in
    let info = c.args.term.now in
    let is = c.rules_of-rules.ensures ∙ ap (λ (m : TermNumbers). term_rules m (bits_at fields info.field) i.size) c.numbers-numbers.ensures.numbers in
    let there = ap (λ (s : SegmentValue). option_map (λ (t : DictionaryTerm). t.info) (slice_get s.dictionary.terms n)) c.self.view_is ∙ term.0 in
    let point = subst (λ (s : SegmentValue). IsPoint (ruled_term s info) (data_of s n) c.args.at.now) (sym c.self.view_is) term.1 in
    subst (λ (s : SegmentValue). (some : List (List Occurrence)) × StandsAt s n info c.args.at.now some c.at.result) c.self.view_is
    (among-some fields i.size d frq (lists_in fields i.size d frq) c.self.invariant.listed n info c.rules_of-rules.result there is no_data (option_copied i.contents.prx) c.self.invariant.posted c.bytes_if_any.result.now c.bytes_if_any.ensures c.args.at.now point c.at.result c.at.ensures)
