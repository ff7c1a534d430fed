use Rattle.std.proofs.Common.{◌≡◌, ◌++◌, List, length, map, sym, ap, ◌∙◌, subst, arith}
use Rattle.std.specs.List.{AllByRecursion}
use Rattle.std.proofs.lemmas.Bool.{false≢true}
use mathlib.Core.Bool.{true≢false}
use Rattle.lu_model.specs.Contents.{kept}
use Rattle.lu_model.specs.Index.{IndexedEntry}
use Rattle.seg_reader.specs.Postings.{entries_left}
use Rattle.seg_merger.specs.TermNumbers.{HasNumber, renamed}
use Rattle.seg_merger.specs.TermSteps.{IsGoing, IsInTerm, TermPlace}
use Rattle.seg_merger.proofs.PutLemmas.{going-follows, going-kept, going-next}
use Rattle.seg_merger.proofs.WalkLemmas.{is_answered, renamed-first, some-step}
use Rattle.seg_merger.proofs.terms.entries.add_entries.Goals as goal

pub loop-more-preserved-in-None : goal.loop-more-preserved-in-None
loop-more-preserved-in-None g c =
    let inv = c.loop-more.invariant in
    let none = c.in-None.ensures.left in
    let same : entries_left c.loop-more.postings ≡ entries_left c.next.new.self = none.0 ∙ sym none.1 in
    record {
      numbered = subst (AllByRecursion (λ (e : IndexedEntry). HasNumber c.args.docs.now e.document)) same inv.numbered;
      going = (inv.going.0, subst (λ es. IsGoing c.args.bits (map (renamed c.args.bits c.args.docs.now) es ++ inv.going.0) c.loop-more.writer) same inv.going.1);
      adds = λ at all more h. subst (λ es. IsInTerm at all (map (renamed c.args.bits c.args.docs.now) es ++ more) c.loop-more.writer) same (inv.adds at all more h);
      none = λ e. sym same ∙ inv.none e;
      some = inv.some;
      ended = λ _. none.1;
    }

pub add_entry-requires-clause-here : goal.add_entry-requires-clause-here
add_entry-requires-clause-here g c =
    let a = is_answered c.loop-more.postings c.next.new.self c.in-Some.doc c.in-Some.ensures.document c.in-Some.ensures.walk c.in-Some.ensures.left in
    let more = c.loop-more.invariant.going.0 in
    let x : IndexedEntry = record { document = c.number.result; occurrences = kept c.args.bits a.entry.occurrences } in
    let going = subst (λ es. IsGoing c.args.bits es c.loop-more.writer) (renamed-first c.args.bits c.args.docs.now c.loop-more.postings c.next.new.self c.in-Some.doc c.number.result a c.number.ensures more) c.loop-more.invariant.going.1 in
    (a.entry, a.here, a.occurrences, (going-kept c.args.bits x (map (renamed c.args.bits c.args.docs.now) (entries_left c.next.new.self) ++ more) c.loop-more.writer going).1)

pub add_entry-requires-clause-small : goal.add_entry-requires-clause-small
add_entry-requires-clause-small g c =
    let a = is_answered c.loop-more.postings c.next.new.self c.in-Some.doc c.in-Some.ensures.document c.in-Some.ensures.walk c.in-Some.ensures.left in
    let more = c.loop-more.invariant.going.0 in
    let x : IndexedEntry = record { document = c.number.result; occurrences = kept c.args.bits a.entry.occurrences } in
    let going = subst (λ es. IsGoing c.args.bits es c.loop-more.writer) (renamed-first c.args.bits c.args.docs.now c.loop-more.postings c.next.new.self c.in-Some.doc c.number.result a c.number.ensures more) c.loop-more.invariant.going.1 in
    (going-kept c.args.bits x (map (renamed c.args.bits c.args.docs.now) (entries_left c.next.new.self) ++ more) c.loop-more.writer going).0

pub add_entry-requires-clause-follows : goal.add_entry-requires-clause-follows
add_entry-requires-clause-follows g c =
    let a = is_answered c.loop-more.postings c.next.new.self c.in-Some.doc c.in-Some.ensures.document c.in-Some.ensures.walk c.in-Some.ensures.left in
    let more = c.loop-more.invariant.going.0 in
    let x : IndexedEntry = record { document = c.number.result; occurrences = kept c.args.bits a.entry.occurrences } in
    let going = subst (λ es. IsGoing c.args.bits es c.loop-more.writer) (renamed-first c.args.bits c.args.docs.now c.loop-more.postings c.next.new.self c.in-Some.doc c.number.result a c.number.ensures more) c.loop-more.invariant.going.1 in
    going-follows c.args.bits x (map (renamed c.args.bits c.args.docs.now) (entries_left c.next.new.self) ++ more) c.loop-more.writer going

pub returns-in-Err-clause-adds : goal.returns-in-Err-clause-adds
returns-in-Err-clause-adds g c at all more h =
    let a = is_answered c.loop-more.postings c.next.new.self c.in-Some.doc c.in-Some.ensures.document c.in-Some.ensures.walk c.in-Some.ensures.left in
    let rest = map (renamed c.args.bits c.args.docs.now) (entries_left c.next.new.self) ++ more in
    let so_far = subst (λ es. IsInTerm at all es c.loop-more.writer) (renamed-first c.args.bits c.args.docs.now c.loop-more.postings c.next.new.self c.in-Some.doc c.number.result a c.number.ensures more) (c.loop-more.invariant.adds at all more h) in
    c.in-Err.ensures.adds a.entry a.here at all rest so_far

pub loop-more-preserved : goal.loop-more-preserved
loop-more-preserved g c =
    let inv = c.loop-more.invariant in
    let a = is_answered c.loop-more.postings c.next.new.self c.in-Some.doc c.in-Some.ensures.document c.in-Some.ensures.walk c.in-Some.ensures.left in
    let own = renamed-first c.args.bits c.args.docs.now c.loop-more.postings c.next.new.self c.in-Some.doc c.number.result a c.number.ensures in
    let same : entries_left c.next.new.self ≡ entries_left c.add_entry.new.postings = sym c.in-Ok.ensures.left in
    let adds : (at : TermPlace) (all more : List IndexedEntry) → IsInTerm at all (map (renamed c.args.bits c.args.docs.now) (entries_left c.loop-more.postings) ++ more) c.loop-more.writer → IsInTerm at all (map (renamed c.args.bits c.args.docs.now) (entries_left c.add_entry.new.postings) ++ more) c.add_entry.new.writer =
    λ at all more h. subst (λ es. IsInTerm at all (map (renamed c.args.bits c.args.docs.now) es ++ more) c.add_entry.new.writer) same
    (c.in-Ok.ensures.adds a.entry a.here at all (map (renamed c.args.bits c.args.docs.now) (entries_left c.next.new.self) ++ more) (subst (λ es. IsInTerm at all es c.loop-more.writer) (own more) h)) in
    let numbered = subst (AllByRecursion (λ (e : IndexedEntry). HasNumber c.args.docs.now e.document)) a.left inv.numbered in
    record {
      numbered = subst (AllByRecursion (λ (e : IndexedEntry). HasNumber c.args.docs.now e.document)) same numbered.1;
      going = (inv.going.0, going-next c.args.bits (map (renamed c.args.bits c.args.docs.now) (entries_left c.loop-more.postings) ++ inv.going.0) (map (renamed c.args.bits c.args.docs.now) (entries_left c.add_entry.new.postings) ++ inv.going.0) c.loop-more.writer c.add_entry.new.writer (λ at all h. adds at all inv.going.0 h) inv.going.1);
      adds = λ at all more h. adds at all more (inv.adds at all more h);
      none = λ e. absurd (true≢false e);
      some = λ _. some-step c.loop-more.some (entries_left c.loop-more.postings) (entries_left c.args.postings.now) inv.none inv.some (let size = ap length a.left in omega (arith, size));
      ended = λ e. absurd (false≢true (sym e ∙ c.loop-more-test.true));
    }

pub returns-clause-adds : goal.returns-clause-adds
returns-clause-adds g c at all more h =
    subst (λ es. IsInTerm at all (map (renamed c.args.bits c.args.docs.now) es ++ more) c.loop-more.writer) (c.loop-more.invariant.ended c.loop-more-test.false) (c.loop-more.invariant.adds at all more h)
