use Rattle.std.proofs.Common.{◌≡◌, List, [], ◌∷◌, length, eqb-true, refl, sym, ◌∙◌, subst, arith}
use Rattle.segment_files.specs.Postings.{kept_terms}
use Rattle.posting_files.specs.States.{ArePostings}
use Rattle.seg_writer.specs.Entries.{AddsTerms}
use Rattle.seg_merger.specs.TermRests.{Rest, terms_of_all}
use Rattle.seg_merger.proofs.PutLemmas.{all-goes}
use Rattle.seg_merger.proofs.RestLemmas.{terms-none}
use Rattle.seg_merger.proofs.terms.merging.merge_slots.Goals as goal

no-slots : (rests : List Rest) → length rests ≡ 0 → rests ≡ []
no-slots [] e = refl
no-slots (r ∷ rests) e = absurd (omega (arith, e))

pub returns-then-is_empty : goal.returns-then-is_empty
returns-then-is_empty g c i limit h =
    let table = c.args.fields.now in
    let zero : c.args.slots.len ≡ 0 = eqb-true c.args.slots.len 0 (sym c.is_empty.ensures ∙ c.if-is_empty.true) in
    let size = c.args.slots.ok in
    let none = no-slots c.args.slots.items (omega (arith, zero, size)) in
    subst (λ rs. ArePostings i limit (kept_terms table (terms_of_all table rs)) c.args.writer.now) (sym none) (subst (λ ts. ArePostings i limit (kept_terms table ts) c.args.writer.now) (sym (terms-none table [] refl)) h)

pub returns : goal.returns
returns g c i limit h =
    let table = c.args.fields.now in
    let all = kept_terms table (terms_of_all table c.in_ok-contest.contest.rests) in
    subst (λ rs. AddsTerms i limit (kept_terms table (terms_of_all table rs)) c.merge_all.new.writer c.merge_all.result) c.in_ok-contest.ensures
    (all-goes i limit all c.merge_all.new.writer c.merge_all.result (c.merge_all.ensures i limit all ([], h, refl)))
