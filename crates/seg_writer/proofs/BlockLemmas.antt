-- Lists of terms in turn, one more.
use Rattle.std.proofs.Common.{◌≡◌, ap, sym, ◌∙◌, subst, ℕ, ◌+◌, ◌<◌, ◌++◌, List, [], ◌∷◌, length, take, drop, get_or, Err}
use Rattle.std.specs.List.{flat_map}
use Rattle.std.proofs.lemmas.Grind.{flat_map-append}
use Rattle.std.proofs.lemmas.List.{append_assoc, append-nil, take_more, take-append-drop}
use Rattle.segment_files.specs.Postings.{PostingIntervals, KeptTerm}
use Rattle.posting_files.specs.States.{PostingState, ArePostings}
use Rattle.seg_writer.specs.declared.fault.WriteFault.{WriteFault}
use Rattle.seg_writer.specs.Entries.{AddsTerms}
use Rattle.seg_writer.proofs.PostedLemmas.{faults-grow}

block-more : {X : Type 0} (F : X → List KeptTerm) (xs : List X) (k : ℕ) (x : X) → k < length xs → x ≡ get_or xs k x → flat_map F (take (k + 1) xs) ≡ flat_map F (take k xs) ++ F x
block-more F xs k x lt is =
    ap (flat_map F) (take_more xs k x lt ∙ ap (λ y. take k xs ++ y ∷ []) (sym is)) ∙ flat_map-append F (take k xs) (x ∷ []) ∙ ap (λ w. flat_map F (take k xs) ++ w) (append-nil (F x))

pub blocks-next : {X : Type 0} (F : X → List KeptTerm) (xs : List X) (k : ℕ) (x : X) (old s new : PostingState) → k < length xs → x ≡ get_or xs k x
    → ((i : PostingIntervals) (limit : ℕ) (ts : List KeptTerm) → ArePostings i limit ts old → ArePostings i limit (ts ++ flat_map F (take k xs)) s)
    → ((i : PostingIntervals) (limit : ℕ) (ts : List KeptTerm) → ArePostings i limit ts s → ArePostings i limit (ts ++ F x) new)
    → (i : PostingIntervals) (limit : ℕ) (ts : List KeptTerm) → ArePostings i limit ts old → ArePostings i limit (ts ++ flat_map F (take (k + 1) xs)) new
blocks-next F xs k x old s new lt is so_far adds i limit ts h =
    let front = flat_map F (take k xs) in
    subst (λ us. ArePostings i limit us new) (append_assoc ts front (F x) ∙ ap (λ w. ts ++ w) (sym (block-more F xs k x lt is))) (adds i limit (ts ++ front) (so_far i limit ts h))

pub blocks-not-added : {X : Type 0} (F : X → List KeptTerm) (xs : List X) (k : ℕ) (x : X) (fault : WriteFault) (old s new : PostingState) → k < length xs → x ≡ get_or xs k x
    → ((i : PostingIntervals) (limit : ℕ) (ts : List KeptTerm) → ArePostings i limit ts old → ArePostings i limit (ts ++ flat_map F (take k xs)) s)
    → ((i : PostingIntervals) (limit : ℕ) (ts : List KeptTerm) → ArePostings i limit ts s → AddsTerms i limit (ts ++ F x) new (Err fault))
    → (i : PostingIntervals) (limit : ℕ) (ts : List KeptTerm) → ArePostings i limit ts old → AddsTerms i limit (ts ++ flat_map F xs) new (Err fault)
blocks-not-added F xs k x fault old s new lt is so_far says i limit ts h =
    let front = flat_map F (take k xs) in
    let next = flat_map F (take (k + 1) xs) in
    let back = flat_map F (drop (k + 1) xs) in
    let own : AddsTerms i limit (ts ++ next) new (Err fault) = subst (λ us. AddsTerms i limit us new (Err fault)) (append_assoc ts front (F x) ∙ ap (λ w. ts ++ w) (sym (block-more F xs k x lt is))) (says i limit (ts ++ front) (so_far i limit ts h)) in
    let all : next ++ back ≡ flat_map F xs = sym (flat_map-append F (take (k + 1) xs) (drop (k + 1) xs)) ∙ ap (flat_map F) (take-append-drop (k + 1) xs) in
    subst (λ us. AddsTerms i limit us new (Err fault)) (append_assoc ts next back ∙ ap (λ w. ts ++ w) all) (faults-grow i limit (ts ++ next) back fault new new own)
