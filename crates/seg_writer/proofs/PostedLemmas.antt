-- The terms of a column are written, one more.
use Rattle.std.proofs.Common.{◌≡◌, refl, ap, sym, ◌∙◌, subst, ℕ, zero, suc, ◌+◌, ◌<◌, ◌≤◌, ◌++◌, List, [], ◌∷◌, length, take, drop, get_or, Bool, true, Err, arith}
use Rattle.std.proofs.lemmas.List.{append_assoc, get_or_default, length-append, map-append, take_more, take-append-drop}
use Rattle.lu_types.specs.declared.document.Token.{Token}
use Rattle.lu_model.specs.Contents.{tokens_with}
use Rattle.segment_files.specs.Postings.{PostingIntervals, PostingParts, KeptTerm}
use Rattle.posting_files.specs.declared.fault.PostingFault.{PostingFault}
use Rattle.posting_files.specs.declared.fault.PostingFault.TheVariants as posting
use Rattle.posting_files.specs.States.{PostingState, ArePostings, IsTermBegun, PostingSteps, is_within_limit, term_begun, term_finished}
use Rattle.posting_files.proofs.PostingLemmas.{begin-may, finish-may, postings-begun, postings-finished, parts_of-more, prx-grows, terms-pass}
use Rattle.seg_writer.specs.declared.appearance.Appearance.{Appearance}
use Rattle.seg_writer.specs.declared.inverted.Inverted.{Inverted}
use Rattle.seg_writer.specs.declared.terms.Kept.{Kept}
use Rattle.seg_writer.specs.declared.fault.WriteFault.{WriteFault}
use Rattle.seg_writer.specs.declared.fault.WriteFault.TheVariants.{Doc, TooLarge, OutOfMemory}
use Rattle.seg_writer.specs.Answers.{write_fault}
use Rattle.seg_writer.specs.Columns.{tokens_in_field, uses_among, uses_from}
use Rattle.seg_writer.specs.Entries.{entry_if_any, entries_of_text, AddsEntries, AddsTerms, IsTermFresh, IsBetweenTerms}
use Rattle.seg_writer.specs.Terms.{term_in, terms_in_columns}
use Rattle.seg_writer.specs.Texts.{texts_in}
use Rattle.seg_writer.proofs.TokenLemmas.{uses-many}

-- ---- how many entries a text has

entry-few : (omit : Bool) (document : ℕ) (tokens : List Token) → length (entry_if_any omit document tokens) ≤ 1
entry-few omit document [] = omega arith
entry-few omit document (t ∷ ts) = omega arith

pub entries-few : (omit : Bool) (text : List ℕ) (column : List Appearance) → length (entries_of_text omit text column) ≤ length column
entries-few omit text [] = omega arith
entries-few omit text (a ∷ column) =
    let rest = entries-few omit text column in
    let own = entry-few omit a.doc (tokens_with text (tokens_in_field a)) in
    let size = length-append (entry_if_any omit a.doc (tokens_with text (tokens_in_field a))) (entries_of_text omit text column) in
    omega (arith, rest, own, size)

entry-some : (omit : Bool) (document : ℕ) (tokens : List Token) → 0 < length tokens → length (entry_if_any omit document tokens) ≡ 1
entry-some omit document [] some = absurd (omega (arith, some))
entry-some omit document (t ∷ ts) some = refl

some-here : (omit : Bool) (text : List ℕ) (n : ℕ) (a : Appearance) (column : List Appearance) (k : ℕ) → length (uses_among text a.doc n 0 (tokens_in_field a)) ≡ k → (0 < length (uses_from text (suc n) column) → 0 < length (entries_of_text omit text column))
    → 0 < length (uses_from text n (a ∷ column)) → 0 < length (entries_of_text omit text (a ∷ column))
some-here omit text n a column zero none later some =
    let parts = length-append (uses_among text a.doc n 0 (tokens_in_field a)) (uses_from text (suc n) column) in
    let rest = later (omega (arith, some, parts, none)) in
    let size = length-append (entry_if_any omit a.doc (tokens_with text (tokens_in_field a))) (entries_of_text omit text column) in
    omega (arith, rest, size)
some-here omit text n a column (suc k) many later some =
    let same = uses-many text a.doc n (tokens_in_field a) in
    let one = entry-some omit a.doc (tokens_with text (tokens_in_field a)) (omega (arith, many, same)) in
    let size = length-append (entry_if_any omit a.doc (tokens_with text (tokens_in_field a))) (entries_of_text omit text column) in
    omega (arith, one, size)

pub entries-some : (omit : Bool) (text : List ℕ) (n : ℕ) (column : List Appearance) → 0 < length (uses_from text n column) → 0 < length (entries_of_text omit text column)
entries-some omit text n [] some = absurd (omega (arith, some))
entries-some omit text n (a ∷ column) some = some-here omit text n a column (length (uses_among text a.doc n 0 (tokens_in_field a))) refl (entries-some omit text (suc n) column) some

-- ---- a term

-- more terms pass the limit too
pub faults-grow : (i : PostingIntervals) (limit : ℕ) (ts us : List KeptTerm) (fault : WriteFault) (new later : PostingState) → AddsTerms i limit ts new (Err fault) → AddsTerms i limit (ts ++ us) later (Err fault)
faults-grow i limit ts us (Doc number f) new later never = never
faults-grow i limit ts us (TooLarge kind) new later (is, long) = let more = prx-grows i ts us in (is, omega (arith, long, more))
faults-grow i limit ts us OutOfMemory new later none = tt

pub term-not-begun : (i : PostingIntervals) (limit : ℕ) (ts : List KeptTerm) (t : KeptTerm) (wanted s new : PostingState) (fault : PostingFault) (answer : WriteFault) → answer ≡ write_fault fault → PostingSteps wanted s new (Err fault) → ArePostings i limit ts s
    → AddsTerms i limit (ts ++ t ∷ []) new (Err answer)
term-not-begun i limit ts t wanted s new (posting.TooLarge kind) answer is (same, past) h = subst (λ f. AddsTerms i limit (ts ++ t ∷ []) new (Err f)) (sym is) (same, terms-pass i limit ts (t ∷ []) s h past)
term-not-begun i limit ts t wanted s new posting.OutOfMemory answer is none h = subst (λ f. AddsTerms i limit (ts ++ t ∷ []) new (Err f)) (sym is) tt

pub term-fresh : (omit payloads : Bool) (s m : PostingState) → IsBetweenTerms s → m ≡ term_begun s omit payloads → IsTermFresh m
term-fresh omit payloads s m (i, limit, ts, h) begins = (i, limit, ts, omit, payloads, subst (IsTermBegun i limit ts omit payloads []) (sym begins) (postings-begun i limit ts omit payloads s h))

pub term-may : (s : PostingState) → IsBetweenTerms s → is_within_limit s.lists ≡ true → s.lists.freq.entries ≡ []
term-may s (i, limit, ts, h) within = begin-may i limit ts s h within

-- the entries of a begun term pass the limit
pub term-not-added : (i : PostingIntervals) (limit : ℕ) (ts : List KeptTerm) (t : KeptTerm) (s m new : PostingState) (fault : WriteFault) → m ≡ term_begun s t.omit t.payloads
    → ((j : PostingIntervals) (bound : ℕ) (us : List KeptTerm) (omit payloads : Bool) → IsTermBegun j bound us omit payloads [] m → AddsEntries j bound us omit payloads t.term.entries new (Err fault)) → ArePostings i limit ts s → AddsTerms i limit (ts ++ t ∷ []) new (Err fault)
term-not-added i limit ts t s m new fault begins says h =
    more-terms fault (says i limit ts t.omit t.payloads (subst (IsTermBegun i limit ts t.omit t.payloads []) (sym begins) (postings-begun i limit ts t.omit t.payloads s h)))
  where
    more-terms : (f : WriteFault) → AddsEntries i limit ts t.omit t.payloads t.term.entries new (Err f) → AddsTerms i limit (ts ++ t ∷ []) new (Err f)
    more-terms (Doc number f) never = never
    more-terms (TooLarge kind) (is, long) = (is, subst (λ (q : PostingParts). limit < length q.prx) (sym (parts_of-more i ts t)) long)
    more-terms OutOfMemory none = tt

-- how many entries the begun term has
pub term-entries : (s m n : PostingState) (kept : Kept) (column : List Appearance) (text : List ℕ) → IsBetweenTerms s → m ≡ term_begun s kept.omit_tf kept.payloads
    → ((j : PostingIntervals) (bound : ℕ) (us : List KeptTerm) (omit payloads : Bool) → IsTermBegun j bound us omit payloads [] m → IsTermBegun j bound us omit payloads (entries_of_text kept.omit_tf text column) n)
    → is_within_limit n.lists ≡ true → length n.lists.freq.entries ≡ length (entries_of_text kept.omit_tf text column)
term-entries s m n kept column text (i, limit, ts, h) begins adds within =
    finish-may i limit ts kept.omit_tf kept.payloads (entries_of_text kept.omit_tf text column) n
    (adds i limit ts kept.omit_tf kept.payloads (subst (IsTermBegun i limit ts kept.omit_tf kept.payloads []) (sym begins) (postings-begun i limit ts kept.omit_tf kept.payloads s h))) within

pub term-written : (i : PostingIntervals) (limit : ℕ) (ts : List KeptTerm) (kept : Kept) (column : List Appearance) (text : List ℕ) (s m n new : PostingState) → m ≡ term_begun s kept.omit_tf kept.payloads
    → ((j : PostingIntervals) (bound : ℕ) (us : List KeptTerm) (omit payloads : Bool) → IsTermBegun j bound us omit payloads [] m → IsTermBegun j bound us omit payloads (entries_of_text kept.omit_tf text column) n)
    → new ≡ term_finished n kept.field text → ArePostings i limit ts s → ArePostings i limit (ts ++ term_in kept column text ∷ []) new
term-written i limit ts kept column text s m n new begins adds ends h =
    let t = term_in kept column text in
    subst (ArePostings i limit (ts ++ t ∷ [])) (sym ends)
    (postings-finished i limit ts t n (adds i limit ts kept.omit_tf kept.payloads (subst (IsTermBegun i limit ts kept.omit_tf kept.payloads []) (sym begins) (postings-begun i limit ts kept.omit_tf kept.payloads s h))))

pub between-after : (kept : Kept) (column : List Appearance) (text : List ℕ) (s new : PostingState) → IsBetweenTerms s → ((i : PostingIntervals) (limit : ℕ) (ts : List KeptTerm) → ArePostings i limit ts s → ArePostings i limit (ts ++ term_in kept column text ∷ []) new) → IsBetweenTerms new
between-after kept column text s new (i, limit, ts, h) after = (i, limit, ts ++ term_in kept column text ∷ [], after i limit ts h)

-- ---- terms in turn

-- one term more
terms-more : (kept : Kept) (column : List Appearance) (terms : List Inverted) (k : ℕ) (t : Inverted) → k < length terms → t ≡ get_or terms k t → terms_in_columns kept column (texts_in (take k terms)) ++ term_in kept column t.text.now ∷ [] ≡ terms_in_columns kept column (texts_in (take (k + 1) terms))
terms-more kept column terms k t lt is =
    let more : texts_in (take (k + 1) terms) ≡ texts_in (take k terms) ++ t.text.now ∷ [] =
    ap texts_in (take_more terms k t lt) ∙ map-append (λ (x : Inverted). x.text.now) (take k terms) (get_or terms k t ∷ []) ∙ ap (λ (x : Inverted). texts_in (take k terms) ++ x.text.now ∷ []) (sym is) in
    sym (ap (terms_in_columns kept column) more ∙ map-append (term_in kept column) (texts_in (take k terms)) (t.text.now ∷ []))

pub terms-next : (kept : Kept) (column : List Appearance) (terms : List Inverted) (k : ℕ) (t : Inverted) (old s new : PostingState) → k < length terms → t ≡ get_or terms k t
    → ((i : PostingIntervals) (limit : ℕ) (ts : List KeptTerm) → ArePostings i limit ts old → ArePostings i limit (ts ++ terms_in_columns kept column (texts_in (take k terms))) s)
    → ((i : PostingIntervals) (limit : ℕ) (ts : List KeptTerm) → ArePostings i limit ts s → ArePostings i limit (ts ++ term_in kept column t.text.now ∷ []) new)
    → (i : PostingIntervals) (limit : ℕ) (ts : List KeptTerm) → ArePostings i limit ts old → ArePostings i limit (ts ++ terms_in_columns kept column (texts_in (take (k + 1) terms))) new
terms-next kept column terms k t old s new lt is so_far adds i limit ts h =
    let front = terms_in_columns kept column (texts_in (take k terms)) in
    subst (λ us. ArePostings i limit us new) (append_assoc ts front (term_in kept column t.text.now ∷ []) ∙ ap (λ w. ts ++ w) (terms-more kept column terms k t lt is)) (adds i limit (ts ++ front) (so_far i limit ts h))

pub terms-not-added : (kept : Kept) (column : List Appearance) (terms : List Inverted) (k : ℕ) (t : Inverted) (fault : WriteFault) (old s new : PostingState) → k < length terms → t ≡ get_or terms k t
    → ((i : PostingIntervals) (limit : ℕ) (ts : List KeptTerm) → ArePostings i limit ts old → ArePostings i limit (ts ++ terms_in_columns kept column (texts_in (take k terms))) s)
    → ((i : PostingIntervals) (limit : ℕ) (ts : List KeptTerm) → ArePostings i limit ts s → AddsTerms i limit (ts ++ term_in kept column t.text.now ∷ []) new (Err fault))
    → (i : PostingIntervals) (limit : ℕ) (ts : List KeptTerm) → ArePostings i limit ts old → AddsTerms i limit (ts ++ terms_in_columns kept column (texts_in terms)) new (Err fault)
terms-not-added kept column terms k t fault old s new lt is so_far says i limit ts h =
    let front = terms_in_columns kept column (texts_in (take k terms)) in
    let next = terms_in_columns kept column (texts_in (take (k + 1) terms)) in
    let back = terms_in_columns kept column (texts_in (drop (k + 1) terms)) in
    let own = says i limit (ts ++ front) (so_far i limit ts h) in
    let seen : AddsTerms i limit (ts ++ next) new (Err fault) = subst (λ us. AddsTerms i limit us new (Err fault)) (append_assoc ts front (term_in kept column t.text.now ∷ []) ∙ ap (λ w. ts ++ w) (terms-more kept column terms k t lt is)) own in
    let all : next ++ back ≡ terms_in_columns kept column (texts_in terms) =
    sym (map-append (term_in kept column) (texts_in (take (k + 1) terms)) (texts_in (drop (k + 1) terms)))
    ∙ ap (terms_in_columns kept column) (sym (map-append (λ (x : Inverted). x.text.now) (take (k + 1) terms) (drop (k + 1) terms)) ∙ ap texts_in (take-append-drop (k + 1) terms)) in
    subst (λ us. AddsTerms i limit us new (Err fault)) (append_assoc ts next back ∙ ap (λ w. ts ++ w) all) (faults-grow i limit (ts ++ next) back fault new new seen)

-- ---- at the loop of the code

abbrev pub no_inverted : Inverted
no_inverted = record { text = record { ref_ptr = (0, 0); now = [] }; uses = record { ref_ptr = (0, 0); now = [] } }

-- the term with a number among terms, whatever stands for none
pub inverted-at : (terms : List Inverted) (k : ℕ) → k < length terms → get_or terms k no_inverted ≡ get_or terms k (get_or terms k no_inverted)
inverted-at terms k lt = get_or_default terms k no_inverted (get_or terms k no_inverted) lt
