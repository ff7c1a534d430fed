-- The occurrences of an entry, one token more.
use Rattle.std.proofs.Common.{◌≡◌, refl, ap, sym, ◌∙◌, subst, ℕ, ◌+◌, ◌-◌, ◌<◌, ◌≤◌, ◌⊎◌, ◌++◌, List, [], ◌∷◌, length, map, take, drop, get_or, Bool, true, false, Err, arith}
use Rattle.std.proofs.lemmas.List.{map-append, take_more, drop_more, length-append}
use Rattle.lu_types.specs.DocFaults.{AreSoundTokens, IsSoundToken}
use Rattle.lu_types.specs.declared.document.Token.{Token}
use Rattle.lu_model.specs.Index.{IndexedEntry, frequency}
use Rattle.freq_skips.specs.Written.{last_doc}
use Rattle.segment_files.specs.Postings.{PostingIntervals, KeptTerm, parts_of, prx_bytes, prx_occurrence, prx_occurrences}
use Rattle.posting_files.specs.States.{ListState, PostingState, is_within_limit, IsTermBegun, IsEntryBegun, StepsTo, occurrence_put, entry_put, entry_begun, IsProxPast}
use Rattle.posting_files.proofs.PostingLemmas.{occurrence-added, entry-begun, entry-before, entry-ended, prx_bytes-append, term-past}
use Rattle.posting_files.specs.declared.fault.PostingFault.{PostingFault}
use Rattle.posting_files.specs.declared.fault.PostingFault.TheVariants as posting
use Rattle.seg_writer.specs.declared.fault.WriteFault.{WriteFault}
use Rattle.seg_writer.specs.Answers.{write_fault}
use Rattle.seg_writer.specs.declared.inverted.Use.{Use}
use Rattle.seg_writer.specs.Entries.{no_token, occurrence_of_token, listed_occurrences, entry_occurrences, entry_with, tokens_at, AddsEntries, MayFollow}

-- the token of a use
abbrev token_at : List Token → Use → Token
token_at tokens here = get_or tokens here.token no_token

-- the tokens of the uses that are left
pub tokens-left : (tokens : List Token) (run : List Use) (k : ℕ) (here : Use) (token : Token) (position : ℕ) → k < length run → here ≡ get_or run k here → token ≡ token_at tokens here → AreSoundTokens position (tokens_at tokens (drop k run))
    → (position ≤ token.position) × IsSoundToken token × AreSoundTokens token.position (tokens_at tokens (drop (k + 1) run))
tokens-left tokens run k here token position lt at is sound =
    let first : tokens_at tokens (drop k run) ≡ token ∷ tokens_at tokens (drop (k + 1) run) =
    ap (tokens_at tokens) (drop_more run k here lt) ∙ ap (λ h. token_at tokens h ∷ tokens_at tokens (drop (k + 1) run)) (sym at) ∙ ap (λ t. t ∷ tokens_at tokens (drop (k + 1) run)) (sym is) in
    subst (AreSoundTokens position) first sound

-- one occurrence more
pub occurrences-next : (tokens : List Token) (run : List Use) (k : ℕ) (here : Use) (token : Token) (s new : PostingState) → k < length run → here ≡ get_or run k here → token ≡ token_at tokens here → new ≡ occurrence_put s (occurrence_of_token token)
    → (i : PostingIntervals) (limit : ℕ) (ts : List KeptTerm) (omit payloads : Bool) (es : List IndexedEntry) → IsEntryBegun i limit ts omit payloads es (listed_occurrences false (tokens_at tokens (take k run))) s
    → IsEntryBegun i limit ts omit payloads es (listed_occurrences false (tokens_at tokens (take (k + 1) run))) new
occurrences-next tokens run k here token s new lt at is adds i limit ts omit payloads es b =
    let front = tokens_at tokens (take k run) in
    let more : tokens_at tokens (take (k + 1) run) ≡ front ++ token ∷ [] =
    ap (tokens_at tokens) (take_more run k here lt) ∙ map-append (token_at tokens) (take k run) (get_or run k here ∷ [])
    ∙ ap (λ h. front ++ token_at tokens h ∷ []) (sym at) ∙ ap (λ t. front ++ t ∷ []) (sym is) in
    let all : map occurrence_of_token (tokens_at tokens (take (k + 1) run)) ≡ map occurrence_of_token front ++ occurrence_of_token token ∷ [] = ap (map occurrence_of_token) more ∙ map-append occurrence_of_token front (token ∷ []) in
    subst (λ os. IsEntryBegun i limit ts omit payloads es os new) (sym all)
    (subst (IsEntryBegun i limit ts omit payloads es (map occurrence_of_token front ++ occurrence_of_token token ∷ [])) (sym adds) (occurrence-added i limit ts omit payloads es (map occurrence_of_token front) (occurrence_of_token token) s b))

-- what an entry keeps is what was listed
listed-kept : (omit : Bool) (tokens : List Token) → prx_occurrences (entry_occurrences omit tokens) ≡ map prx_occurrence (listed_occurrences omit tokens)
listed-kept true tokens = refl
listed-kept false tokens = refl

-- an entry is ended
pub entry-done : (omit : Bool) (document : ℕ) (tokens : List Token) (before freq : ℕ) (s m n new : PostingState)
    → (before ≡ length s.prox.bytes - s.prox.start) × (m ≡ entry_begun s) → freq ≡ frequency (entry_occurrences omit tokens)
    → ((i : PostingIntervals) (limit : ℕ) (ts : List KeptTerm) (om payloads : Bool) (es : List IndexedEntry) → IsEntryBegun i limit ts om payloads es [] m → IsEntryBegun i limit ts om payloads es (listed_occurrences omit tokens) n)
    → new ≡ entry_put n (record { doc = document; freq = freq; prox = before })
    → (i : PostingIntervals) (limit : ℕ) (ts : List KeptTerm) (om payloads : Bool) (es : List IndexedEntry) → IsTermBegun i limit ts om payloads es s → IsTermBegun i limit ts om payloads (es ++ entry_with omit document tokens ∷ []) new
entry-done omit document tokens before freq s m n new (place, begins) often lists ends i limit ts om payloads es b =
    let e = entry_with omit document tokens in
    let begun = lists i limit ts om payloads es (subst (IsEntryBegun i limit ts om payloads es []) (sym begins) (entry-begun i limit ts om payloads es s b)) in
    let done = entry-ended i limit ts om payloads es (listed_occurrences omit tokens) e n (listed-kept omit tokens) begun in
    let where_is : before ≡ length (prx_bytes payloads es) = place ∙ entry-before i limit ts om payloads es s b in
    let same : entry_put n (record { doc = document; freq = frequency e.occurrences; prox = length (prx_bytes payloads es) }) ≡ new =
    ap (λ k. entry_put n (record { doc = document; freq = frequency e.occurrences; prox = k })) (sym where_is) ∙ ap (λ k. entry_put n (record { doc = document; freq = k; prox = before })) (sym often) ∙ sym ends in
    subst (IsTermBegun i limit ts om payloads (es ++ e ∷ [])) same done

-- positions before an entry that pass the limit
pub entry-past : (e : IndexedEntry) (s : PostingState) → IsProxPast s → (i : PostingIntervals) (limit : ℕ) (ts : List KeptTerm) (om payloads : Bool) (es : List IndexedEntry) → IsTermBegun i limit ts om payloads es s
    → limit < length ((parts_of i ts).prx ++ prx_bytes payloads (es ++ e ∷ []))
entry-past e s past i limit ts om payloads es b =
    let own = term-past i limit ts om payloads es s b past in
    let front = length-append (parts_of i ts).prx (prx_bytes payloads es) in
    let more = ap length (prx_bytes-append payloads es (e ∷ [])) ∙ length-append (prx_bytes payloads es) (prx_bytes payloads (e ∷ [])) in
    let all = length-append (parts_of i ts).prx (prx_bytes payloads (es ++ e ∷ [])) in
    omega (arith, own, front, more, all)

-- what an entry that was not begun tells
pub begin-fault : (wanted : ℕ → Type 0) (fault : PostingFault) (answer : WriteFault) (e : IndexedEntry) (s new : PostingState) → answer ≡ write_fault fault → StepsTo wanted s (Err fault) → (i : PostingIntervals) (limit : ℕ) (ts : List KeptTerm) (om payloads : Bool) (es : List IndexedEntry)
    → IsTermBegun i limit ts om payloads es s → AddsEntries i limit ts om payloads (es ++ e ∷ []) new (Err answer)
begin-fault wanted (posting.TooLarge kind) answer e s new is (same, past) i limit ts om payloads es b =
    subst (λ f. AddsEntries i limit ts om payloads (es ++ e ∷ []) new (Err f)) (sym is) (same, entry-past e s past i limit ts om payloads es b)
begin-fault wanted posting.OutOfMemory answer e s new is none i limit ts om payloads es b = subst (λ f. AddsEntries i limit ts om payloads (es ++ e ∷ []) new (Err f)) (sym is) tt

-- what may follow stays where the lists do
pub may-still : (document : ℕ) (s new : PostingState) → new.lists ≡ s.lists → MayFollow document s → MayFollow document new
may-still document s new same may within =
    subst (λ (l : ListState). (l.freq.entries ≡ []) ⊎ (last_doc 0 l.freq.entries < document)) (sym same) (may (ap is_within_limit (sym same) ∙ within))
