-- A writer of terms and entries, one step more.
use Rattle.std.proofs.Common.{◌≡◌, refl, ap, sym, ◌∙◌, subst, ℕ, suc, ◌+◌, ◌<◌, ◌≤◌, ◌++◌, List, [], ◌∷◌, length, Bool, true, false, cond, None, inl, inr, arith}
use Rattle.std.proofs.lemmas.List.{append-nil, length-append}
use Rattle.std.proofs.lemmas.Bool.{leb-false}
use Rattle.std.proofs.lemmas.List.Concat.{flat_map-cons}
use Rattle.freq_skips.proofs.HandedLemmas.{entries_bytes-more}
use Rattle.lu_model.specs.Index.{frequency, IndexedEntry}
use Rattle.freq_skips.specs.declared.writer.Handed.{Handed}
use Rattle.freq_skips.specs.Written.{entries_bytes, entry_bytes, last_doc}
use Rattle.freq_skips.specs.Writing as frq
use Rattle.freq_skips.specs.Writing.{FrqWriting, bytes_so_far, skip_delta, skips}
use Rattle.positions.specs.Written.{document_occurrence_bytes, occurrences_bytes}
use Rattle.positions.proofs.WrittenTerms.{occurrences_bytes-none}
use Rattle.term_dict.specs.Terms.{DictionaryTerm}
use Rattle.term_dict.specs.Writing.{with_written}
use Rattle.segment_files.specs.Postings.{PostingIntervals, PostingParts, KeptTerm, handed_from, prx_bytes, prx_entries, prx_occurrences, dictionary_line, with_postings, term_writing, lines_written}
use Rattle.posting_files.specs.States.{ListState, is_within_limit, list_begun, list_added, list_finished, finished_line, HoldsTermLists, IsPast, AreLists, AreTermLists, frq_so_far}

-- a step that is only made within the limit
by_within : (P : ListState → Type 0) (s t : ListState) → (is_within_limit s ≡ true → P t) → (is_within_limit s ≡ false → P s) → P (cond (is_within_limit s) t s)
by_within P s t made stopped = elim (is_within_limit s) as (λ b. is_within_limit s ≡ b → P (cond b t s)) [ true ↦ made | false ↦ stopped ] refl

-- a step that is not made
unmade : (s t : ListState) → is_within_limit s ≡ false → cond (is_within_limit s) t s ≡ s
unmade s t e = ap (λ b. cond b t s) e

pub passed : (s : ListState) → is_within_limit s ≡ false → s.limit < length (bytes_so_far s.freq)
passed s e = leb-false (length (bytes_so_far s.freq)) s.limit e

-- more bytes pass the limit too
longer : (more bytes : List ℕ) (s : ListState) → length bytes ≤ length more → IsPast bytes s → IsPast more s
longer more bytes s le past = let long = past.long in record { stopped = past.stopped; long = omega (arith, le, long) }

-- a writer of `.frq` by its parts
abbrev writing : ℕ → ℕ → List ℕ → Bool → Bool → List Handed → FrqWriting
writing interval most bytes omit payloads entries = record { interval = interval; most = most; bytes = bytes; omit = omit; payloads = payloads; entries = entries }

same-writing : (interval interval_now most most_now : ℕ) (bytes bytes_now : List ℕ) (omit payloads : Bool) (entries : List Handed) → interval ≡ interval_now → most ≡ most_now → bytes ≡ bytes_now → writing interval most bytes omit payloads entries ≡ writing interval_now most_now bytes_now omit payloads entries
same-writing interval interval_now most most_now bytes bytes_now omit payloads entries i m b =
    ap (λ n. writing n most bytes omit payloads entries) i ∙ ap (λ n. writing interval_now n bytes omit payloads entries) m ∙ ap (λ w. writing interval_now most_now w omit payloads entries) b

-- ---- entries that are handed over

-- an entry as it is handed over behind so many bytes of positions
abbrev pub handed : ℕ → IndexedEntry → Handed
handed before e = record { doc = e.document; freq = frequency e.occurrences; prox = before }

prx_bytes-cons : (payloads : Bool) (e : IndexedEntry) (es : List IndexedEntry) → prx_bytes payloads (e ∷ es) ≡ document_occurrence_bytes payloads None 0 (prx_occurrences e.occurrences) ++ prx_bytes payloads es
unfolding occurrences_bytes
prx_bytes-cons payloads e es = flat_map-cons (λ os. document_occurrence_bytes payloads None 0 os) (prx_occurrences e.occurrences) (prx_entries es)

pub handed_from-more : (payloads : Bool) (before : ℕ) (es : List IndexedEntry) (e : IndexedEntry) → handed_from payloads before (es ++ e ∷ []) ≡ handed_from payloads before es ++ handed (before + length (prx_bytes payloads es)) e ∷ []
handed_from-more payloads before [] e =
    let none : length (prx_bytes payloads []) ≡ 0 = ap length (occurrences_bytes-none payloads) in
    let same : before ≡ before + length (prx_bytes payloads []) = omega (arith, none) in
    ap (λ n. handed n e ∷ []) same
handed_from-more payloads before (x ∷ es) e =
    let own = length (document_occurrence_bytes payloads None 0 (prx_occurrences x.occurrences)) in
    let size : length (prx_bytes payloads (x ∷ es)) ≡ own + length (prx_bytes payloads es) = ap length (prx_bytes-cons payloads x es) ∙ length-append (document_occurrence_bytes payloads None 0 (prx_occurrences x.occurrences)) (prx_bytes payloads es) in
    let sum : before + own + length (prx_bytes payloads es) ≡ before + length (prx_bytes payloads (x ∷ es)) = omega (arith, size) in
    ap (λ w. handed before x ∷ w) (handed_from-more payloads (before + own) es e ∙ ap (λ n. handed_from payloads (before + own) es ++ handed n e ∷ []) sum)

pub handed_from-length : (payloads : Bool) (before : ℕ) (es : List IndexedEntry) → length (handed_from payloads before es) ≡ length es
handed_from-length payloads before [] = refl
handed_from-length payloads before (e ∷ es) = ap suc (handed_from-length payloads (before + length (document_occurrence_bytes payloads None 0 (prx_occurrences e.occurrences))) es)

-- the bytes of entries grow with each
grows : (parts : PostingParts) (omit payloads : Bool) (es : List IndexedEntry) (e : IndexedEntry) → length (frq_so_far parts omit payloads es) ≤ length (frq_so_far parts omit payloads (es ++ e ∷ []))
grows parts omit payloads es e =
    let hs = handed_from payloads 0 es in
    let h = handed (0 + length (prx_bytes payloads es)) e in
    let more : entries_bytes omit 0 (handed_from payloads 0 (es ++ e ∷ [])) ≡ entries_bytes omit 0 hs ++ entry_bytes omit (last_doc 0 hs) h = ap (entries_bytes omit 0) (handed_from-more payloads 0 es e) ∙ entries_bytes-more omit 0 hs h in
    let size = ap length more ∙ length-append (entries_bytes omit 0 hs) (entry_bytes omit (last_doc 0 hs) h) in
    let before = length-append parts.frq (entries_bytes omit 0 hs) in
    let after = length-append parts.frq (entries_bytes omit 0 (handed_from payloads 0 (es ++ e ∷ []))) in
    omega (arith, size, before, after)

-- ---- steps

pub lists-begun : (i : PostingIntervals) (p : PostingParts) (omit payloads : Bool) (s : ListState) → AreLists i p s → AreTermLists i p omit payloads [] (list_begun s omit payloads)
lists-begun i p omit payloads s (inl h) =
    let none : bytes_so_far s.freq ≡ p.frq = ap (λ es. s.freq.bytes ++ entries_bytes s.freq.omit 0 es) h.none ∙ append-nil s.freq.bytes ∙ h.bytes in
    let begun : ListState = record { limit = s.limit; terms = s.terms; freq = frq.entries_begun s.freq omit payloads; place = length s.freq.bytes } in
    by_within (AreTermLists i p omit payloads []) s begun
    (λ e. inl (record {
      lines = record { terms = h.lines.terms };
      freq = same-writing s.freq.interval i.skip s.freq.most i.levels s.freq.bytes p.frq omit payloads [] h.interval h.most h.bytes;
      place = ap length h.bytes;
    }))
    (λ e. inr (longer (frq_so_far p omit payloads []) p.frq s (let size = length-append p.frq [] in omega (arith, size)) (record { stopped = e; long = subst (λ w. s.limit < length w) none (passed s e) })))
lists-begun i p omit payloads s (inr past) =
    subst (AreTermLists i p omit payloads []) (sym (unmade s _ past.stopped)) (inr (longer (frq_so_far p omit payloads []) p.frq s (let size = length-append p.frq [] in omega (arith, size)) past))

pub lists-added : (i : PostingIntervals) (p : PostingParts) (omit payloads : Bool) (es : List IndexedEntry) (e : IndexedEntry) (s : ListState) → AreTermLists i p omit payloads es s
    → AreTermLists i p omit payloads (es ++ e ∷ []) (list_added s (handed (length (prx_bytes payloads es)) e))
lists-added i p omit payloads es e s (inl h) =
    let x = handed (length (prx_bytes payloads es)) e in
    let more : handed_from payloads 0 es ++ x ∷ [] ≡ handed_from payloads 0 (es ++ e ∷ []) =
    (let zero_more : length (prx_bytes payloads es) ≡ 0 + length (prx_bytes payloads es) = omega arith in ap (λ n. handed_from payloads 0 es ++ handed n e ∷ []) zero_more) ∙ sym (handed_from-more payloads 0 es e) in
    by_within (AreTermLists i p omit payloads (es ++ e ∷ [])) s (record { limit = s.limit; terms = s.terms; freq = frq.entry_added s.freq x; place = s.place })
    (λ w. inl (record {
      lines = record { terms = h.lines.terms };
      freq = ap (λ f. frq.entry_added f x) h.freq ∙ ap (writing i.skip i.levels p.frq omit payloads) more;
      place = h.place;
    }))
    (λ w. inr (longer (frq_so_far p omit payloads (es ++ e ∷ [])) (frq_so_far p omit payloads es) s (grows p omit payloads es e) (record { stopped = w; long = subst (λ f. s.limit < length (bytes_so_far f)) h.freq (passed s w) })))
lists-added i p omit payloads es e s (inr past) =
    subst (AreTermLists i p omit payloads (es ++ e ∷ [])) (sym (unmade s _ past.stopped)) (inr (longer (frq_so_far p omit payloads (es ++ e ∷ [])) (frq_so_far p omit payloads es) s (grows p omit payloads es e) past))

-- a finished term has the bytes of its entries and those of its skip data
whole : (i : PostingIntervals) (p : PostingParts) (t : KeptTerm) → length (frq_so_far p t.omit t.payloads t.term.entries) ≤ length (with_postings i p t).frq
whole i p t =
    let own = entries_bytes t.omit 0 (handed_from t.payloads 0 t.term.entries) in
    let rest = skips (term_writing i p t) in
    let all = length-append p.frq (own ++ rest) in
    let parts = length-append own rest in
    let front = length-append p.frq own in
    omega (arith, all, parts, front)

abbrev line : KeptTerm → ℕ → ℕ → ℕ → ℕ → DictionaryTerm
line t count place prox skip = record { text = t.term.text; info = record { field = t.term.field; doc_freq = count; freq = place; prox = prox; skip = skip } }

line-is : (i : PostingIntervals) (p : PostingParts) (t : KeptTerm) (s : ListState) → HoldsTermLists i p t.omit t.payloads t.term.entries s → finished_line s t.term.field t.term.text (length p.prx) ≡ dictionary_line i p t
line-is i p t s h =
    ap (λ n. line t n s.place (length p.prx) (skip_delta s.freq)) (ap (λ (f : FrqWriting). length f.entries) h.freq ∙ handed_from-length t.payloads 0 t.term.entries)
    ∙ ap (λ n. line t (length t.term.entries) n (length p.prx) (skip_delta s.freq)) h.place
    ∙ ap (λ f. line t (length t.term.entries) (length p.frq) (length p.prx) (skip_delta f)) h.freq

pub lists-finished : (i : PostingIntervals) (p : PostingParts) (t : KeptTerm) (s : ListState) → AreTermLists i p t.omit t.payloads t.term.entries s → AreLists i (with_postings i p t) (list_finished s t.term.field t.term.text (length p.prx))
lists-finished i p t s (inl h) =
    let last = finished_line s t.term.field t.term.text (length p.prx) in
    let same : last ≡ dictionary_line i p t = line-is i p t s h in
    by_within (AreLists i (with_postings i p t)) s (record { limit = s.limit; terms = with_written s.terms last; freq = frq.finished s.freq; place = s.place })
    (λ w. inl (record {
      lines = record { terms = ap (λ x. with_written x last) h.lines.terms ∙ ap (λ x. lines_written i (p.lines ++ x ∷ [])) same };
      interval = ap (λ (f : FrqWriting). f.interval) h.freq;
      most = ap (λ (f : FrqWriting). f.most) h.freq;
      bytes = ap (λ f. (frq.finished f).bytes) h.freq;
      none = refl;
    }))
    (λ w. inr (longer (with_postings i p t).frq (frq_so_far p t.omit t.payloads t.term.entries) s (whole i p t) (record { stopped = w; long = subst (λ f. s.limit < length (bytes_so_far f)) h.freq (passed s w) })))
lists-finished i p t s (inr past) =
    subst (AreLists i (with_postings i p t)) (sym (unmade s _ past.stopped)) (inr (longer (with_postings i p t).frq (frq_so_far p t.omit t.payloads t.term.entries) s (whole i p t) past))
