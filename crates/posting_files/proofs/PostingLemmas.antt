-- A writer of all files of terms, one step more.
use Rattle.std.proofs.Common.{◌≡◌, refl, ap, sym, ◌∙◌, subst, ℕ, ◌-◌, ◌<◌, ◌≤◌, ◌⊎◌, ◌++◌, List, [], ◌∷◌, length, map, Bool, true, false, cond, None, Some, inl, inr, arith}
use Rattle.std.specs.Prelude.{Ok, Err, Result, nat_lt, is_some}
use Rattle.std.proofs.lemmas.List.{append_assoc, append-nil, length-append, map-append}
use Rattle.std.proofs.lemmas.List.Sums.{fold_push}
use Rattle.std.proofs.lemmas.Bool.{false≢true, lt-ltb}
use Rattle.lu_types.specs.declared.kind.FileKind.TheVariants.{Prx, Frq, Tis, Tii}
use Rattle.term_dict.specs.Writing.{TermsWritten}
use Rattle.posting_files.specs.declared.fault.PostingFault.{PostingFault}
use Rattle.posting_files.specs.declared.fault.PostingFault.TheVariants.{TooLarge, OutOfMemory}
use Rattle.posting_files.specs.declared.writer.PostingFiles.{PostingFiles}
use Rattle.lu_model.specs.Index.{IndexedEntry}
use Rattle.lu_types.specs.Occurrences.{Occurrence as IndexedOccurrence}
use Rattle.freq_skips.specs.Written.{last_doc}
use Rattle.freq_skips.specs.Writing.{bytes_so_far}
use Rattle.freq_skips.specs.Written.{entries_bytes}
use Rattle.std.specs.List.{flat_map}
use Rattle.std.proofs.lemmas.Grind.{flat_map-append}
use Rattle.positions.specs.Written.{document_occurrence_bytes, occurrences_bytes}
use Rattle.positions.specs.Writing.{HoldsTerm, HoldsDocument}
use Rattle.positions.proofs.WritingLemmas.{holds-begun, holds-document, holds-so_far, holds-added}
use Rattle.segment_files.specs.Written.{first_past}
use Rattle.segment_files.specs.Postings.{PostingIntervals, PostingParts, KeptTerm, handed_from, prx_bytes, prx_entries, prx_occurrence, prx_occurrences, with_postings, parts_of, no_parts, lines_written, tis_bytes, tii_bytes}
use Rattle.posting_files.specs.States.{ListState, PostingState, is_within_limit, term_begun, entry_begun, occurrence_put, entry_put, term_finished, no_postings, HoldsLists, AreLists, ArePostings, IsTermBegun, IsEntryBegun, IsProxPast, Finishes, held_files, canonical_postings, in_written_order, named}
use Rattle.posting_files.proofs.ListLemmas.{handed, handed_from-length, passed, lists-begun, lists-added, lists-finished}

-- a step leaves the limit
begun-bound : (s : ListState) (t : ListState) (limit : ℕ) → t.limit ≡ s.limit → s.limit ≡ limit → (cond (is_within_limit s) t s).limit ≡ limit
begun-bound s t limit same is = elim (is_within_limit s) as (λ b. (cond b t s).limit ≡ limit) [ true ↦ same ∙ is | false ↦ is ]

pub postings-none : (i : PostingIntervals) (limit : ℕ) → ArePostings i limit [] (no_postings limit i)
postings-none i limit = record {
  bound = refl;
  lists = inl (record { lines = record { terms = refl }; interval = refl; most = refl; bytes = refl; none = refl });
  prx = refl;
}

pub postings-begun : (i : PostingIntervals) (limit : ℕ) (ts : List KeptTerm) (omit payloads : Bool) (s : PostingState) → ArePostings i limit ts s → IsTermBegun i limit ts omit payloads [] (term_begun s omit payloads)
postings-begun i limit ts omit payloads s h = record {
  bound = begun-bound s.lists _ limit refl h.bound;
  lists = lists-begun i (parts_of i ts) omit payloads s.lists h.lists;
  prx = subst (λ w. HoldsTerm (term_begun s omit payloads).prox payloads w []) h.prx (holds-begun s.prox payloads);
}

pub entry-begun : (i : PostingIntervals) (limit : ℕ) (ts : List KeptTerm) (omit payloads : Bool) (es : List IndexedEntry) (s : PostingState) → IsTermBegun i limit ts omit payloads es s → IsEntryBegun i limit ts omit payloads es [] (entry_begun s)
entry-begun i limit ts omit payloads es s h = record {
  bound = h.bound;
  lists = h.lists;
  prx = holds-document s.prox payloads (parts_of i ts).prx (prx_entries es) h.prx;
}

-- how many bytes of positions the term has before the entry that is begun
pub entry-before : (i : PostingIntervals) (limit : ℕ) (ts : List KeptTerm) (omit payloads : Bool) (es : List IndexedEntry) (s : PostingState) → IsTermBegun i limit ts omit payloads es s → length s.prox.bytes - s.prox.start ≡ length (prx_bytes payloads es)
entry-before i limit ts omit payloads es s h = holds-so_far s.prox payloads (parts_of i ts).prx (prx_entries es) h.prx

pub occurrence-added : (i : PostingIntervals) (limit : ℕ) (ts : List KeptTerm) (omit payloads : Bool) (es : List IndexedEntry) (now : List IndexedOccurrence) (o : IndexedOccurrence) (s : PostingState)
    → IsEntryBegun i limit ts omit payloads es now s → IsEntryBegun i limit ts omit payloads es (now ++ o ∷ []) (occurrence_put s o)
occurrence-added i limit ts omit payloads es now o s h = record {
  bound = h.bound;
  lists = h.lists;
  prx = subst (λ w. HoldsDocument (occurrence_put s o).prox payloads (parts_of i ts).prx (prx_entries es) w) (sym (map-append prx_occurrence now (o ∷ []))) (holds-added s.prox payloads (parts_of i ts).prx (prx_entries es) (map prx_occurrence now) (prx_occurrence o) h.prx);
}

pub entry-ended : (i : PostingIntervals) (limit : ℕ) (ts : List KeptTerm) (omit payloads : Bool) (es : List IndexedEntry) (now : List IndexedOccurrence) (e : IndexedEntry) (s : PostingState) → prx_occurrences e.occurrences ≡ map prx_occurrence now
    → IsEntryBegun i limit ts omit payloads es now s → IsTermBegun i limit ts omit payloads (es ++ e ∷ []) (entry_put s (handed (length (prx_bytes payloads es)) e))
entry-ended i limit ts omit payloads es now e s same h = record {
  bound = begun-bound s.lists _ limit refl h.bound;
  lists = lists-added i (parts_of i ts) omit payloads es e s.lists h.lists;
  prx = subst (λ w. HoldsTerm s.prox payloads (parts_of i ts).prx w) (ap (λ w. prx_entries es ++ w ∷ []) (sym same) ∙ sym (map-append (λ (x : IndexedEntry). prx_occurrences x.occurrences) es (e ∷ []))) h.prx.holds;
}

-- what stands for one term more
pub parts_of-more : (i : PostingIntervals) (ts : List KeptTerm) (t : KeptTerm) → parts_of i (ts ++ t ∷ []) ≡ with_postings i (parts_of i ts) t
parts_of-more i ts t = fold_push (with_postings i) no_parts ts t

pub postings-finished : (i : PostingIntervals) (limit : ℕ) (ts : List KeptTerm) (t : KeptTerm) (s : PostingState) → IsTermBegun i limit ts t.omit t.payloads t.term.entries s → ArePostings i limit (ts ++ t ∷ []) (term_finished s t.term.field t.term.text)
postings-finished i limit ts t s h =
    let p = parts_of i ts in
    let more = sym (parts_of-more i ts t) in
    record {
      bound = begun-bound s.lists _ limit refl h.bound;
      lists = subst (λ q. AreLists i q (term_finished s t.term.field t.term.text).lists) more
          (subst (λ n. AreLists i (with_postings i p t) (term_finished (record { lists = s.lists; prox = record { bytes = s.prox.bytes; payloads = s.prox.payloads; start = n; before = s.prox.before; position = s.prox.position } }) t.term.field t.term.text).lists) (sym h.prx.start) (lists-finished i p t s.lists h.lists));
      prx = h.prx.bytes ∙ ap (λ (q : PostingParts). q.prx) more;
    }

-- ---- what may be done

pub begin-may : (i : PostingIntervals) (limit : ℕ) (ts : List KeptTerm) (s : PostingState) → ArePostings i limit ts s → is_within_limit s.lists ≡ true → s.lists.freq.entries ≡ []
begin-may i limit ts s h within = elim h.lists [
  | inl held ↦ held.none
  | inr past ↦ absurd (false≢true (sym past.stopped ∙ within))
]

pub end-may : (i : PostingIntervals) (limit : ℕ) (ts : List KeptTerm) (omit payloads : Bool) (es : List IndexedEntry) (now : List IndexedOccurrence) (doc : ℕ) (s : PostingState) → IsEntryBegun i limit ts omit payloads es now s
    → (es ≡ []) ⊎ (last_doc 0 (handed_from payloads 0 es) < doc) → is_within_limit s.lists ≡ true → (s.lists.freq.entries ≡ []) ⊎ (last_doc 0 s.lists.freq.entries < doc)
end-may i limit ts omit payloads es now doc s h order within = elim h.lists [
  | inl held ↦ elim order [
    | inl none ↦ inl (ap (λ f. f.entries) held.freq ∙ ap (handed_from payloads 0) none)
    | inr above ↦ inr (subst (λ f. last_doc 0 f.entries < doc) (sym held.freq) above)
  ]
  | inr past ↦ absurd (false≢true (sym past.stopped ∙ within))
]

pub finish-may : (i : PostingIntervals) (limit : ℕ) (ts : List KeptTerm) (omit payloads : Bool) (es : List IndexedEntry) (s : PostingState) → IsTermBegun i limit ts omit payloads es s → is_within_limit s.lists ≡ true → length s.lists.freq.entries ≡ length es
finish-may i limit ts omit payloads es s h within = elim h.lists [
  | inl held ↦ ap (λ f. length f.entries) held.freq ∙ handed_from-length payloads 0 es
  | inr past ↦ absurd (false≢true (sym past.stopped ∙ within))
]

-- ---- positions that pass the limit

pub term-past : (i : PostingIntervals) (limit : ℕ) (ts : List KeptTerm) (omit payloads : Bool) (es : List IndexedEntry) (s : PostingState) → IsTermBegun i limit ts omit payloads es s → IsProxPast s → limit < length ((parts_of i ts).prx ++ prx_bytes payloads es)
term-past i limit ts omit payloads es s h past = subst (λ n. n < length ((parts_of i ts).prx ++ prx_bytes payloads es)) h.bound (subst (λ w. s.lists.limit < length w) h.prx.bytes past)

pub postings-past : (i : PostingIntervals) (limit : ℕ) (ts : List KeptTerm) (s : PostingState) → ArePostings i limit ts s → IsProxPast s → limit < length (parts_of i ts).prx
postings-past i limit ts s h past = subst (λ n. n < length (parts_of i ts).prx) h.bound (subst (λ w. s.lists.limit < length w) h.prx past)

-- ---- at the end

-- the files of a writer whose entries are within the limit
same-files : (i : PostingIntervals) (limit : ℕ) (ts : List KeptTerm) (s : PostingState) → ArePostings i limit ts s → HoldsLists i (parts_of i ts) s.lists → held_files s ≡ canonical_postings i ts
same-files i limit ts s h held =
    let p = parts_of i ts in
    let frq : bytes_so_far s.lists.freq ≡ p.frq = ap (λ es. s.lists.freq.bytes ++ entries_bytes s.lists.freq.omit 0 es) held.none ∙ append-nil s.lists.freq.bytes ∙ held.bytes in
    ap (λ w. in_written_order w (bytes_so_far s.lists.freq) s.lists.terms) h.prx ∙ ap (λ w. in_written_order p.prx w s.lists.terms) frq ∙ ap (in_written_order p.prx p.frq) held.lines.terms

-- entries that pass the limit: the first file that does is that of positions or that of entries
frq-past : (limit : ℕ) (prx frq : List ℕ) (terms : TermsWritten) → limit < length frq → first_past limit (in_written_order prx frq terms) ≡ cond (nat_lt limit (length prx)) (Some Prx) (Some Frq)
frq-past limit prx frq terms long =
    ap (λ b. cond (nat_lt limit (length prx)) (Some Prx) (cond b (Some Frq) (first_past limit (named Tis (tis_bytes terms) ∷ named Tii (tii_bytes terms) ∷ [])))) (lt-ltb limit (length frq) long)

held-past : (limit : ℕ) (s : PostingState) → s.lists.limit ≡ limit → is_within_limit s.lists ≡ false → first_past limit (held_files s) ≡ cond (nat_lt limit (length s.prox.bytes)) (Some Prx) (Some Frq)
held-past limit s bound stopped = frq-past limit s.prox.bytes (bytes_so_far s.lists.freq) s.lists.terms (subst (λ n. n < length (bytes_so_far s.lists.freq)) bound (passed s.lists stopped))

-- the first file that passes the limit is the same of what the writer holds and of the terms
pub postings-first : (i : PostingIntervals) (limit : ℕ) (ts : List KeptTerm) (s : PostingState) → ArePostings i limit ts s → first_past limit (held_files s) ≡ first_past limit (canonical_postings i ts)
postings-first i limit ts s h =
    let p = parts_of i ts in
    elim h.lists [
      | inl held ↦ ap (first_past limit) (same-files i limit ts s h held)
      | inr past ↦
          held-past limit s h.bound past.stopped
          ∙ ap (λ w. cond (nat_lt limit (length w)) (Some Prx) (Some Frq)) h.prx
          ∙ sym (frq-past limit p.prx p.frq (lines_written i p.lines) (subst (λ n. n < length p.frq) h.bound past.long))
    ]

one-of-both : (b : Bool) → cond b (Some Prx) (Some Frq) ≡ None → ⊥
one-of-both true e = false≢true (sym (ap is_some e))
one-of-both false e = false≢true (sym (ap is_some e))

-- where none passes the limit, the writer holds the files of the terms
pub postings-held : (i : PostingIntervals) (limit : ℕ) (ts : List KeptTerm) (s : PostingState) → ArePostings i limit ts s → first_past limit (held_files s) ≡ None → held_files s ≡ canonical_postings i ts
postings-held i limit ts s h none = elim h.lists [
  | inl held ↦ same-files i limit ts s h held
  | inr past ↦ absurd (one-of-both (nat_lt limit (length s.prox.bytes)) (sym (held-past limit s h.bound past.stopped) ∙ none))
]

pub postings-end : (i : PostingIntervals) (limit : ℕ) (ts : List KeptTerm) (s : PostingState) (r : Result PostingFiles PostingFault) → ArePostings i limit ts s → Finishes s.lists.limit (held_files s) r → Finishes limit (canonical_postings i ts) r
postings-end i limit ts s (Ok f) h (none, is) =
    let own : first_past limit (held_files s) ≡ None = ap (λ n. first_past n (held_files s)) (sym h.bound) ∙ none in
    (sym (postings-first i limit ts s h) ∙ own, is ∙ postings-held i limit ts s h own)
postings-end i limit ts s (Err (TooLarge kind)) h first = sym (postings-first i limit ts s h) ∙ ap (λ n. first_past n (held_files s)) (sym h.bound) ∙ first
postings-end i limit ts s (Err OutOfMemory) h first = tt

-- ---- more terms

pub prx-grows : (i : PostingIntervals) (ts us : List KeptTerm) → length (parts_of i ts).prx ≤ length (parts_of i (ts ++ us)).prx
prx-grows i ts [] = let same = ap (λ w. length (parts_of i w).prx) (append-nil ts) in omega (arith, same)
prx-grows i ts (u ∷ us) =
    let one = ap (λ (q : PostingParts). length q.prx) (parts_of-more i ts u) ∙ length-append (parts_of i ts).prx (prx_bytes u.payloads u.term.entries) in
    let rest = prx-grows i (ts ++ u ∷ []) us in
    let same = ap (λ w. length (parts_of i w).prx) (append_assoc ts (u ∷ []) us) in
    omega (arith, one, rest, same)

pub terms-pass : (i : PostingIntervals) (limit : ℕ) (ts us : List KeptTerm) (s : PostingState) → ArePostings i limit ts s → IsProxPast s → limit < length (parts_of i (ts ++ us)).prx
terms-pass i limit ts us s h past = let own = postings-past i limit ts s h past in let more = prx-grows i ts us in omega (arith, own, more)

pub prx_bytes-append : (payloads : Bool) (es rest : List IndexedEntry) → prx_bytes payloads (es ++ rest) ≡ prx_bytes payloads es ++ prx_bytes payloads rest
unfolding occurrences_bytes
prx_bytes-append payloads es rest =
    ap (flat_map (λ os. document_occurrence_bytes payloads None 0 os)) (map-append (λ (x : IndexedEntry). prx_occurrences x.occurrences) es rest) ∙ flat_map-append (λ os. document_occurrence_bytes payloads None 0 os) (prx_entries es) (prx_entries rest)

pub entries-pass : (i : PostingIntervals) (limit : ℕ) (ts us : List KeptTerm) (t : KeptTerm) (es rest : List IndexedEntry) (s : PostingState) → t.term.entries ≡ es ++ rest
    → IsTermBegun i limit ts t.omit t.payloads es s → IsProxPast s → limit < length (parts_of i (ts ++ t ∷ us)).prx
entries-pass i limit ts us t es rest s is h past =
    let p = parts_of i ts in
    let own = term-past i limit ts t.omit t.payloads es s h past in
    let parts = length-append p.prx (prx_bytes t.payloads es) in
    let all = ap length (ap (prx_bytes t.payloads) is ∙ prx_bytes-append t.payloads es rest) ∙ length-append (prx_bytes t.payloads es) (prx_bytes t.payloads rest) in
    let one = ap (λ (q : PostingParts). length q.prx) (parts_of-more i ts t) ∙ length-append p.prx (prx_bytes t.payloads t.term.entries) in
    let more = prx-grows i (ts ++ t ∷ []) us in
    let same = ap (λ w. length (parts_of i w).prx) (append_assoc ts (t ∷ []) us) in
    omega (arith, own, parts, all, one, more, same)
