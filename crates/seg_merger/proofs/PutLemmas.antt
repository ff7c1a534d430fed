-- Steps of the writer: an entry, a term, and faults.
use Rattle.std.proofs.Common.{◌≡◌, ◌⊎◌, refl, ap, sym, ◌∙◌, subst, ℕ, suc, ◌+◌, ◌-◌, ◌<◌, ◌≤◌, ◌^◌, ◌++◌, Bool, true, false, not, cond, List, [], ◌∷◌, length, map, get_or, None, Result, Ok, Err, inl, inr, arith}
use Rattle.std.proofs.lemmas.List.{append_assoc, append-nil, get_or-map, length-append, length-map}
use Rattle.lu_types.specs.Bits as bit
use Rattle.lu_types.specs.Bits.{has_bit}
use Rattle.lu_types.specs.Joins.{is_empty}
use Rattle.lu_types.specs.Occurrences.{Occurrence}
use Rattle.lu_model.specs.Index.{KeptOccurrences, given, omitted, IndexedEntry, frequency}
use Rattle.lu_model.specs.Contents.{kept}
use Rattle.lu_model.specs.Valid.{IsKept, IsSmall}
use Rattle.lu_model.proofs.Renumbered.{rises}
use Rattle.lu_model.proofs.Words.{Each, EachPair}
use Rattle.freq_skips.specs.Written.{last_doc}
use Rattle.positions.specs.Written.{document_occurrence_bytes, occurrences_bytes}
use Rattle.segment_files.specs.Postings.{PostingIntervals, PostingParts, KeptTerm, handed_from, kept_term, parts_of, prx_bytes, prx_occurrence, prx_occurrences}
use Rattle.posting_files.specs.States.{PostingState, ArePostings, IsTermBegun, IsEntryBegun, IsProxPast, PostingSteps, StepsTo, entry_begun, entry_put, is_within_limit, occurrence_put, term_begun, term_finished}
use Rattle.posting_files.specs.declared.fault.PostingFault.{PostingFault}
use Rattle.posting_files.specs.declared.fault.PostingFault.TheVariants as posting
use Rattle.posting_files.proofs.PostingLemmas.{end-may, entry-begun, entry-before, entry-ended, finish-may, occurrence-added, parts_of-more, postings-begun, postings-finished, prx-grows, prx_bytes-append, term-past, terms-pass}
use Rattle.seg_reader.specs.Postings.{occurrences_kept}
use Rattle.seg_writer.specs.Answers.{write_fault}
use Rattle.seg_writer.specs.Entries.{AddsTerms, IsBetweenTerms, MayFollow}
use Rattle.seg_writer.specs.declared.fault.WriteFault.{WriteFault}
use Rattle.seg_writer.specs.declared.fault.WriteFault.TheVariants.{Doc, TooLarge, OutOfMemory}
use Rattle.seg_merger.specs.TermRests.{AreEntries}
use Rattle.seg_merger.specs.TermSteps.{AreWritable, FailsInTerm, FailsOn, GoesOn, HasEntryOccurrences, HasTermEntries, IsGoing, IsInTerm, IsOn, TermPlace, term_if_any}
use Rattle.seg_merger.specs.declared.terms.merging.MergedField.{MergedField}

-- ---- occurrences

-- occurrences that do not fall from a position on can be written behind it
writable-from : (position : ℕ) (os : List Occurrence) → ((k : ℕ) (d : Occurrence) → k < length os → position ≤ (get_or os k d).position)
    → ((j k : ℕ) (d : Occurrence) → j ≤ k → k < length os → (get_or os j d).position ≤ (get_or os k d).position)
    → ((k : ℕ) (d : Occurrence) → k < length os → IsSmall (get_or os k d).position × IsSmall (length (get_or os k d).payload)) → AreWritable position os
writable-from position [] above rise small = tt
writable-from position (o ∷ os) above rise small = (
  above 0 o (omega arith),
  (small 0 o (omega arith)).0,
  (small 0 o (omega arith)).1,
  writable-from o.position os (λ k d h. rise 0 (suc k) d (omega arith) (omega (arith, h))) (λ j k d le h. rise (suc j) (suc k) d (omega (arith, le)) (omega (arith, h))) (λ k d h. small (suc k) d (omega (arith, h))),
)

position-at : (os : List Occurrence) (k : ℕ) (d : Occurrence) → k < length os → get_or (map (λ (o : Occurrence). o.position) os) k 0 ≡ (get_or os k d).position
position-at os k d h = get_or-map (λ (o : Occurrence). o.position) os k d 0 h

pub writable-kept : (bits : ℕ) (o : KeptOccurrences) → IsKept bits o → AreWritable 0 (occurrences_kept o)
writable-kept bits omitted h = tt
writable-kept bits (given os) h =
    writable-from 0 os (λ k d l. omega arith)
    (λ j k d le l.
    let size = length-map os (λ (o : Occurrence). o.position) in
    let low = position-at os j d (omega (arith, le, l)) in
    let high = position-at os k d l in
    let order = h.1.rise j k 0 le (omega (arith, size, l)) in
    omega (arith, low, high, order))
    (λ k d l. let own = h.1.small k d l in (own.0, own.1.1))

-- how often a term stands in a document is a small number
pub frequency-range : (bits : ℕ) (o : KeptOccurrences) → IsKept bits o → (1 ≤ frequency o) × (frequency o < 2 ^ 31)
frequency-range bits omitted h = (omega arith, omega arith)
frequency-range bits (given os) h = let some = h.1.some in let few = h.1.few in (omega (arith, some), omega (arith, few))

pub kept-same : (bits : ℕ) (o : KeptOccurrences) → has_bit bit.omit_tf bits ≡ false → kept bits o ≡ o
kept-same bits o e = ap (λ b. cond b omitted o) e

-- what may be written of the first occurrence that is left
pub writable-first : (position : ℕ) (left rest : List Occurrence) (o : Occurrence) → left ≡ o ∷ rest → AreWritable position left → (position ≤ o.position) × IsSmall o.position × IsSmall (length o.payload) × AreWritable o.position rest
writable-first position left rest o e h = subst (AreWritable position) e h

-- one occurrence more
pub occurrence-next : (o : Occurrence) (s new : PostingState) (left rest all : List Occurrence) → left ≡ o ∷ rest → new ≡ occurrence_put s o → (at : TermPlace) (es : List IndexedEntry)
    → (now : List Occurrence) × HasEntryOccurrences at es now s × (now ++ left ≡ all) → (now : List Occurrence) × HasEntryOccurrences at es now new × (now ++ rest ≡ all)
occurrence-next o s new left rest all is puts at es (now, h, split) =
    (now ++ o ∷ [], subst (HasEntryOccurrences at es (now ++ o ∷ [])) (sym puts) (occurrence-added at.intervals at.limit at.terms at.omit at.payloads es now o s h), append_assoc now (o ∷ []) rest ∙ ap (λ w. now ++ w) (sym is) ∙ split)

-- ---- entries

prx-kept : (o : KeptOccurrences) → prx_occurrences o ≡ map prx_occurrence (occurrences_kept o)
prx-kept (given os) = refl
prx-kept omitted = refl

-- an entry is ended
pub entry-done : (e : IndexedEntry) (before freq : ℕ) (s m n new : PostingState)
    → (before ≡ length s.prox.bytes - s.prox.start) × (m ≡ entry_begun s) → freq ≡ frequency e.occurrences
    → ((at : TermPlace) (es : List IndexedEntry) → HasEntryOccurrences at es [] m → HasEntryOccurrences at es (occurrences_kept e.occurrences) n)
    → new ≡ entry_put n (record { doc = e.document; freq = freq; prox = before })
    → (at : TermPlace) (all left : List IndexedEntry) → IsInTerm at all (e ∷ left) s → IsInTerm at all left new
entry-done e before freq s m n new (place, begins) often adds ends at all left (es, b, split) =
    let i = at.intervals in let limit = at.limit in let ts = at.terms in let om = at.omit in let payloads = at.payloads in
    let begun = adds at es (subst (IsEntryBegun i limit ts om payloads es []) (sym begins) (entry-begun i limit ts om payloads es s b)) in
    let done = entry-ended i limit ts om payloads es (occurrences_kept e.occurrences) e n (prx-kept e.occurrences) begun in
    let where_is : before ≡ length (prx_bytes payloads es) = place ∙ entry-before i limit ts om payloads es s b in
    let same : entry_put n (record { doc = e.document; freq = frequency e.occurrences; prox = length (prx_bytes payloads es) }) ≡ new =
    ap (λ k. entry_put n (record { doc = e.document; freq = frequency e.occurrences; prox = k })) (sym where_is) ∙ ap (λ k. entry_put n (record { doc = e.document; freq = k; prox = before })) (sym often) ∙ sym ends in
    (es ++ e ∷ [], subst (IsTermBegun i limit ts om payloads (es ++ e ∷ [])) same done, append_assoc es (e ∷ []) left ∙ split)

-- an entry that was not begun: the positions pass the limit
entries-past : (at : TermPlace) (all left : List IndexedEntry) (s : PostingState) → IsProxPast s → IsInTerm at all left s → at.limit < length ((parts_of at.intervals at.terms).prx ++ prx_bytes at.payloads all)
entries-past at all left s past (es, b, split) =
    let front = (parts_of at.intervals at.terms).prx in
    let own = term-past at.intervals at.limit at.terms at.omit at.payloads es s b past in
    let so_far = length-append front (prx_bytes at.payloads es) in
    let more = ap length (sym (ap (prx_bytes at.payloads) split) ∙ prx_bytes-append at.payloads es left) ∙ length-append (prx_bytes at.payloads es) (prx_bytes at.payloads left) in
    let whole = length-append front (prx_bytes at.payloads all) in
    omega (arith, own, so_far, more, whole)

pub entry-not-begun : (wanted : ℕ → Type 0) (fault : PostingFault) (answer : WriteFault) (s : PostingState) → answer ≡ write_fault fault → StepsTo wanted s (Err fault)
    → (at : TermPlace) (all left : List IndexedEntry) → IsInTerm at all left s → FailsInTerm at all answer
entry-not-begun wanted (posting.TooLarge kind) answer s is (same, past) at all left h = subst (FailsInTerm at all) (sym is) (same, entries-past at all left s past h)
entry-not-begun wanted posting.OutOfMemory answer s is none at all left h = subst (FailsInTerm at all) (sym is) tt

-- ---- what may follow

module _ (e : IndexedEntry) (rest : List IndexedEntry) (payloads : Bool) where
  below-last : (x : IndexedEntry) (prox : ℕ) (done : List IndexedEntry) → EachPair (λ (e f : IndexedEntry). e.document < f.document) (x ∷ (done ++ e ∷ rest)) → last_doc x.document (handed_from payloads prox done) < e.document
  below-last x prox [] h = h.0.0
  below-last x prox (y ∷ done) h = below-last y (prox + length (document_occurrence_bytes payloads None 0 (prx_occurrences y.occurrences))) done h.1

  order-last : (done : List IndexedEntry) → EachPair (λ (e f : IndexedEntry). e.document < f.document) (done ++ e ∷ rest) → (done ≡ []) ⊎ (last_doc 0 (handed_from payloads 0 done) < e.document)
  order-last [] h = inl refl
  order-last (x ∷ done) h = inr (below-last x (0 + length (document_occurrence_bytes payloads None 0 (prx_occurrences x.occurrences))) done h)

-- the next entry that is left may follow
pub going-follows : (bits : ℕ) (e : IndexedEntry) (rest : List IndexedEntry) (s : PostingState) → IsGoing bits (e ∷ rest) s → MayFollow e.document s
going-follows bits e rest s (at, all, (done, h, split), are) within =
    let pairs = subst (EachPair (λ (e f : IndexedEntry). e.document < f.document)) (sym split) (rises all are.rise) in
    end-may at.intervals at.limit at.terms at.omit at.payloads done [] e.document (entry_begun s) (entry-begun at.intervals at.limit at.terms at.omit at.payloads done s h) (order-last e rest at.payloads done pairs) within

each-behind : {X : Type 0} (P : X → Type 0) (xs : List X) (y : X) (ys : List X) → Each P (xs ++ y ∷ ys) → P y
each-behind P [] y ys h = h.0
each-behind P (x ∷ xs) y ys h = each-behind P xs y ys h.1

-- and is kept so
pub going-kept : (bits : ℕ) (e : IndexedEntry) (rest : List IndexedEntry) (s : PostingState) → IsGoing bits (e ∷ rest) s → IsSmall e.document × IsKept bits e.occurrences
going-kept bits e rest s (at, all, (done, h, split), are) = each-behind (λ (f : IndexedEntry). IsSmall f.document × IsKept bits f.occurrences) done e rest (subst (Each (λ (f : IndexedEntry). IsSmall f.document × IsKept bits f.occurrences)) (sym split) are.kept)

pub going-next : (bits : ℕ) (left after : List IndexedEntry) (s new : PostingState) → ((at : TermPlace) (all : List IndexedEntry) → IsInTerm at all left s → IsInTerm at all after new) → IsGoing bits left s → IsGoing bits after new
going-next bits left after s new adds (at, all, h, are) = (at, all, adds at all h, are)

-- ---- terms

-- a term that was begun and got no entry leaves the files as they were
pub term-none : (i : PostingIntervals) (limit : ℕ) (ts : List KeptTerm) (omit payloads : Bool) (s : PostingState) → IsTermBegun i limit ts omit payloads [] s → ArePostings i limit ts s
unfolding occurrences_bytes
term-none i limit ts omit payloads s h = record {
  bound = h.bound;
  lists = elim h.lists [
    | inl held ↦ inl (record { lines = held.lines; interval = ap (λ f. f.interval) held.freq; most = ap (λ f. f.most) held.freq; bytes = ap (λ f. f.bytes) held.freq; none = ap (λ f. f.entries) held.freq })
    | inr past ↦ inr (record { stopped = past.stopped; long = subst (λ w. s.lists.limit < length w) (append-nil (parts_of i ts).frq) past.long })
  ];
  prx = h.prx.bytes ∙ append-nil (parts_of i ts).prx;
}

-- the place of a term that is begun behind some terms
abbrev pub place_behind : PostingIntervals → ℕ → List KeptTerm → ℕ → TermPlace
place_behind i limit ts bits = record { intervals = i; limit = limit; terms = ts; omit = has_bit bit.omit_tf bits; payloads = has_bit bit.payloads bits }

-- a term that was begun has all its entries left
pub term-fresh : (i : PostingIntervals) (limit : ℕ) (ts : List KeptTerm) (bits : ℕ) (omit payloads : Bool) (entries : List IndexedEntry) (s m : PostingState) → omit ≡ has_bit bit.omit_tf bits → payloads ≡ has_bit bit.payloads bits
    → m ≡ term_begun s omit payloads → ArePostings i limit ts s → IsInTerm (place_behind i limit ts bits) entries entries m
term-fresh i limit ts bits omit payloads entries s m is_omit is_payloads begins h =
    let same : m ≡ term_begun s (has_bit bit.omit_tf bits) (has_bit bit.payloads bits) = begins ∙ ap (λ b. term_begun s b payloads) is_omit ∙ ap (λ b. term_begun s (has_bit bit.omit_tf bits) b) is_payloads in
    ([], subst (IsTermBegun i limit ts (has_bit bit.omit_tf bits) (has_bit bit.payloads bits) []) (sym same) (postings-begun i limit ts (has_bit bit.omit_tf bits) (has_bit bit.payloads bits) s h), refl)

pub going-fresh : (bits : ℕ) (omit payloads : Bool) (entries : List IndexedEntry) (s m : PostingState) → omit ≡ has_bit bit.omit_tf bits → payloads ≡ has_bit bit.payloads bits → m ≡ term_begun s omit payloads
    → AreEntries bits entries → IsBetweenTerms s → IsGoing bits entries m
going-fresh bits omit payloads entries s m is_omit is_payloads begins are (i, limit, ts, h) = (place_behind i limit ts bits, entries, term-fresh i limit ts bits omit payloads entries s m is_omit is_payloads begins h, are)

-- a term that was not begun: the positions pass the limit
pub term-not-begun : (i : PostingIntervals) (limit : ℕ) (all left : List KeptTerm) (wanted s m : PostingState) (fault : PostingFault) (answer : WriteFault) → answer ≡ write_fault fault → PostingSteps wanted s m (Err fault) → IsOn i limit all left s
    → FailsOn i limit all answer
term-not-begun i limit all left wanted s m (posting.TooLarge kind) answer is (same, past) (done, h, split) =
    subst (FailsOn i limit all) (sym is) (same, subst (λ w. limit < length (parts_of i w).prx) split (terms-pass i limit done left s h past))
term-not-begun i limit all left wanted s m posting.OutOfMemory answer is none h = subst (FailsOn i limit all) (sym is) tt

-- the term in a field, with what the field keeps
abbrev pub term_with : MergedField → List ℕ → List IndexedEntry → KeptTerm
term_with field text entries = kept_term field.bits (record { field = field.number; text = text; entries = entries })

-- what the bytes of a term are part of
grown : (i : PostingIntervals) (limit : ℕ) (done left all : List KeptTerm) (field : MergedField) (text : List ℕ) (entries : List IndexedEntry) → done ++ (term_if_any field text entries ++ left) ≡ all
    → limit < length ((parts_of i done).prx ++ prx_bytes (has_bit bit.payloads field.bits) entries) → limit < length (parts_of i all).prx
unfolding occurrences_bytes
grown i limit done left all field text [] split long =
    let more = prx-grows i done left in
    let none = ap length (append-nil (parts_of i done).prx) in
    subst (λ w. limit < length (parts_of i w).prx) split (omega (arith, long, more, none))
grown i limit done left all field text (e ∷ es) split long =
    let t = term_with field text (e ∷ es) in
    let own = ap (λ (q : PostingParts). length q.prx) (parts_of-more i done t) in
    let more = prx-grows i (done ++ t ∷ []) left in
    let same : (done ++ t ∷ []) ++ left ≡ all = append_assoc done (t ∷ []) left ∙ split in
    subst (λ w. limit < length (parts_of i w).prx) same (omega (arith, long, own, more))

-- entries that were not added
pub term-not-added : (i : PostingIntervals) (limit : ℕ) (field : MergedField) (text : List ℕ) (entries : List IndexedEntry) (all left : List KeptTerm) (s : PostingState) (fault : WriteFault)
    → ((ts : List KeptTerm) → ArePostings i limit ts s → FailsInTerm (place_behind i limit ts field.bits) entries fault)
    → IsOn i limit all (term_if_any field text entries ++ left) s → FailsOn i limit all fault
term-not-added i limit field text entries all left s (Doc number f) says (done, h, split) = says done h
term-not-added i limit field text entries all left s (TooLarge kind) says (done, h, split) = let own = says done h in (own.0, grown i limit done left all field text entries split own.1)
term-not-added i limit field text entries all left s OutOfMemory says (done, h, split) = tt

all-entries : (at : TermPlace) (all : List IndexedEntry) (s : PostingState) → IsInTerm at all [] s → HasTermEntries at all s
all-entries at all s (es, h, split) = subst (λ w. HasTermEntries at w s) (sym (append-nil es) ∙ split) h

-- a term without entries is not finished
pub term-dropped : (i : PostingIntervals) (limit : ℕ) (field : MergedField) (text : List ℕ) (entries : List IndexedEntry) (all left : List KeptTerm) (s n : PostingState) → false ≡ not (is_empty entries)
    → ((ts : List KeptTerm) → ArePostings i limit ts s → IsInTerm (place_behind i limit ts field.bits) entries [] n)
    → IsOn i limit all (term_if_any field text entries ++ left) s → IsOn i limit all left n
term-dropped i limit field text [] all left s n none says (done, h, split) = (done, term-none i limit done (has_bit bit.omit_tf field.bits) (has_bit bit.payloads field.bits) n (all-entries (place_behind i limit done field.bits) [] n (says done h)), split)
term-dropped i limit field text (e ∷ es) all left s n none says h = absurd (let never : false ≡ true = none in cc)

-- a term that is finished
pub term-finished : (i : PostingIntervals) (limit : ℕ) (field : MergedField) (text : List ℕ) (entries : List IndexedEntry) (all left : List KeptTerm) (s n new : PostingState) → true ≡ not (is_empty entries)
    → ((ts : List KeptTerm) → ArePostings i limit ts s → IsInTerm (place_behind i limit ts field.bits) entries [] n) → new ≡ term_finished n field.number text
    → IsOn i limit all (term_if_any field text entries ++ left) s → IsOn i limit all left new
term-finished i limit field text [] all left s n new some says ends h = absurd (let never : true ≡ false = some in cc)
term-finished i limit field text (e ∷ es) all left s n new some says ends (done, h, split) =
    let t = term_with field text (e ∷ es) in
    (done ++ t ∷ [], subst (ArePostings i limit (done ++ t ∷ [])) (sym ends) (postings-finished i limit done t n (all-entries (place_behind i limit done field.bits) (e ∷ es) n (says done h))), append_assoc done (t ∷ []) left ∙ split)

-- how many entries the begun term has
pub term-entries : (bits : ℕ) (entries : List IndexedEntry) (s n : PostingState) → IsBetweenTerms s → ((i : PostingIntervals) (limit : ℕ) (ts : List KeptTerm) → ArePostings i limit ts s → IsInTerm (place_behind i limit ts bits) entries [] n)
    → is_within_limit n.lists ≡ true → length n.lists.freq.entries ≡ length entries
term-entries bits entries s n (i, limit, ts, h) says within = finish-may i limit ts (has_bit bit.omit_tf bits) (has_bit bit.payloads bits) entries n (all-entries (place_behind i limit ts bits) entries n (says i limit ts h)) within

pub some-entries : (entries : List IndexedEntry) → true ≡ not (is_empty entries) → 0 < length entries
some-entries [] e = absurd (let never : true ≡ false = e in cc)
some-entries (x ∷ xs) e = omega arith

-- a writer that has some terms is between terms
pub between-of : (i : PostingIntervals) (limit : ℕ) (all left : List KeptTerm) (s : PostingState) → IsOn i limit all left s → IsBetweenTerms s
between-of i limit all left s (done, h, split) = (i, limit, done, h)

-- ---- all terms

-- all of a merge was written, or a fault came
pub all-added : (i : PostingIntervals) (limit : ℕ) (all : List KeptTerm) (s : PostingState) → IsOn i limit all [] s → ArePostings i limit all s
all-added i limit all s (done, h, split) = subst (λ ts. ArePostings i limit ts s) (sym (append-nil done) ∙ split) h

pub not-all-added : (i : PostingIntervals) (limit : ℕ) (all : List KeptTerm) (later : PostingState) (fault : WriteFault) → FailsOn i limit all fault → AddsTerms i limit all later (Err fault)
not-all-added i limit all later (Doc number f) h = h
not-all-added i limit all later (TooLarge kind) h = h
not-all-added i limit all later OutOfMemory h = tt

pub all-goes : (i : PostingIntervals) (limit : ℕ) (all : List KeptTerm) (s : PostingState) (result : Result (Unit {0}) WriteFault) → GoesOn i limit all [] s result → AddsTerms i limit all s result
all-goes i limit all s (Ok done) h = all-added i limit all s h
all-goes i limit all s (Err fault) h = not-all-added i limit all s fault h
