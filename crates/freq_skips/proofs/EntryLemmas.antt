-- So many entries are good, and are read again.
use Rattle.std.proofs.Common.{◌≡◌, ℕ, zero, suc, add-one, drop, ◌+◌, ◌-◌, ◌<◌, ◌≤◌, List, [], ◌∷◌, ◌++◌, length, get_or, ◌==◌, Result, Ok, Err, refl, sym, ap, subst, ◌∙◌, append_assoc, arith}
use Rattle.std.proofs.lemmas.List.{length-append, append-nil, drop-map, drop_all}
use Rattle.std.proofs.Math.Seq.{get_or-append_seam, drop-cons}
use Rattle.std.specs.Prelude.{slice_index_or, map}
use Rattle.lu_grammar.specs.Bytes.{Cursor}
use Rattle.lu_grammar.specs.Records.{record_at}
use Rattle.lu_grammar.specs.Plans.{Broken, times, read_plan}
use Rattle.lu_grammar.proofs.Plans.{err_is_not_ok}
use Rattle.lu_grammar.proofs.Loops.{each-none, each-rest, times-more, times-fault, times-again, times-keeps}
use Rattle.freq_skips.specs.declared.rules.RuledTerm.{RuledTerm}
use Rattle.freq_skips.specs.declared.entry.Entry.{Entry}
use Rattle.freq_skips.specs.Records.{Record, entry_shape}
use Rattle.freq_skips.specs.Entries.{Posting, no_posting, EntriesSoFar, no_entry, posting_of, entry_conditions, entry_kind, entries, read_postings, postings_from, AreEntries, AreGoodFrom, IsBehindEntries, IsNext, entry_of, entries_from}

-- what is asked of the entry that stands next
abbrev pub entry_at : RuledTerm → ℕ → ℕ → Cursor → Result (Record × Cursor) ℕ
entry_at t index doc here = record_at (entry_shape t) (entry_conditions t (index == 0) doc here.place) here

pub IsBehindEntries-none : (t : RuledTerm) (start : Cursor) → IsBehindEntries t start 0 0 start
IsBehindEntries-none t start = record { passed = no_entry; reads = each-none _ no_entry start; last = refl; count = refl }

-- the same, by the state
kind_at : (t : RuledTerm) (start : Cursor) (index doc : ℕ) (here : Cursor) (h : IsBehindEntries t start index doc here)
    → record_at (entry_shape t) (entry_conditions t (length h.passed.postings == 0) h.passed.doc here.place) here ≡ entry_at t index doc here
kind_at t start index doc here h =
    ap (λ (n : ℕ). record_at (entry_shape t) (entry_conditions t (n == 0) h.passed.doc here.place) here) h.count
    ∙ ap (λ (d : ℕ). record_at (entry_shape t) (entry_conditions t (index == 0) d here.place) here) h.last

pub IsBehindEntries-more : (t : RuledTerm) (start : Cursor) (index doc : ℕ) (here : Cursor) (r : Record) (next : Cursor) → IsBehindEntries t start index doc here → entry_at t index doc here ≡ Ok (r, next)
    → IsBehindEntries t start (index + 1) (posting_of t doc here.place r).doc next
IsBehindEntries-more t start index doc here r next h e = record {
  passed = (entry_kind t).after h.passed here.place r;
  reads = times-more (entry_kind t) index no_entry start h.passed here r next h.reads (kind_at t start index doc here h ∙ e);
  last = ap (λ (d : ℕ). (posting_of t d here.place r).doc) h.last;
  count = omega (arith, length-append h.passed.postings (posting_of t h.passed.doc here.place r ∷ []), h.count);
}

pub IsBehindEntries-fault : (t : RuledTerm) (start : Cursor) (index doc : ℕ) (here : Cursor) (rule : ℕ) → IsBehindEntries t start index doc here → index < t.info.doc_freq → entry_at t index doc here ≡ Err rule
    → read_plan (entries t) start ≡ Err (record { offset = here.place; rule = rule })
IsBehindEntries-fault t start index doc here rule h lt e = times-fault (entry_kind t) index t.info.doc_freq no_entry start h.passed here rule lt h.reads (kind_at t start index doc here h ∙ e)

-- where all entries are good the next one is, whenever the first so many are read again
pub IsBehindEntries-again : (t : RuledTerm) (start end : Cursor) (index doc : ℕ) (here : Cursor) → AreEntries t start end → IsBehindEntries t start index doc here → index < t.info.doc_freq
    → (r : Record) × (next : Cursor) × (entry_at t index doc here ≡ Ok (r, next))
IsBehindEntries-again t start end index doc here all h lt =
    let again = times-again (entry_kind t) index t.info.doc_freq no_entry start h.passed here (all.passed, end) lt all.reads h.reads in
    (again.0, again.1, sym (kind_at t start index doc here h) ∙ again.2)

-- these postings, and then others
abbrev BeginsWith : List Posting → EntriesSoFar → Type 0
BeginsWith front s = (back : List Posting) × (s.postings ≡ front ++ back)

keeps_front : (t : RuledTerm) (front : List Posting) (s : EntriesSoFar) (c : Cursor) (r : Record) (d : Cursor) → BeginsWith front s → record_at ((entry_kind t).shape s) ((entry_kind t).conditions s c.place) c ≡ Ok (r, d)
    → BeginsWith front ((entry_kind t).after s c.place r)
keeps_front t front s c r d h e = (h.0 ++ posting_of t s.doc c.place r ∷ [], ap (λ (l : List Posting). l ++ posting_of t s.doc c.place r ∷ []) h.1 ∙ append_assoc front h.0 (posting_of t s.doc c.place r ∷ []))

postings_begin : (t : RuledTerm) (start end : Cursor) (index doc : ℕ) (here : Cursor) (all : AreEntries t start end) (h : IsBehindEntries t start index doc here) → index ≤ t.info.doc_freq → BeginsWith h.passed.postings all.passed
postings_begin t start end index doc here all h le =
    times-keeps (entry_kind t) (BeginsWith h.passed.postings) (keeps_front t h.passed.postings) (t.info.doc_freq - index) h.passed here all.passed end ([], sym (append-nil h.passed.postings))
    (sym (each-rest _ index t.info.doc_freq no_entry start h.passed here le h.reads) ∙ all.reads)

-- the postings from the start are those that were read
pub postings_from-is : (t : RuledTerm) (start end : Cursor) (all : AreEntries t start end) → postings_from t start ≡ all.passed.postings
postings_from-is t start end all = ap read_postings all.reads

-- an entry that is read again is the posting with its number
pub posting-is : (t : RuledTerm) (start end : Cursor) (index doc : ℕ) (here : Cursor) (r : Record) (next : Cursor) → AreEntries t start end → IsBehindEntries t start index doc here → index < t.info.doc_freq → entry_at t index doc here ≡ Ok (r, next)
    → slice_index_or (postings_from t start) index no_posting ≡ posting_of t doc here.place r
unfolding IsBehindEntries-more
posting-is t start end index doc here r next all h lt e =
    let more = IsBehindEntries-more t start index doc here r next h e in
    let begins = postings_begin t start end (index + 1) (posting_of t doc here.place r).doc next all more (omega arith) in
    let p = posting_of t h.passed.doc here.place r in
    let is : postings_from t start ≡ h.passed.postings ++ p ∷ begins.0 = postings_from-is t start end all ∙ begins.1 ∙ append_assoc h.passed.postings (p ∷ []) begins.0 in
    ap (λ (l : List Posting). get_or l index no_posting) is
    ∙ ap (λ (n : ℕ). get_or (h.passed.postings ++ p ∷ begins.0) n no_posting) (sym h.count)
    ∙ get_or-append_seam h.passed.postings p begins.0 no_posting
    ∙ ap (λ (d : ℕ). posting_of t d here.place r) h.last

-- what a step shows
pub IsNext-read : (t : RuledTerm) (start : Cursor) (index doc : ℕ) (here : Cursor) (r : Record) (p : Posting) (next : Cursor) → entry_at t index doc here ≡ Ok (r, next) → posting_of t doc here.place r ≡ p → index < t.info.doc_freq
    → IsBehindEntries t start index doc here → IsNext t start index p next
IsNext-read t start index doc here r p next e is lt h = record {
  stands = subst (λ (q : Posting). IsBehindEntries t start (index + 1) q.doc next) is (IsBehindEntries-more t start index doc here r next h e);
  posting = λ end all. posting-is t start end index doc here r next all h lt e ∙ is;
}

-- where all entries are good no entry that stands next is at fault
pub never_broken : (t : RuledTerm) (start end : Cursor) (offset rule : ℕ) → AreEntries t start end → read_plan (entries t) start ≡ Err (record { offset = offset; rule = rule }) → ⊥
never_broken t start end offset rule all e = err_is_not_ok (sym e ∙ all.reads)

-- all entries are passed
pub AreEntries-passed : (t : RuledTerm) (start : Cursor) (index doc : ℕ) (here : Cursor) → IsBehindEntries t start index doc here → index ≡ t.info.doc_freq → AreEntries t start here
AreEntries-passed t start index doc here h all = record { passed = h.passed; reads = ap (λ (n : ℕ). read_plan (times (entry_kind t) n no_entry) start) (sym all) ∙ h.reads }

-- the same place, by numbers that are equal
pub IsBehindEntries-as : (t : RuledTerm) (start : Cursor) (index doc : ℕ) (here : Cursor) (i d : ℕ) → i ≡ index → d ≡ doc → IsBehindEntries t start index doc here → IsBehindEntries t start i d here
IsBehindEntries-as t start index doc here i d e f h = subst (λ (n : ℕ). IsBehindEntries t start n d here) (sym e) (subst (λ (n : ℕ). IsBehindEntries t start index n here) (sym f) h)

-- ---- all entries of a term

-- where all entries are good the first so many are read
pub IsBehindEntries-upto : (t : RuledTerm) (start end : Cursor) (i : ℕ) → AreEntries t start end → i ≤ t.info.doc_freq → (doc : ℕ) × (here : Cursor) × IsBehindEntries t start i doc here
IsBehindEntries-upto t start end zero all le = (0, start, IsBehindEntries-none t start)
IsBehindEntries-upto t start end (suc i) all le =
    go (IsBehindEntries-upto t start end i all (omega arith))
  where
    go : ((doc : ℕ) × (here : Cursor) × IsBehindEntries t start i doc here) → (doc : ℕ) × (here : Cursor) × IsBehindEntries t start (suc i) doc here
    go (doc, here, h) =
        let again = IsBehindEntries-again t start end i doc here all h (omega arith) in
        let last = (posting_of t doc here.place again.0).doc in
        (last, again.1, subst (λ (n : ℕ). IsBehindEntries t start n last again.1) (add-one i) (IsBehindEntries-more t start i doc here again.0 again.1 h again.2))

pub postings_from-length : (t : RuledTerm) (start end : Cursor) → AreEntries t start end → length (postings_from t start) ≡ t.info.doc_freq
postings_from-length t start end all =
    let s = IsBehindEntries-upto t start end t.info.doc_freq all (omega arith) in ap (λ (r : Result (EntriesSoFar × Cursor) Broken). length (read_postings r)) s.2.reads ∙ s.2.count

-- the entries that are left are the one that stands next and those after it
pub entries_from-next : (t : RuledTerm) (start : Cursor) (index : ℕ) (p : Posting) (next : Cursor) → AreGoodFrom t start → IsNext t start index p next → index < t.info.doc_freq
    → drop index (entries_from t start) ≡ entry_of p ∷ drop (index + 1) (entries_from t start)
entries_from-next t start index p next all h lt =
    let count = postings_from-length t start all.0 all.1 in
    let within : index < length (postings_from t start) = omega arith in
    drop-map entry_of index (postings_from t start)
    ∙ ap (map entry_of) (drop-cons (postings_from t start) index no_posting within)
    ∙ ap (λ (q : Posting). entry_of q ∷ map entry_of (drop (suc index) (postings_from t start))) (h.posting all.0 all.1)
    ∙ ap (λ (l : List Entry). entry_of p ∷ l) (sym (drop-map entry_of (suc index) (postings_from t start)))
    ∙ ap (λ (n : ℕ). entry_of p ∷ drop n (entries_from t start)) (sym (add-one index))

-- where all are passed none is left
pub entries_from-end : (t : RuledTerm) (start : Cursor) (index : ℕ) → AreGoodFrom t start → index ≡ t.info.doc_freq → drop index (entries_from t start) ≡ []
entries_from-end t start index all last =
    let count = postings_from-length t start all.0 all.1 in
    drop-map entry_of index (postings_from t start) ∙ ap (map entry_of) (drop_all index (postings_from t start) (omega arith))
