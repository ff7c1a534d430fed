-- The entries of a term, as its postings and its occurrences tell them.
use Rattle.std.proofs.Common.{◌≡◌, ℕ, zero, suc, ◌<◌, ◌≤◌, Bool, true, false, List, [], ◌∷◌, length, map, get_or, inl, inr, refl, ap, ◌∙◌, arith}
use Rattle.std.specs.Prelude.{slice_index_or}
use Rattle.std.proofs.lemmas.Bool.{cases_lt}
use Rattle.std.proofs.lemmas.List.{get_or_past}
use Rattle.lu_grammar.specs.Bytes.{place_in}
use Rattle.lu_grammar.proofs.Codecs.{read_plan-ReadsTo}
use Rattle.lu_types.specs.Occurrences.{Occurrence}
use Rattle.lu_model.specs.Index.{given, IndexedEntry}
use Rattle.freq_skips.specs.declared.rules.RuledTerm.{RuledTerm}
use Rattle.freq_skips.specs.Entries.{Posting, no_posting}
use Rattle.freq_skips.specs.Terms.{TermData}
use Rattle.positions.specs.Occurrences.{count_at}
use Rattle.positions.specs.Terms.{term_plan}
use Rattle.positions.specs.Cursors.{posted_term, StandsInBoth}
use Rattle.positions.proofs.ValueLemmas.{entry-length}
use Rattle.positions.proofs.PlaceLemmas.{entry-some}
use Rattle.check_index.specs.Positions.{TermOccurrences}
use Rattle.check_index.specs.Indexed.{omitted_entry, given_entries}
use Rattle.seg_reader.specs.InnerScan.{posting_in, AreInOrder}
use Rattle.seg_reader.specs.InnerBeside.{read_occurrences, occurrences_read}
use Rattle.seg_reader.specs.InnerCursor.{entry_in, entries_kept, entries_seen}

-- ---- lists of entries

omitted-length : (ps : List Posting) → length (map omitted_entry ps) ≡ length ps
omitted-length [] = refl
omitted-length (p ∷ ps) = ap suc (omitted-length ps)

omitted-at : (ps : List Posting) (i : ℕ) → i < length ps → entry_in (map omitted_entry ps) i ≡ omitted_entry (get_or ps i no_posting)
omitted-at [] i lt = absurd (omega (arith, lt))
omitted-at (p ∷ ps) zero lt = refl
omitted-at (p ∷ ps) (suc i) lt = omitted-at ps i (omega (arith, lt))

-- a document with its occurrences
abbrev pub given_entry : Posting → List Occurrence → IndexedEntry
given_entry p here = record { document = p.doc; occurrences = given here }

given-length : (ps : List Posting) (all : TermOccurrences) → length ps ≤ length all → length (given_entries ps all) ≡ length ps
given-length [] all le = refl
given-length (p ∷ ps) [] le = absurd (omega (arith, le))
given-length (p ∷ ps) (here ∷ all) le = ap suc (given-length ps all (omega (arith, le)))

given-at : (ps : List Posting) (all : TermOccurrences) (i : ℕ) → length ps ≤ length all → i < length ps → entry_in (given_entries ps all) i ≡ given_entry (get_or ps i no_posting) (get_or all i [])
given-at [] all i le lt = absurd (omega (arith, lt))
given-at (p ∷ ps) [] i le lt = absurd (omega (arith, le))
given-at (p ∷ ps) (here ∷ all) zero le lt = refl
given-at (p ∷ ps) (here ∷ all) (suc i) le lt = given-at ps all i (omega (arith, le)) (omega (arith, lt))

-- ---- the occurrences

-- the bytes stand for these
pub occurrences_read-is : (t : RuledTerm) (value : TermData) (prx : List ℕ) (all : TermOccurrences) → StandsInBoth t value prx all → occurrences_read t value prx ≡ all
occurrences_read-is t value prx all good = ap read_occurrences (read_plan-ReadsTo (term_plan (posted_term t value)) (place_in prx t.info.prox) all good.end good.reads)

module _ (t : RuledTerm) (value : TermData) (prx : List ℕ) (all : TermOccurrences) (good : StandsInBoth t value prx all) (kept : t.rules.omit_tf ≡ false) where
  -- as many as the frequency
  pub occurrences-length : (k : ℕ) → k < t.info.doc_freq → length (get_or all k []) ≡ count_at (posted_term t value) k
  occurrences-length k lt = entry-length (posted_term t value) (place_in prx t.info.prox) all good.end k (read_plan-ReadsTo (term_plan (posted_term t value)) (place_in prx t.info.prox) all good.end good.reads) lt

  -- for each entry
  pub occurrences-many : t.info.doc_freq ≤ length all
  occurrences-many = go t.info.doc_freq (omega arith)
    where
      go : (n : ℕ) → n ≤ t.info.doc_freq → n ≤ length all
      go zero le = omega arith
      go (suc k) le = elim (cases_lt k (length all)) [
        | inl low ↦ omega (arith, low)
        | inr high ↦
            let some = entry-some t value prx all k good kept (omega (arith, le)) in
            let none : length (get_or all k []) ≡ 0 = ap length (get_or_past all k [] high) in
            absurd (omega (arith, some, none, occurrences-length k (omega (arith, le))))
      ]

-- ---- the entries

-- there are as many as the dictionary says, with the documents of the postings
pub record AreSeen (t : RuledTerm) (value : TermData) (es : List IndexedEntry) : Type 0 where
  pub count : length es ≡ t.info.doc_freq
  pub documents : (i : ℕ) → i < t.info.doc_freq → (entry_in es i).document ≡ (posting_in value i).doc

module _ (t : RuledTerm) (value : TermData) (prx : List ℕ) (order : AreInOrder t value) where
  -- in a field that keeps occurrences
  pub entry-given : StandsInBoth t value prx (occurrences_read t value prx) → t.rules.omit_tf ≡ false → (i : ℕ) → i < t.info.doc_freq
      → entry_in (entries_seen t value prx) i ≡ given_entry (posting_in value i) (slice_index_or (occurrences_read t value prx) i [])
  entry-given good kept i lt =
      let all = occurrences_read t value prx in
      ap (λ (b : Bool). entry_in (entries_kept b value.postings all) i) kept
      ∙ given-at value.postings all i (omega (arith, order.count, occurrences-many t value prx all good kept)) (omega (arith, order.count, lt))

  pub entry-omitted : t.rules.omit_tf ≡ true → (i : ℕ) → i < t.info.doc_freq → entry_in (entries_seen t value prx) i ≡ omitted_entry (posting_in value i)
  entry-omitted omit i lt =
      ap (λ (b : Bool). entry_in (entries_kept b value.postings (occurrences_read t value prx)) i) omit
      ∙ omitted-at value.postings i (omega (arith, order.count, lt))

  pub entries-seen : (t.rules.omit_tf ≡ false → StandsInBoth t value prx (occurrences_read t value prx)) → AreSeen t value (entries_seen t value prx)
  entries-seen good = go t.rules.omit_tf refl
    where
      go : (b : Bool) → t.rules.omit_tf ≡ b → AreSeen t value (entries_seen t value prx)
      go true omit = record {
        count = ap (λ (b : Bool). length (entries_kept b value.postings (occurrences_read t value prx))) omit ∙ omitted-length value.postings ∙ order.count;
        documents = λ i lt. ap (λ (e : IndexedEntry). e.document) (entry-omitted omit i lt);
      }
      go false kept = record {
        count = ap (λ (b : Bool). length (entries_kept b value.postings (occurrences_read t value prx))) kept
            ∙ given-length value.postings (occurrences_read t value prx) (omega (arith, order.count, occurrences-many t value prx (occurrences_read t value prx) (good kept) kept)) ∙ order.count;
        documents = λ i lt. ap (λ (e : IndexedEntry). e.document) (entry-given (good kept) kept i lt);
      }
