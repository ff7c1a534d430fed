-- Marks that are set for the entries of a term mark the documents that were marked, and those of the entries.
use Rattle.std.proofs.Common.{◌≡◌, ℕ, zero, suc, ◌+◌, ◌<◌, Bool, true, false, cond, eqb, ◌||◌, List, [], ◌∷◌, length, map, get_or, set, Option, Some, None, refl, sym, ap, subst, ◌∙◌, arith}
use Rattle.std.specs.Prelude.{filter, option_map}
use Rattle.std.specs.List.{range_with_len}
use Rattle.std.proofs.lemmas.Bool.Decides.{nat_tests}
use Rattle.std.proofs.lemmas.List.{length-set}
use Rattle.std.proofs.lemmas.List.Elements.{All-head, All-tail}
use Rattle.lu_model.specs.Index.{IndexedTerm, IndexedEntry, Index}
use Rattle.lu_model.specs.Contents.{field_at}
use Rattle.lu_model.specs.Valid.{IsIndexedTerm, IsKept, IsValid}
use Rattle.lu_model.proofs.Words.{Each, IsIn}
use Rattle.lu_model.proofs.Each.{all-from_each, each-from_all, all_at}
use Rattle.lu_model.proofs.Tables.{find_in}
use Rattle.doc_marks.specs.Marking.{flags_of, places, is_in, documents_of}
use Rattle.doc_marks.proofs.MarkLemmas.{length-flags_of}
use Rattle.lu_types.specs.declared.term.TermInfo.{TermInfo}
use Rattle.check_index.specs.Segments.{SegmentValue}
use Rattle.seg_reader.specs.Postings.{PostingsWalk, postings_of, may_answer, answered, entries_left}
use Rattle.seg_reader.specs.Terms.{term_at, has_name, term_named}
use Rattle.lu_changes.specs.Deleting.{documents_of_term, deleted_with}
use Rattle.lu_changes.specs.EntryMarks.{with_marks, entries_of_term, AreBelow}

-- the documents of the entries
abbrev pub documents_in : List IndexedEntry → List ℕ
documents_in entries = map (λ entry. entry.document) entries

-- ---- flags

same-tests : (i d : ℕ) → eqb i d ≡ eqb (suc i) (suc d)
same-tests i d = grind (arith, nat_tests)

is-first : true ≡ eqb 0 0
is-first = grind (arith, nat_tests)

not-later : (d : ℕ) → false ≡ eqb 0 (suc d)
not-later d = grind (arith, nat_tests)

not-before : (i : ℕ) → false ≡ eqb (suc i) 0
not-before i = grind (arith, nat_tests)

get-set : (fs : List Bool) (i d : ℕ) → d < length fs → get_or (set fs i true) d false ≡ (eqb i d || get_or fs d false)
get-set [] i d within = absurd (omega arith)
get-set (f ∷ fs) zero zero within = ap (λ (b : Bool). b || f) is-first
get-set (f ∷ fs) zero (suc d) within = ap (λ (b : Bool). b || get_or fs d false) (not-later d)
get-set (f ∷ fs) (suc i) zero within = ap (λ (b : Bool). b || f) (not-before i)
get-set (f ∷ fs) (suc i) (suc d) within = get-set fs i d (omega arith) ∙ ap (λ (b : Bool). b || get_or fs d false) (same-tests i d)

or-false : (b : Bool) → b ≡ (b || false)
or-false true = refl
or-false false = refl

or-swap : (a b c : Bool) → ((a || b) || c) ≡ (b || (a || c))
or-swap true true c = refl
or-swap true false c = refl
or-swap false b c = refl

pub length-with_marks : (entries : List IndexedEntry) (fs : List Bool) → length (with_marks fs entries) ≡ length fs
length-with_marks [] fs = refl
length-with_marks (e ∷ entries) fs = length-with_marks entries (set fs e.document true) ∙ length-set fs e.document true

get-with_marks : (entries : List IndexedEntry) (fs : List Bool) (d : ℕ) → d < length fs → get_or (with_marks fs entries) d false ≡ (get_or fs d false || is_in d (documents_in entries))
unfolding is_in
get-with_marks [] fs d within = or-false (get_or fs d false)
get-with_marks (e ∷ entries) fs d within =
    get-with_marks entries (set fs e.document true) d (omega (arith, within, length-set fs e.document true))
    ∙ ap (λ (b : Bool). b || is_in d (documents_in entries)) (get-set fs e.document d within)
    ∙ or-swap (eqb e.document d) (get_or fs d false) (is_in d (documents_in entries))

pub get-flags_of : (first n : ℕ) (docs : List ℕ) (k : ℕ) → k < n → get_or (flags_of first n docs) k false ≡ is_in (first + k) docs
unfolding flags_of
get-flags_of first zero docs k within = absurd (omega arith)
get-flags_of first (suc n) docs zero within = ap (λ (d : ℕ). is_in d docs) (let e : first ≡ first + zero = omega arith in e)
get-flags_of first (suc n) docs (suc k) within = get-flags_of (suc first) n docs k (omega arith) ∙ ap (λ (d : ℕ). is_in d docs) (let e : suc first + k ≡ first + suc k = omega arith in e)

-- ---- the documents that are flagged

-- they are those of which a test holds, where each flag says it
pub places-filter : (test : ℕ → Bool) (first : ℕ) (fs : List Bool) → ((k : ℕ) → k < length fs → get_or fs k false ≡ test (first + k)) → places first fs ≡ filter test (range_with_len first (length fs))
unfolding places
places-filter test first [] each = refl
places-filter test first (f ∷ fs) each =
    by_flag f (each 0 (omega arith) ∙ ap test (let e : first + 0 ≡ first = omega arith in e))
    (places-filter test (suc first) fs (λ k within. each (suc k) (omega (arith, within)) ∙ ap test (let e : first + suc k ≡ suc first + k = omega arith in e))
    ∙ ap (λ (n : ℕ). filter test (range_with_len n (length fs))) (let e : suc first ≡ first + 1 = omega arith in e))
  where
    by_flag : (b : Bool) → b ≡ test first → places (suc first) fs ≡ filter test (range_with_len (first + 1) (length fs)) → places first (b ∷ fs) ≡ filter test (first ∷ range_with_len (first + 1) (length fs))
    by_flag true is more = ap (λ (docs : List ℕ). first ∷ docs) more ∙ ap (λ (b : Bool). cond b (first ∷ filter test (range_with_len (first + 1) (length fs))) (filter test (range_with_len (first + 1) (length fs)))) is
    by_flag false is more = more ∙ ap (λ (b : Bool). cond b (first ∷ filter test (range_with_len (first + 1) (length fs))) (filter test (range_with_len (first + 1) (length fs)))) is

-- marks of deleted documents, with those of entries
pub documents-marked : (size : ℕ) (deleted : List ℕ) (entries : List IndexedEntry)
    → documents_of (with_marks (flags_of 0 size deleted) entries) ≡ filter (λ d. is_in d deleted || is_in d (documents_in entries)) (range_with_len 0 size)
documents-marked size deleted entries =
    let marks = with_marks (flags_of 0 size deleted) entries in
    let test : ℕ → Bool = λ d. is_in d deleted || is_in d (documents_in entries) in
    let long : length marks ≡ size = length-with_marks entries (flags_of 0 size deleted) ∙ length-flags_of 0 size deleted in
    places-filter test 0 marks each ∙ ap (λ (n : ℕ). filter test (range_with_len 0 n)) long
  where
    each : (k : ℕ) → k < length (with_marks (flags_of 0 size deleted) entries) → get_or (with_marks (flags_of 0 size deleted) entries) k false ≡ (is_in (0 + k) deleted || is_in (0 + k) (documents_in entries))
    each k within =
        let below : k < size = omega (arith, within, length-with_marks entries (flags_of 0 size deleted), length-flags_of 0 size deleted) in
        get-with_marks entries (flags_of 0 size deleted) k (omega (arith, below, length-flags_of 0 size deleted))
        ∙ ap (λ (b : Bool). b || is_in k (documents_in entries)) (get-flags_of 0 size deleted k below)
        ∙ ap (λ (n : ℕ). is_in (0 + k) deleted || is_in n (documents_in entries)) (let e : k ≡ 0 + k = omega arith in e)

-- ---- a walk over entries

some-same : {A : Type 0} {x y : A} → Some x ≡ Some y → x ≡ y
some-same e = cc

-- the document that is answered is that of the entry where the walk stands then
pub answered-document : (w : PostingsWalk) (next : Option IndexedEntry) (after : PostingsWalk) (document : ℕ) (e : IndexedEntry)
    → Some document ≡ option_map (λ entry. entry.document) next → after ≡ answered w next → after.here ≡ Some e → document ≡ e.document
answered-document w None after document e is walk here = absurd (cc)
answered-document w (Some entry) after document e is walk here =
    some-same is ∙ ap (λ (x : IndexedEntry). x.document) (some-same (sym (ap (λ (v : PostingsWalk). v.here) walk) ∙ here))

-- one entry more is marked, and one less is left
pub marks-more : (marks after : List Bool) (document : ℕ) (e : IndexedEntry) (left rest : List IndexedEntry) (all : List Bool) → left ≡ e ∷ rest → document ≡ e.document → after ≡ set marks document true
    → with_marks marks left ≡ all → with_marks after rest ≡ all
marks-more marks after document e left rest all split is marked was =
    ap (λ (fs : List Bool). with_marks fs rest) (marked ∙ ap (λ (d : ℕ). set marks d true) is) ∙ ap (with_marks marks) (sym split) ∙ was

-- the first entry that is left is of a document below the size, and so are the others
pub below-first : (size : ℕ) (e : IndexedEntry) (left rest : List IndexedEntry) → left ≡ e ∷ rest → AreBelow size left → e.document < size
below-first size e left rest split below = All-head (λ (x : IndexedEntry). x.document < size) e rest (subst (AreBelow size) split below)

pub below-others : (size : ℕ) (e : IndexedEntry) (left rest : List IndexedEntry) → left ≡ e ∷ rest → AreBelow size left → AreBelow size rest
below-others size e left rest split below = All-tail (λ (x : IndexedEntry). x.document < size) e rest (subst (AreBelow size) split below)

-- ---- entries of an index

-- an entry may be answered before the first where no document is passed over
unhidden : (e : IndexedEntry) → may_answer [] 0 0 e ≡ true
unfolding is_in
unhidden e = grind (arith, nat_tests)

-- a walk that passes over nothing has all entries left before the first
pub all-left : (entries : List IndexedEntry) → filter (may_answer [] 0 0) entries ≡ entries
all-left [] = refl
all-left (e ∷ entries) =
    ap (λ (b : Bool). cond b (e ∷ filter (may_answer [] 0 0) entries) (filter (may_answer [] 0 0) entries)) (unhidden e)
    ∙ ap (λ (rest : List IndexedEntry). e ∷ rest) (all-left entries)

entries-below : (size bits : ℕ) (entries : List IndexedEntry) → Each (λ entry. (entry.document < size) × IsKept bits entry.occurrences) entries → Each (λ entry. entry.document < size) entries
entries-below size bits [] each = tt
entries-below size bits (e ∷ entries) each = (each.0.0, entries-below size bits entries each.1)

-- the documents of the entries of a term that is found are below the size of the index
pub found-below : (x : Index) (field text : List ℕ) (term : IndexedTerm) → IsValid x → term_named x field text ≡ Some term → AreBelow x.size term.entries
found-below x field text term valid found =
    let among : IsIn term x.terms = (find_in (has_name x.fields field text) term x.terms found).0 in
    let is : IsIndexedTerm x.size (field_at term.field x.fields).bits term = all_at (λ (t : IndexedTerm). IsIndexedTerm x.size (field_at t.field x.fields).bits t) term x.terms valid.terms among in
    all-from_each (λ (e : IndexedEntry). e.document < x.size) term.entries (entries-below x.size (field_at term.field x.fields).bits term.entries (each-from_all (λ (e : IndexedEntry). (e.document < x.size) × IsKept (field_at term.field x.fields).bits e.occurrences) term.entries is.entries))

-- ---- the term that is sought

module _ (s t : SegmentValue) (n : ℕ) (info : TermInfo) (walk : PostingsWalk) (field text : List ℕ) (same : t ≡ s) (is : walk ≡ postings_of t n info []) (found : term_named s.index field text ≡ Some (term_at s n)) where
  walk-left : entries_left walk ≡ (term_at s n).entries
  walk-left = ap entries_left is ∙ all-left (term_at t n).entries ∙ ap (λ (u : SegmentValue). (term_at u n).entries) same

  -- before the first all of its entries are left
  pub sought-left : entries_left walk ≡ entries_of_term (term_named s.index field text)
  sought-left = walk-left ∙ sym (ap entries_of_term found)

  -- their documents are below the size
  pub sought-below : IsValid s.index → AreBelow s.index.size (entries_left walk)
  sought-below valid = subst (AreBelow s.index.size) (sym walk-left) (found-below s.index field text (term_at s n) valid found)

documents-of_term : (term : Option IndexedTerm) → documents_in (entries_of_term term) ≡ documents_of_term term
documents-of_term None = refl
documents-of_term (Some term) = refl

-- the documents that are marked then are those that are to be deleted
pub marked-documents : (x : Index) (field text : List ℕ) (was marks : List Bool) → was ≡ flags_of 0 x.size x.deleted → marks ≡ with_marks was (entries_of_term (term_named x field text)) → documents_of marks ≡ deleted_with field text x
marked-documents x field text was marks before is =
    let term = term_named x field text in
    ap documents_of is ∙ ap (λ (fs : List Bool). documents_of (with_marks fs (entries_of_term term))) before ∙ documents-marked x.size x.deleted (entries_of_term term)
    ∙ ap (λ (docs : List ℕ). filter (λ d. is_in d x.deleted || is_in d docs) (range_with_len 0 x.size)) (documents-of_term term)

-- of as many documents as there are
pub marked-long : (x : Index) (entries : List IndexedEntry) (was marks : List Bool) → was ≡ flags_of 0 x.size x.deleted → marks ≡ with_marks was entries → length marks ≡ x.size
marked-long x entries was marks before is = ap length is ∙ length-with_marks entries was ∙ ap length before ∙ length-flags_of 0 x.size x.deleted
