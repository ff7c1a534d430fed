-- A segment stands for the index with more documents deleted, where its line and a `.del` say so.
use Rattle.std.proofs.Common.{◌≡◌, ℕ, zero, suc, ◌+◌, ◌*◌, ◌/◌, ◌%◌, ◌^◌, ◌<◌, ◌≤◌, Bool, true, false, cond, eqb, ◌||◌, List, [], ◌∷◌, ◌++◌, length, Option, Some, None, refl, sym, ap, subst, ◌∙◌, arith}
use Rattle.std.specs.Prelude.{filter, nat_lt, pos, negsuc, ◌-◌}
use Rattle.std.specs.List.{range_with_len}
use Rattle.std.proofs.lemmas.Bool.{ltb-false}
use Rattle.std.proofs.lemmas.List.{length-append}
use Rattle.lu_grammar.specs.Meaning.{Reads}
use Rattle.lu_grammar.specs.Parts.{int32, num, groups, spelling}
use Rattle.lu_model.specs.Index.{Index}
use Rattle.doc_marks.specs.Marking.{is_in, flags_of, AreRising}
use Rattle.doc_marks.specs.Deletions.{body_bytes, del_plan}
use Rattle.doc_marks.specs.Spelling.{marks_of, sizes_bytes, dense_bytes, pairs_bytes, sparse_bytes, is_sparse, del_bytes}
use Rattle.doc_marks.proofs.DelForms.{del-only}
use Rattle.doc_marks.proofs.MarkLemmas.{places-flags_of, length-flags_of, length-marking}
use Rattle.segment_infos.specs.declared.infos.SegInfo.{SegInfo}
use Rattle.lu_types.specs.declared.stored.SharedStore.{SharedStore}
use Rattle.check_index.specs.Files.{DocumentFiles, PartFiles, FolderFiles}
use Rattle.check_index.specs.Segments.{SegmentValue}
use Rattle.check_index.specs.Stands.{Holds, Either, AreOwn, AreShared, AreDocuments, SegmentStands}
use Rattle.lu_changes.specs.Deleting.{also_deleted}
use Rattle.lu_changes.proofs.EntryMarkLemmas.{places-filter, get-flags_of}

-- ---- rising documents

rising-lower : (first size : ℕ) (docs : List ℕ) → AreRising (first + 1) size docs → AreRising first size docs
rising-lower first size [] rise = tt
rising-lower first size (d ∷ docs) rise = (omega (arith, rise.0), rise.1, rise.2)

-- numbers of a range that are kept rise
pub rising-filter : (test : ℕ → Bool) (first n : ℕ) → AreRising first (first + n) (filter test (range_with_len first n))
rising-filter test first zero = tt
rising-filter test first (suc n) =
    by_test (test first) (subst (λ (m : ℕ). AreRising (first + 1) m (filter test (range_with_len (first + 1) n))) (let e : first + 1 + n ≡ first + suc n = omega arith in e) (rising-filter test (first + 1) n))
  where
    by_test : (b : Bool) → AreRising (first + 1) (first + suc n) (filter test (range_with_len (first + 1) n)) → AreRising first (first + suc n) (cond b (first ∷ filter test (range_with_len (first + 1) n)) (filter test (range_with_len (first + 1) n)))
    by_test true rest = (omega arith, omega arith, subst (λ (m : ℕ). AreRising m (first + suc n) (filter test (range_with_len (first + 1) n))) (let e : first + 1 ≡ suc first = omega arith in e) rest)
    by_test false rest = rising-lower first (first + suc n) (filter test (range_with_len (first + 1) n)) rest

-- rising documents are those of the range that are among them
pub rising-kept : (size : ℕ) (docs : List ℕ) → AreRising 0 size docs → docs ≡ filter (λ d. is_in d docs) (range_with_len 0 size)
rising-kept size docs rise =
    sym (places-flags_of 0 size docs (subst (λ (m : ℕ). AreRising 0 m docs) (let e : size ≡ 0 + size = omega arith in e) rise))
    ∙ places-filter (λ d. is_in d docs) 0 (flags_of 0 size docs) (λ k within. get-flags_of 0 size docs k (omega (arith, within, length-flags_of 0 size docs)))
    ∙ ap (λ (n : ℕ). filter (λ d. is_in d docs) (range_with_len 0 n)) (length-flags_of 0 size docs)

-- one more test keeps no fewer, and as many only where it keeps the same
more-kept : (one other : ℕ → Bool) (ns : List ℕ) → length (filter one ns) ≤ length (filter (λ n. one n || other n) ns)
more-kept one other [] = omega arith
more-kept one other (n ∷ ns) = by_tests (one n) (other n) (more-kept one other ns)
  where
    by_tests : (a b : Bool) → length (filter one ns) ≤ length (filter (λ m. one m || other m) ns) → length (cond a (n ∷ filter one ns) (filter one ns)) ≤ length (cond (a || b) (n ∷ filter (λ m. one m || other m) ns) (filter (λ m. one m || other m) ns))
    by_tests true b more = omega (arith, more)
    by_tests false true more = omega (arith, more)
    by_tests false false more = more

same-kept : (one other : ℕ → Bool) (ns : List ℕ) → length (filter (λ n. one n || other n) ns) ≤ length (filter one ns) → filter (λ n. one n || other n) ns ≡ filter one ns
same-kept one other [] few = refl
same-kept one other (n ∷ ns) few = by_tests (one n) (other n) few (same-kept one other ns)
  where
    by_tests : (a b : Bool) → length (cond (a || b) (n ∷ filter (λ m. one m || other m) ns) (filter (λ m. one m || other m) ns)) ≤ length (cond a (n ∷ filter one ns) (filter one ns))
        → (length (filter (λ m. one m || other m) ns) ≤ length (filter one ns) → filter (λ m. one m || other m) ns ≡ filter one ns)
        → cond (a || b) (n ∷ filter (λ m. one m || other m) ns) (filter (λ m. one m || other m) ns) ≡ cond a (n ∷ filter one ns) (filter one ns)
    by_tests true b le rest = ap (λ (ms : List ℕ). n ∷ ms) (rest (omega (arith, le)))
    by_tests false true le rest = absurd (omega (arith, le, more-kept one other ns))
    by_tests false false le rest = rest le

-- where no more documents are deleted, the same are
pub same-deleted : (x : Index) (documents : List ℕ) → AreRising 0 x.size x.deleted → nat_lt (length x.deleted) (length (also_deleted x documents)) ≡ false → also_deleted x documents ≡ x.deleted
same-deleted x documents rise not_more =
    let few : length (also_deleted x documents) ≤ length x.deleted = ltb-false (length x.deleted) (length (also_deleted x documents)) not_more in
    same-kept (λ d. is_in d x.deleted) (λ d. is_in d documents) (range_with_len 0 x.size) (omega (arith, few, ap length (rising-kept x.size x.deleted rise)))
    ∙ sym (rising-kept x.size x.deleted rise)

-- ---- the new file

groups-long : (more n : ℕ) → length (groups more n) ≤ suc more
unfolding groups
groups-long zero n = omega arith
groups-long (suc more) n = by_test (nat_lt n 128) (groups-long more (n / 128))
  where
    by_test : (b : Bool) → length (groups more (n / 128)) ≤ suc more → length (cond b (n ∷ []) ((128 + n % 128) ∷ groups more (n / 128))) ≤ suc (suc more)
    by_test true rest = omega arith
    by_test false rest = omega (arith, rest)

pairs-long : (last index : ℕ) (bytes : List ℕ) → length (pairs_bytes last index bytes) ≤ 6 * length bytes
unfolding pairs_bytes
pairs-long last index [] = omega arith
pairs-long last index (byte ∷ bytes) = by_test (eqb byte 0) (pairs-long last (suc index) bytes) (pairs-long index (suc index) bytes)
  where
    by_test : (b : Bool) → length (pairs_bytes last (suc index) bytes) ≤ 6 * length bytes → length (pairs_bytes index (suc index) bytes) ≤ 6 * length bytes → length (cond b (pairs_bytes last (suc index) bytes) (spelling num (index - last) ++ byte ∷ pairs_bytes index (suc index) bytes)) ≤ 6 * suc (length bytes)
    by_test true passed rest = omega (arith, passed)
    by_test false passed rest = omega (arith, rest, length-append (spelling num (index - last)) (byte ∷ pairs_bytes index (suc index) bytes), groups-long 4 (index - last))

-- it has no more bytes than a file may have
pub del-long : (size : ℕ) (docs : List ℕ) → size < 2 ^ 31 → length (del_bytes size docs) ≤ 2147483647
del-long size docs small = by_test (is_sparse size (length docs))
  where
    sizes : length (sizes_bytes size (length docs)) ≤ 8
    sizes = omega (arith, length-append (spelling int32 (pos size)) (spelling int32 (pos (length docs))))

    marks : length (marks_of size docs) ≡ size / 8 + 1
    marks = length-marking 0 (body_bytes size) docs

    by_test : (b : Bool) → length (cond b (sparse_bytes size docs) (dense_bytes size docs)) ≤ 2147483647
    by_test true =
        omega (arith, small, marks, sizes, pairs-long 0 0 (marks_of size docs), length-append (sizes_bytes size (length docs)) (pairs_bytes 0 0 (marks_of size docs)), length-append (spelling int32 (negsuc 0)) (sizes_bytes size (length docs) ++ pairs_bytes 0 0 (marks_of size docs)))
    by_test false = omega (arith, small, marks, sizes, length-append (sizes_bytes size (length docs)) (marks_of size docs))

-- the deleted documents of a segment that stands rise
pub rising-deleted : (has : Bool) (size count : ℕ) (file : Option (List ℕ)) (deleted : List ℕ) → Either has (Holds file (λ _. del_plan size count) deleted) deleted [] → AreRising 0 size deleted
rising-deleted true size count None deleted held = absurd held
rising-deleted true size count (Some bytes) deleted held = (del-only bytes deleted size count held).rise
rising-deleted false size count file deleted none = subst (AreRising 0 size) (sym none) tt

-- ---- the segment

-- the folder with this `.del`, the line that counts it, and what they stand for
abbrev pub with_del : FolderFiles → List ℕ → FolderFiles
with_del folder bytes = record folder { del = Some bytes }

abbrev pub del_line : SegInfo → ℕ → ℕ → SegInfo
del_line line generation count = record line { del_gen = Some generation; deleted = count }

abbrev pub with_deleted : SegmentValue → List ℕ → SegmentValue
with_deleted x docs = record x { index = record x.index { deleted = docs } }

module _ (folder : FolderFiles) (bytes : List ℕ) where
  own-kept : (compound : Bool) (number : ℕ) (own : PartFiles) → AreOwn compound folder number own → AreOwn compound (with_del folder bytes) number own
  own-kept true number own are = are
  own-kept false number own are = are

  shared-kept : (compound : Bool) (number : ℕ) (documents : DocumentFiles) → AreShared compound folder number documents → AreShared compound (with_del folder bytes) number documents
  shared-kept true number documents are = are
  shared-kept false number documents are = are

  documents-kept : (store : Option SharedStore) (own documents : DocumentFiles) → AreDocuments folder store own documents → AreDocuments (with_del folder bytes) store own documents
  documents-kept None own documents are = are
  documents-kept (Some store) own documents are = shared-kept store.compound store.number documents are

-- the files stand for it
pub del-stands : (folder : FolderFiles) (line : SegInfo) (x : SegmentValue) (generation : ℕ) (docs bytes : List ℕ) → SegmentStands folder line x → Reads (del_plan line.size (length docs)) bytes docs
    → SegmentStands (with_del folder bytes) (del_line line generation (length docs)) (with_deleted x docs)
del-stands folder line x generation docs bytes s reads = record {
  own = s.own;
  is_own = own-kept folder bytes line.compound line.number s.own s.is_own;
  documents = s.documents;
  are_documents = documents-kept folder bytes line.store s.own.documents s.documents s.are_documents;
  fnm = s.fnm;
  stored = s.stored;
  tis = s.tis;
  tii = s.tii;
  frq = s.frq;
  prx = s.prx;
  columns = s.columns;
  nrm = s.nrm;
  separate = s.separate;
  del = reads;
  vectors = s.vectors;
  value = ap (λ (y : SegmentValue). with_deleted y docs) s.value;
}
