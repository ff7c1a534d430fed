-- What is written of deletions is bytes, and is read.
use Rattle.std.proofs.Common.{ℕ, pos, suc, ◌+◌, ◌-◌, ◌^◌, ◌<◌, List, [], ◌∷◌, ◌++◌, length, sym, subst, arith, inl, inr}
use Rattle.std.proofs.lemmas.Bool.{cases_Bool, cases_eq}
use Rattle.std.specs.Int.{w32, cast_unsigned}
use Rattle.lu_grammar.specs.Bytes.{IsBytes}
use Rattle.lu_grammar.specs.Parts.{int32, spelling, groups}
use Rattle.lu_grammar.specs.Meaning.{Reads}
use Rattle.lu_grammar.proofs.Codecs.{Reads-from, read_file-Writes, IsBytes-nil, IsBytes-cons, IsBytes-append, IsBytes-groups, IsBytes-four}
use Rattle.doc_marks.specs.Marking.{AreRising}
use Rattle.doc_marks.specs.Deletions.{sparse_mark, body_bytes, del_plan}
use Rattle.doc_marks.specs.Spelling.{marks_of, sizes_bytes, dense_bytes, pairs_bytes, sparse_bytes, is_sparse, del_bytes}
use Rattle.doc_marks.proofs.MarkLemmas.{IsBytes-marking, length-marking}
use Rattle.doc_marks.proofs.MarksLemmas.{length-AreRising}
use Rattle.doc_marks.proofs.WriteLemmas.{pairs_bytes-zero, pairs_bytes-some}
use Rattle.doc_marks.proofs.DelLaws.{dense-written, sparse-written}

IsBytes-sizes : (size count : ℕ) → IsBytes (sizes_bytes size count)
IsBytes-sizes size count = IsBytes-append (spelling int32 (pos size)) (spelling int32 (pos count)) (IsBytes-four (cast_unsigned w32 (pos size))) (IsBytes-four (cast_unsigned w32 (pos count)))

IsBytes-pairs : (last index : ℕ) (found : List ℕ) → index + length found < 2 ^ 31 → IsBytes found → IsBytes (pairs_bytes last index found)
unfolding pairs_bytes
IsBytes-pairs last index [] few fits = IsBytes-nil
IsBytes-pairs last index (b ∷ found) few fits = elim (cases_eq b 0) [
  | inl none ↦ subst (λ (n : ℕ). IsBytes (pairs_bytes last index (n ∷ found))) (sym none) (subst IsBytes (sym (pairs_bytes-zero last index found)) (IsBytes-pairs last (suc index) found (omega arith) (λ i. fits (suc i))))
  | inr some ↦
      subst IsBytes (sym (pairs_bytes-some last index b found some))
      (IsBytes-append (groups 4 (index - last)) (b ∷ pairs_bytes index (suc index) found) (IsBytes-groups 4 (index - last) (omega arith))
      (IsBytes-cons b (pairs_bytes index (suc index) found) (fits 0) (IsBytes-pairs index (suc index) found (omega arith) (λ i. fits (suc i)))))
]

module _ (size : ℕ) (docs : List ℕ) (few : size < 2 ^ 31) (rise : AreRising 0 size docs) where
  less : length docs < 2 ^ 31
  less = let h = length-AreRising 0 size docs (omega arith) rise in omega (arith, h)

  dense-reads_here : Reads (del_plan size (length docs)) (dense_bytes size docs) docs
  dense-reads_here =
      Reads-from (del_plan size (length docs)) (dense_bytes size docs) docs (IsBytes-append (sizes_bytes size (length docs)) (marks_of size docs) (IsBytes-sizes size (length docs)) (IsBytes-marking 0 (body_bytes size) docs))
      (read_file-Writes (del_plan size (length docs)) (dense_bytes size docs) docs (dense-written size docs few less rise))

  sparse-reads_here : Reads (del_plan size (length docs)) (sparse_bytes size docs) docs
  sparse-reads_here =
      let pairs = pairs_bytes 0 0 (marks_of size docs) in
      let pairs-fit : IsBytes pairs = IsBytes-pairs 0 0 (marks_of size docs) (omega (arith, length-marking 0 (body_bytes size) docs)) (IsBytes-marking 0 (body_bytes size) docs) in
      let fits : IsBytes (sparse_bytes size docs) = IsBytes-append (spelling int32 sparse_mark) (sizes_bytes size (length docs) ++ pairs) (IsBytes-four (cast_unsigned w32 sparse_mark)) (IsBytes-append (sizes_bytes size (length docs)) pairs (IsBytes-sizes size (length docs)) pairs-fit) in
      Reads-from (del_plan size (length docs)) (sparse_bytes size docs) docs fits (read_file-Writes (del_plan size (length docs)) (sparse_bytes size docs) docs (sparse-written size docs few less rise))

pub dense-reads : (size : ℕ) (docs : List ℕ) → size < 2 ^ 31 → AreRising 0 size docs → Reads (del_plan size (length docs)) (dense_bytes size docs) docs
dense-reads size docs few rise = dense-reads_here size docs few rise

pub sparse-reads : (size : ℕ) (docs : List ℕ) → size < 2 ^ 31 → AreRising 0 size docs → Reads (del_plan size (length docs)) (sparse_bytes size docs) docs
sparse-reads size docs few rise = sparse-reads_here size docs few rise

pub del-reads : (size : ℕ) (docs : List ℕ) → size < 2 ^ 31 → AreRising 0 size docs → Reads (del_plan size (length docs)) (del_bytes size docs) docs
del-reads size docs few rise = elim (cases_Bool (is_sparse size (length docs))) [
  | inl shorter ↦ rw shorter (sparse-reads size docs few rise)
  | inr longer ↦ rw longer (dense-reads size docs few rise)
]
