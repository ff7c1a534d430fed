-- The bytes of `.del` that are written (format page, "What the writer chooses").
use Rattle.std.specs.Prelude.{◌≡◌, ◌⊎◌, ℕ, suc, pos, ◌+◌, ◌-◌, ◌*◌, ◌^◌, ◌<◌, Bool, List, [], ◌∷◌, ◌++◌, length, nat_lt, ◌==◌, if◌then◌else◌}
use Rattle.lu_grammar.specs.Parts.{int32, num, spelling}
use Rattle.doc_marks.specs.Marking.{marking, AreRising}
use Rattle.doc_marks.specs.Deletions.{sparse_mark, body_bytes}

-- the bytes that mark these documents of a segment of this size
abbrev pub marks_of : ℕ → List ℕ → List ℕ
marks_of size docs = marking 0 (body_bytes size) docs

-- the size of the segment, and how many documents are deleted
abbrev pub sizes_bytes : ℕ → ℕ → List ℕ
sizes_bytes size count = spelling int32 (pos size) ++ spelling int32 (pos count)

-- the dense form: the sizes, and all bytes
abbrev pub dense_bytes : ℕ → List ℕ → List ℕ
dense_bytes size docs = sizes_bytes size (length docs) ++ marks_of size docs

-- the bytes that are not 0, each after how far its index is past that of the one before
unfoldable pub pairs_bytes : ℕ → ℕ → List ℕ → List ℕ
pairs_bytes last index [] = []
pairs_bytes last index (byte ∷ bytes) = if byte == 0 then pairs_bytes last (suc index) bytes else spelling num (index - last) ++ byte ∷ pairs_bytes index (suc index) bytes

-- the sparse form: its mark, the sizes, and the pairs
abbrev pub sparse_bytes : ℕ → List ℕ → List ℕ
sparse_bytes size docs = spelling int32 sparse_mark ++ (sizes_bytes size (length docs) ++ pairs_bytes 0 0 (marks_of size docs))

-- how many bits a deleted document is reckoned at in the sparse form, by the number of bytes of the dense one
abbrev pub pair_bits : ℕ → ℕ
pair_bits total = if nat_lt total 128 then 16 else (if nat_lt total (2 ^ 14) then 24 else (if nat_lt total (2 ^ 21) then 32 else 40))

-- the sparse form is so much shorter that it is taken
abbrev pub is_sparse : ℕ → ℕ → Bool
is_sparse size count = nat_lt (10 * (4 + pair_bits (body_bytes size) * count)) size

-- the one file that is written for these deleted documents of a segment of this size
abbrev pub del_bytes : ℕ → List ℕ → List ℕ
del_bytes size docs = if is_sparse size (length docs) then sparse_bytes size docs else dense_bytes size docs

-- the file is one of the two forms for these deleted documents of a segment of this size, and so many are counted
pub record IsDelFile (size count : ℕ) (docs bytes : List ℕ) : Type 0 where
  pub small : size < 2 ^ 31
  pub number : length docs ≡ count
  pub rise : AreRising 0 size docs
  pub form : (bytes ≡ dense_bytes size docs) ⊎ (bytes ≡ sparse_bytes size docs)
