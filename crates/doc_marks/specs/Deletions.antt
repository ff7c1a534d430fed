-- `.del` (format page, "Deletions"): the deleted documents of a segment, as bits of bytes, or as the bytes that are not 0.
use Rattle.std.specs.Prelude.{ℕ, zero, suc, ℤ, pos, negsuc, ◌+◌, ◌/◌, Bool, true, false, not, ◌&&◌, ◌||◌, List, [], ◌∷◌, ◌++◌, length, nat_lt, nat_le, ◌==◌, if◌then◌else◌, Result, Ok, Err}
use Rattle.std.specs.List.{list_any}
use Rattle.std.specs.Ordering.{int_eq}
use Rattle.lu_grammar.specs.Parts.{byte, int32, num, bytes}
use Rattle.lu_grammar.specs.Records.{Shape, whole, part, Condition}
use Rattle.lu_grammar.specs.Plans.{Plan, done, due, Broken, read_plan}
use Rattle.lu_grammar.specs.Bytes.{Cursor}
use Rattle.lu_types.specs.RuleNumbers as number
use Rattle.doc_marks.specs.Marking.{marked, marked_at}

-- the number -1, with which the sparse form begins
abbrev pub sparse_mark : ℤ
sparse_mark = negsuc 0

-- how many bytes the dense form has for so many documents
abbrev pub body_bytes : ℕ → ℕ
body_bytes size = size / 8 + 1

-- a record: the header, which tells the form; the whole body of the dense form; or a pair of the sparse one
pub data DelRecord : Type 0 where
  header : (is_sparse : Bool) → (size count : ℤ) → DelRecord
  body : List ℕ → DelRecord
  pair : (gap marks : ℕ) → DelRecord

-- ---- the header

-- the sizes after the first number: of the sparse form both, of the dense form the count alone
abbrev pub sizes_shape : Bool → ℤ → Shape DelRecord
sizes_shape true first = part int32 (λ size. part int32 (λ count. whole (header true size count)))
sizes_shape false first = part int32 (λ count. whole (header false first count))

-- the number that tells the form, and the sizes
abbrev pub header_shape : Shape DelRecord
header_shape = part int32 (λ first. sizes_shape (int_eq first sparse_mark) first)

-- what a header may not be, in a segment of this size with so many deleted documents
abbrev pub header_conditions : ℕ → ℕ → DelRecord → List Condition
header_conditions size count (header is_sparse s n) = record { rule = number.del_size; broken = not (int_eq s (pos size)) } ∷ record { rule = number.del_count; broken = not (int_eq n (pos count)) } ∷ []
header_conditions size count (body found) = []
header_conditions size count (pair gap marks) = []

-- ---- the dense form

-- some document is not below the size
abbrev pub is_past : ℕ → List ℕ → Bool
is_past size docs = list_any (λ doc. nat_le size doc) docs

-- all bytes of the body at once
abbrev pub body_shape : ℕ → Shape DelRecord
body_shape size = part (bytes (body_bytes size)) (λ found. whole (body found))

-- the documents of a body
abbrev pub body_documents : DelRecord → List ℕ
body_documents (header is_sparse s n) = []
body_documents (body found) = marked found
body_documents (pair gap marks) = []

-- what a body may not be
abbrev pub body_conditions : ℕ → ℕ → DelRecord → List Condition
body_conditions size count r = record { rule = number.del_past; broken = is_past size (body_documents r) } ∷ record { rule = number.del_total; broken = not (length (body_documents r) == count) } ∷ []

-- the body, and nothing more
abbrev pub dense_plan : ℕ → ℕ → Plan (List ℕ) DelRecord
dense_plan size count = due (body_shape size) (λ place r. body_conditions size count r) (λ place r. done (body_documents r))

-- ---- the sparse form

-- the pairs so far: the index of the last byte, which is the sum of the gaps, and the documents that they mark
pub record PairsRead : Type 0 where
  pub index : ℕ
  pub documents : List ℕ

-- before the first pair
abbrev pub no_pairs : PairsRead
no_pairs = record { index = 0; documents = [] }

-- how far the byte's index is past that of the byte before, and the byte
abbrev pub pair_shape : Shape DelRecord
pair_shape = part num (λ gap. part byte (λ marks. whole (pair gap marks)))

-- the gap is 0 and a pair stands before, or the index is over that of the last byte of the dense form
abbrev pub is_wrong_gap : (size index before gap : ℕ) → Bool
is_wrong_gap size index before gap = ((gap == 0) && not (before == 0)) || nat_lt (size / 8) (index + gap)

-- what a pair may not be, after those before it: by the index of the last of them, and how many documents they mark
abbrev pub pair_conditions : (size count index before : ℕ) → DelRecord → List Condition
pair_conditions size count index before (header is_sparse n m) = []
pair_conditions size count index before (body found) = []
pair_conditions size count index before (pair gap marks) =
    record { rule = number.del_gap; broken = is_wrong_gap size index before gap }
    ∷ record { rule = number.del_byte; broken = marks == 0 }
    ∷ record { rule = number.del_past; broken = is_past size (marked_at (index + gap) marks) }
    ∷ record { rule = number.del_total; broken = nat_lt count (before + length (marked_at (index + gap) marks)) } ∷ []

-- the pairs with this one
abbrev pub with_pair : PairsRead → DelRecord → PairsRead
with_pair s (header is_sparse n m) = s
with_pair s (body found) = s
with_pair s (pair gap marks) = record { index = s.index + gap; documents = s.documents ++ marked_at (s.index + gap) marks }

-- pairs until they mark as many documents as are counted; a pair marks one at least, so there are at most so many more
unfoldable pub pairs_plan : ℕ → ℕ → ℕ → PairsRead → Plan (List ℕ) DelRecord
pairs_plan size count zero s = done s.documents
pairs_plan size count (suc more) s =
    if nat_lt (length s.documents) count then due pair_shape (λ place r. pair_conditions size count s.index (length s.documents) r) (λ place r. pairs_plan size count more (with_pair s r)) else done s.documents

-- ---- the file

-- what is due after a header
abbrev pub after_header : ℕ → ℕ → DelRecord → Plan (List ℕ) DelRecord
after_header size count (header true s n) = pairs_plan size count count no_pairs
after_header size count (header false s n) = dense_plan size count
after_header size count (body found) = done []
after_header size count (pair gap marks) = done []

-- the whole file, of a segment of this size with so many deleted documents; it stands for the rising list of them
abbrev pub del_plan : ℕ → ℕ → Plan (List ℕ) DelRecord
del_plan size count = due header_shape (λ place r. header_conditions size count r) (λ place r. after_header size count r)

-- ---- lent

-- what was read, or this
abbrev pub read_value_or : {V : Type 0} → V → Result (V × Cursor) Broken → V
read_value_or otherwise (Ok x) = x.0
read_value_or otherwise (Err broken) = otherwise

-- the documents that the pairs from here on mark
abbrev pub pairs_documents : ℕ → ℕ → Cursor → List ℕ
pairs_documents size count from = read_value_or [] (read_plan (pairs_plan size count count no_pairs) from)
