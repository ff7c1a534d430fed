-- A walk over the pairs of a sparse `.del`, beside documents that do not fall.
use Rattle.std.specs.Prelude.{◌≡◌, ℕ, ◌+◌, ◌/◌, ◌≤◌, Bool, false, ◌&&◌, ◌||◌, List, ◌++◌, length, Ok, nat_lt, ◌==◌}
use Rattle.lu_grammar.specs.Bytes.{IsBytes, Cursor}
use Rattle.lu_grammar.specs.Plans.{read_plan}
use Rattle.doc_marks.specs.Marking.{marked_at, is_in}
use Rattle.doc_marks.specs.Deletions.{pairs_plan, pairs_documents}
use Rattle.doc_marks.specs.Lent.{behind_header, IsSoundForm}
use Rattle.doc_marks.specs.declared.form.Form.{Form}
use Rattle.doc_marks.specs.declared.form.Form.TheVariants.{Nothing, Dense, Sparse}
use Rattle.doc_marks.specs.declared.pair_walk.PairWalk.{PairWalk}

-- the deleted documents that a walk asks, and the first document that may be asked for
pub record MarkWalk : Type 0 where
  pub documents : List ℕ
  pub from : ℕ

-- the walk is behind a pair with this byte, and so many documents are marked so far; what is left to read gives these documents in all
pub record PairsAt (size count : ℕ) (docs : List ℕ) (index documents marks : ℕ) (here : Cursor) (from : ℕ) : Type 0 where
  pub before : List ℕ
  pub more : ℕ
  pub to : Cursor
  pub rest : read_plan (pairs_plan size count more (record { index = index; documents = before ++ marked_at index marks })) here ≡ Ok (docs, to)
  pub number : length (before ++ marked_at index marks) ≡ documents
  pub enough : count ≤ documents + more
  pub few : documents ≤ count
  pub within : index ≤ size / 8
  pub behind : (doc : ℕ) → from ≤ doc → is_in doc before ≡ false
  pub fits : IsBytes here.rest

-- the documents that a walk goes along
abbrev pub walk_documents : PairWalk → List ℕ
walk_documents w = pairs_documents w.segment.size w.segment.count (behind_header w.del.now)

-- the walk stands among the pairs of its file
abbrev pub IsWalking : PairWalk → Type 0
IsWalking w = PairsAt w.segment.size w.segment.count (walk_documents w) w.passed.index w.passed.documents w.marks w.cur w.from

-- more pairs are to be passed before the byte with this index
abbrev pub needs_more : (count index documents wanted : ℕ) → Bool
needs_more count index documents wanted = nat_lt documents count && ((documents == 0) || nat_lt index wanted)

-- a walk over pairs is one over the pairs of this file
abbrev pub IsWalkOver : Form → PairWalk → Type 0
IsWalkOver Nothing w = Unit {0}
IsWalkOver (Dense body) w = Unit {0}
IsWalkOver (Sparse del) w = (w.del ≡ del) × IsWalking w

-- the marks are those of a file without a fault, and a walk over pairs stands among its own
pub record IsWalk (form : Form) (w : PairWalk) : Type 0 where
  pub sound : IsSoundForm form w.segment
  pub pairs : IsWalkOver form w
