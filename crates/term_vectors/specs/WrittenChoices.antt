-- The two choices that the files of vectors leave, as the writer makes them (format page, "Term vectors").
use Rattle.std.specs.Prelude.{◌≡◌, ℕ, ◌+◌, List, [], ◌∷◌, ◌++◌, length, take, Some}
use Rattle.lu_grammar.specs.Meaning.{Spelled}
use Rattle.lu_types.specs.Tables.{TableField}
use Rattle.lu_types.specs.declared.stored.Window.{Window}
use Rattle.lu_types.specs.FilePlans.{StandFor}
use Rattle.lu_types.specs.Stores.{header_length}
use Rattle.term_vectors.specs.declared.layout.DocumentPlaces.{DocumentPlaces}
use Rattle.term_vectors.specs.Vectors.{TvfRecord, heading, term, StoredVector}
use Rattle.term_vectors.specs.VectorBytes.{shared_length, vectors_bytes}
use Rattle.term_vectors.specs.Stores.{vector_files}

-- the text that the next term of a vector has before it, once a record is passed: none behind a heading
abbrev pub text_behind : List ℕ → TvfRecord → List ℕ
text_behind before (heading count bits) = []
text_behind before (term prefix suffix freq) = take prefix before ++ suffix
text_behind before _ = before

-- a term's text shares with the text before as many bytes as it can
abbrev pub SharesMost : List ℕ → TvfRecord → Type 0
SharesMost before (term prefix suffix freq) = prefix ≡ shared_length before (take prefix before ++ suffix)
SharesMost before _ = Unit {0}

-- the same of each of the records, the first behind this text
unfoldable pub AllShareMost : List ℕ → List (Spelled TvfRecord) → Type 0
AllShareMost before [] = Unit {0}
AllShareMost before (s ∷ records) = SharesMost before s.it × AllShareMost (text_behind before s.it) records

-- a document without vectors stands in `.tvf` where those before it end
unfoldable pub StandAtEnds : ℕ → List DocumentPlaces → List (List StoredVector) → Type 0
StandAtEnds end [] documents = Unit {0}
StandAtEnds end (at ∷ places) [] = Unit {0}
StandAtEnds end (at ∷ places) (d ∷ documents) = (d ≡ [] → at.tvf ≡ end) × StandAtEnds (end + length (vectors_bytes d)) places documents

-- three files that stand for vectors make these choices: of the places of `.tvx`, and of the records of `.tvf`
pub record MakeWrittenChoices (total : ℕ) (window : Window) (fields : List TableField) (tvx tvd tvf : List ℕ) (seen : List (List StoredVector))
    (stand : StandFor (vector_files total window fields (Some tvx) (Some tvd) (Some tvf)) seen) : Type 0 where
  pub places : StandAtEnds header_length stand.0 stand.2.2.0
  pub prefixes : AllShareMost [] stand.2.2.1.records
