-- The files that a writer makes of terms: each text shares as many bytes as it can with the one before.
use Rattle.std.specs.Prelude.{ℕ, zero, suc, ◌+◌, ◌-◌, ◌*◌, ◌/◌, ◌==◌, pos, negsuc, if◌then◌else◌, List, [], ◌∷◌, ◌++◌, length, take, drop, nat_le}
use Rattle.lu_grammar.specs.Parts.{int32, int64, num, vint, vlong, spelling}
use Rattle.lu_types.specs.declared.term.TermNumbers.{TermNumbers}
use Rattle.term_dict.specs.Entries.{TermRecord}
use Rattle.term_dict.specs.Terms.{DictionaryTerm, no_term}
use Rattle.term_dict.specs.Index.{point_after, entry_count}

-- how many bytes two texts begin with alike
unfoldable pub shared : List ℕ → List ℕ → ℕ
shared [] ys = 0
shared (x ∷ xs) [] = 0
shared (x ∷ xs) (y ∷ ys) = if x == y then suc (shared xs ys) else 0

-- the entry of a term after another
abbrev pub entry_between : DictionaryTerm → DictionaryTerm → TermRecord
entry_between before t = record {
  prefix = shared before.text t.text;
  suffix = drop (shared before.text t.text) t.text;
  field = t.info.field;
  doc_freq = t.info.doc_freq;
  freq = t.info.freq - before.info.freq;
  prox = t.info.prox - before.info.prox;
  skip = t.info.skip;
}

-- SkipDelta, where it stands
abbrev pub skip_delta_bytes : ℕ → TermRecord → List ℕ
skip_delta_bytes interval e = if nat_le interval e.doc_freq then spelling num e.skip else []

-- the bytes of an entry, and what follows them
abbrev pub term_record_bytes : ℕ → TermRecord → List ℕ → List ℕ
term_record_bytes interval e more =
    spelling num e.prefix ++ (spelling num (length e.suffix) ++ (e.suffix ++ (spelling vint e.field ++ (spelling num e.doc_freq ++ (spelling vlong e.freq ++ (spelling vlong e.prox ++ (skip_delta_bytes interval e ++ more)))))))

-- the bytes of terms after another
abbrev pub terms_bytes : ℕ → DictionaryTerm → List DictionaryTerm → List ℕ
terms_bytes interval before [] = []
terms_bytes interval before (t ∷ ts) = term_record_bytes interval (entry_between before t) [] ++ terms_bytes interval t ts

-- the bytes of a header
abbrev pub header_bytes : TermNumbers → ℕ → List ℕ
header_bytes numbers count =
    spelling int32 (negsuc 3) ++ (spelling int64 (pos count) ++ (spelling int32 (pos numbers.index_interval) ++ (spelling int32 (pos numbers.skip_interval) ++ spelling int32 (pos numbers.max_levels))))

-- the file of these terms
abbrev pub canonical_tis : TermNumbers → List DictionaryTerm → List ℕ
canonical_tis numbers terms = header_bytes numbers numbers.count ++ terms_bytes numbers.skip_interval no_term terms

-- where a term starts in it
abbrev pub start_of_term : ℕ → List DictionaryTerm → ℕ → ℕ
start_of_term interval terms n = 24 + length (terms_bytes interval no_term (take n terms))

-- where the first so many terms start
abbrev pub starts_of : ℕ → List DictionaryTerm → ℕ → List ℕ
starts_of interval terms zero = []
starts_of interval terms (suc n) = starts_of interval terms n ++ start_of_term interval terms n ∷ []

-- a term and a place in the file of terms
pub record TermPoint : Type 0 where
  pub term : DictionaryTerm
  pub place : ℕ

-- how many intervals of terms have intervals_begun
abbrev pub intervals_begun : ℕ → ℕ → ℕ
intervals_begun index_interval count = (count + (index_interval - 1)) / index_interval

-- what the entry before this one of the index stands for
abbrev pub point_before : ℕ → ℕ → List DictionaryTerm → ℕ → TermPoint
point_before index_interval interval terms zero = record { term = no_term; place = 0 }
point_before index_interval interval terms (suc i) = record { term = point_after terms (i * index_interval); place = start_of_term interval terms (i * index_interval) }

-- the bytes of an entry of the index after another
abbrev pub point_bytes : ℕ → TermPoint → TermPoint → List ℕ
point_bytes interval before p = term_record_bytes interval (entry_between before.term p.term) (spelling vlong (p.place - before.place))

-- the bytes of the first so many entries
abbrev pub points_bytes : ℕ → ℕ → List DictionaryTerm → ℕ → List ℕ
points_bytes index_interval interval terms zero = []
points_bytes index_interval interval terms (suc i) =
    points_bytes index_interval interval terms i ++ point_bytes interval (point_before index_interval interval terms i) (point_before index_interval interval terms (suc i))

-- the index of these terms
abbrev pub canonical_tii : TermNumbers → List DictionaryTerm → List ℕ
canonical_tii numbers terms = header_bytes numbers (entry_count numbers) ++ points_bytes numbers.index_interval numbers.skip_interval terms (entry_count numbers)
