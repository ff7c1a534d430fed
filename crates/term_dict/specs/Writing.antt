-- What a writer of terms has been handed.
use Rattle.lu_grammar.specs.Reading.{value_or}
use Rattle.std.specs.Prelude.{[], ◌∷◌, ◌≡◌, ℕ, ◌%◌, ◌<◌, ◌≤◌, ◌^◌, ◌==◌, if◌then◌else◌, List, ◌++◌, length, drop}
use Rattle.std.specs.Str.{IsUtf8}
use Rattle.lu_grammar.specs.Bytes.{IsBytes, place_in}
use Rattle.lu_types.specs.declared.term.TermInfo.{TermInfo}
use Rattle.lu_types.specs.declared.term.TermNumbers.{TermNumbers}
use Rattle.term_dict.specs.declared.writer.IndexOutput.{IndexOutput}
use Rattle.lu_grammar.specs.Plans.{Kind, times, read_plan}
use Rattle.term_dict.specs.Headings.{Line}
use Rattle.term_dict.specs.Entries.{TermRecord}
use Rattle.term_dict.specs.Dictionary.{Progress, no_terms, terms_by}
use Rattle.term_dict.specs.Index.{blank}
use Rattle.term_dict.specs.Terms.{DictionaryTerm, no_term, last_term}
use Rattle.term_dict.specs.Last.{term_of_last}
use Rattle.term_dict.specs.Canonical.{TermPoint, point_bytes, intervals_begun, terms_bytes, points_bytes, point_before}

-- the two intervals, the number of levels, and the terms
pub record TermsWritten : Type 0 where
  pub index_interval : ℕ
  pub skip_interval : ℕ
  pub max_levels : ℕ
  pub terms : List DictionaryTerm

-- no terms yet
abbrev pub no_terms_written : ℕ → ℕ → ℕ → TermsWritten
no_terms_written index_interval skip_interval max_levels = record { index_interval = index_interval; skip_interval = skip_interval; max_levels = max_levels; terms = [] }

-- one term more
abbrev pub with_written : TermsWritten → DictionaryTerm → TermsWritten
with_written w t = record { index_interval = w.index_interval; skip_interval = w.skip_interval; max_levels = w.max_levels; terms = w.terms ++ t ∷ [] }

-- the numbers of a file of so many terms
abbrev pub numbers_of : ℕ → ℕ → ℕ → ℕ → TermNumbers
numbers_of index_interval skip_interval max_levels count = record { count = count; index_interval = index_interval; skip_interval = skip_interval; max_levels = max_levels }

-- the numbers of the file of terms
abbrev pub numbers_written : TermsWritten → TermNumbers
numbers_written w = numbers_of w.index_interval w.skip_interval w.max_levels (length w.terms)

-- the last entry of an index that is being written
abbrev pub last_point : IndexOutput → TermPoint
last_point out = record { term = term_of_last out.point; place = out.place }

-- what can be said of a term after a term of which this is said: its numbers are below 2^31, and no place falls
pub record FollowsTerm (last info : TermInfo) : Type 0 where
  pub doc_freq : info.doc_freq < 2 ^ 31
  pub skip : info.skip < 2 ^ 31
  pub freq : last.freq ≤ info.freq
  pub prox : last.prox ≤ info.prox

-- nothing was added
abbrev pub IsSame : IndexOutput → IndexOutput → Type 0
IsSame old new = (new.bytes.items ≡ old.bytes.items) × (last_point new ≡ last_point old)

-- an entry for this term and place was added
abbrev pub IsEntered : ℕ → IndexOutput → IndexOutput → TermPoint → Type 0
IsEntered interval old new p = (new.bytes.items ≡ old.bytes.items ++ point_bytes interval (last_point old) p) × (last_point new ≡ p)

-- the term of the entry before the term of this number
abbrev pub term_before : ℕ → DictionaryTerm → DictionaryTerm
term_before number last = record { text = last.text; info = if number == 0 then blank.info else last.info }

-- an entry was added where an interval begins with the term of this number
abbrev pub IsPassed : ℕ → ℕ → ℕ → IndexOutput → IndexOutput → DictionaryTerm → ℕ → Type 0
IsPassed number index_interval interval old new last place =
    (number % index_interval ≡ 0 → IsEntered interval old new (record { term = term_before number last; place = place })) × ((number % index_interval ≡ 0 → ⊥) → IsSame old new)

-- a term that can be spelled, with skip data from so many documents on
pub record IsSpellable (interval : ℕ) (t : DictionaryTerm) : Type 0 where
  pub text : IsUtf8 t.text
  pub bytes : IsBytes t.text
  pub small : length t.text < 2 ^ 31
  pub field : t.info.field < 2 ^ 31
  pub freq : t.info.freq < 2 ^ 32
  pub prox : t.info.prox < 2 ^ 32
  pub no_skip : t.info.doc_freq < interval → t.info.skip ≡ 0

-- each term can be spelled, and each after the one before
abbrev pub AreSpellable : ℕ → DictionaryTerm → List DictionaryTerm → Type 0
AreSpellable interval before [] = Unit {0}
AreSpellable interval before (t ∷ ts) = IsSpellable interval t × FollowsTerm before.info t.info × AreSpellable interval t ts

-- the records of terms, whatever conditions they meet
abbrev pub any_terms : ℕ → Kind Progress (Line TermRecord)
any_terms interval = terms_by (λ before e. []) interval

-- so many terms in the bytes behind the header
abbrev pub terms_in : ℕ → ℕ → List ℕ → List DictionaryTerm
terms_in interval count tis = (value_or (no_terms, place_in tis 24) (read_plan (times (any_terms interval) count no_terms) (place_in tis 24))).0.terms

-- what was written to the bytes of a file of terms
abbrev pub terms_written_in : ℕ → ℕ → ℕ → ℕ → List ℕ → TermsWritten
terms_written_in index_interval interval max_levels count tis = record { index_interval = index_interval; skip_interval = interval; max_levels = max_levels; terms = terms_in interval count tis }

-- the intervals and the number of levels are within their limits
pub record AreIntervals (w : TermsWritten) : Type 0 where
  pub index_interval : (1 ≤ w.index_interval) × (w.index_interval < 2 ^ 31)
  pub skip_interval : (2 ≤ w.skip_interval) × (w.skip_interval < 2 ^ 31)
  pub max_levels : (1 ≤ w.max_levels) × (w.max_levels < 2 ^ 31)

-- behind room for the header stand these bytes
abbrev pub IsBehind : List ℕ → List ℕ → Type 0
IsBehind body bytes = (24 ≤ length bytes) × (drop 24 bytes ≡ body)

-- the bytes of both files, the last term, and the last entry of the index are those of the terms
pub record IsWritten (w : TermsWritten) (tis : List ℕ) (last : DictionaryTerm) (tii : List ℕ) (point : TermPoint) (count : ℕ) : Type 0 where
  pub intervals : AreIntervals w
  pub counted : count ≡ length w.terms
  pub terms : IsBehind (terms_bytes w.skip_interval no_term w.terms) tis
  pub entries : IsBehind (points_bytes w.index_interval w.skip_interval w.terms (intervals_begun w.index_interval count)) tii
  pub is_last : last ≡ last_term w.terms
  pub is_point : point ≡ point_before w.index_interval w.skip_interval w.terms (intervals_begun w.index_interval count)
  pub spellable : AreSpellable w.skip_interval no_term w.terms
  pub small : length last.text < 2 ^ 31
  pub follows : FollowsTerm point.term.info last.info
  pub place : point.place ≤ length tis
