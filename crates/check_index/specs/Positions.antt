-- The positions of the terms of a segment: `.prx` (format page, "Positions").
use Rattle.std.specs.Prelude.{◌≡◌, ℕ, ◌<◌, ◌^◌, true, false, List, [], length, map, Option, Some, None, All, unwrap_or}
use Rattle.lu_grammar.specs.Bytes.{IsBytes}
use Rattle.lu_grammar.specs.Reading.{value_or}
use Rattle.lu_grammar.specs.Plans.{read_file}
use Rattle.lu_types.specs.FilePlans.{FilePlan, stands, needs, where_needed}
use Rattle.lu_types.specs.Bits as bit
use Rattle.lu_types.specs.Bits.{has_bit}
use Rattle.lu_types.specs.Tables.{TableField, bits_at}
use Rattle.lu_types.specs.declared.kind.FileKind.TheVariants.{Prx}
use Rattle.lu_types.specs.Occurrences.{Occurrence}
use Rattle.term_dict.specs.Dictionary.{Dictionary}
use Rattle.freq_skips.specs.Terms.{TermData}
use Rattle.positions.specs.Occurrences.{PostedTerm}
use Rattle.positions.specs.Terms.{term_plan, posted_terms, prx_plan}
use Rattle.positions.specs.Cursors.{StandsInBoth}
use Rattle.segment_infos.specs.declared.infos.SegInfo.{SegInfo}
use Rattle.check_index.specs.Files.{IndexFiles}
use Rattle.check_index.specs.Terms.{TermLists, infos_of, ruled_terms}
use Rattle.check_index.specs.Turns.{HavePassed, AreTaken}

-- the occurrences of a term, entry by entry
abbrev pub TermOccurrences : Type 0
TermOccurrences = List (List Occurrence)

-- the terms of the dictionary, each with what its part of `.frq` stands for
abbrev pub listed_postings : List TableField → ℕ → Dictionary → List TermData → List PostedTerm
listed_postings fields size d lists = posted_terms (ruled_terms fields size d) lists

-- no occurrences of any of the terms
abbrev pub no_positions : List TermData → List TermOccurrences
no_positions lists = map (λ _. []) lists

-- the occurrences of the terms, in a segment that has positions
abbrev pub position_files : IndexFiles → SegInfo → List TableField → TermLists → FilePlan (List TermOccurrences)
position_files files line fields terms = where_needed line.has_prox (no_positions terms.lists)
    (needs Prx files.prx (λ _. prx_plan fields terms.dictionary.numbers line.size (infos_of terms.dictionary) terms.lists) (λ _ all. stands all))

-- the occurrences that a `.prx` without a fault holds; none where there is no such file
abbrev pub occurrences_in : List TableField → ℕ → Dictionary → List TermData → Option (List ℕ) → List TermOccurrences
occurrences_in fields size d lists None = no_positions lists
occurrences_in fields size d lists (Some prx) = value_or [] (read_file (prx_plan fields d.numbers size (infos_of d) lists) prx)

-- the term stands in both files: where its field keeps positions, with these occurrences
pub record IsPosted (prx : List ℕ) (p : PostedTerm) (occurrences : TermOccurrences) : Type 0 where
  pub kept : p.term.rules.omit_tf ≡ false → StandsInBoth p.term p.value prx occurrences
  pub seen : TermOccurrences
  pub stands : StandsInBoth p.term p.value prx seen

-- so many terms of the dictionary stand one after another in `.prx`, up to this place
abbrev pub HavePassedPositions : List TableField → ℕ → Dictionary → List TermData → List ℕ → ℕ → ℕ → Type 0
HavePassedPositions fields size d lists prx passed place = HavePassed term_plan (IsPosted prx) (listed_postings fields size d lists) prx passed place

-- the terms of the dictionary are the whole of `.prx`
abbrev pub ArePosted : List TableField → ℕ → Dictionary → List TermData → List ℕ → List TermOccurrences → Type 0
ArePosted fields size d lists prx occurrences = AreTaken term_plan (IsPosted prx) (listed_postings fields size d lists) prx occurrences

-- no term is of a field that keeps positions
abbrev pub AreOmitted : List TableField → Dictionary → Type 0
AreOmitted fields d = All (λ t. has_bit bit.omit_tf (bits_at fields t.info.field) ≡ true) d.terms

-- the bytes of the file; none where it is not there
abbrev pub bytes_if_any : Option (List ℕ) → List ℕ
bytes_if_any file = unwrap_or file []

-- so they are, where there is such a file, which has as many bytes as a file may have; without one, no term keeps positions
abbrev pub ArePositions : List TableField → ℕ → Dictionary → List TermData → Option (List ℕ) → Type 0
ArePositions fields size d lists None = AreOmitted fields d
ArePositions fields size d lists (Some prx) = IsBytes prx × (length prx < 2 ^ 31) × ArePosted fields size d lists prx (occurrences_in fields size d lists (Some prx))
