-- The terms of a segment and their entries: `.tis`, `.tii` and `.frq` (format page, "Terms", "Term index", "Entries and skip data").
use Rattle.std.specs.Prelude.{ℕ, List, [], length, map}
use Rattle.lu_grammar.specs.Bytes.{Cursor, place_in}
use Rattle.lu_grammar.specs.Reading.{value_or}
use Rattle.lu_grammar.specs.Plans.{read_file}
use Rattle.lu_grammar.specs.Meaning.{ReadsTo}
use Rattle.lu_types.specs.FilePlans.{FilePlan, stands, needs}
use Rattle.lu_types.specs.Tables.{TableField}
use Rattle.lu_types.specs.declared.kind.FileKind.TheVariants.{Tis, Tii, Frq}
use Rattle.lu_types.specs.declared.term.TermInfo.{TermInfo}
use Rattle.term_dict.specs.Dictionary.{Dictionary, tis_plan}
use Rattle.term_dict.specs.Index.{tii_plan}
use Rattle.freq_skips.specs.declared.rules.RuledTerm.{RuledTerm}
use Rattle.freq_skips.specs.Terms.{TermData, term_plan, terms_of, frq_plan, IsGoodTerm}
use Rattle.check_index.specs.Files.{IndexFiles}
use Rattle.check_index.specs.Turns.{HavePassed, AreTaken}

-- what the dictionary says of each of its terms
abbrev pub infos_of : Dictionary → List TermInfo
infos_of d = map (λ t. t.info) d.terms

-- the terms of the dictionary, each with what its entries are read by, in a segment with these fields and so many documents
abbrev pub ruled_terms : List TableField → ℕ → Dictionary → List RuledTerm
ruled_terms fields size d = terms_of fields d.numbers size (infos_of d)

-- what the files of terms and of entries stand for: what the dictionary says, and for each of its terms the entries and skip data
pub record TermLists : Type 0 where
  pub dictionary : Dictionary
  pub lists : List TermData

-- the same by its parts
abbrev pub listed_terms : Dictionary → List TermData → TermLists
listed_terms d lists = record { dictionary = d; lists = lists }

-- the terms, their index, and their entries
abbrev pub term_files : IndexFiles → ℕ → List TableField → FilePlan TermLists
term_files files size fields =
    needs Tis files.tis (λ tis. tis_plan fields size (length tis)) (λ _ d.
    needs Tii files.tii (λ _. tii_plan d) (λ _ _.
    needs Frq files.frq (λ _. frq_plan fields d.numbers size (infos_of d)) (λ _ lists.
    stands (listed_terms d lists))))

-- the entries and skip data that a `.frq` without a fault holds
abbrev pub lists_in : List TableField → ℕ → Dictionary → List ℕ → List TermData
lists_in fields size d frq = value_or [] (read_file (frq_plan fields d.numbers size (infos_of d)) frq)

-- the term stands at its place in these bytes, for this
pub record IsListed (frq : List ℕ) (t : RuledTerm) (value : TermData) : Type 0 where
  pub good : IsGoodTerm t.info t.rules frq
  pub end : Cursor
  pub reads : ReadsTo (term_plan t) (place_in frq t.info.freq) value end

-- so many terms of the dictionary stand one after another in `.frq`, up to this place
abbrev pub HavePassedTerms : List TableField → ℕ → Dictionary → List ℕ → ℕ → ℕ → Type 0
HavePassedTerms fields size d frq passed place = HavePassed term_plan (IsListed frq) (ruled_terms fields size d) frq passed place

-- the terms of the dictionary are the whole of `.frq`, each at its place for its own
abbrev pub AreListed : List TableField → ℕ → Dictionary → List ℕ → List TermData → Type 0
AreListed fields size d frq lists = AreTaken term_plan (IsListed frq) (ruled_terms fields size d) frq lists
