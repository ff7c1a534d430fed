-- What the checks of the files of terms show of all three.
use Rattle.std.proofs.Common.{◌≡◌, ℕ, List, length, Some, Result, Ok, Err}
use Rattle.lu_grammar.specs.Meaning.{Reads}
use Rattle.lu_types.specs.FilePlans.{FilePlan, stands, needs, Judges}
use Rattle.lu_types.specs.Judging.{IsFault}
use Rattle.lu_types.specs.Tables.{TableField}
use Rattle.lu_types.specs.declared.kind.FileKind.TheVariants.{Tis, Tii, Frq}
use Rattle.lu_types.specs.declared.fault.CodecFault.{CodecFault}
use Rattle.lu_types.proofs.FileLaws.{judges-fault, judges-after}
use Rattle.term_dict.specs.Dictionary.{Dictionary, tis_plan}
use Rattle.term_dict.specs.Index.{tii_plan}
use Rattle.freq_skips.specs.Terms.{TermData, frq_plan}
use Rattle.check_index.specs.Files.{IndexFiles}
use Rattle.check_index.specs.Terms.{TermLists, infos_of, listed_terms, term_files}

module _ {Y : Type 0} (seen : Y → TermLists) (files : IndexFiles) (size : ℕ) (fields : List TableField) where
  abbrev pub entry_files : Dictionary → FilePlan TermLists
  entry_files d = needs Frq files.frq (λ _. frq_plan fields d.numbers size (infos_of d)) (λ _ lists. stands (listed_terms d lists))

  abbrev pub index_files : Dictionary → FilePlan TermLists
  index_files d = needs Tii files.tii (λ _. tii_plan d) (λ _ (_ : Unit {0}). entry_files d)

  -- behind the terms
  pub terms-then : (tis : List ℕ) (d : Dictionary) (r : Result Y CodecFault) → files.tis ≡ Some tis → Reads (tis_plan fields size (length tis)) tis d → Judges seen (index_files d) r → Judges seen (term_files files size fields) r
  terms-then tis d r e reads h = judges-after seen Tis files.tis tis (λ tis. tis_plan fields size (length tis)) (λ _ d. index_files d) d r e reads h

  -- behind their index
  pub index-then : (tis tii : List ℕ) (d : Dictionary) (r : Result Y CodecFault) → files.tis ≡ Some tis → Reads (tis_plan fields size (length tis)) tis d → files.tii ≡ Some tii → Reads (tii_plan d) tii tt → Judges seen (entry_files d) r
      → Judges seen (term_files files size fields) r
  index-then tis tii d r e reads f indexed h = terms-then tis d r e reads (judges-after seen Tii files.tii tii (λ _. tii_plan d) (λ _ (_ : Unit {0}). entry_files d) tt r f indexed h)

  module _ (tis tii frq : List ℕ) (d : Dictionary) (has_tis : files.tis ≡ Some tis) (reads_tis : Reads (tis_plan fields size (length tis)) tis d) (has_tii : files.tii ≡ Some tii) (reads_tii : Reads (tii_plan d) tii tt)
      (has_frq : files.frq ≡ Some frq) where
    -- a fault of the entries
    pub entries-fault : (fault : CodecFault) → IsFault Frq (frq_plan fields d.numbers size (infos_of d)) frq fault → Judges seen (term_files files size fields) (Err fault)
    entries-fault fault f = index-then tis tii d (Err fault) has_tis reads_tis has_tii reads_tii (judges-fault seen Frq files.frq frq (λ _. frq_plan fields d.numbers size (infos_of d)) (λ _ lists. stands (listed_terms d lists)) fault has_frq f)

    -- all three stand
    pub entries-stand : (lists : List TermData) (y : Y) → Reads (frq_plan fields d.numbers size (infos_of d)) frq lists → seen y ≡ listed_terms d lists → Judges seen (term_files files size fields) (Ok y)
    entries-stand lists y reads is = index-then tis tii d (Ok y) has_tis reads_tis has_tii reads_tii (judges-after seen Frq files.frq frq (λ _. frq_plan fields d.numbers size (infos_of d)) (λ _ lists. stands (listed_terms d lists)) lists (Ok y) has_frq reads is)
