-- What the check of `.prx` shows of the positions of a segment.
use Rattle.std.proofs.Common.{◌≡◌, ℕ, true, false, List, Option, Some, None, Ok, Err, refl}
use Rattle.std.specs.Prelude.{option_copied}
use Rattle.std.specs.Borrow.{Bor}
use Rattle.lu_grammar.specs.Plans.{Plan}
use Rattle.lu_grammar.specs.Meaning.{Reads}
use Rattle.lu_types.specs.FilePlans.{FilePlan, stands, needs, Judges, missing}
use Rattle.lu_types.specs.Judging.{IsFault}
use Rattle.lu_types.specs.Tables.{TableField}
use Rattle.lu_types.specs.declared.kind.FileKind.TheVariants.{Prx}
use Rattle.lu_types.specs.declared.fault.CodecFault.{CodecFault}
use Rattle.lu_types.specs.declared.fault.CodecFault.TheVariants as faults
use Rattle.lu_types.proofs.FileLaws.{judges-fault, judges-after}
use Rattle.term_dict.specs.Dictionary.{Dictionary}
use Rattle.freq_skips.specs.Terms.{TermData}
use Rattle.positions.specs.Records.{OccurrenceRecord}
use Rattle.positions.specs.Terms.{prx_plan}
use Rattle.segment_infos.specs.declared.infos.SegInfo.{SegInfo}
use Rattle.check_index.specs.Files.{IndexFiles}
use Rattle.check_index.specs.Terms.{infos_of, listed_terms}
use Rattle.check_index.specs.Positions.{TermOccurrences, no_positions, occurrences_in, position_files}
use Rattle.check_index.proofs.FileSteps.{judges-missing, judges-asked, stand-unasked}

module _ (files : IndexFiles) (line : SegInfo) (fields : List TableField) (d : Dictionary) (lists : List TermData) where
  -- what the bytes that may be there stand for
  abbrev pub seen : Option (Bor (List ℕ)) → List TermOccurrences
  seen prx = occurrences_in fields line.size d lists (option_copied prx)

  abbrev plan : List ℕ → Plan (List TermOccurrences) OccurrenceRecord
  plan bytes = prx_plan fields d.numbers line.size (infos_of d) lists

  abbrev needed_positions : FilePlan (List TermOccurrences)
  needed_positions = needs Prx files.prx plan (λ _ all. stands all)

  pub positions-unasked : line.has_prox ≡ false → Judges seen (position_files files line fields (listed_terms d lists)) (Ok None)
  positions-unasked is = stand-unasked line.has_prox (no_positions lists) (no_positions lists) needed_positions is refl

  module _ (asked : line.has_prox ≡ true) where
    pub positions-missing : (fault : CodecFault) → files.prx ≡ None → fault ≡ faults.Spot (missing Prx) → Judges seen (position_files files line fields (listed_terms d lists)) (Err fault)
    positions-missing fault absent is = judges-asked seen line.has_prox (no_positions lists) needed_positions (Err fault) asked (judges-missing seen Prx files.prx plan (λ _ all. stands all) fault absent is)

    pub positions-broken : (prx : List ℕ) (fault : CodecFault) → files.prx ≡ Some prx → IsFault Prx (plan prx) prx fault → Judges seen (position_files files line fields (listed_terms d lists)) (Err fault)
    positions-broken prx fault there f = judges-asked seen line.has_prox (no_positions lists) needed_positions (Err fault) asked (judges-fault seen Prx files.prx prx plan (λ _ all. stands all) fault there f)

    pub positions-stand : (prx : Bor (List ℕ)) → files.prx ≡ Some prx.now → Reads (plan prx.now) prx.now (occurrences_in fields line.size d lists (Some prx.now)) → Judges seen (position_files files line fields (listed_terms d lists)) (Ok (Some prx))
    positions-stand prx there reads =
        judges-asked seen line.has_prox (no_positions lists) needed_positions (Ok (Some prx)) asked
        (judges-after seen Prx files.prx prx.now plan (λ _ all. stands all) (occurrences_in fields line.size d lists (Some prx.now)) (Ok (Some prx)) there reads refl)
