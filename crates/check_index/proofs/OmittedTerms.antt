-- In a segment without positions no term is of a field that keeps them.
use Rattle.std.proofs.Common.{◌≡◌, Bool, false, List, get_or, sym, subst}
use Rattle.lu_types.specs.FilePlans.{stands, StandFor}
use Rattle.lu_types.specs.Tables.{TableField}
use Rattle.lu_types.specs.declared.kind.FileKind.TheVariants.{Fnm}
use Rattle.field_infos.specs.Fnm.{fnm_plan}
use Rattle.term_dict.specs.Dictionary.{Dictionary}
use Rattle.term_dict.specs.Facts.{AreGoodTerms}
use Rattle.segment_infos.specs.declared.infos.SegInfo.{SegInfo}
use Rattle.check_index.specs.Files.{IndexFiles}
use Rattle.check_index.specs.Documents.{norm_fields, field_files}
use Rattle.check_index.specs.Positions.{AreOmitted}
use Rattle.check_index.proofs.StandsLemmas.{holds-was}
use Rattle.check_index.proofs.ValidFields.{AreFine, fields-are}
use Rattle.check_index.proofs.ValidLists.{omits}

pub omitted-terms : (files : IndexFiles) (line : SegInfo) (fields : List TableField) (d : Dictionary) → StandFor (field_files files line) fields → AreGoodTerms fields line.size d → line.has_prox ≡ false → AreOmitted fields d
omitted-terms files line fields d held good none =
    let first = holds-was Fnm files.fnm (λ _. fnm_plan line.has_prox (norm_fields line)) (λ (f : List TableField). stands f) fields held in
    let all : AreFine line.has_prox fields = subst (AreFine line.has_prox) (sym first.2) (fields-are line.has_prox (norm_fields line) files.fnm first.0 first.1) in
    let fine : AreFine false fields = subst (λ (b : Bool). AreFine b fields) none all in
    λ k e lt. omits fields line.size d.numbers (get_or d.terms k e).info.field fine (good.each k e lt).field (good.each k e lt).indexed
