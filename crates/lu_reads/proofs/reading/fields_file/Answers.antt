use Rattle.std.proofs.Common.{◌≡◌, ℕ, List, [], ◌∷◌, Some, Result, Err, refl, ap, ◌∙◌, arith}
use Rattle.std.specs.Option.{ForSome}
use Rattle.lu_types.specs.declared.kind.FileKind.TheVariants.{Fnm}
use Rattle.lu_dir.specs.Loading.{first_over, texts}
use Rattle.lu_dir.specs.declared.loading.LoadFault.{LoadFault}
use Rattle.lu_dir.specs.declared.loading.LoadFault.TheVariants as LoadFaults
use Rattle.lu_dir.specs.declared.loading.Loaded.{Loaded}
use Rattle.lu_folder.specs.Limits.{file_limit}
use Rattle.lu_reads.specs.Files.{part_names}
use Rattle.lu_reads.specs.Needs.{fields_kinds}
use Rattle.lu_reads.proofs.LoadLemmas.{too_long-first}
use Rattle.lu_reads.proofs.StopLemmas.{stop-wider}
use Rattle.lu_reads.proofs.reading.fields_file.Goals as goal

pub returns-clause-said : goal.returns-clause-said
returns-clause-said g c =
    stop-wider _ _ (λ outcome refused. too_long-first (g.D.Dir.files c.args.dir.now) c.args.segment.now fields_kinds names outcome 0 Fnm spelled (first refused.0.0 refused.0.1) refl refused.1)
    c.unloaded.result c.unloaded.ensures.said
  where
    names : List (List ℕ)
    names = texts (c.in_ok-part_name.field-0 ∷ [])

    spelled : names ≡ part_names c.args.segment.now fields_kinds
    spelled = ap (λ (n : List ℕ). n ∷ []) c.in_ok-part_name.ensures

    over : LoadFault → Result Loaded LoadFault
    over f = Err f

    first : (place : ℕ) → c.in-Err.fault ≡ LoadFaults.TooLarge place → ForSome (g.D.Dir.files c.args.dir.now) (λ told. first_over told file_limit names ≡ Some 0)
    first place is told tells =
        let here = c.in-Err.ensures.over place (ap over is) in
        let zero : place ≡ 0 = omega (arith, here.0) in
        here.1 told tells ∙ ap Some zero
