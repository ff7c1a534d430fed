use Rattle.std.proofs.Common.{◌≡◌, ℕ, ◌<◌, List, length, Result, Err, ap, sym, subst, ◌∙◌}
use Rattle.std.specs.Prelude.{string_bytes}
use Rattle.std.proofs.lemmas.List.{length-map}
use Rattle.lu_dir.specs.Loading.{texts}
use Rattle.lu_dir.specs.declared.loading.LoadFault.{LoadFault}
use Rattle.lu_dir.specs.declared.loading.LoadFault.TheVariants as LoadFaults
use Rattle.lu_dir.specs.declared.loading.Loaded.{Loaded}
use Rattle.lu_outcomes.specs.declared.outcome.Outcome.{Outcome}
use Rattle.lu_outcomes.specs.Outcomes.{too_large_outcome}
use Rattle.lu_reads.specs.Files.{part_names}
use Rattle.lu_reads.specs.Needs.{docs_kinds}
use Rattle.lu_reads.specs.FilesDue.{IsTooLong}
use Rattle.lu_reads.proofs.LoadLemmas.{AreFound-loaded, too_long-first}
use Rattle.lu_reads.proofs.StopLemmas.{stop-wider}
use Rattle.lu_reads.proofs.reading.docs_files.Goals as goal

pub returns-in-Ok-clause-found : goal.returns-in-Ok-clause-found
returns-in-Ok-clause-found g c =
    AreFound-loaded (g.D.Dir.files c.args.dir.now) c.args.segment.now docs_kinds (texts c.in_ok-names.names) c.in-Ok.loaded.found c.in_ok-names.ensures c.in-Ok.ensures.loaded c.in-Ok.ensures.each

pub returns-clause-said : goal.returns-clause-said
returns-clause-said g c =
    stop-wider _ _ (λ outcome refused. too_large outcome refused.0.0 refused.0.1 refused.1) c.unloaded.result c.unloaded.ensures.said
  where
    over : LoadFault → Result Loaded LoadFault
    over f = Err f

    spelled : texts c.in_ok-names.names ≡ part_names c.args.segment.now docs_kinds
    spelled = c.in_ok-names.ensures

    within : (place : ℕ) → place < length c.in_ok-names.names → place < 3
    within place less = subst (λ (n : ℕ). place < n) (sym (length-map c.in_ok-names.names string_bytes) ∙ ap (λ (ns : List (List ℕ)). length ns) spelled) less

    too_large : (outcome : Outcome) (place : ℕ) → c.in-Err.fault ≡ LoadFaults.TooLarge place → outcome ≡ too_large_outcome c.docs_kind-kind.result
        → IsTooLong c.args.segment.now docs_kinds (g.D.Dir.files c.args.dir.now) outcome
    too_large outcome place is refused =
        let here = c.in-Err.ensures.over place (ap over is) in
        too_long-first (g.D.Dir.files c.args.dir.now) c.args.segment.now docs_kinds (texts c.in_ok-names.names) outcome place c.docs_kind-kind.result spelled here.1 (c.docs_kind-kind.ensures place is (within place here.0)) refused
