use Rattle.std.proofs.Common.{rules, ◌≡◌, ℕ, Err, refl, ap, subst, sym, ◌∙◌, FitsSigned, w32, w64}
use Rattle.std.proofs.lemmas.Int.{to_z-of_z}
use Rattle.lu_grammar.specs.Plans.{read_plan}
use Rattle.lu_types.specs.declared.fault.CodecFault.{CodecFault}
use Rattle.lu_types.specs.declared.kind.FileKind.TheVariants.{Commit}
use Rattle.segment_infos.specs.declared.reading.Unsealed.{Unsealed}
use Rattle.segment_infos.specs.Numbers.{count_or_zero}
use Rattle.segment_infos.specs.Format.{front_plan}
use Rattle.lu_types.specs.Judging.{GivesIn}
use Rattle.segment_infos.specs.Unsealed.{unsealed_value, fault_of_stop}
use Rattle.segment_infos.proofs.FrontReads.{front-heading_broken, front-lines_fail, front-user_stopped, front-read}
use Rattle.segment_infos.proofs.reading.all_but_seal.Goals as goal

pub returns-in-Err : goal.returns-in-Err
returns-in-Err c = rw (c.fault.ensures, c.place-start.ensures) (refl, front-heading_broken c.args.cur.now c.in-Err.rule c.in-Err.ensures)

pub returns-in-Err-lines : goal.returns-in-Err-lines
returns-in-Err-lines c =
    let h = c.in-Ok.heading in
    let fits : FitsSigned w32 h.count = search rules in
    let same : c.count_or_zero.result ≡ count_or_zero h.count = c.count_or_zero.ensures.count ∙ ap count_or_zero (to_z-of_z w32 h.count fits) in
    front-lines_fail c.args.cur.now c.heading.new.cur h c.in-Ok.ensures c.count_or_zero.result c.lines.new.cur c.lines.new.cur c.in-Err-lines.found same c.in-Err-lines.ensures

pub returns-in-Err-user : goal.returns-in-Err-user
returns-in-Err-user c =
    let h = c.in-Ok.heading in
    let fits : FitsSigned w32 h.count = search rules in
    let same : c.count_or_zero.result ≡ count_or_zero h.count = c.count_or_zero.ensures.count ∙ ap count_or_zero (to_z-of_z w32 h.count fits) in
    subst (λ (f : CodecFault). GivesIn {X = Unsealed} Commit unsealed_value (read_plan front_plan c.args.cur.now) c.user.new.cur (Err f)) (sym (c.stopped.ensures ∙ ap (λ (p : ℕ). fault_of_stop p c.in-Err-user.stop) c.place-place.ensures))
    (front-user_stopped c.args.cur.now c.heading.new.cur h c.in-Ok.ensures c.count_or_zero.result c.lines.new.cur c.in-Ok-lines.segments same c.in-Ok-lines.ensures c.user.new.cur c.user.new.cur c.in-Err-user.stop c.in-Err-user.ensures)

pub returns : goal.returns
returns c =
    let h = c.in-Ok.heading in
    let fits : FitsSigned w32 h.count = search rules in
    let fits_version : FitsSigned w64 h.version = search rules in
    let fits_counter : FitsSigned w32 h.counter = search rules in
    let same : c.count_or_zero.result ≡ count_or_zero h.count = c.count_or_zero.ensures.count ∙ ap count_or_zero (to_z-of_z w32 h.count fits) in
    let version : c.long_count_or_zero.result ≡ count_or_zero h.version = c.long_count_or_zero.ensures.count ∙ ap count_or_zero (to_z-of_z w64 h.version fits_version) in
    let counter : c.count_or_zero-2.result ≡ count_or_zero h.counter = c.count_or_zero-2.ensures.count ∙ ap count_or_zero (to_z-of_z w32 h.counter fits_counter) in
    rw (version, counter) (front-read c.args.cur.now c.heading.new.cur h c.in-Ok.ensures c.count_or_zero.result c.lines.new.cur c.in-Ok-lines.segments same c.in-Ok-lines.ensures c.user.new.cur c.in-Ok-user.user c.in-Ok-user.ensures)
