use Rattle.std.proofs.Common.{ℕ, List, [], Err, ap, subst, ◌∙◌, sym}
use Rattle.lu_grammar.specs.Plans.{one, times, read_plan}
use Rattle.lu_types.specs.declared.fault.CodecFault.{CodecFault}
use Rattle.lu_types.specs.declared.kind.FileKind.TheVariants.{Commit}
use Rattle.segment_infos.specs.declared.infos.SegInfo.{SegInfo}
use Rattle.lu_types.specs.Judging.{GivesIn}
use Rattle.segment_infos.specs.Unsealed.{fault_of_stop}
use Rattle.lu_grammar.proofs.Loops.{each-none, times-more}
use Rattle.segment_infos.specs.Records.{line as line_of}
use Rattle.segment_infos.specs.Format.{lines_kind}
use Rattle.segment_infos.proofs.GoodLines.{segment_of_line-new, segment_of_line-room}
use Rattle.segment_infos.proofs.FrontReads.{lines-stopped}
use Rattle.segment_infos.proofs.reading.lines.Goals as goal

pub loop-init : goal.loop-init
loop-init c = rw c.new-taking.ensures (each-none (one lines_kind) [] c.args.cur.now)

pub returns-in-Err : goal.returns-in-Err
returns-in-Err c =
    subst (λ (f : CodecFault). GivesIn {X = List SegInfo} Commit (λ s. s) (read_plan (times lines_kind c.args.count []) c.args.cur.now) c.line.new.cur (Err f)) (sym (c.stopped.ensures ∙ ap (λ (p : ℕ). fault_of_stop p c.in-Err.stop) c.place-place.ensures))
    (lines-stopped c.loop.counter c.args.count c.args.cur.now c.loop.cur c.line.new.cur c.line.new.cur c.loop.taking c.in-Err.stop c.loop-test.true c.loop.invariant c.in-Err.ensures.gives)

pub push-requires-clause-new : goal.push-requires-clause-new
push-requires-clause-new c = rw c.segment.ensures (segment_of_line-new c.loop.taking c.in-Ok.found c.in-Ok.ensures.good)

pub push-requires-clause-room : goal.push-requires-clause-room
push-requires-clause-room c = rw c.segment.ensures (segment_of_line-room c.loop.taking c.in-Ok.found c.in-Ok.ensures.good)

pub loop-preserved : goal.loop-preserved
loop-preserved c =
    rw (c.in_ok-push-in-Ok.ensures.ok, c.segment.ensures)
    (times-more lines_kind c.loop.counter [] c.args.cur.now c.loop.taking c.loop.cur (line_of c.in-Ok.found) c.line.new.cur c.loop.invariant c.in-Ok.ensures.gives)
