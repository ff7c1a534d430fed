use Rattle.std.proofs.Common.{refl}
use Rattle.compound_file.specs.Directories.{part_entry_of}
use Rattle.compound_file.proofs.DirectoryLemmas.{none_passed, one_passed, fault_passed}
use Rattle.compound_file.proofs.reading.read_directory.Goals as goal

pub loop-init : goal.loop-init
loop-init c = rw c.new-directory.ensures (none_passed c.args.bounds.size c.args.bounds.count c.args.cur.now c.requires)

pub returns-in-Err-clause-gives : goal.returns-in-Err-clause-gives
returns-in-Err-clause-gives c =
    rw (c.at.ensures, c.place-place.ensures) (
      refl,
      fault_passed c.args.bounds.size c.args.bounds.count c.args.cur.now c.loop.counter c.args.bounds.count c.loop.directory c.loop.cur c.in-Err.rule
          c.loop-test.true c.loop.invariant c.in-Err.ensures.gives,
    )

pub loop-preserved : goal.loop-preserved
loop-preserved c =
    rw c.in_ok-push-in-Ok.ensures.ok (one_passed c.args.bounds.size c.args.bounds.count c.args.cur.now c.loop.counter c.loop.directory c.loop.cur (part_entry_of c.in-Ok.entry) c.next_entry.new.cur
    c.loop.invariant c.in-Ok.ensures.gives c.in-Ok.ensures.good c.in-Ok.ensures.bytes)
