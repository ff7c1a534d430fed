use Rattle.std.proofs.Common.{◌≤◌, length, drop, Some, ◌+◌, ap, ◌∙◌, arith}
use Rattle.std.proofs.lemmas.List.{drop-drop}
use Rattle.lu_dir.proofs.Moved.{Moves-end, Moves-rest, Moves-count, left-more, read-more, size-more}
use Rattle.lu_dir.proofs.reading.read_all.Goals as goal

pub returns-in-Ok-eq0-clause-all : goal.returns-in-Ok-eq0-clause-all
returns-in-Ok-eq0-clause-all g c = λ left is.
    let bytes = c.loop-bytes.bytes.items in
    let moved = c.in-Ok-eq0.ensures.moved (drop (length bytes) left) (c.loop-bytes.invariant.left left is) in (
      Moves-end bytes left c.loop-bytes.piece c.read.new.buf c.in-Ok-eq0.field-0 (c.loop-bytes.invariant.read left is) c.loop-bytes.invariant.room c.in-Ok-eq0.field-0-test moved.0,
      moved.1 ∙ ap Some (Moves-rest bytes left c.loop-bytes.piece c.read.new.buf c.in-Ok-eq0.field-0 c.loop-bytes.invariant.room c.in-Ok-eq0.field-0-test moved.0),
    )

pub returns-then-len-count-clause-over : goal.returns-then-len-count-clause-over
returns-then-len-count-clause-over g c = λ place same. (
  cc,
  λ left is.
      let bytes = c.loop-bytes.bytes.items in
      let moved = c.in-Ok.ensures.moved (drop (length bytes) left) (c.loop-bytes.invariant.left left is) in
      omega (arith, c.if-len-count.true, c.len.ensures, Moves-count bytes left c.loop-bytes.piece c.read.new.buf c.in-Ok.count (c.loop-bytes.invariant.read left is) moved.0),
)

pub returns-then-len-count-clause-taken : goal.returns-then-len-count-clause-taken
returns-then-len-count-clause-taken g c = λ left is.
    let bytes = c.loop-bytes.bytes.items in
    let moved = c.in-Ok.ensures.moved (drop (length bytes) left) (c.loop-bytes.invariant.left left is) in
    (length bytes + c.in-Ok.count, moved.1 ∙ ap Some (drop-drop c.in-Ok.count (length bytes) left))

pub returns-in-Err-extend_from_slice-clause-taken : goal.returns-in-Err-extend_from_slice-clause-taken
returns-in-Err-extend_from_slice-clause-taken g c = λ left is.
    let bytes = c.loop-bytes.bytes.items in
    let moved = c.in-Ok.ensures.moved (drop (length bytes) left) (c.loop-bytes.invariant.left left is) in
    (length bytes + c.in-Ok.count, moved.1 ∙ ap Some (drop-drop c.in-Ok.count (length bytes) left))

pub loop-bytes-preserved : goal.loop-bytes-preserved
loop-bytes-preserved g c =
    let bytes = c.loop-bytes.bytes.items in
    let count = c.in-Ok.count in
    let new = c.extend_from_slice.new.self.items in
    let fits : count ≤ length c.read.new.buf = omega (arith, c.in-Ok.ensures.within, c.read.auto.buf) in
    let size = size-more bytes new c.read.new.buf count c.in_default.ensures.items fits in
    record {
      left = λ left is.
          left-more bytes new left count _ size (c.in-Ok.ensures.moved (drop (length bytes) left) (c.loop-bytes.invariant.left left is)).1;
      read = λ left is.
          read-more bytes new left c.loop-bytes.piece c.read.new.buf count size c.in_default.ensures.items (c.loop-bytes.invariant.read left is)
          (c.in-Ok.ensures.moved (drop (length bytes) left) (c.loop-bytes.invariant.left left is)).0;
      within = omega (arith, size, c.if-len-count.false, c.len.ensures);
      room = omega (arith, c.read.auto.buf);
      later = omega (arith, c.in-Ok.ensures.cause.later);
    }
