use Rattle.std.proofs.Common.{length, refl, sym, ap, arith}
use Rattle.std.proofs.lemmas.List.{length-take}
use Rattle.lu_grammar.specs.Parts.{bytes}
use Rattle.doc_marks.specs.Deletions.{body as body_of, body_bytes, body_conditions}
use Rattle.lu_grammar.proofs.Codecs.{alone_read, alone_breaks, alone_unread}
use Rattle.doc_marks.proofs.Steps.{bytes-taken}
use Rattle.doc_marks.proofs.DelLemmas.{body-fault, body-read}
use Rattle.doc_marks.proofs.dense.dense_body.Goals as goal

pub returns-in-Err-clause-gives : goal.returns-in-Err-clause-gives
returns-in-Err-clause-gives c =
    let s = c.args.segment in
    rw (c.at.ensures, c.place-place.ensures) (
      refl,
      body-fault s.size s.count c.rule_of.result c.args.cur.now (alone_unread (bytes (body_bytes s.size)) (λ v. body_of v) (body_conditions s.size s.count) c.args.cur.now c.in-Err.bad c.rule_of.result c.in-Err.ensures.0 c.rule_of.ensures),
    )

pub body_broken-requires : goal.body_broken-requires
body_broken-requires c =
    let n = body_bytes c.args.segment.size in
    let taken = bytes-taken n c.args.cur.now c.in-Ok.body.now c.bytes.new.self c.in-Ok.ensures in
    omega (arith, ap length taken.0, length-take n c.args.cur.now.rest, taken.2)

pub returns-in-Some-clause-gives : goal.returns-in-Some-clause-gives
returns-in-Some-clause-gives c =
    let s = c.args.segment in
    rw (c.at-in-Some.ensures, c.place-place.ensures) (
      refl,
      body-fault s.size s.count c.in-Some.rule c.args.cur.now
          (alone_breaks (bytes (body_bytes s.size)) (λ v. body_of v) (body_conditions s.size s.count) c.args.cur.now c.bytes.new.self c.in-Ok.body.now c.in-Some.rule c.in-Ok.ensures (sym c.in-Some.ensures)),
    )

pub returns-in-None-clause-gives : goal.returns-in-None-clause-gives
returns-in-None-clause-gives c =
    let s = c.args.segment in
    body-read s.size s.count c.args.cur.now c.bytes.new.self c.in-Ok.body.now
    (alone_read (bytes (body_bytes s.size)) (λ v. body_of v) (body_conditions s.size s.count) c.args.cur.now c.bytes.new.self c.in-Ok.body.now c.in-Ok.ensures (sym c.in-None.ensures))

pub returns-in-None-clause-long : goal.returns-in-None-clause-long
returns-in-None-clause-long c =
    let n = body_bytes c.args.segment.size in
    let taken = bytes-taken n c.args.cur.now c.in-Ok.body.now c.bytes.new.self c.in-Ok.ensures in
    omega (arith, ap length taken.0, length-take n c.args.cur.now.rest, taken.2)
