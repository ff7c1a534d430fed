use Rattle.std.proofs.Common.{◌≡◌, ℕ, ◌<◌, refl, sym, subst, ap, ◌∙◌, arith}
use Rattle.lu_grammar.specs.Bytes.{Cursor, place_in}
use Rattle.lu_grammar.specs.Plans.{times}
use Rattle.freq_skips.specs.Levels.{level_of, data_count, datum_kind, no_datum, no_point, Follows}
use Rattle.lu_grammar.proofs.Codecs.{place_in-after}
use Rattle.freq_skips.proofs.LevelLemmas.{Follows-none, Follows-end}
use Rattle.freq_skips.proofs.walk.data_end.Goals as goal

pub loop-turn-init : goal.loop-turn-init
loop-turn-init c = record {
  goes_on = λ postings stated above points end is all. (
    subst (λ (d : Cursor). Follows c.args.term.now postings (level_of c.args.number stated above) (place_in c.args.frq.now c.args.start) 0 no_point d) (sym c.at.ensures)
        (Follows-none c.args.term.now postings (level_of c.args.number stated above) (place_in c.args.frq.now c.args.start)),
    refl,
  );
}

pub loop-turn-preserved : goal.loop-turn-preserved
loop-turn-preserved c = record {
  goes_on = λ postings stated above points end is all.
      let h = c.loop-turn.invariant.goes_on postings stated above points end is all in
      let lt : c.loop-turn.following.count < data_count c.args.term.now c.args.number = omega (arith, h.1, is) in
      let next = c.pass.ensures.goes_on postings stated above (place_in c.args.frq.now c.args.start) points end all h.0 lt in (
        subst (λ (n : ℕ). Follows c.args.term.now postings (level_of c.args.number stated above) (place_in c.args.frq.now c.args.start) n c.pass.new.self.last c.pass.new.self.cur) (sym next.1) next.0.follows,
        omega (arith, next.1, h.1),
      );
}

pub returns : goal.returns
returns c = λ postings stated above points end is all.
    let t = c.args.term.now in
    let frq = c.args.frq.now in
    let l = level_of c.args.number stated above in
    let f = c.loop-turn.following in
    let h = c.loop-turn.invariant.goes_on postings stated above points end is all in
    let count : f.count ≡ data_count t c.args.number = omega (arith, h.1, is) in
    let ends = Follows-end t postings l (place_in frq c.args.start) points end f.count f.last f.cur all h.0 count in
    let after = place_in-after (times (datum_kind t postings l) f.count no_datum) frq c.args.start h.0.along f.cur (λ i. (c.type_inv.frq i).fits) c.requires.within h.0.reads in
    (ends ∙ after.0 ∙ ap (λ (n : ℕ). place_in frq n) (sym c.place.ensures), omega (arith, after.1, c.place.ensures))
