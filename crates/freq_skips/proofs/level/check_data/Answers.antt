use Rattle.std.proofs.Common.{◌≡◌, ℕ, suc, add-one, ◌*◌, ◌/◌, ◌<◌, ◌≤◌, arith, refl, sym, subst, ap, ◌∙◌}
use Rattle.lu_grammar.specs.Bytes.{IsBytes, Cursor, place_in}
use Rattle.lu_grammar.specs.Plans.{times, read_plan}
use Rattle.lu_grammar.proofs.Parts.{IsBytes-drop}
use Rattle.freq_skips.specs.declared.datum.LevelStart.{LevelStart}
use Rattle.freq_skips.specs.Entries.{postings_from, IsBehindEntries}
use Rattle.freq_skips.specs.Levels.{wanted as is_wanted, level_of, level_data, data_count, datum_kind, no_datum, no_point, Follows, AreGoodData}
use Rattle.freq_skips.specs.Walking.{FollowsAbove}
use Rattle.freq_skips.proofs.Powers.{stride-two}
use Rattle.lu_grammar.proofs.Codecs.{place_in-after}
use Rattle.freq_skips.proofs.EntryLemmas.{IsBehindEntries-none}
use Rattle.freq_skips.proofs.LevelLemmas.{Follows-none, Follows-all}
use Rattle.freq_skips.proofs.AboveLemmas.{above-starts}
use Rattle.freq_skips.proofs.level.check_data.Goals as goal

pub quotient-requires : goal.quotient-requires
quotient-requires c = subst (λ (n : ℕ). 2 ≤ n) (sym c.requires.stride) (stride-two c.args.entries.now.term.rules.skip_interval c.args.level.now.number c.requires.interval)

pub loop-data-init : goal.loop-data-init
loop-data-init c =
    let t = c.args.entries.now.term in
    let l = c.args.level.now in
    let frq = c.args.entries.now.frq.now in
    let start = place_in frq c.args.entries.now.start in
    record {
      count = c.quotient.ensures.quotient ∙ ap (λ (n : ℕ). t.info.doc_freq / n) c.requires.stride;
      bytes = subst (λ (d : Cursor). IsBytes d.rest) (sym c.at-2.ensures) (IsBytes-drop c.args.at frq c.requires.bytes);
      behind = subst (λ (d : Cursor). c.args.at ≤ d.place) (sym c.at-2.ensures) (omega arith);
      within = omega arith;
      few = c.quotient.ensures.few;
      number = refl;
      place = refl;
      stands = subst (λ (d : Cursor). IsBehindEntries t start 0 0 d) (sym c.at.ensures) (IsBehindEntries-none t start);
      before = omega arith;
      goes_on = λ points h. (
        above-starts t (postings_from t start) (suc l.number) points frq c.args.above c.following_above-above.result c.following_above-above.ensures h,
        subst (λ (d : Cursor). Follows t (postings_from t start) (level_of l.number l.stated points) (place_in frq c.args.at) 0 no_point d) (sym c.at-2.ensures)
            (Follows-none t (postings_from t start) (level_of l.number l.stated points) (place_in frq c.args.at)),
      );
    }

pub invariant_of-data-in-loop-data : goal.invariant_of-data-in-loop-data
invariant_of-data-in-loop-data c = let i = c.loop-data.invariant in record { bytes = i.bytes; behind = i.behind; within = i.within; few = i.few }

pub invariant_of-data-2 : goal.invariant_of-data-2
invariant_of-data-2 c = let i = c.loop-data.invariant in record { bytes = i.bytes; behind = i.behind; within = i.within; few = i.few }

pub wanted_next-wanted-requires-clause-within : goal.wanted_next-wanted-requires-clause-within
wanted_next-wanted-requires-clause-within c = omega (arith, c.loop-data.invariant.count, c.loop-data-test.true)

pub wanted_next-wanted-requires-clause-few : goal.wanted_next-wanted-requires-clause-few
wanted_next-wanted-requires-clause-few c = omega (arith, c.loop-data.invariant.few, c.loop-data-test.true)

pub loop-data-smaller : goal.loop-data-smaller
loop-data-smaller c = omega (arith, c.in-Ok.ensures.same.0, c.in-Ok.ensures.same.2, c.loop-data-test.true)

pub returns-in-Err : goal.returns-in-Err
returns-in-Err c = λ points h.
    let t = c.args.entries.now.term in
    let l = c.args.level.now in
    let start = place_in c.args.entries.now.frq.now c.args.entries.now.start in
    let good = c.requires.entries_good in
    let i = c.loop-data.invariant in
    let both = i.goes_on points h in
    let wanted = c.wanted_next-wanted.ensures.goes_on start good.0 points good.1 i.stands i.before both.0 in
    let below : c.loop-data.data.0.count < data_count t l.number = omega (arith, i.count) in
    let ps = postings_from t start in
    let f = c.loop-data.data.0 in
    let begin = place_in c.args.entries.now.frq.now c.args.at in
    let there = wanted.0 ∙ ap (λ (n : ℕ). is_wanted t ps (level_of n l.stated points) (suc f.count)) (sym i.number) in
    let follows = subst (λ (n : ℕ). Follows t ps (level_of n l.stated points) begin f.count f.last f.cur) (sym i.number) both.1 in
    let more = subst (λ (n : ℕ). f.count < data_count t n) (sym i.number) below in
    let told = c.in-Err.ensures.goes_on ps l.stated points begin (sym i.place) there follows more in
    let fault = ap (λ (n : ℕ). read_plan (level_data t ps (level_of n l.stated points)) begin) (sym i.number) ∙ told in
    rw (c.at-in-Err.ensures, c.place-place.ensures) (refl, fault)

pub loop-data-preserved : goal.loop-data-preserved
loop-data-preserved c =
    let t = c.args.entries.now.term in
    let l = c.args.level.now in
    let start = place_in c.args.entries.now.frq.now c.args.entries.now.start in
    let good = c.requires.entries_good in
    let i = c.loop-data.invariant in
    let stands = c.wanted_next-wanted.ensures.stands start good.0 good.1 i.stands i.before in
    let next = c.in-Ok.ensures.same.0 ∙ add-one c.loop-data.data.0.count in
    record {
      count = c.in-Ok.ensures.same.2 ∙ i.count;
      bytes = c.in-Ok.next.bytes;
      behind = c.in-Ok.next.behind;
      within = c.in-Ok.next.within;
      few = c.in-Ok.next.few;
      number = ap (λ (x : LevelStart). x.number) c.in-Ok.ensures.same.1 ∙ i.number;
      place = ap (λ (x : LevelStart). x.place) c.in-Ok.ensures.same.1 ∙ i.place;
      stands = stands.0;
      before = subst (λ (n : ℕ). c.wanted_next-wanted.new.entries.index ≤ n * l.stride) (sym next) stands.1;
      goes_on = λ points h.
          let both = i.goes_on points h in
          let wanted = c.wanted_next-wanted.ensures.goes_on start good.0 points good.1 i.stands i.before both.0 in
          let ps = postings_from t start in
          let f = c.loop-data.data.0 in
          let g = c.in-Ok.next.walk in
          let begin = place_in c.args.entries.now.frq.now c.args.at in
          let there = wanted.0 ∙ ap (λ (n : ℕ). is_wanted t ps (level_of n l.stated points) (suc f.count)) (sym i.number) in
          let follows = subst (λ (n : ℕ). Follows t ps (level_of n l.stated points) begin f.count f.last f.cur) (sym i.number) both.1 in (
            subst (λ (n : ℕ). FollowsAbove t ps (suc l.number) points n c.wanted_next-wanted.new.above) (sym next) wanted.1,
            subst (λ (n : ℕ). Follows t ps (level_of n l.stated points) begin g.count g.last g.cur) i.number (c.in-Ok.ensures.goes_on ps l.stated points begin (sym i.place) there follows),
          );
    }

pub returns : goal.returns
returns c = λ points h.
    let t = c.args.entries.now.term in
    let l = c.args.level.now in
    let frq = c.args.entries.now.frq.now in
    let ps = postings_from t (place_in frq c.args.entries.now.start) in
    let i = c.loop-data.invariant in
    let level = level_of l.number l.stated points in
    let follows = (i.goes_on points h).1 in
    let after = place_in-after (times (datum_kind t ps level) c.loop-data.data.0.count no_datum) frq c.args.at follows.along c.loop-data.data.0.cur c.requires.bytes c.requires.at_within follows.reads in
    let here : c.loop-data.data.0.cur ≡ place_in frq c.place.result = after.0 ∙ ap (λ (n : ℕ). place_in frq n) (sym c.place.ensures) in
    let all : c.loop-data.data.0.count ≡ data_count t l.number = omega (arith, i.count) in (
      subst (λ (d : Cursor). AreGoodData t ps level (place_in frq c.args.at) d) here (Follows-all t ps level (place_in frq c.args.at) c.loop-data.data.0.count c.loop-data.data.0.last c.loop-data.data.0.cur follows all),
      omega (arith, after.1, c.place.ensures),
    )
