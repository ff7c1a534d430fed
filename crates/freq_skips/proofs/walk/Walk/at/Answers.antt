use Rattle.std.proofs.Common.{inl, refl, ap, sym, subst, ◌∙◌, arith}
use Rattle.lu_grammar.specs.Bytes.{Cursor}
use Rattle.freq_skips.specs.Entries.{IsBehindEntries}
use Rattle.freq_skips.specs.Terms.{TermData, ruled_by}
use Rattle.freq_skips.specs.Walks.{WalkState, start_in}
use Rattle.freq_skips.proofs.EntryLemmas.{IsBehindEntries-none}
use Rattle.freq_skips.proofs.TermLemmas.{TermParts-ReadsTo}
use Rattle.freq_skips.proofs.WalkLemmas.{value_from-is}
use Rattle.freq_skips.proofs.walk.Walk.at.Goals as goal

pub invariant_of-result : goal.invariant_of-result
invariant_of-result c =
    let t = ruled_by c.args.info.now c.args.rules.now in
    let frq = c.args.frq.now in
    let good = c.requires.good in
    let parts = TermParts-ReadsTo t (start_in t frq) good.value good.end good.reads in
    record {
      interval = good.interval;
      bytes = λ i. (c.type_inv.frq i).fits;
      small = c.requires.small;
      begin_within = good.within;
      all = (parts.mid, parts.all);
      postings = ap (λ (v : TermData). v.postings) (value_from-is t (start_in t frq) good.value good.end good.reads) ∙ parts.postings;
      levels = c.level_count-count.ensures.count;
      few = c.level_count-count.ensures.few;
      stands = subst (λ (d : Cursor). IsBehindEntries t (start_in t frq) 0 0 d) (sym c.at-cur.ensures) (IsBehindEntries-none t (start_in t frq));
      within = omega arith;
      on = c.level_starts-places.ensures;
      fresh_within = omega arith;
      low = λ n lt. absurd (omega arith);
      some = λ lt. absurd (omega arith);
      high = λ n ge lt. inl refl;
      before = λ lt. absurd (omega arith);
    }

pub returns : goal.returns
returns c = λ value end h.
    let t = ruled_by c.args.info.now c.args.rules.now in
    let state : TermData → WalkState = λ v. record { term = t; value = v; passed = 0 } in
    ap state (value_from-is t (start_in t c.args.frq.now) value end h)
