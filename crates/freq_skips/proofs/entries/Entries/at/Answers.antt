use Rattle.std.proofs.Common.{ap, sym, subst, ◌∙◌, arith}
use Rattle.lu_grammar.specs.Bytes.{Cursor}
use Rattle.freq_skips.specs.Entries.{IsBehindEntries}
use Rattle.freq_skips.specs.Terms.{TermData, ruled_by}
use Rattle.freq_skips.specs.Walks.{WalkState, start_in}
use Rattle.freq_skips.proofs.EntryLemmas.{IsBehindEntries-none}
use Rattle.freq_skips.proofs.TermLemmas.{TermParts-ReadsTo}
use Rattle.freq_skips.proofs.WalkLemmas.{value_from-is}
use Rattle.freq_skips.proofs.entries.Entries.at.Goals as goal

pub invariant_of-result : goal.invariant_of-result
invariant_of-result c =
    let t = ruled_by c.args.info.now c.args.rules.now in
    let frq = c.args.frq.now in
    let good = c.requires in
    let parts = TermParts-ReadsTo t (start_in t frq) good.value good.end good.reads in
    record {
      interval = good.interval;
      bytes = λ i. (c.type_inv.frq i).fits;
      begin_within = good.within;
      all = (parts.mid, parts.all);
      postings = ap (λ (v : TermData). v.postings) (value_from-is t (start_in t frq) good.value good.end good.reads) ∙ parts.postings;
      stands = subst (λ (here : Cursor). IsBehindEntries t (start_in t frq) 0 0 here) (sym c.at-cur.ensures) (IsBehindEntries-none t (start_in t frq));
      within = omega arith;
    }

pub returns : goal.returns
returns c = λ value end h.
    let t = ruled_by c.args.info.now c.args.rules.now in
    let state : TermData → WalkState = λ v. record { term = t; value = v; passed = 0 } in
    ap state (value_from-is t (start_in t c.args.frq.now) value end h)
