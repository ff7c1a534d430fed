use Rattle.std.proofs.Common.{subst}
use Rattle.seg_merger.specs.TermRests.{ComesFirst, Contested}
use Rattle.seg_merger.proofs.ContestLemmas.{comes-first}
use Rattle.seg_merger.proofs.terms.contest.Contest.first.Goals as goal

pub returns-clause-first : goal.returns-clause-first
returns-clause-first c = subst (λ (w : Contested). ComesFirst w.rests w.first) c.self.view_is (comes-first c.self.inside.slots.items c.self.inside.tree.items c.self.invariant.tournament c.self.invariant.some)
