use Rattle.std.proofs.Common.{◌∙◌, ◌<◌, ◌^◌, sym, ap, subst, length}
use Rattle.std.specs.Prelude.{All}
use Rattle.term_dict.specs.Dictionary.{Dictionary}
use Rattle.term_dict.proofs.WalkLemmas.{dictionary_in-length}
use Rattle.term_dict.proofs.JumpLemmas.{starts-inside}
use Rattle.term_dict.proofs.file.TermFile.numbers.Goals as goal

pub returns-clause-count : goal.returns-clause-count
returns-clause-count c =
    sym (ap (λ (v : Dictionary). length v.terms) c.self.view_is) ∙ (dictionary_in-length c.self.inside.tis.now c.self.inside.numbers c.self.inside.longest c.self.invariant.fits c.self.invariant).0

pub returns-clause-starts : goal.returns-clause-starts
returns-clause-starts c =
    sym (ap (λ (v : Dictionary). length v.starts) c.self.view_is) ∙ (dictionary_in-length c.self.inside.tis.now c.self.inside.numbers c.self.inside.longest c.self.invariant.fits c.self.invariant).1

pub returns-clause-places : goal.returns-clause-places
returns-clause-places c = subst (λ (v : Dictionary). All (λ place. place < 2 ^ 31) v.starts) c.self.view_is (starts-inside c.self.inside.tis.now c.self.inside.numbers c.self.inside.longest c.self.invariant)
