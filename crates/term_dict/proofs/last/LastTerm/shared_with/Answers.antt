use Rattle.std.proofs.Common.{◌≡◌, ℕ, ◌+◌, List, drop, sym, ap, ◌∙◌}
use Rattle.term_dict.specs.Canonical.{shared}
use Rattle.term_dict.specs.Entries.{term_record_of}
use Rattle.term_dict.proofs.SpellingLemmas.{shared-prefix}
use Rattle.term_dict.proofs.last.LastTerm.shared_with.Goals as goal

pub returns : goal.returns
returns c =
    let e = c.args.entry.now in
    let text = c.args.self.now.text.items in
    ap (λ (n : ℕ). e.prefix + n) (c.shared_len.ensures.value ∙ ap (λ (t : List ℕ). shared t e.suffix.now) (c.split_at.ensures.back ∙ ap (drop e.prefix) c.as_slice.ensures.value)) ∙ sym (shared-prefix text e.suffix.now e.prefix c.requires)
