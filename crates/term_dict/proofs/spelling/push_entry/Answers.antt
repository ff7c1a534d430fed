use Rattle.std.proofs.Common.{◌++◌, ℕ, List, ap, ◌∙◌}
use Rattle.lu_grammar.specs.Parts.{num, vint, vlong, spelling}
use Rattle.std.specs.Prelude.{length}
use Rattle.term_dict.specs.Entries.{term_record_of}
use Rattle.term_dict.specs.Canonical.{skip_delta_bytes}
use Rattle.term_dict.proofs.SpellingLemmas.{appended}
use Rattle.term_dict.proofs.spelling.push_entry.Goals as goal

pub returns-clause-ok : goal.returns-clause-ok
returns-clause-ok c =
    let e = term_record_of c.args.entry.now in
    c.in_ok-push_skip.ensures.ok
    ∙ ap (λ (t : List ℕ). t ++ skip_delta_bytes c.args.skip_interval e)
    (c.in_ok-put_vlong-2.ensures.ok ∙ ap (λ (t : List ℕ). t ++ spelling vlong e.prox)
    (c.in_ok-put_vlong.ensures.ok ∙ ap (λ (t : List ℕ). t ++ spelling vlong e.freq)
    (c.in_ok-put_vint-4.ensures.ok ∙ ap (λ (t : List ℕ). t ++ spelling num e.doc_freq)
    (c.in_ok-put_vint-3.ensures.ok ∙ ap (λ (t : List ℕ). t ++ spelling vint e.field)
    (c.in_ok-extend_from_slice.ensures.items ∙ ap (λ (t : List ℕ). t ++ e.suffix)
    (c.in_ok-put_vint-2.ensures.ok ∙ ap (λ (t : List ℕ). t ++ spelling num (length e.suffix)) c.in_ok-put_vint.ensures.ok))))))
    ∙ appended c.args.out.now.items (spelling num e.prefix) (spelling num (length e.suffix)) e.suffix (spelling vint e.field) (spelling num e.doc_freq) (spelling vlong e.freq) (spelling vlong e.prox) (skip_delta_bytes c.args.skip_interval e)
