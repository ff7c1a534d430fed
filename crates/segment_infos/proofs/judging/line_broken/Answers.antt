use Rattle.std.proofs.Common.{◌≡◌, ◌++◌, ℕ, Option, sym, ap, ◌∙◌}
use Rattle.std.specs.Option.{option_or}
use Rattle.lu_grammar.specs.Records.{first_broken}
use Rattle.segment_infos.specs.Conditions.{name_conditions, size_conditions, store_conditions, norm_conditions, flag_conditions, map_conditions}
use Rattle.segment_infos.proofs.Judged.{first_broken-append, first_broken-then}
use Rattle.segment_infos.proofs.judging.line_broken.Goals as goal

pub returns : goal.returns
returns c =
    let l = c.args.line.now in
    let names = name_conditions c.args.taking.now l.front in
    let sizes = size_conditions c.args.taking.now l.front in
    let stores = store_conditions l.front in
    let norms = norm_conditions l.norms in
    let flags = flag_conditions l.front l.flags in
    let maps = map_conditions l.map in
    let one : c.or.result ≡ option_or (first_broken names) (first_broken sizes) = c.or.ensures ∙ ap (λ (o : Option ℕ). option_or o c.size_broken.result) c.name_broken.ensures ∙ ap (option_or (first_broken names)) c.size_broken.ensures in
    let two : c.or-2.result ≡ option_or c.or.result (first_broken stores) = c.or-2.ensures ∙ ap (option_or c.or.result) c.store_broken.ensures in
    let three : c.or-3.result ≡ option_or c.or-2.result (first_broken norms) = c.or-3.ensures ∙ ap (option_or c.or-2.result) c.norm_broken.ensures in
    let four : c.or-4.result ≡ option_or c.or-3.result (first_broken flags) = c.or-4.ensures ∙ ap (option_or c.or-3.result) c.flag_broken.ensures in
    let five : c.or-5.result ≡ option_or c.or-4.result (first_broken maps) = c.or-5.ensures ∙ ap (option_or c.or-4.result) c.map_broken.ensures in
    five
    ∙ ap (λ (o : Option ℕ). option_or o (first_broken maps)) four
    ∙ sym (first_broken-then flags maps c.or-3.result)
    ∙ ap (λ (o : Option ℕ). option_or o (first_broken (flags ++ maps))) three
    ∙ sym (first_broken-then norms (flags ++ maps) c.or-2.result)
    ∙ ap (λ (o : Option ℕ). option_or o (first_broken (norms ++ (flags ++ maps)))) two
    ∙ sym (first_broken-then stores (norms ++ (flags ++ maps)) c.or.result)
    ∙ ap (λ (o : Option ℕ). option_or o (first_broken (stores ++ (norms ++ (flags ++ maps))))) one
    ∙ sym (first_broken-then sizes (stores ++ (norms ++ (flags ++ maps))) (first_broken names))
    ∙ sym (first_broken-append names (sizes ++ (stores ++ (norms ++ (flags ++ maps)))))
