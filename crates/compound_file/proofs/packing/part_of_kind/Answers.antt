use Rattle.std.proofs.Common.{◌≡◌, List, ℕ, Option, Some, option_map, sym, ap, ◌∙◌}
use Rattle.lu_types.specs.Names.{part_name}
use Rattle.compound_file.specs.Entries.{NamedPart}
use Rattle.compound_file.specs.Packing.{file_of, packed_in}
use Rattle.compound_file.proofs.KindLemmas.{file_of-kind}
use Rattle.compound_file.proofs.packing.part_of_kind.Goals as goal

some_part : List ℕ → List ℕ → Option NamedPart
some_part name bytes = Some (record { name = name; bytes = bytes })

some_of : NamedPart → Option NamedPart
some_of part = Some part

pub returns-in_ok-name-in-Some-clause-part : goal.returns-in_ok-name-in-Some-clause-part
unfolding some_part some_of
returns-in_ok-name-in-Some-clause-part c =
    let file = c.in-Some.file.now in
    let segment = c.args.segment.now in
    let found : file_of c.args.files.now c.args.kind ≡ Some file = sym c.in-Some.ensures in
    let same : file.kind ≡ c.args.kind = file_of-kind c.args.files.now c.args.kind file found in
    ap some_of c.new.ensures.part
    ∙ ap (λ (n : List ℕ). some_part n c.as_slice.result.now) (c.in_ok-name-in-Some.ensures ∙ ap (part_name segment) (sym same))
    ∙ ap (λ (b : List ℕ). some_part (part_name segment file.kind) b) c.as_slice.ensures ∙ ap (option_map (packed_in segment)) c.in-Some.ensures
