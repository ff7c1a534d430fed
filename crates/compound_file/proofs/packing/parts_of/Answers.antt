use Rattle.std.proofs.Common.{◌≡◌, ◌+◌, ℕ, List, [], ◌∷◌, ◌++◌, length, map, get_or, option_map, All, Option, Some, None, sym, ap, subst, ◌∙◌, append_assoc, arith}
use Rattle.std.proofs.lemmas.List.{map-append, length-append}
use Rattle.std.specs.Prelude.{IfSome}
use Rattle.std.proofs.lemmas.List.Elements.{All-push}
use Rattle.lu_grammar.specs.Bytes.{IsBytes}
use Rattle.lu_types.specs.declared.kind.FileKind.TheVariants.{Commit}
use Rattle.lu_types.specs.Names.{segment_name}
use Rattle.lu_types.specs.Kinds.{part_kinds}
use Rattle.compound_file.specs.declared.packing.Packed.{Packed}
use Rattle.compound_file.specs.Entries.{NamedPart}
use Rattle.compound_file.specs.Packing.{file_of, packed_in}
use Rattle.compound_file.specs.Packs.{part_of}
use Rattle.compound_file.proofs.KindLemmas.{parts_from, parts_from-next}
use Rattle.compound_file.proofs.packing.parts_of.Goals as goal
use Rattle.compound_file.proofs.packing.parts_of.Goals.{in-None, in-Some+in_ok-push-in-Some}

pub loop-kind-preserved : goal.loop-kind-preserved
loop-kind-preserved c =
    let files = c.args.files.now in
    let i = c.loop-kind.kind-index in
    let segment = segment_name c.args.number in
    let items = c.loop-kind.parts.items in
    let named : c.as_str.result.now ≡ segment = c.as_str.ensures.value ∙ c.in_ok-segment.ensures in
    let found : option_map part_of c.in_ok-part_of_kind.field-0 ≡ option_map (packed_in segment) (file_of files (get_or part_kinds i Commit)) =
    subst (λ (s : List ℕ). option_map part_of c.in_ok-part_of_kind.field-0 ≡ option_map (packed_in s) (file_of files (get_or part_kinds i Commit))) named c.in_ok-part_of_kind.ensures.part in
    elim c.match-branch-3.branch [
      | in-None w ↦
          let part : Option Packed = None in
          let next = parts_from-next files segment i part c.loop-kind-test.true (ap (option_map part_of) (sym w.in-None.is) ∙ found) in
          rw w.parts-is (record {
            left = ap (λ (ps : List NamedPart). map part_of items ++ ps) (sym next) ∙ c.loop-kind.invariant.left;
            few = omega (arith, c.loop-kind.invariant.few);
            bytes = c.loop-kind.invariant.bytes;
          })
      | in-Some+in_ok-push-in-Some w ↦
          let part : Option Packed = Some w.in-Some.part in
          let next = parts_from-next files segment i part c.loop-kind-test.true (ap (option_map part_of) (sym w.in-Some.is) ∙ found) in
          let pushed = w.in_ok-push-in-Some.ensures.items in
          rw w.parts-is (record {
            left = ap (λ (ps : List Packed). map part_of ps ++ parts_from files segment (i + 1)) pushed ∙ ap (λ (ps : List NamedPart). ps ++ parts_from files segment (i + 1)) (map-append part_of items (w.in-Some.part ∷ []))
                ∙ append_assoc (map part_of items) (part_of w.in-Some.part ∷ []) (parts_from files segment (i + 1)) ∙ ap (λ (ps : List NamedPart). map part_of items ++ ps) (sym next) ∙ c.loop-kind.invariant.left;
            few = omega (arith, ap length pushed, length-append items (w.in-Some.part ∷ []), c.loop-kind.invariant.few);
            bytes = subst (λ (ps : List Packed). All (λ p. IsBytes p.bytes.now) ps) (sym pushed) (All-push (λ p. IsBytes p.bytes.now) items w.in-Some.part c.loop-kind.invariant.bytes
                (subst (λ (o : Option Packed). IfSome o (λ p. IsBytes p.bytes.now)) w.in-Some.is c.in_ok-part_of_kind.ensures.bytes));
          })
    ]
