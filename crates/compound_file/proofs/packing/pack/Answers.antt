use Rattle.std.proofs.Common.{◌≡◌, ◌<◌, ◌^◌, ℕ, List, length, map, All, sym, ap, subst, ◌∙◌, arith}
use Rattle.std.proofs.lemmas.List.Elements.{All-map}
use Rattle.lu_grammar.specs.Bytes.{IsBytes}
use Rattle.lu_grammar.specs.Meaning.{Reads}
use Rattle.compound_file.specs.declared.packing.Packed.{Packed}
use Rattle.compound_file.specs.Entries.{NamedPart, AreParts}
use Rattle.compound_file.specs.Cfs.{cfs_plan}
use Rattle.compound_file.specs.Packing.{packed_parts, cfs_bytes}
use Rattle.compound_file.specs.Packs.{part_of}
use Rattle.compound_file.proofs.PackedLemmas.{packed-short, packed-parts, All-part_of}
use Rattle.compound_file.proofs.WrittenLemmas.{cfs-reads}
use Rattle.compound_file.proofs.packing.pack.Goals as goal

pub pack_parts-requires-clause-short : goal.pack_parts-requires-clause-short
pack_parts-requires-clause-short c =
    let small : c.args.number < 2 ^ 31 = omega (arith, c.requires.number) in
    let all : All (λ part. length part.name < 128) (map part_of c.in_ok-parts.parts.items) =
    subst (λ (ps : List NamedPart). All (λ part. length part.name < 128) ps) (sym c.in_ok-parts.ensures.parts) (packed-short c.args.files.now c.args.number small) in
    subst (λ (ps : List Packed). All (λ part. length part.name < 128) ps) (sym c.deref.ensures.value) (All-part_of (λ part. length part.name < 128) c.in_ok-parts.parts.items all)

pub returns-clause-reads : goal.returns-clause-reads
returns-clause-reads c =
    let parts = packed_parts c.args.number c.args.files.now in
    let items = c.in_ok-parts.parts.items in
    let small : c.args.number < 2 ^ 31 = omega (arith, c.requires.number) in
    let is : map part_of c.deref.result.now ≡ parts = ap (map part_of) c.deref.ensures.value ∙ c.in_ok-parts.ensures.parts in
    let written : c.in_ok-out.out.items ≡ cfs_bytes parts = c.in_ok-out.ensures.0 ∙ ap cfs_bytes is in
    let bytes : All (λ part. IsBytes part.bytes) parts =
    subst (λ (ps : List NamedPart). All (λ part. IsBytes part.bytes) ps) c.in_ok-parts.ensures.parts (All-map (λ (part : NamedPart). IsBytes part.bytes) part_of items c.in_ok-parts.ensures.bytes) in
    let are : AreParts parts = packed-parts c.args.files.now c.args.number small bytes in
    let short : length (cfs_bytes parts) < 2 ^ 63 = omega (arith, ap (λ (ps : List NamedPart). length (cfs_bytes ps)) is, c.in_ok-out.ensures.1, c.ranges.limit.fits) in
    subst (λ (t : List ℕ). Reads (cfs_plan (length t)) t parts) (sym written) (cfs-reads parts are short)
