use Rattle.std.proofs.Common.{◌≡◌, ◌<◌, ◌∙◌, ℕ, List, All, Result, Err, Some, length, map, ap, sym, subst, string_bytes, arith}
use Rattle.std.specs.Prelude.{slice_get}
use Rattle.std.proofs.lemmas.List.{length-map}
use Rattle.lu_dir.specs.Loading.{Loading, texts}
use Rattle.lu_dir.specs.declared.loading.LoadFault.{LoadFault}
use Rattle.lu_types.specs.declared.kind.FileKind.{FileKind}
use Rattle.segment_infos.specs.declared.naming.LuceneName.{LuceneName}
use Rattle.segment_infos.specs.LuceneNames.{IsName, name_spelling}
use Rattle.lu_folder.specs.Reading.{read_names}
use Rattle.lu_folder.proofs.ReadLemmas.{read_names-spelled, read_names-count, first_too_large-at, at-place, spelled-count}
use Rattle.lu_folder.proofs.reading.read_segment.Goals as goal

pub spellings-requires : goal.spellings-requires
spellings-requires g c = subst (λ (names : List LuceneName). All IsName names) (sym (c.deref.ensures.value ∙ c.in_ok-names.ensures)) (read_names-spelled c.args.info.now c.requires)

pub load-requires-clause-count : goal.load-requires-clause-count
load-requires-clause-count g c =
    let spelled : texts c.deref-2.result.now ≡ map name_spelling (read_names c.args.info.now) = ap texts c.deref-2.ensures.value ∙ c.in_ok-spelled.ensures ∙ ap (map name_spelling) (c.deref.ensures.value ∙ c.in_ok-names.ensures) in
    omega (arith, spelled-count c.deref-2.result.now (read_names c.args.info.now) spelled, read_names-count c.args.info.now c.requires)

pub returns-in-Err-TooLarge-clause-too_large : goal.returns-in-Err-TooLarge-clause-too_large
returns-in-Err-TooLarge-clause-too_large g c = λ kind same told is.
    let names : List LuceneName = read_names c.args.info.now in
    let spelled : texts c.deref-2.result.now ≡ map name_spelling names = ap texts c.deref-2.ensures.value ∙ c.in_ok-spelled.ensures ∙ ap (map name_spelling) (c.deref.ensures.value ∙ c.in_ok-names.ensures) in
    let failed : LoadFault → Result Loading LoadFault = λ fault. Err fault in
    let over = c.in-Err-TooLarge.ensures.over c.in-Err-TooLarge.place (ap failed c.in-Err-TooLarge.field-0-is) in
    let within : c.in-Err-TooLarge.place < length c.in_ok-names.names.items = omega (arith, over.0, spelled-count c.deref-2.result.now names spelled, ap length c.in_ok-names.ensures) in
    let kind_is : c.kind_of_name.result ≡ kind = cc in
    first_too_large-at told names (texts c.deref-2.result.now) c.in-Err-TooLarge.place c.index.result.now spelled (over.1 told is)
    (ap (λ (all : List LuceneName). slice_get all c.in-Err-TooLarge.place) (sym c.in_ok-names.ensures) ∙ at-place c.in_ok-names.names.items c.in-Err-TooLarge.place c.index.result.now within c.index.ensures)
    ∙ ap (λ (k : FileKind). Some k) (sym c.kind_of_name.ensures ∙ kind_is)
