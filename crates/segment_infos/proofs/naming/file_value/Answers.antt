use Rattle.std.proofs.Common.{◌≡◌, ◌∷◌, Some, None, lit<}
use Rattle.std.proofs.lemmas.Str.Pattern.{strip_prefix_char, split_parts}
use Rattle.segment_infos.proofs.NameParts.{file-no_dot, file-no_line, digits-no_dot, neither-of, first-neither, second-no_dot, generation_text-is, file-tells}
use Rattle.segment_infos.proofs.naming.file_value.Goals as goal

pub returns-in_err-stem : goal.returns-in_err-stem
returns-in_err-stem c = rw c.from_residual.ensures (file-no_dot c.args.text.now (split_parts 46 c.args.text.now None c.in_err-stem.ensures.cases (lit< tt)))

pub returns-in_err-digits : goal.returns-in_err-digits
returns-in_err-digits c =
    let parts = split_parts 46 c.args.text.now (Some (c.in_ok-stem.stem, c.in_ok-stem.extension)) c.in_ok-stem.ensures.cases (lit< tt) in
    rw c.from_residual-in_err-digits.ensures (file-no_line c.args.text.now c.in_ok-stem.stem.now c.in_ok-stem.extension.now parts.0 parts.1 (strip_prefix_char 95 c.in_ok-stem.stem.now None c.in_err-digits.ensures.cases (lit< tt)))

pub part_value-requires : goal.part_value-requires
part_value-requires c =
    let parts = split_parts 46 c.args.text.now (Some (c.in_ok-stem.stem, c.in_ok-stem.extension)) c.in_ok-stem.ensures.cases (lit< tt) in
    let is : c.in_ok-stem.stem.now ≡ 95 ∷ c.in_ok-digits.digits.now = strip_prefix_char 95 c.in_ok-stem.stem.now (Some c.in_ok-digits.digits) c.in_ok-digits.ensures.cases (lit< tt) in
    neither-of c.in_ok-digits.digits.now (digits-no_dot c.in_ok-stem.stem.now c.in_ok-digits.digits.now is parts.1) (split_parts 95 c.in_ok-digits.digits.now None c.in-None.ensures.cases (lit< tt))

pub generation_value-requires-clause-segment : goal.generation_value-requires-clause-segment
generation_value-requires-clause-segment c =
    let parts = split_parts 46 c.args.text.now (Some (c.in_ok-stem.stem, c.in_ok-stem.extension)) c.in_ok-stem.ensures.cases (lit< tt) in
    let is : c.in_ok-stem.stem.now ≡ 95 ∷ c.in_ok-digits.digits.now = strip_prefix_char 95 c.in_ok-stem.stem.now (Some c.in_ok-digits.digits) c.in_ok-digits.ensures.cases (lit< tt) in
    let cut = split_parts 95 c.in_ok-digits.digits.now (Some (c.in-Some.segment, c.in-Some.generation)) c.in-Some.ensures.cases (lit< tt) in
    first-neither c.in_ok-digits.digits.now c.in-Some.segment.now c.in-Some.generation.now cut.0 (digits-no_dot c.in_ok-stem.stem.now c.in_ok-digits.digits.now is parts.1) cut.1

pub generation_value-requires-clause-generation : goal.generation_value-requires-clause-generation
generation_value-requires-clause-generation c =
    let parts = split_parts 46 c.args.text.now (Some (c.in_ok-stem.stem, c.in_ok-stem.extension)) c.in_ok-stem.ensures.cases (lit< tt) in
    let is : c.in_ok-stem.stem.now ≡ 95 ∷ c.in_ok-digits.digits.now = strip_prefix_char 95 c.in_ok-stem.stem.now (Some c.in_ok-digits.digits) c.in_ok-digits.ensures.cases (lit< tt) in
    let cut = split_parts 95 c.in_ok-digits.digits.now (Some (c.in-Some.segment, c.in-Some.generation)) c.in-Some.ensures.cases (lit< tt) in
    second-no_dot c.in_ok-digits.digits.now c.in-Some.segment.now c.in-Some.generation.now cut.0 (digits-no_dot c.in_ok-stem.stem.now c.in_ok-digits.digits.now is parts.1)

pub returns-in-Some : goal.returns-in-Some
returns-in-Some c =
    let parts = split_parts 46 c.args.text.now (Some (c.in_ok-stem.stem, c.in_ok-stem.extension)) c.in_ok-stem.ensures.cases (lit< tt) in
    let is : c.in_ok-stem.stem.now ≡ 95 ∷ c.in_ok-digits.digits.now = strip_prefix_char 95 c.in_ok-stem.stem.now (Some c.in_ok-digits.digits) c.in_ok-digits.ensures.cases (lit< tt) in
    let cut = split_parts 95 c.in_ok-digits.digits.now (Some (c.in-Some.segment, c.in-Some.generation)) c.in-Some.ensures.cases (lit< tt) in
    let whole = generation_text-is c.args.text.now c.in_ok-stem.stem.now c.in_ok-stem.extension.now c.in_ok-digits.digits.now c.in-Some.segment.now c.in-Some.generation.now parts.0 is cut.0 in
    file-tells c.args.text.now _ c.generation_value.result whole c.generation_value.ensures
