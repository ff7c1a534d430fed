use Rattle.std.proofs.Common.{◌≡◌, ◌<◌, ◌+◌, ℕ, List, [], ◌∷◌, ◌++◌, length, map, Some, None, sym, ap, subst, ◌∙◌, arith}
use Rattle.std.specs.Prelude.{option_copied}
use Rattle.std.proofs.lemmas.List.{map-append}
use Rattle.doc_marks.specs.Norms.{column_of}
use Rattle.check_index.specs.Norms.{FieldNorms}
use Rattle.check_index.proofs.NormLemmas.{no_column, AreGiven, given-left, given-column, given-no_column}
use Rattle.check_index.proofs.norms.by_field.Goals as goal
use Rattle.check_index.proofs.norms.by_field.Goals.{then-has_norms+in_ok-push, else-has_norms+in_ok-push-2}

pub column-requires : goal.column-requires
column-requires c =
    let fields = c.args.fields.now in
    let number = c.loop-number.number in
    let lt : number < length fields = omega (arith, c.count-number-end.ensures.count) in
    omega (arith, given-left c.args.norms.now fields (map option_copied c.loop-number.columns.items) number c.loop-number.column lt (sym c.has_norms.ensures ∙ c.if-has_norms.true) c.loop-number.invariant, c.requires)

pub loop-number-preserved : goal.loop-number-preserved
loop-number-preserved c =
    let fields = c.args.fields.now in
    let number = c.loop-number.number in
    let lt : number < length fields = omega (arith, c.count-number-end.ensures.count) in
    let norms = c.args.norms.now in
    let columns = c.loop-number.columns.items in
    let before = map option_copied columns in
    let column = c.loop-number.column in
    elim c.if-has_norms.branch [
      | then-has_norms+in_ok-push w ↦
          let pushed : c.if-has_norms.columns.items ≡ columns ++ Some w.column.result ∷ [] = cc (w.columns-is, w.in_ok-push.ensures.items) in
          let mapped : map option_copied c.if-has_norms.columns.items ≡ before ++ Some (column_of norms column) ∷ [] =
          ap (map option_copied) pushed ∙ map-append option_copied columns (Some w.column.result ∷ []) ∙ ap (λ (bytes : List ℕ). before ++ Some bytes ∷ []) w.column.ensures in
          subst (λ (found : FieldNorms). AreGiven norms fields found (number + 1) c.if-has_norms.column) (sym mapped)
          (subst (λ (k : ℕ). AreGiven norms fields (before ++ Some (column_of norms column) ∷ []) (number + 1) k) (sym w.column-is)
          (given-column norms fields before number column lt (sym c.has_norms.ensures ∙ w.if-has_norms.true) c.loop-number.invariant))
      | else-has_norms+in_ok-push-2 w ↦
          let pushed : c.if-has_norms.columns.items ≡ columns ++ None ∷ [] = cc (w.columns-is, w.in_ok-push-2.ensures.items) in
          let mapped : map option_copied c.if-has_norms.columns.items ≡ before ++ no_column ∷ [] = ap (map option_copied) pushed ∙ map-append option_copied columns (None ∷ []) in
          subst (λ (found : FieldNorms). AreGiven norms fields found (number + 1) c.if-has_norms.column) (sym mapped)
          (subst (λ (k : ℕ). AreGiven norms fields (before ++ no_column ∷ []) (number + 1) k) (sym w.column-is)
          (given-no_column norms fields before number column lt (sym c.has_norms.ensures ∙ w.if-has_norms.false) c.loop-number.invariant))
    ]
