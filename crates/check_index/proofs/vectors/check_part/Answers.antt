use Rattle.std.proofs.Common.{ℕ, List, Option, Some, Err, option_copied, sym, ap, subst}
use Rattle.lu_types.specs.FilePlans.{Judges}
use Rattle.term_vectors.specs.Vectors.{StoredVector}
use Rattle.term_vectors.specs.Stores.{vector_files}
use Rattle.check_index.proofs.vectors.check_part.Goals as goal

pub returns-in_default-clause-judged : goal.returns-in_default-clause-judged
returns-in_default-clause-judged c =
    let part = c.args.part in
    let fields = c.args.fields.now in
    let tvf = option_copied c.args.files.now.tvf in
    subst (λ (tvd : Option (List ℕ)). Judges {Y = List (List StoredVector)} (λ all. all) (vector_files part.total part.window fields (Some c.args.tvx.now) tvd tvf) (Err c.fault_without_fields.result)) (sym (ap option_copied c.in_default.is))
    (c.fault_without_fields.ensures part.window fields tvf)

pub returns-clause-judged : goal.returns-clause-judged
returns-clause-judged c =
    let part = c.args.part in
    let fields = c.args.fields.now in
    subst (λ (tvd : Option (List ℕ)). Judges {Y = List (List StoredVector)} (λ all. all) (vector_files part.total part.window fields (Some c.args.tvx.now) tvd (option_copied c.args.files.now.tvf)) c.check_window.result) (sym (ap option_copied c.in-Some.is))
    (subst (λ (tvf : Option (List ℕ)). Judges {Y = List (List StoredVector)} (λ all. all) (vector_files part.total part.window fields (Some c.args.tvx.now) (Some c.in-Some.tvd.now) tvf) c.check_window.result) (sym (ap option_copied c.in-Some-tvf.is))
    c.check_window.ensures.files)
