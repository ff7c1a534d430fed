use Rattle.std.proofs.Common.{List, option_copied, sym, ap, subst, ◌∙◌}
use Rattle.lu_types.specs.FilePlans.{StandFor}
use Rattle.term_vectors.specs.declared.fields.StoreWindow.{StoreWindow}
use Rattle.term_vectors.specs.Vectors.{StoredVector}
use Rattle.check_index.specs.Locating.{document_files_of}
use Rattle.check_index.specs.Vectors.{document_vectors}
use Rattle.check_index.proofs.VectorFiles.{part-stands, window-count}
use Rattle.check_index.proofs.vectors.open_vectors.Goals as goal

pub kept-requires : goal.kept-requires
kept-requires c =
    c.in-Ok.ensures.count ∙ ap (λ (p : StoreWindow). p.window.count) c.store_part.ensures ∙ window-count c.args.info.now.store c.args.info.now.size (option_copied c.args.files.now.fdx)

pub returns-in-Ok : goal.returns-in-Ok
returns-in-Ok c =
    let files = document_files_of c.args.files.now in
    let line = c.args.info.now in
    let fields = c.args.fields.now in
    record {
      some = c.kept.ensures.some;
      judged =
          subst (λ (vectors : List (List StoredVector)). StandFor (document_vectors files line fields) vectors) (sym c.kept.ensures.seen)
          (part-stands files line fields c.in-Some.tvx.now c.store_part.result c.in-Ok.view (sym c.have_vectors.ensures ∙ c.if-not-have_vectors.false) (ap option_copied c.in-Some.is) c.store_part.ensures c.in-Ok.ensures.judged);
    }
