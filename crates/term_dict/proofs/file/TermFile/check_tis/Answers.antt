use Rattle.std.proofs.Common.{Ok, length, sym, ap, subst, ◌∙◌}
use Rattle.lu_grammar.proofs.Files.{Reads-from}
use Rattle.lu_types.specs.declared.kind.FileKind.TheVariants.{Tis}
use Rattle.term_dict.specs.Dictionary.{Dictionary, within, tis_plan}
use Rattle.term_dict.specs.Checks.{AreWithin}
use Rattle.term_dict.proofs.FileLemmas.{file-anywhere, dictionary_in-is, IsFault-from}
use Rattle.term_dict.proofs.file.TermFile.check_tis.Goals as goal

pub invariant_of-result : goal.invariant_of-result
invariant_of-result c =
    let bytes = c.args.tis.now in
    let ok = c.in-Ok.ensures.ok in
    let standing = within c.args.fields.now c.args.documents in
    let same = dictionary_in-is standing bytes ok.0 ok.1 in
    record {
      read = file-anywhere standing (length bytes) bytes ok.0 ok.1 ∙ ap (λ (v : Dictionary). Ok v) (sym same);
      numbers_are = ok.2 ∙ ap (λ (v : Dictionary). v.numbers) (sym same);
      bounded = ok.3;
      within = subst (λ (v : Dictionary). AreWithin c.in-Ok.longest v.terms) (sym same) ok.4;
      small = c.requires;
      fits = λ i. (c.type_inv.tis i).fits;
    }

pub returns-in-Err-clause-err : goal.returns-in-Err-clause-err
returns-in-Err-clause-err c = IsFault-from Tis (tis_plan c.args.fields.now c.args.documents (length c.args.tis.now)) c.args.tis.now c.in-Err.fault (λ i. (c.type_inv.tis i).fits) c.in-Err.ensures.err

pub returns-in-Ok-clause-ok : goal.returns-in-Ok-clause-ok
returns-in-Ok-clause-ok c =
    let bytes = c.args.tis.now in
    let ok = c.in-Ok.ensures.ok in
    let plan = tis_plan c.args.fields.now c.args.documents (length bytes) in
    Reads-from plan bytes _ (λ i. (c.type_inv.tis i).fits) (ok.1 ∙ ap (λ (v : Dictionary). Ok v) (sym (dictionary_in-is (within c.args.fields.now c.args.documents) bytes ok.0 ok.1)))
