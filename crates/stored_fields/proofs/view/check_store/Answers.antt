use Rattle.std.proofs.Common.{inl, inr, refl}
use Rattle.lu_grammar.proofs.Codecs.{read_file-Reads}
use Rattle.stored_fields.specs.Places.{fdx_plan}
use Rattle.stored_fields.specs.Stores.{places_in, documents_in}
use Rattle.stored_fields.proofs.StoreLemmas.{sound, windowed_many, windowed_fields}
use Rattle.stored_fields.proofs.view.check_store.Goals as goal

pub returns-in-Err-clause-files : goal.returns-in-Err-clause-files
returns-in-Err-clause-files c = inl c.in-Err.ensures

pub check_documents-requires : goal.check_documents-requires
check_documents-requires c = read_file-Reads (fdx_plan c.args.total c.args.window) c.args.fdx.now (places_in c.args.total c.args.window c.args.fdx.now) c.in_default.ensures

pub returns-in-Err-check_documents-clause-files : goal.returns-in-Err-check_documents-clause-files
returns-in-Err-check_documents-clause-files c = inr (places_in c.args.total c.args.window c.args.fdx.now, c.in_default.ensures, inl c.in-Err-check_documents.ensures)

pub invariant_of-result : goal.invariant_of-result
invariant_of-result c = sound c.args.fields c.args.total c.args.window c.args.fdx.now c.args.fdt.now (λ i. (c.type_inv.fdt i).fits) c.in_default.ensures c.in_default-check_documents.ensures

pub returns-clause-files : goal.returns-clause-files
returns-clause-files c =
    (places_in c.args.total c.args.window c.args.fdx.now, c.in_default.ensures, (documents_in c.args.fields c.args.total c.args.window c.args.fdx.now c.args.fdt.now, c.in_default-check_documents.ensures, refl))

pub returns-clause-count : goal.returns-clause-count
returns-clause-count c =
    windowed_many c.args.fields c.args.total c.args.window c.args.fdx.now c.args.fdt.now
    (sound c.args.fields c.args.total c.args.window c.args.fdx.now c.args.fdt.now (λ i. (c.type_inv.fdt i).fits) c.in_default.ensures c.in_default-check_documents.ensures)

pub returns-clause-named : goal.returns-clause-named
returns-clause-named c =
    windowed_fields c.args.fields c.args.total c.args.window c.args.fdx.now c.args.fdt.now
    (sound c.args.fields c.args.total c.args.window c.args.fdx.now c.args.fdt.now (λ i. (c.type_inv.fdt i).fits) c.in_default.ensures c.in_default-check_documents.ensures)
