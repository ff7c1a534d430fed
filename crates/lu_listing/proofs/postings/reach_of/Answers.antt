use Rattle.std.proofs.Common.{refl}
use Rattle.lu_types.specs.Bits as bit
use Rattle.lu_types.specs.Bits.{has_bit}
use Rattle.lu_model.specs.Contents.{field_at}
use Rattle.lu_model.proofs.Found.{bit_within}
use Rattle.lu_listing.proofs.NamedLemmas.{valid-named, entries-of_term}
use Rattle.lu_listing.proofs.postings.reach_of.Goals as goal

pub returns-clause-entries : goal.returns-clause-entries
returns-clause-entries c = λ t found.
    let x = c.args.reader.now.index in
    let named = valid-named x c.args.query.now.field.now c.args.query.now.text.now t c.size-size.ensures.valid found in
    let lt = bit_within bit.indexed x.fields t.field refl named.0.indexed in
    let omits = (rw c.fields.ensures at c.omits_occurrences.ensures) t.field lt named.1 in
    entries-of_term c.omits_occurrences.result x.size (field_at t.field x.fields).bits t omits named.0
