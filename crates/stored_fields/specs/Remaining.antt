-- The values of a document that are left to read (format page, "Stored documents").
use Rattle.std.specs.Prelude.{ℕ, zero, suc, [], ◌∷◌, Result, Ok}
use Rattle.lu_grammar.specs.declared.bad.Bad.{Bad}
use Rattle.lu_grammar.specs.Bytes.{Cursor}
use Rattle.lu_grammar.specs.Reading.{◌>>=◌}
use Rattle.lu_grammar.specs.Records.{read_shape}
use Rattle.stored_fields.specs.Values.{StoredDocument, stored_entry_shape, stored}

-- so many values that stand here, or what is wrong with the first that does not
unfoldable pub values_at : ℕ → Cursor → Result StoredDocument Bad
values_at zero c = Ok []
values_at (suc n) c = read_shape stored_entry_shape c >>= λ x. values_at n x.1 >>= λ values. Ok (stored x.0 ∷ values)
