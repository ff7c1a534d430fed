-- What borrowed values stand for (format page, "Stored documents").
use Rattle.lu_types.specs.declared.stored.Stored.{Stored}
use Rattle.lu_types.specs.declared.stored.Stored.TheVariants as owned
use Rattle.stored_fields.specs.declared.value.ValueRef.{ValueRef}
use Rattle.stored_fields.specs.declared.value.ValueRef.TheVariants as lent
use Rattle.stored_fields.specs.declared.value.StoredRef.{StoredRef}
use Rattle.stored_fields.specs.declared.entry.EntryRef.{EntryRef}
use Rattle.lu_types.specs.StoredFields.{StoredField}
use Rattle.stored_fields.specs.Values.{StoredEntry}

-- what a lent value is
abbrev pub value_of : ValueRef → Stored
value_of (lent.Text text) = owned.Text text.now
value_of (lent.Binary bytes) = owned.Binary bytes.now

-- the value that is lent
abbrev pub lent_field : StoredRef → StoredField
lent_field lent = record { field = lent.field; tokenized = lent.tokenized; value = value_of lent.value }

-- the entry that is lent
abbrev pub lent_entry : EntryRef → StoredEntry
lent_entry lent = record { field = lent.field; bits = lent.bits; value = value_of lent.value }
