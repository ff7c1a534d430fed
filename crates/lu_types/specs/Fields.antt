-- What a lent field is in a table (format page, "Field tables").
use Rattle.lu_types.specs.Tables.{TableField}
use Rattle.lu_types.specs.declared.field.Field.{Field}

-- the field as contracts see it
abbrev pub table_field : Field → TableField
table_field field = record { name = field.name.now; bits = field.bits }
