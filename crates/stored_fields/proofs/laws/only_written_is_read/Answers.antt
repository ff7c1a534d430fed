use Rattle.stored_fields.proofs.OnlyFiles.{only_written}
use Rattle.stored_fields.proofs.laws.only_written_is_read.Goals as goal

pub returns : goal.returns
returns c fdx fdt fields total window seen fdx_fits fdt_fits store = only_written fdx fdt fields total window seen fdx_fits fdt_fits store
