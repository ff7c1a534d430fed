-- Where a vector stands, as the code has it.
use Rattle.term_vectors.specs.declared.document.Slot.{Slot}
use Rattle.term_vectors.specs.Fields.{VectorPlace}

-- the place of the program
abbrev pub slot_of : Slot → VectorPlace
slot_of s = record { field = s.field; place = s.place }
