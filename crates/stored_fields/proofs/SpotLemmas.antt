-- What reading a file answers, and the format number at the head of both files.
use Rattle.std.proofs.Common.{◌≡◌, ℕ, List, refl, Bool, true, false, not, ℤ}
use Rattle.std.specs.Ordering.{int_eq}
use Rattle.std.proofs.lemmas.Bool.Decides.{Decides-int_eq}
use Rattle.lu_types.specs.declared.kind.FileKind.{FileKind}
use Rattle.lu_types.specs.declared.fault.Spot.{Spot}
use Rattle.lu_types.specs.Judging.{IsBroken, IsFirstFault}
use Rattle.lu_grammar.specs.Bytes.{IsBytes}
use Rattle.lu_grammar.specs.Plans.{Plan, read_file}
use Rattle.lu_grammar.proofs.Codecs.{FirstFault-from}
use Rattle.stored_fields.specs.Format.{store_format, is_other_store_format}

-- what reading a file answers is its first fault
pub first_fault : {V R : Type 0} (kind : FileKind) (plan : Plan V R) (bytes : List ℕ) (s : Spot) → IsBytes bytes → IsBroken kind (read_file plan bytes) s → IsFirstFault kind plan bytes s
first_fault kind plan bytes s fits (is, e) = (is, FirstFault-from plan bytes (record { offset = s.offset; rule = s.rule }) fits e)

-- the format number is the right one
pub same_format : (z : ℤ) → is_other_store_format z ≡ false → z ≡ store_format
same_format z h = go (int_eq z store_format) refl h
  where
    go : (b : Bool) → int_eq z store_format ≡ b → not b ≡ false → z ≡ store_format
    go true is h = (Decides-int_eq z store_format).0 is
    go false is h = cc
