-- What reading a file answers, from its start to its end.
use Rattle.std.proofs.Common.{◌≡◌, ℕ, ◌<◌, List, length, Ok, sym, ap, subst}
use Rattle.lu_types.specs.declared.kind.FileKind.{FileKind}
use Rattle.lu_types.specs.declared.fault.Spot.{Spot}
use Rattle.lu_types.specs.declared.fault.CodecFault.{CodecFault}
use Rattle.lu_types.specs.declared.fault.CodecFault.TheVariants as faults
use Rattle.lu_types.specs.Judging.{IsBroken, IsBrokenSo, IsFirstFault, IsFault}
use Rattle.lu_types.proofs.SpotLemmas.{spot_of}
use Rattle.lu_grammar.specs.Bytes.{IsBytes, Cursor, start_of}
use Rattle.lu_grammar.specs.Reading.{value_or}
use Rattle.lu_grammar.specs.Plans.{Plan, read_plan, read_file}
use Rattle.lu_grammar.specs.Meaning.{Reads, FirstFault}
use Rattle.lu_grammar.proofs.Codecs.{file-fault, file-left, file-read, read_file-Reads}

-- what a plan answers from the start of a file is its first fault
pub file-broken : {V R : Type 0} (kind : FileKind) (plan : Plan V R) (bytes : List ℕ) (s : Spot) → IsBytes bytes → IsBroken kind (read_plan plan (start_of bytes)) s → IsFirstFault kind plan bytes s
file-broken kind plan bytes s fits (is, e) = (is, file-fault plan bytes s.offset s.rule fits e)

pub file-broken_so : {V R : Type 0} (kind : FileKind) (plan : Plan V R) (bytes : List ℕ) (fault : CodecFault) → IsBytes bytes → IsBrokenSo kind (read_plan plan (start_of bytes)) fault → IsFault kind plan bytes fault
file-broken_so kind plan bytes (faults.Spot s) fits b = file-broken kind plan bytes s fits b
file-broken_so kind plan bytes faults.OutOfMemory fits b = tt

-- bytes that are left are the first fault
pub file-trailing : {V R : Type 0} (kind : FileKind) (plan : Plan V R) (bytes : List ℕ) (v : V) (d : Cursor) (s : Spot) → IsBytes bytes → read_plan plan (start_of bytes) ≡ Ok (v, d) → 0 < length d.rest → s ≡ spot_of kind d.place 6
    → IsFirstFault kind plan bytes s
file-trailing kind plan bytes v d s fits e some is =
    (ap (λ (t : Spot). t.kind) is, subst (λ (t : Spot). FirstFault plan bytes t.offset t.rule) (sym is) (file-left plan bytes v d fits e some))

-- where none are left the file stands for what is read
pub file-whole : {V R : Type 0} (plan : Plan V R) (bytes : List ℕ) (other v : V) (d : Cursor) → IsBytes bytes → read_plan plan (start_of bytes) ≡ Ok (v, d) → length d.rest ≡ 0 → Reads plan bytes (value_or other (read_file plan bytes))
file-whole plan bytes other v d fits e none =
    let h = file-read plan bytes v d fits e none in
    subst (Reads plan bytes) (sym (ap (value_or other) (read_file-Reads plan bytes v h))) h
