-- Names of segments and of their files.
use Rattle.std.specs.Prelude.{◌≡◌, ℕ, ◌≤◌, List, ◌++◌, codes}
use Rattle.lu_prims.specs.Base36.{base36}
use Rattle.lu_types.specs.declared.kind.FileKind.{FileKind}
use Rattle.lu_types.specs.declared.kind.FileKind.TheVariants.{Commit, Cfs, Cfx, Fnm, Fdx, Fdt, Tis, Tii, Frq, Prx, Nrm, Sep, Del, Tvx, Tvd, Tvf}
use Rattle.lu_types.specs.Kinds.{extension}

-- the greatest number of a segment, 2^31 - 2
abbrev pub greatest_segment : ℕ
greatest_segment = 2147483646

-- the name of the segment with a number: `_` and the number in base 36
abbrev pub segment_name : ℕ → List ℕ
segment_name number = codes "_" ++ base36 number

-- the text is the name of the segment with the number
abbrev pub Names : List ℕ → ℕ → Type 0
Names text number = (number ≤ greatest_segment) × (text ≡ segment_name number)

-- the text is the name of some segment
abbrev pub IsSegmentName : List ℕ → Type 0
IsSegmentName text = (number : ℕ) × Names text number

-- a segment has one file of the kind, which is named by its extension: commits are of no segment, and the names of deletions and of separate norms have a generation
abbrev pub IsPart : FileKind → Type 0
IsPart Commit = ⊥
IsPart Cfs = Unit {0}
IsPart Cfx = Unit {0}
IsPart Fnm = Unit {0}
IsPart Fdx = Unit {0}
IsPart Fdt = Unit {0}
IsPart Tis = Unit {0}
IsPart Tii = Unit {0}
IsPart Frq = Unit {0}
IsPart Prx = Unit {0}
IsPart Nrm = Unit {0}
IsPart (Sep field) = ⊥
IsPart Del = ⊥
IsPart Tvx = Unit {0}
IsPart Tvd = Unit {0}
IsPart Tvf = Unit {0}

-- the name of the segment's file of the kind
abbrev pub part_name : List ℕ → FileKind → List ℕ
part_name segment kind = segment ++ codes "." ++ extension kind
