-- The extensions of the kinds of files, and the order in which files are checked.
use Rattle.std.specs.Prelude.{◌≡◌, ℕ, ◌<◌, List, [], ◌∷◌, ◌++◌, ◌⊎◌, codes, decimal}
use Rattle.lu_types.specs.declared.kind.FileKind.{FileKind}
use Rattle.lu_types.specs.declared.kind.FileKind.TheVariants.{Commit, Cfs, Cfx, Fnm, Fdx, Fdt, Tis, Tii, Frq, Prx, Nrm, Sep, Del, Tvx, Tvd, Tvf}

-- the extension of a file of the kind
abbrev pub extension : FileKind → List ℕ
extension Commit = codes "segments"
extension Cfs = codes "cfs"
extension Cfx = codes "cfx"
extension Fnm = codes "fnm"
extension Fdx = codes "fdx"
extension Fdt = codes "fdt"
extension Tis = codes "tis"
extension Tii = codes "tii"
extension Frq = codes "frq"
extension Prx = codes "prx"
extension Nrm = codes "nrm"
extension (Sep field) = codes "s" ++ decimal field
extension Del = codes "del"
extension Tvx = codes "tvx"
extension Tvd = codes "tvd"
extension Tvf = codes "tvf"

-- when files of a kind are checked, from 0, and among files that are checked then the number of the field
abbrev pub turn : FileKind → ℕ × ℕ
turn Commit = (0, 0)
turn Cfs = (1, 0)
turn Cfx = (2, 0)
turn Fnm = (3, 0)
turn Fdx = (4, 0)
turn Fdt = (5, 0)
turn Tis = (6, 0)
turn Tii = (7, 0)
turn Frq = (8, 0)
turn Prx = (9, 0)
turn Nrm = (10, 0)
turn (Sep field) = (11, field)
turn Del = (12, 0)
turn Tvx = (13, 0)
turn Tvd = (14, 0)
turn Tvf = (15, 0)

-- files of the first kind are checked before those of the second
abbrev pub IsBefore : FileKind → FileKind → Type 0
IsBefore a b = ((turn a).0 < (turn b).0) ⊎ (((turn a).0 ≡ (turn b).0) × ((turn a).1 < (turn b).1))

-- the kinds of parts up to the norms, and those behind the deleted documents, in the order in which files are checked
abbrev pub front_kinds : List FileKind
front_kinds = Cfs ∷ Cfx ∷ Fnm ∷ Fdx ∷ Fdt ∷ Tis ∷ Tii ∷ Frq ∷ Prx ∷ Nrm ∷ []

abbrev pub vector_kinds : List FileKind
vector_kinds = Tvx ∷ Tvd ∷ Tvf ∷ []

-- the kinds of which a segment has one file that is named by its extension, in that order
abbrev pub part_kinds : List FileKind
part_kinds = front_kinds ++ vector_kinds
