-- Segments that are left, from a place on, and how many documents they have.
use Rattle.std.proofs.Common.{◌≡◌, ℕ, zero, suc, ◌+◌, ◌<◌, ◌≤◌, List, [], ◌∷◌, length, drop, get_or, All, Option, Some, None, sym, ap, ◌∙◌, arith}
use Rattle.std.proofs.lemmas.List.Elements.{All-head, All-tail}
use Rattle.std.proofs.lemmas.List.Sums.{sum_by-cons}
use Rattle.segment_infos.specs.declared.infos.SegInfo.{SegInfo}
use Rattle.segment_infos.specs.Values.{IsLine, AreDeleted, total_size}
use Rattle.lu_reads.specs.Checking.{total_deleted}

-- the element at a place, and those after it
pub drop-place : {A : Type 0} (xs : List A) (place : ℕ) (x : A) → place < length xs → x ≡ get_or xs place x → drop place xs ≡ x ∷ drop (place + 1) xs
drop-place [] place x within is = absurd (omega arith)
drop-place (y ∷ ys) zero x within is = ap (λ z. z ∷ ys) (sym is)
drop-place {A} (y ∷ ys) (suc place) x within is =
    drop-place ys place x (omega arith) is ∙ ap (λ (n : ℕ). x ∷ drop n (y ∷ ys)) (let e : suc (place + 1) ≡ suc place + 1 = omega arith in e)

-- a line has no more deleted documents than documents
deleted-le : (generation : Option ℕ) (size deleted : ℕ) → AreDeleted generation size deleted → deleted ≤ size
deleted-le None size deleted none = omega (arith, none)
deleted-le (Some g) size deleted le = le

-- nor have lines together
pub deleted-total : (segments : List SegInfo) → All IsLine segments → total_deleted segments ≤ total_size segments
deleted-total [] lines = omega arith
deleted-total (s ∷ rest) lines =
    let line = All-head IsLine s rest lines in
    omega (arith, sum_by-cons (λ (x : SegInfo). x.deleted) s rest, sum_by-cons (λ (x : SegInfo). x.size) s rest, deleted-le s.del_gen s.size s.deleted line.deleted, deleted-total rest (All-tail IsLine s rest lines))
