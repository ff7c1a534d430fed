-- Segments are opened one after another.
use Rattle.std.proofs.Common.{◌≡◌, ℕ, zero, suc, ◌+◌, ◌<◌, ◌^◌, List, [], ◌∷◌, ◌++◌, length, drop, take, get_or, refl, sym, ap, ◌∙◌, subst, arith}
use Rattle.std.specs.Prelude.{flat_map}
use Rattle.std.specs.Global.{Global}
use Rattle.std.specs.declared.vec.Vec.{Vec}
use Rattle.std.specs.List.{AllByRecursion, AllZip}
use Rattle.std.proofs.lemmas.List.{append_assoc, drop_more, get_or-map, length-append, length-map, take_more}
use Rattle.lu_model.specs.Index.{Index}
use Rattle.lu_types.specs.Tables.{TableField}
use Rattle.lu_model.specs.Contents.{field_number, live}
use Rattle.lu_model.specs.Valid.{IsValid}
use Rattle.check_index.specs.Segments.{SegmentValue}
use Rattle.seg_merger.specs.Merged.{AreFieldNumbers, indexes_of}
use Rattle.seg_merger.specs.TermRests.{AreNumbersIn, Rest, whole_rest, whole_rests}

-- the indexes from one on
pub drop-index : (sources : List SegmentValue) (k : ℕ) (s : SegmentValue) → k < length sources → s ≡ get_or sources k s → drop k (indexes_of sources) ≡ s.index ∷ drop (k + 1) (indexes_of sources)
drop-index sources k s lt is =
    let size = length-map sources (λ (w : SegmentValue). w.index) in
    drop_more (indexes_of sources) k s.index (omega (arith, lt, size))
    ∙ ap (λ i. i ∷ drop (k + 1) (indexes_of sources)) (get_or-map (λ (w : SegmentValue). w.index) sources k s s.index lt ∙ ap (λ (w : SegmentValue). w.index) (sym is))

pub drop-numbers : (numbers : List (Vec ℕ Global)) (k : ℕ) (ns : Vec ℕ Global) → k < length numbers → ns ≡ get_or numbers k ns → drop k numbers ≡ ns ∷ drop (k + 1) numbers
drop-numbers numbers k ns lt is = drop_more numbers k ns lt ∙ ap (λ w. w ∷ drop (k + 1) numbers) (sym is)

-- what holds of two lists holds at each place
pub zip-length : {X Y : Type 0} (R : X → Y → Type 0) (xs : List X) (ys : List Y) → AllZip R xs ys → length xs ≡ length ys
zip-length R [] [] h = refl
zip-length R [] (y ∷ ys) h = absurd h
zip-length R (x ∷ xs) [] h = absurd h
zip-length R (x ∷ xs) (y ∷ ys) h = ap suc (zip-length R xs ys h.1)

pub zip-at : {X Y : Type 0} (R : X → Y → Type 0) (xs : List X) (ys : List Y) (k : ℕ) (d : X) (e : Y) → AllZip R xs ys → k < length xs → R (get_or xs k d) (get_or ys k e)
zip-at R [] ys k d e h lt = absurd (omega (arith, lt))
zip-at R (x ∷ xs) [] k d e h lt = absurd h
zip-at R (x ∷ xs) (y ∷ ys) zero d e h lt = h.0
zip-at R (x ∷ xs) (y ∷ ys) (suc k) d e h lt = zip-at R xs ys k d e h.1 (omega (arith, lt))

-- so many documents are left to number
abbrev pub left_live : List Index → ℕ
left_live indexes = length (flat_map live indexes)

pub room-here : (base all : ℕ) (indexes rest : List Index) (index : Index) → indexes ≡ index ∷ rest → base + left_live indexes ≡ all → all < 2 ^ 31 → base + length (live index) < 2 ^ 31
room-here base all indexes rest index is sum small =
    let own = ap left_live is ∙ length-append (live index) (flat_map live rest) in
    omega (arith, own, sum, small)

pub room-next : (base next all : ℕ) (indexes rest : List Index) (index : Index) → indexes ≡ index ∷ rest → next ≡ base + length (live index) → base + left_live indexes ≡ all → next + left_live rest ≡ all
room-next base next all indexes rest index is moved sum =
    let own = ap left_live is ∙ length-append (live index) (flat_map live rest) in
    omega (arith, own, sum, moved)

-- one segment more
pub slots-next : (slots new all : List Rest) (slot : Rest) (base next : ℕ) (indexes rest : List Index) (index : Index) (numbers others : List (Vec ℕ Global)) (ns : Vec ℕ Global) (fields : List ℕ)
    → new ≡ slots ++ slot ∷ [] → slot ≡ whole_rest base index fields → fields ≡ ns.items → next ≡ base + length (live index) → indexes ≡ index ∷ rest → numbers ≡ ns ∷ others
    → slots ++ whole_rests base indexes numbers ≡ all → new ++ whole_rests next rest others ≡ all
slots-next slots new all slot base next indexes rest index numbers others ns fields adds is same moved is_index is_numbers so_far =
    let behind = whole_rests next rest others in
    ap (λ w. w ++ behind) adds ∙ append_assoc slots (slot ∷ []) behind
    ∙ ap (λ w. slots ++ w ∷ behind) (is ∙ ap (whole_rest base index) same)
    ∙ ap (λ b. slots ++ whole_rest base index ns.items ∷ whole_rests b rest others) moved
    ∙ sym (ap (λ w. slots ++ whole_rests base w (ns ∷ others)) is_index)
    ∙ sym (ap (λ w. slots ++ whole_rests base indexes w) is_numbers)
    ∙ so_far

-- ---- what is known of all

each-push : {X : Type 0} (P : X → Type 0) (xs : List X) (x : X) → AllByRecursion P xs → P x → AllByRecursion P (xs ++ x ∷ [])
each-push P [] x h p = (p, tt)
each-push P (y ∷ xs) x h p = (h.0, each-push P xs x h.1 p)

pub valid-next : (sources : List SegmentValue) (k : ℕ) (s : SegmentValue) → k < length sources → s ≡ get_or sources k s → IsValid s.index → AllByRecursion IsValid (take k (indexes_of sources)) → AllByRecursion IsValid (take (k + 1) (indexes_of sources))
valid-next sources k s lt is ok so_far =
    let size = length-map sources (λ (w : SegmentValue). w.index) in
    let at : get_or (indexes_of sources) k s.index ≡ s.index = get_or-map (λ (w : SegmentValue). w.index) sources k s s.index lt ∙ ap (λ (w : SegmentValue). w.index) (sym is) in
    subst (AllByRecursion IsValid) (sym (take_more (indexes_of sources) k s.index (omega (arith, lt, size))))
    (each-push IsValid (take k (indexes_of sources)) (get_or (indexes_of sources) k s.index) so_far (subst IsValid (sym at) ok))

-- the numbers of the fields, index by index
pub numbers-in : (table : List TableField) (sources : List SegmentValue) (numbers : List (Vec ℕ Global)) → AreFieldNumbers table sources numbers → AreNumbersIn table (indexes_of sources) numbers
numbers-in table [] [] h = tt
numbers-in table [] (ns ∷ numbers) h = absurd h
numbers-in table (s ∷ sources) [] h = absurd h
numbers-in table (s ∷ sources) (ns ∷ numbers) h = (h.0, numbers-in table sources numbers h.1)

pub numbers-many : (table : List TableField) (sources : List SegmentValue) (numbers : List (Vec ℕ Global)) → AreFieldNumbers table sources numbers → AllZip (λ (s : SegmentValue) (ns : Vec ℕ Global). length ns.items ≡ length s.index.fields) sources numbers
numbers-many table [] [] h = tt
numbers-many table [] (ns ∷ numbers) h = absurd h
numbers-many table (s ∷ sources) [] h = absurd h
numbers-many table (s ∷ sources) (ns ∷ numbers) h = (ap length h.0 ∙ length-map s.index.fields (λ (field : TableField). field_number field.name table), numbers-many table sources numbers h.1)

-- as many segments are opened as there are
pub whole-length : (table : List TableField) (base : ℕ) (sources : List SegmentValue) (numbers : List (Vec ℕ Global)) → AreFieldNumbers table sources numbers → length (whole_rests base (indexes_of sources) numbers) ≡ length sources
whole-length table base [] [] h = refl
whole-length table base [] (ns ∷ numbers) h = absurd h
whole-length table base (s ∷ sources) [] h = absurd h
whole-length table base (s ∷ sources) (ns ∷ numbers) h = ap suc (whole-length table (base + length (live s.index)) sources numbers h.1)
