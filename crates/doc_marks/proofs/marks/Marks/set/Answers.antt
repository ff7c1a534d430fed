use Rattle.std.proofs.Common.{◌≡◌, ℕ, Bool, List, ◌<◌, ◌+◌, ◌/◌, ◌%◌, ◌^◌, not, true, false, get_or, set, length, take, sym, ap, subst, ◌∙◌, arith}
use Rattle.std.proofs.lemmas.List.{get_or_read, set-get_or}
use Rattle.doc_marks.specs.Marking.{bits, flags, AreMarks}
use Rattle.doc_marks.proofs.MarksLemmas.{length-marks, get-marks, byte-within, count-below, byte-below, marks-set, AreMarks-set}
use Rattle.doc_marks.proofs.marks.Marks.set.Goals as goal

-- what is known of a document that stands among the marks, and of the byte that was read for it
record IsAsked (size : ℕ) (found : List ℕ) (marks : List Bool) (doc byte : ℕ) (has : Bool) : Type 0 where
  pub within : doc < size
  pub byte_is : byte ≡ get_or found (doc / 8) 0
  pub marked : has ≡ get_or marks doc false
  pub clear : has ≡ false → get_or (bits 8 (get_or found (doc / 8) 0)) (doc % 8) false ≡ false

asked : (size count : ℕ) (found : List ℕ) (marks : List Bool) (doc byte : ℕ) (has : Bool) → AreMarks size count found → take size (flags found) ≡ marks → doc < length marks → byte ≡ get_or found (doc / 8) byte
    → has ≡ get_or (bits 8 byte) (doc % 8) false → IsAsked size found marks doc byte has
asked size count found marks doc byte has sound view inside read tested =
    let within : doc < size = omega (arith, inside, ap length view, length-marks size count found sound) in
    let byte_is : byte ≡ get_or found (doc / 8) 0 = get_or_read found _ _ (byte-within size count found sound doc within) read 0 in
    let bit : has ≡ get_or (bits 8 (get_or found (doc / 8) 0)) (doc % 8) false = tested ∙ ap (λ b. get_or (bits 8 b) (doc % 8) false) byte_is in
    record {
      within = within;
      byte_is = byte_is;
      marked = bit ∙ sym (get-marks size count found sound doc within) ∙ ap (λ fs. get_or fs doc false) view;
      clear = λ none. sym bit ∙ none;
    }

pub returns-then-has_bit-clause-was : goal.returns-then-has_bit-clause-was
returns-then-has_bit-clause-was c = ap not (sym c.if-has_bit.true ∙ (asked c.self.inside.size c.self.inside.count c.self.inside.bytes.items c.args.self.now c.args.doc c.index-byte.result.now c.has_bit.result c.self.invariant c.self.view_is c.requires c.index-byte.ensures c.has_bit.ensures).marked)

pub returns-then-has_bit-clause-marked : goal.returns-then-has_bit-clause-marked
returns-then-has_bit-clause-marked c =
    let a = asked c.self.inside.size c.self.inside.count c.self.inside.bytes.items c.args.self.now c.args.doc c.index-byte.result.now c.has_bit.result c.self.invariant c.self.view_is c.requires c.index-byte.ensures c.has_bit.ensures in
    let old : List Bool = c.args.self.now in
    let doc = c.args.doc in
    sym (set-get_or old doc false) ∙ ap (λ (f : Bool). set old doc f) (sym a.marked ∙ c.if-has_bit.true)

pub overflow_add-byte : goal.overflow_add-byte
overflow_add-byte c =
    let a = asked c.self.inside.size c.self.inside.count c.self.inside.bytes.items c.args.self.now c.args.doc c.index-byte.result.now c.has_bit.result c.self.invariant c.self.view_is c.requires c.index-byte.ensures c.has_bit.ensures in
    let m = c.self.inside in
    let below = byte-below m.size m.count m.bytes.items c.self.invariant c.args.doc a.within (a.clear c.if-has_bit.false) in
    record { fits = omega (arith, below, a.byte_is, c.bit_value.ensures) }

pub overflow_add-self : goal.overflow_add-self
overflow_add-self c = let m = c.self.inside in record { fits = omega (arith, count-below m.size m.count m.bytes.items c.self.invariant) }

pub invariant_of-self : goal.invariant_of-self
invariant_of-self c =
    let a = asked c.self.inside.size c.self.inside.count c.self.inside.bytes.items c.args.self.now c.args.doc c.index-byte.result.now c.has_bit.result c.self.invariant c.self.view_is c.requires c.index-byte.ensures c.has_bit.ensures in
    let m = c.self.inside in
    let doc = c.args.doc in
    let sum : get_or m.bytes.items (doc / 8) 0 + 2 ^ (doc % 8) ≡ c.index-byte.result.now + c.bit_value.result = omega (arith, a.byte_is, c.bit_value.ensures) in
    subst (λ (b : ℕ). AreMarks m.size (m.count + 1) (set m.bytes.items (doc / 8) b)) sum (AreMarks-set m.size m.count m.bytes.items c.self.invariant doc a.within (a.clear c.if-has_bit.false))

pub returns-clause-was : goal.returns-clause-was
returns-clause-was c = ap not (sym c.if-has_bit.false ∙ (asked c.self.inside.size c.self.inside.count c.self.inside.bytes.items c.args.self.now c.args.doc c.index-byte.result.now c.has_bit.result c.self.invariant c.self.view_is c.requires c.index-byte.ensures c.has_bit.ensures).marked)

pub returns-clause-marked : goal.returns-clause-marked
returns-clause-marked c =
    let a = asked c.self.inside.size c.self.inside.count c.self.inside.bytes.items c.args.self.now c.args.doc c.index-byte.result.now c.has_bit.result c.self.invariant c.self.view_is c.requires c.index-byte.ensures c.has_bit.ensures in
    let m = c.self.inside in
    let doc = c.args.doc in
    let sum : c.index-byte.result.now + c.bit_value.result ≡ get_or m.bytes.items (doc / 8) 0 + 2 ^ (doc % 8) = omega (arith, a.byte_is, c.bit_value.ensures) in
    ap (λ (b : ℕ). take m.size (flags (set m.bytes.items (doc / 8) b))) sum
    ∙ marks-set m.size m.count m.bytes.items c.self.invariant doc a.within (a.clear c.if-has_bit.false)
    ∙ ap (λ (fs : List Bool). set fs doc true) c.self.view_is
