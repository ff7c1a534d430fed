-- The order of UTF-16 units is the order of the bytes of UTF-8 by their rank.
use Rattle.std.proofs.Common.{◌≡◌, ◌≢◌, ℕ, ◌+◌, ◌-◌, ◌/◌, ◌%◌, ◌<◌, ◌≤◌, nat_lt, ◌&&◌, Bool, true, false, cond, List, [], ◌∷◌, ◌++◌, refl, sym, ap, ◌∙◌, ⊎_elim, arith}
use Rattle.std.specs.declared.cmp.Ordering.TheVariants.{Less, Equal, Greater}
use Rattle.std.specs.Ordering.{ordering_reverse}
use Rattle.std.specs.Char.Escape.{encode_utf16}
use Rattle.std.specs.Str.{IsUtf8, chars}
use Rattle.std.specs.List.{flat_map}
use Rattle.std.specs.Cmp.{IsTotalOrder}
use Rattle.std.proofs.lemmas.Str.{encodes-chars, scalars-chars}
use Rattle.std.proofs.lemmas.List.{append_cancel_left}
use Rattle.std.proofs.lemmas.Cmp.{tied_itself, on_total, nat_list_cmp_total}
use Rattle.std.proofs.Math.Utf8.{encode, encodes, scalars, scalar, scalar_cases, next}
use Rattle.std.proofs.lemmas.Bool.Decides.{nat_tests}
use Rattle.std.specs.Ordering.{is_eq}
use Rattle.std.proofs.lemmas.Map.Text.{is_eq-slice_cmp}
use Rattle.std.proofs.lemmas.Slice.Eq.{bytes_eq-Decides}
use Rattle.std.proofs.lemmas.Bool.{cases_lt}
use borrow.Author.Tests.{lt-ltb, le-ltb}
use Rattle.lu_prims.specs.Order.{byte_rank, units, text_cmp}
use Rattle.lu_prims.proofs.OrderLemmas.{ranks_cmp, ranks_total, less_first, less_next, level_front}

-- a number by which characters are in the order of their units
key : ℕ → ℕ
key c = cond (nat_lt c 0xE000) c (cond (nat_lt c 0x1_0000) (c + 0x11_0000) c)

key_is : (c : ℕ) → (c < 0xE000 → key c ≡ c) × (0xE000 ≤ c → c < 0x1_0000 → key c ≡ c + 0x11_0000) × (0x1_0000 ≤ c → key c ≡ c)
unfolding key
key_is c = (λ h. grind (arith, nat_tests), λ h g. grind (arith, nat_tests), λ h. grind (arith, nat_tests))

rank_is : (b : ℕ) → (b < 0xEE → byte_rank b ≡ b) × (0xEE ≤ b → b < 0xF0 → byte_rank b ≡ b + 0x10) × (0xF0 ≤ b → byte_rank b ≡ b - 2)
unfolding byte_rank
rank_is b = (λ h. grind (arith, nat_tests), λ h g. grind (arith, nat_tests), λ h. grind (arith, nat_tests))

-- UTF-8 of one to four bytes
pub encode_one : (c : ℕ) → c < 0x80 → encode c ≡ c ∷ []
unfolding encode
encode_one c h = grind (arith, nat_tests)

pub encode_two : (c : ℕ) → 0x80 ≤ c → c < 0x800 → encode c ≡ (0xC0 + c / 64) ∷ next c ∷ []
unfolding encode
encode_two c h g = rw (le-ltb c 0x80 h, lt-ltb c 0x800 g)

pub encode_three : (c : ℕ) → 0x800 ≤ c → c < 0x1_0000 → encode c ≡ (0xE0 + c / 4096) ∷ next (c / 64) ∷ next c ∷ []
unfolding encode
encode_three c h g = let low : 0x80 ≤ c = omega arith in rw (le-ltb c 0x80 low, le-ltb c 0x800 h, lt-ltb c 0x1_0000 g)

pub encode_four : (c : ℕ) → 0x1_0000 ≤ c → encode c ≡ (0xF0 + c / 262144) ∷ next (c / 4096) ∷ next (c / 64) ∷ next c ∷ []
unfolding encode
encode_four c h = let low : 0x80 ≤ c = omega arith in let two : 0x800 ≤ c = omega arith in rw (le-ltb c 0x80 low, le-ltb c 0x800 two, le-ltb c 0x1_0000 h)

-- lower numbers have lower continuation bytes, where what stands above is the same
next_less : (c d : ℕ) (r t : List ℕ) → c / 64 ≡ d / 64 → c < d → ranks_cmp byte_rank (next c ∷ r) (next d ∷ t) ≡ Less
next_less c d r t e h = less_first byte_rank (next c) (next d) r t (omega (arith, (rank_is (next c)).0, (rank_is (next d)).0))

next_two : (c d : ℕ) (r t : List ℕ) → c / 4096 ≡ d / 4096 → c < d → ranks_cmp byte_rank (next (c / 64) ∷ next c ∷ r) (next (d / 64) ∷ next d ∷ t) ≡ Less
next_two c d r t e h =
    ⊎_elim
    (λ (below : c / 64 < d / 64). next_less (c / 64) (d / 64) (next c ∷ r) (next d ∷ t) (omega arith) below)
    (λ (above : d / 64 ≤ c / 64). let same : c / 64 ≡ d / 64 = omega arith in less_next byte_rank (next (c / 64)) (next (d / 64)) (next c ∷ r) (next d ∷ t) (ap next same) (next_less c d r t same h))
    (cases_lt (c / 64) (d / 64))

next_three : (c d : ℕ) (r t : List ℕ) → c / 262144 ≡ d / 262144 → c < d → ranks_cmp byte_rank (next (c / 4096) ∷ next (c / 64) ∷ next c ∷ r) (next (d / 4096) ∷ next (d / 64) ∷ next d ∷ t) ≡ Less
next_three c d r t e h =
    ⊎_elim
    (λ (below : c / 4096 < d / 4096). next_less (c / 4096) (d / 4096) (next (c / 64) ∷ next c ∷ r) (next (d / 64) ∷ next d ∷ t) (omega arith) below)
    (λ (above : d / 4096 ≤ c / 4096). let same : c / 4096 ≡ d / 4096 = omega arith in less_next byte_rank (next (c / 4096)) (next (d / 4096)) (next (c / 64) ∷ next c ∷ r) (next (d / 64) ∷ next d ∷ t) (ap next same) (next_two c d r t same h))
    (cases_lt (c / 4096) (d / 4096))

-- a character's number: no surrogate, and in range
abbrev pub IsChar : ℕ → Type 0
IsChar c = (c < 0x11_0000) × (0xD800 ≤ c → 0xE000 ≤ c)

-- the first byte of a character, and what its rank is
lead : ℕ → ℕ
lead c = cond (nat_lt c 0x80) c (cond (nat_lt c 0x800) (0xC0 + c / 64) (cond (nat_lt c 0x1_0000) (0xE0 + c / 4096) (0xF0 + c / 262144)))

lead_is : (c : ℕ) → (c < 0x80 → lead c ≡ c) × (0x80 ≤ c → c < 0x800 → lead c ≡ 0xC0 + c / 64) × (0x800 ≤ c → c < 0x1_0000 → lead c ≡ 0xE0 + c / 4096) × (0x1_0000 ≤ c → lead c ≡ 0xF0 + c / 262144)
unfolding lead
lead_is c = (λ h. grind (arith, nat_tests), λ h g. grind (arith, nat_tests), λ h g. grind (arith, nat_tests), λ h. grind (arith, nat_tests))

rank_lead : (c : ℕ) → c < 0x11_0000
    → (c < 0x80 → byte_rank (lead c) ≡ c)
    × (0x80 ≤ c → c < 0x800 → byte_rank (lead c) ≡ 0xC0 + c / 64)
    × (0x800 ≤ c → c < 0xE000 → byte_rank (lead c) ≡ 0xE0 + c / 4096)
    × (0xE000 ≤ c → c < 0x1_0000 → byte_rank (lead c) ≡ 0xF0 + c / 4096)
    × (0x1_0000 ≤ c → byte_rank (lead c) ≡ 0xEE + c / 262144)
rank_lead c h =
    let l = lead_is c in
    let r = rank_is (lead c) in (
      λ a. let e = l.0 a in omega (arith, e, r.0),
      λ a b. let e = l.1 a b in omega (arith, e, r.0),
      λ a b. let e = l.2 a (omega arith) in omega (arith, e, r.0),
      λ a b. let e = l.2 (omega arith) b in omega (arith, e, r.1),
      λ a. let e = l.3 a in omega (arith, e, r.2),
    )

lead_order : (c d : ℕ) → c < 0x11_0000 → d < 0x11_0000 → key c < key d → byte_rank (lead d) ≤ byte_rank (lead c) → (c < d) × (byte_rank (lead c) ≡ byte_rank (lead d))
lead_order c d hc hd h g =
    let kc = key_is c in
    let kd = key_is d in
    let rc = rank_lead c hc in
    let rd = rank_lead d hd in
    (grind arith, grind arith)

-- the bytes of a character after the first
after_lead : (c : ℕ) → (rest : List ℕ) × (encode c ≡ lead c ∷ rest)
after_lead c =
    let l = lead_is c in
    ⊎_elim
    (λ (a : c < 0x80). ([], encode_one c a ∙ ap (λ (x : ℕ). x ∷ []) (sym (l.0 a))))
    (λ (a : 0x80 ≤ c). ⊎_elim
    (λ (b : c < 0x800). (next c ∷ [], encode_two c a b ∙ ap (λ (x : ℕ). x ∷ next c ∷ []) (sym (l.1 a b))))
    (λ (b : 0x800 ≤ c). ⊎_elim
    (λ (e : c < 0x1_0000). (next (c / 64) ∷ next c ∷ [], encode_three c b e ∙ ap (λ (x : ℕ). x ∷ next (c / 64) ∷ next c ∷ []) (sym (l.2 b e))))
    (λ (e : 0x1_0000 ≤ c). (next (c / 4096) ∷ next (c / 64) ∷ next c ∷ [], encode_four c e ∙ ap (λ (x : ℕ). x ∷ next (c / 4096) ∷ next (c / 64) ∷ next c ∷ []) (sym (l.3 e))))
    (cases_lt c 0x1_0000))
    (cases_lt c 0x800))
    (cases_lt c 0x80)

lead_less : (c d : ℕ) (r t : List ℕ) → byte_rank (lead c) < byte_rank (lead d) → ranks_cmp byte_rank (encode c ++ r) (encode d ++ t) ≡ Less
lead_less c d r t h =
    let p = after_lead c in
    let q = after_lead d in
    ap (λ (x : List ℕ). ranks_cmp byte_rank (x ++ r) (encode d ++ t)) p.1 ∙ ap (λ (x : List ℕ). ranks_cmp byte_rank (lead c ∷ (p.0 ++ r)) (x ++ t)) q.1 ∙ less_first byte_rank (lead c) (lead d) (p.0 ++ r) (q.0 ++ t) h

-- where the first bytes have one rank, the characters take as many bytes and begin alike
same_lead : (c d : ℕ) → c < 0x11_0000 → d < 0x11_0000 → byte_rank (lead c) ≡ byte_rank (lead d)
    → (c < 0x80 → c ≡ d)
    × (0x80 ≤ c → c < 0x800 → (0x80 ≤ d) × (d < 0x800) × (c / 64 ≡ d / 64))
    × (0x800 ≤ c → c < 0x1_0000 → (0x800 ≤ d) × (d < 0x1_0000) × (c / 4096 ≡ d / 4096))
    × (0x1_0000 ≤ c → (0x1_0000 ≤ d) × (c / 262144 ≡ d / 262144))
same_lead c d hc hd e =
    let rc = rank_lead c hc in
    let rd = rank_lead d hd in
    (λ a. grind arith, λ a b. (grind arith, grind arith, grind arith), λ a b. (grind arith, grind arith, grind arith), λ a. (grind arith, grind arith))

same_lead_less : (c d : ℕ) (r t : List ℕ) → c < 0x11_0000 → d < 0x11_0000 → c < d → byte_rank (lead c) ≡ byte_rank (lead d) → ranks_cmp byte_rank (encode c ++ r) (encode d ++ t) ≡ Less
same_lead_less c d r t hc hd h e =
    let s = same_lead c d hc hd e in
    let both : (x y : List ℕ) → encode c ≡ x → encode d ≡ y → ranks_cmp byte_rank (x ++ r) (y ++ t) ≡ Less → ranks_cmp byte_rank (encode c ++ r) (encode d ++ t) ≡ Less =
    λ x y p q l. ap (λ (z : List ℕ). ranks_cmp byte_rank (z ++ r) (encode d ++ t)) p ∙ ap (λ (z : List ℕ). ranks_cmp byte_rank (x ++ r) (z ++ t)) q ∙ l in
    ⊎_elim
    (λ (a : c < 0x80). let same = s.0 a in absurd (omega arith))
    (λ (a : 0x80 ≤ c). ⊎_elim
    (λ (b : c < 0x800). let k = s.1 a b in both _ _ (encode_two c a b) (encode_two d k.0 k.1) (less_next byte_rank (0xC0 + c / 64) (0xC0 + d / 64) (next c ∷ r) (next d ∷ t) (ap (λ n. 0xC0 + n) k.2) (next_less c d r t k.2 h)))
    (λ (b : 0x800 ≤ c). ⊎_elim
    (λ (f : c < 0x1_0000). let k = s.2 b f in both _ _ (encode_three c b f) (encode_three d k.0 k.1) (less_next byte_rank (0xE0 + c / 4096) (0xE0 + d / 4096) (next (c / 64) ∷ next c ∷ r) (next (d / 64) ∷ next d ∷ t) (ap (λ n. 0xE0 + n) k.2) (next_two c d r t k.2 h)))
    (λ (f : 0x1_0000 ≤ c). let k = s.3 f in both _ _ (encode_four c f) (encode_four d k.0) (less_next byte_rank (0xF0 + c / 262144) (0xF0 + d / 262144) (next (c / 4096) ∷ next (c / 64) ∷ next c ∷ r) (next (d / 4096) ∷ next (d / 64) ∷ next d ∷ t) (ap (λ n. 0xF0 + n) k.1) (next_three c d r t k.1 h)))
    (cases_lt c 0x1_0000))
    (cases_lt c 0x800))
    (cases_lt c 0x80)

-- a lower key makes lower bytes
bytes_less : (c d : ℕ) (r t : List ℕ) → IsChar c → IsChar d → key c < key d → ranks_cmp byte_rank (encode c ++ r) (encode d ++ t) ≡ Less
bytes_less c d r t hc hd h =
    ⊎_elim
    (lead_less c d r t)
    (λ (g : byte_rank (lead d) ≤ byte_rank (lead c)). let o = lead_order c d hc.0 hd.0 h g in same_lead_less c d r t hc.0 hd.0 o.0 o.1)
    (cases_lt (byte_rank (lead c)) (byte_rank (lead d)))

-- a lower key makes lower units
one_unit : (c : ℕ) → c < 0x1_0000 → encode_utf16 c ≡ c ∷ []
one_unit c h = rw (lt-ltb c 0x1_0000 h)

two_units : (c : ℕ) → 0x1_0000 ≤ c → encode_utf16 c ≡ (0xD800 + (c - 0x1_0000) / 0x400) ∷ (0xDC00 + (c - 0x1_0000) % 0x400) ∷ []
two_units c h = rw (le-ltb c 0x1_0000 h)

abbrev itself : ℕ → ℕ
itself n = n

units_less : (c d : ℕ) (r t : List ℕ) → IsChar c → IsChar d → key c < key d → ranks_cmp itself (encode_utf16 c ++ r) (encode_utf16 d ++ t) ≡ Less
units_less c d r t hc hd h =
    let kc = key_is c in
    let kd = key_is d in
    let both : (x y : List ℕ) → encode_utf16 c ≡ x → encode_utf16 d ≡ y → ranks_cmp itself (x ++ r) (y ++ t) ≡ Less → ranks_cmp itself (encode_utf16 c ++ r) (encode_utf16 d ++ t) ≡ Less =
    λ x y p q l. ap (λ (z : List ℕ). ranks_cmp itself (z ++ r) (encode_utf16 d ++ t)) p ∙ ap (λ (z : List ℕ). ranks_cmp itself (x ++ r) (z ++ t)) q ∙ l in
    ⊎_elim
    (λ (a : c < 0x1_0000). ⊎_elim
    (λ (b : d < 0x1_0000). both (c ∷ []) (d ∷ []) (one_unit c a) (one_unit d b) (less_first itself c d r t (one_one c d h a b)))
    (λ (b : 0x1_0000 ≤ d). both (c ∷ []) _ (one_unit c a) (two_units d b) (less_first itself c (0xD800 + (d - 0x1_0000) / 0x400) r ((0xDC00 + (d - 0x1_0000) % 0x400) ∷ t) (one_two c d hc hd h a b)))
    (cases_lt d 0x1_0000))
    (λ (a : 0x1_0000 ≤ c). ⊎_elim
    (λ (b : d < 0x1_0000). both _ (d ∷ []) (two_units c a) (one_unit d b) (less_first itself (0xD800 + (c - 0x1_0000) / 0x400) d ((0xDC00 + (c - 0x1_0000) % 0x400) ∷ r) t (two_one c d hc hd h a b)))
    (λ (b : 0x1_0000 ≤ d). both _ _ (two_units c a) (two_units d b) (two_two c d r t h a b))
    (cases_lt d 0x1_0000))
    (cases_lt c 0x1_0000)
  where
    one_one : (c d : ℕ) → key c < key d → c < 0x1_0000 → d < 0x1_0000 → c < d
    one_one c d h a b = let kc = key_is c in let kd = key_is d in grind arith

    one_two : (c d : ℕ) → IsChar c → IsChar d → key c < key d → c < 0x1_0000 → 0x1_0000 ≤ d → c < 0xD800 + (d - 0x1_0000) / 0x400
    one_two c d hc hd h a b = let kc = key_is c in let kd = key_is d in grind arith

    two_one : (c d : ℕ) → IsChar c → IsChar d → key c < key d → 0x1_0000 ≤ c → d < 0x1_0000 → 0xD800 + (c - 0x1_0000) / 0x400 < d
    two_one c d hc hd h a b = let kc = key_is c in let kd = key_is d in grind arith

    two_two : (c d : ℕ) (r t : List ℕ) → key c < key d → 0x1_0000 ≤ c → 0x1_0000 ≤ d → ranks_cmp itself ((0xD800 + (c - 0x1_0000) / 0x400) ∷ (0xDC00 + (c - 0x1_0000) % 0x400) ∷ r) ((0xD800 + (d - 0x1_0000) / 0x400) ∷ (0xDC00 + (d - 0x1_0000) % 0x400) ∷ t) ≡ Less
    two_two c d r t h a b =
        let kc = (key_is c).2 a in
        let kd = (key_is d).2 b in
        ⊎_elim
        (λ (below : (c - 0x1_0000) / 0x400 < (d - 0x1_0000) / 0x400). less_first itself (0xD800 + (c - 0x1_0000) / 0x400) (0xD800 + (d - 0x1_0000) / 0x400) ((0xDC00 + (c - 0x1_0000) % 0x400) ∷ r) ((0xDC00 + (d - 0x1_0000) % 0x400) ∷ t) (omega arith))
        (λ (above : (d - 0x1_0000) / 0x400 ≤ (c - 0x1_0000) / 0x400). less_next itself (0xD800 + (c - 0x1_0000) / 0x400) (0xD800 + (d - 0x1_0000) / 0x400) ((0xDC00 + (c - 0x1_0000) % 0x400) ∷ r) ((0xDC00 + (d - 0x1_0000) % 0x400) ∷ t) (omega arith) (less_first itself (0xDC00 + (c - 0x1_0000) % 0x400) (0xDC00 + (d - 0x1_0000) % 0x400) r t (omega arith)))
        (cases_lt ((c - 0x1_0000) / 0x400) ((d - 0x1_0000) / 0x400))

-- characters with one key are one
key_same : (c d : ℕ) → IsChar c → IsChar d → key c ≡ key d → c ≡ d
key_same c d hc hd e = let kc = key_is c in let kd = key_is d in grind arith

-- the first characters decide alike in bytes and in units
level_chars : (c d : ℕ) (r t v w : List ℕ) → c ≡ d → ranks_cmp byte_rank r t ≡ ranks_cmp itself v w → ranks_cmp byte_rank (encode c ++ r) (encode d ++ t) ≡ ranks_cmp itself (encode_utf16 c ++ v) (encode_utf16 d ++ w)
level_chars c d r t v w same e =
    ap (λ (x : ℕ). ranks_cmp byte_rank (encode c ++ r) (encode x ++ t)) (sym same) ∙ level_front byte_rank (encode c) r t ∙ e ∙ sym (level_front itself (encode_utf16 c) v w) ∙ ap (λ (x : ℕ). ranks_cmp itself (encode_utf16 c ++ v) (encode_utf16 x ++ w)) same

greater_from_less : (f : ℕ → ℕ) (xs ys : List ℕ) → ranks_cmp f ys xs ≡ Less → ranks_cmp f xs ys ≡ Greater
greater_from_less f xs ys e = (ranks_total f).antisymm xs ys ∙ ap ordering_reverse e

first_chars : (c d : ℕ) (r t v w : List ℕ) → IsChar c → IsChar d → ranks_cmp byte_rank r t ≡ ranks_cmp itself v w → ranks_cmp byte_rank (encode c ++ r) (encode d ++ t) ≡ ranks_cmp itself (encode_utf16 c ++ v) (encode_utf16 d ++ w)
first_chars c d r t v w hc hd e =
    ⊎_elim
    (λ (below : key c < key d). bytes_less c d r t hc hd below ∙ sym (units_less c d v w hc hd below))
    (λ (g : key d ≤ key c). ⊎_elim
    (λ (above : key d < key c). greater_from_less byte_rank (encode c ++ r) (encode d ++ t) (bytes_less d c t r hd hc above) ∙ sym (greater_from_less itself (encode_utf16 c ++ v) (encode_utf16 d ++ w) (units_less d c w v hd hc above)))
    (λ (level : key c ≤ key d). level_chars c d r t v w (key_same c d hc hd (omega arith)) e)
    (cases_lt (key d) (key c)))
    (cases_lt (key c) (key d))

-- each of the characters of a text is one
pub char_is : (c : ℕ) → scalar c ≡ true → IsChar c
char_is c e = ⊎_elim (λ (h : c < 55296). (omega arith, λ g. absurd (omega arith))) (λ (h : (57344 ≤ c) × (c < 1114112)). (h.1, λ g. h.0)) (scalar_cases c e)

pub scalars_first : (c : ℕ) (cs : List ℕ) → scalars (c ∷ cs) ≡ true → (scalar c ≡ true) × (scalars cs ≡ true)
scalars_first c cs e = both (scalar c) (scalars cs) e
  where
    both : (x y : Bool) → (x && y) ≡ true → (x ≡ true) × (y ≡ true)
    both true y e = (refl, e)
    both false y e = absurd (cc)

some_byte : (c : ℕ) (r : List ℕ) → (ranks_cmp byte_rank [] (encode c ++ r) ≡ Less) × (ranks_cmp byte_rank (encode c ++ r) [] ≡ Greater)
some_byte c r =
    let p = after_lead c in
    let e : encode c ++ r ≡ lead c ∷ (p.0 ++ r) = ap (λ (x : List ℕ). x ++ r) p.1 in
    (ap (ranks_cmp byte_rank []) e, ap (λ (x : List ℕ). ranks_cmp byte_rank x []) e)

some_unit : (c : ℕ) (r : List ℕ) → (ranks_cmp itself [] (encode_utf16 c ++ r) ≡ Less) × (ranks_cmp itself (encode_utf16 c ++ r) [] ≡ Greater)
some_unit c r = units_any (nat_lt c 0x1_0000) (c ∷ []) (0xD800 + (c - 0x1_0000) / 0x400) ((0xDC00 + (c - 0x1_0000) % 0x400) ∷ []) r
  where
    units_any : (t : Bool) (one : List ℕ) (u : ℕ) (us r : List ℕ) → (ranks_cmp itself [] (cond t (c ∷ []) (u ∷ us) ++ r) ≡ Less) × (ranks_cmp itself (cond t (c ∷ []) (u ∷ us) ++ r) [] ≡ Greater)
    units_any true one u us r = (refl, refl)
    units_any false one u us r = (refl, refl)

bytes_as_units : (cs ds : List ℕ) → scalars cs ≡ true → scalars ds ≡ true → ranks_cmp byte_rank (encodes cs) (encodes ds) ≡ ranks_cmp itself (flat_map encode_utf16 cs) (flat_map encode_utf16 ds)
bytes_as_units [] [] hc hd = refl
bytes_as_units [] (d ∷ ds) hc hd = (some_byte d (encodes ds)).0 ∙ sym (some_unit d (flat_map encode_utf16 ds)).0
bytes_as_units (c ∷ cs) [] hc hd = (some_byte c (encodes cs)).1 ∙ sym (some_unit c (flat_map encode_utf16 cs)).1
bytes_as_units (c ∷ cs) (d ∷ ds) hc hd =
    let p = scalars_first c cs hc in
    let q = scalars_first d ds hd in
    first_chars c d (encodes cs) (encodes ds) (flat_map encode_utf16 cs) (flat_map encode_utf16 ds) (char_is c p.0) (char_is d q.0) (bytes_as_units cs ds p.1 q.1)

-- the order of texts is that of their bytes by rank
pub text_cmp_is : (s t : List ℕ) → IsUtf8 s → IsUtf8 t → text_cmp s t ≡ ranks_cmp byte_rank s t
text_cmp_is s t hs ht =
    sym (bytes_as_units (chars s) (chars t) (scalars-chars s hs) (scalars-chars t ht)) ∙ ap (λ (x : List ℕ). ranks_cmp byte_rank x (encodes (chars t))) (encodes-chars s hs) ∙ ap (λ (x : List ℕ). ranks_cmp byte_rank s x) (encodes-chars t ht)

-- units tell characters apart
level_itself : (xs : List ℕ) → ranks_cmp itself xs xs ≡ Equal
level_itself xs = tied_itself (ranks_total itself) xs

chars_same : (cs ds : List ℕ) → scalars cs ≡ true → scalars ds ≡ true → flat_map encode_utf16 cs ≡ flat_map encode_utf16 ds → cs ≡ ds
chars_same [] [] hc hd e = refl
chars_same [] (d ∷ ds) hc hd e =
    let less = (some_unit d (flat_map encode_utf16 ds)).0 in
    let level : ranks_cmp itself [] (flat_map encode_utf16 (d ∷ ds)) ≡ Equal = ap (ranks_cmp itself []) (sym e) in absurd (cc)
chars_same (c ∷ cs) [] hc hd e =
    let more = (some_unit c (flat_map encode_utf16 cs)).1 in
    let level : ranks_cmp itself (flat_map encode_utf16 (c ∷ cs)) [] ≡ Equal = ap (λ (x : List ℕ). ranks_cmp itself x []) e in absurd (cc)
chars_same (c ∷ cs) (d ∷ ds) hc hd e =
    let p = scalars_first c cs hc in
    let q = scalars_first d ds hd in
    let r = flat_map encode_utf16 cs in
    let t = flat_map encode_utf16 ds in
    let level : ranks_cmp itself (encode_utf16 c ++ r) (encode_utf16 d ++ t) ≡ Equal = ap (ranks_cmp itself (encode_utf16 c ++ r)) (sym e) ∙ level_itself (encode_utf16 c ++ r) in
    let back : ranks_cmp itself (encode_utf16 d ++ t) (encode_utf16 c ++ r) ≡ Equal = ap (λ (x : List ℕ). ranks_cmp itself x (encode_utf16 c ++ r)) (sym e) ∙ level_itself (encode_utf16 c ++ r) in
    let same : c ≡ d = ⊎_elim
    (λ (below : key c < key d). let less = units_less c d r t (char_is c p.0) (char_is d q.0) below in absurd (cc))
    (λ (g : key d ≤ key c). ⊎_elim
    (λ (above : key d < key c). let less = units_less d c t r (char_is d q.0) (char_is c p.0) above in absurd (cc))
    (λ (l : key c ≤ key d). key_same c d (char_is c p.0) (char_is d q.0) (omega arith))
    (cases_lt (key d) (key c)))
    (cases_lt (key c) (key d)) in
    let rest : r ≡ t = append_cancel_left (encode_utf16 c) r t (e ∙ ap (λ (x : ℕ). encode_utf16 x ++ t) (sym same)) in
    ap (λ (x : ℕ). x ∷ cs) same ∙ ap (λ (x : List ℕ). d ∷ x) (chars_same cs ds p.1 q.1 rest)

-- units tell texts apart
pub units_same : (s t : List ℕ) → IsUtf8 s → IsUtf8 t → units s ≡ units t → s ≡ t
units_same s t hs ht e = sym (encodes-chars s hs) ∙ ap encodes (chars_same (chars s) (chars t) (scalars-chars s hs) (scalars-chars t ht) e) ∙ encodes-chars t ht

-- texts that the order calls equal are one
pub level_same : (s t : List ℕ) → IsUtf8 s → IsUtf8 t → text_cmp s t ≡ Equal → s ≡ t
level_same s t hs ht e = units_same s t hs ht ((bytes_eq-Decides (units s) (units t)).0 (sym (is_eq-slice_cmp (units s) (units t)) ∙ ap is_eq e))

pub text_order : IsTotalOrder text_cmp
text_order = on_total units nat_list_cmp_total

-- ranks tell bytes apart
pub ranks_apart : (b e : ℕ) → b < 256 → e < 256 → b ≢ e → byte_rank b ≢ byte_rank e
ranks_apart b e hb he h = let rb = rank_is b in let re = rank_is e in λ same. h (same_byte b e hb he same)
  where
    same_byte : (b e : ℕ) → b < 256 → e < 256 → byte_rank b ≡ byte_rank e → b ≡ e
    same_byte b e hb he same = let rb = rank_is b in let re = rank_is e in grind arith
