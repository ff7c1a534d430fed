-- A quoted text tells its text, and is UTF-8 where the text is.
use Rattle.std.proofs.Common.{◌≡◌, ◌≢◌, ◌⊎◌, ℕ, zero, suc, ◌+◌, ◌/◌, ◌%◌, ◌<◌, ◌≤◌, ◌&&◌, Bool, true, List, [], ◌∷◌, ◌++◌, refl, sym, ap, subst, ◌∙◌, ⊎_elim, inl, inr, append_assoc, arith}
use Rattle.std.specs.Char.{digit_char, digit_value}
use Rattle.std.specs.List.{AllByRecursion, flat_map}
use Rattle.std.specs.Str.{IsAscii, IsUtf8, chars}
use Rattle.std.proofs.Math.Utf8.{encode, encodes, next, scalars, scalar}
use Rattle.std.proofs.lemmas.Bool.{cases_lt}
use Rattle.std.proofs.lemmas.Bool.Decides.{nat_tests}
use Rattle.std.proofs.lemmas.List.{append-nil}
use Rattle.std.proofs.lemmas.List.Concat.{flat_map-append}
use Rattle.std.proofs.lemmas.Str.{digit_value-digit_char, IsUtf8-append, IsUtf8-from_ascii, IsUtf8-nil, encodes-chars, scalars-chars}
use Rattle.lu_prims.specs.Quoted.{by_number, escaped, quoted_text}
use Rattle.lu_prims.proofs.Units.{encode_one, encode_two, encode_three, encode_four, scalars_first}

-- how a byte is written: with a mark, by its number or as it stands
marked : (b : ℕ) → (b ≡ 34) ⊎ (b ≡ 92) → escaped b ≡ 92 ∷ b ∷ []
marked b h = grind (arith, nat_tests)

numbered : (b : ℕ) → b < 32 → escaped b ≡ by_number b
numbered b h = grind (arith, nat_tests)

plain : (b : ℕ) → 32 ≤ b → b ≢ 34 → b ≢ 92 → escaped b ≡ b ∷ []
plain b h g f = grind (arith, nat_tests)

kind : (b : ℕ) → (((b ≡ 34) ⊎ (b ≡ 92)) × (escaped b ≡ 92 ∷ b ∷ [])) ⊎ (((b < 32) × (escaped b ≡ by_number b)) ⊎ ((32 ≤ b) × (b ≢ 34) × (b ≢ 92) × (escaped b ≡ b ∷ [])))
kind b = ⊎_elim
    (λ (low : b < 32). inr (inl (low, numbered b low)))
    (λ (high : 32 ≤ b). ⊎_elim
    (λ (e : b ≡ 34). inl (inl e, marked b (inl e)))
    (λ (n : b ≢ 34). ⊎_elim
    (λ (e : b ≡ 92). inl (inr e, marked b (inr e)))
    (λ (m : b ≢ 92). inr (inr (high, n, m, plain b high n m)))
    (same_or_not b 92))
    (same_or_not b 34))
    (cases_lt b 32)
  where
    same_or_not : (m n : ℕ) → (m ≡ n) ⊎ (m ≢ n)
    same_or_not m n = ⊎_elim
        (λ (below : m < n). inr (λ e. omega arith))
        (λ (above : n ≤ m). ⊎_elim (λ (over : n < m). inr (λ e. omega arith)) (λ (level : m ≤ n). inl (omega arith)) (cases_lt n m))
        (cases_lt m n)

-- a hexadecimal digit tells its value
digit_same : (m n : ℕ) → m < 16 → n < 16 → digit_char m ≡ digit_char n → m ≡ n
digit_same m n h g e = sym (digit_value-digit_char m (omega arith)) ∙ ap digit_value e ∙ digit_value-digit_char n (omega arith)

by_number_same : (b c : ℕ) (r t : List ℕ) → b < 32 → c < 32 → by_number b ++ r ≡ by_number c ++ t → (b ≡ c) × (r ≡ t)
by_number_same b c r t h g e =
    let high : digit_char (b / 16) ≡ digit_char (c / 16) = cc in
    let low : digit_char (b % 16) ≡ digit_char (c % 16) = cc in
    let rest : r ≡ t = cc in
    let first = digit_same (b / 16) (c / 16) (omega arith) (omega arith) high in
    let second = digit_same (b % 16) (c % 16) (omega arith) (omega arith) low in
    (omega arith, rest)

-- a mark is neither the letter of a number nor a byte that stands as it is
mark_number : (b c : ℕ) (r t : List ℕ) → (b ≡ 34) ⊎ (b ≡ 92) → 92 ∷ b ∷ r ≡ by_number c ++ t → ⊥
mark_number b c r t h e = let letter : b ≡ 117 = cc in ⊎_elim (λ (m : b ≡ 34). omega arith) (λ (m : b ≡ 92). omega arith) h

first_byte : (b c : ℕ) (r t : List ℕ) → b ∷ r ≡ c ∷ t → (b ≡ c) × (r ≡ t)
first_byte b c r t e = (cc, cc)

second_byte : (x b c : ℕ) (r t : List ℕ) → x ∷ b ∷ r ≡ x ∷ c ∷ t → (b ≡ c) × (r ≡ t)
second_byte x b c r t e = (cc, cc)

-- two written bytes that begin alike are one
written_same : (b c : ℕ) (r t : List ℕ) → escaped b ++ r ≡ escaped c ++ t → (b ≡ c) × (r ≡ t)
written_same b c r t e =
    let both : (x y : List ℕ) → escaped b ≡ x → escaped c ≡ y → x ++ r ≡ y ++ t =
    λ x y p q. ap (λ (z : List ℕ). z ++ r) (sym p) ∙ e ∙ ap (λ (z : List ℕ). z ++ t) q in
    ⊎_elim
    (λ (m : ((b ≡ 34) ⊎ (b ≡ 92)) × (escaped b ≡ 92 ∷ b ∷ [])). ⊎_elim
    (λ (k : ((c ≡ 34) ⊎ (c ≡ 92)) × (escaped c ≡ 92 ∷ c ∷ [])). second_byte 92 b c r t (both (92 ∷ b ∷ []) (92 ∷ c ∷ []) m.1 k.1))
    (λ (o : ((c < 32) × (escaped c ≡ by_number c)) ⊎ ((32 ≤ c) × (c ≢ 34) × (c ≢ 92) × (escaped c ≡ c ∷ []))). ⊎_elim
    (λ (k : (c < 32) × (escaped c ≡ by_number c)). absurd (mark_number b c r t m.0 (both (92 ∷ b ∷ []) (by_number c) m.1 k.1)))
    (λ (k : (32 ≤ c) × (c ≢ 34) × (c ≢ 92) × (escaped c ≡ c ∷ [])). absurd (k.2 (sym (first_byte 92 c (b ∷ r) t (both (92 ∷ b ∷ []) (c ∷ []) m.1 k.3)).0)))
    o)
    (kind c))
    (λ (n : ((b < 32) × (escaped b ≡ by_number b)) ⊎ ((32 ≤ b) × (b ≢ 34) × (b ≢ 92) × (escaped b ≡ b ∷ []))). ⊎_elim
    (λ (m : (b < 32) × (escaped b ≡ by_number b)). ⊎_elim
    (λ (k : ((c ≡ 34) ⊎ (c ≡ 92)) × (escaped c ≡ 92 ∷ c ∷ [])). absurd (mark_number c b t r k.0 (sym (both (by_number b) (92 ∷ c ∷ []) m.1 k.1))))
    (λ (o : ((c < 32) × (escaped c ≡ by_number c)) ⊎ ((32 ≤ c) × (c ≢ 34) × (c ≢ 92) × (escaped c ≡ c ∷ []))). ⊎_elim
    (λ (k : (c < 32) × (escaped c ≡ by_number c)). by_number_same b c r t m.0 k.0 (both (by_number b) (by_number c) m.1 k.1))
    (λ (k : (32 ≤ c) × (c ≢ 34) × (c ≢ 92) × (escaped c ≡ c ∷ [])). absurd (k.2 (sym (first_byte 92 c (117 ∷ 48 ∷ 48 ∷ digit_char (b / 16) ∷ digit_char (b % 16) ∷ r) t (both (by_number b) (c ∷ []) m.1 k.3)).0)))
    o)
    (kind c))
    (λ (m : (32 ≤ b) × (b ≢ 34) × (b ≢ 92) × (escaped b ≡ b ∷ [])). ⊎_elim
    (λ (k : ((c ≡ 34) ⊎ (c ≡ 92)) × (escaped c ≡ 92 ∷ c ∷ [])). absurd (m.2 (first_byte b 92 r (c ∷ t) (both (b ∷ []) (92 ∷ c ∷ []) m.3 k.1)).0))
    (λ (o : ((c < 32) × (escaped c ≡ by_number c)) ⊎ ((32 ≤ c) × (c ≢ 34) × (c ≢ 92) × (escaped c ≡ c ∷ []))). ⊎_elim
    (λ (k : (c < 32) × (escaped c ≡ by_number c)). absurd (m.2 (first_byte b 92 r (117 ∷ 48 ∷ 48 ∷ digit_char (c / 16) ∷ digit_char (c % 16) ∷ t) (both (b ∷ []) (by_number c) m.3 k.1)).0))
    (λ (k : (32 ≤ c) × (c ≢ 34) × (c ≢ 92) × (escaped c ≡ c ∷ [])). first_byte b c r t (both (b ∷ []) (c ∷ []) m.3 k.3))
    o)
    (kind c))
    n)
    (kind b)

-- no written byte begins with the quote
not_quote : (c : ℕ) (r t : List ℕ) → 34 ∷ r ≡ escaped c ++ t → ⊥
not_quote c r t e =
    let to : (x : List ℕ) → escaped c ≡ x → 34 ∷ r ≡ x ++ t = λ x p. e ∙ ap (λ (z : List ℕ). z ++ t) p in
    ⊎_elim
    (λ (k : ((c ≡ 34) ⊎ (c ≡ 92)) × (escaped c ≡ 92 ∷ c ∷ [])). let h = first_byte 34 92 r (c ∷ t) (to (92 ∷ c ∷ []) k.1) in omega arith)
    (λ (o : ((c < 32) × (escaped c ≡ by_number c)) ⊎ ((32 ≤ c) × (c ≢ 34) × (c ≢ 92) × (escaped c ≡ c ∷ []))). ⊎_elim
    (λ (k : (c < 32) × (escaped c ≡ by_number c)). let h = first_byte 34 92 r (117 ∷ 48 ∷ 48 ∷ digit_char (c / 16) ∷ digit_char (c % 16) ∷ t) (to (by_number c) k.1) in omega arith)
    (λ (k : (32 ≤ c) × (c ≢ 34) × (c ≢ 92) × (escaped c ≡ c ∷ [])). let h = first_byte 34 c r t (to (c ∷ []) k.3) in omega arith)
    o)
    (kind c)

inside_same : (s t : List ℕ) → flat_map escaped s ++ 34 ∷ [] ≡ flat_map escaped t ++ 34 ∷ [] → s ≡ t
inside_same [] [] e = refl
inside_same [] (c ∷ t) e = absurd (not_quote c [] (flat_map escaped t ++ 34 ∷ []) (e ∙ append_assoc (escaped c) (flat_map escaped t) (34 ∷ [])))
inside_same (b ∷ s) [] e = absurd (not_quote b [] (flat_map escaped s ++ 34 ∷ []) (sym e ∙ append_assoc (escaped b) (flat_map escaped s) (34 ∷ [])))
inside_same (b ∷ s) (c ∷ t) e =
    let parts = written_same b c (flat_map escaped s ++ 34 ∷ []) (flat_map escaped t ++ 34 ∷ []) (sym (append_assoc (escaped b) (flat_map escaped s) (34 ∷ [])) ∙ e ∙ append_assoc (escaped c) (flat_map escaped t) (34 ∷ [])) in
    ap (λ (x : ℕ). x ∷ s) parts.0 ∙ ap (λ (x : List ℕ). c ∷ x) (inside_same s t parts.1)

-- texts that are quoted alike are one
pub quoted_same : (s t : List ℕ) → quoted_text s ≡ quoted_text t → s ≡ t
quoted_same s t e = inside_same s t (first_byte 34 34 (flat_map escaped s ++ 34 ∷ []) (flat_map escaped t ++ 34 ∷ []) e).1

-- ---- UTF-8

ascii_all : (bs : List ℕ) → AllByRecursion (λ b. b < 128) bs → IsAscii bs
ascii_all [] a i = omega arith
ascii_all (b ∷ bs) a zero = a.0
ascii_all (b ∷ bs) a (suc i) = ascii_all bs a.1 i

digit_ascii : (d : ℕ) → d < 16 → digit_char d < 128
digit_ascii d h = grind (arith, nat_tests)

-- a byte below 128 is written in such bytes
written_ascii : (b : ℕ) → b < 128 → IsAscii (escaped b)
written_ascii b h = ⊎_elim
    (λ (k : ((b ≡ 34) ⊎ (b ≡ 92)) × (escaped b ≡ 92 ∷ b ∷ [])). subst IsAscii (sym k.1) (ascii_all (92 ∷ b ∷ []) (omega arith, (h, tt))))
    (λ (o : ((b < 32) × (escaped b ≡ by_number b)) ⊎ ((32 ≤ b) × (b ≢ 34) × (b ≢ 92) × (escaped b ≡ b ∷ []))). ⊎_elim
    (λ (k : (b < 32) × (escaped b ≡ by_number b)). subst IsAscii (sym k.1)
    (ascii_all (by_number b) (omega arith, (omega arith, (omega arith, (omega arith, (digit_ascii (b / 16) (omega arith), (digit_ascii (b % 16) (omega arith), tt))))))))
    (λ (k : (32 ≤ b) × (b ≢ 34) × (b ≢ 92) × (escaped b ≡ b ∷ [])). subst IsAscii (sym k.3) (ascii_all (b ∷ []) (h, tt)))
    o)
    (kind b)

-- bytes from 128 on stand as they are
stand : (bs : List ℕ) → AllByRecursion (λ b. 128 ≤ b) bs → flat_map escaped bs ≡ bs
stand [] a = refl
stand (b ∷ bs) a =
    let low : 128 ≤ b = a.0 in
    ap (λ (x : List ℕ). x ++ flat_map escaped bs) (plain b (omega arith) (λ f. omega arith) (λ f. omega arith)) ∙ ap (λ (x : List ℕ). b ∷ x) (stand bs a.1)

high_stands : (c : ℕ) → 128 ≤ c → flat_map escaped (encode c) ≡ encode c
high_stands c h = ⊎_elim
    (λ (a : c < 0x800). by (encode_two c h a) (stand ((0xC0 + c / 64) ∷ next c ∷ []) (omega arith, (omega arith, tt))))
    (λ (a : 0x800 ≤ c). ⊎_elim
    (λ (b : c < 0x1_0000). by (encode_three c a b) (stand ((0xE0 + c / 4096) ∷ next (c / 64) ∷ next c ∷ []) (omega arith, (omega arith, (omega arith, tt)))))
    (λ (b : 0x1_0000 ≤ c). by (encode_four c b) (stand ((0xF0 + c / 262144) ∷ next (c / 4096) ∷ next (c / 64) ∷ next c ∷ []) (omega arith, (omega arith, (omega arith, (omega arith, tt))))))
    (cases_lt c 0x1_0000))
    (cases_lt c 0x800)
  where
    by : {xs ys : List ℕ} → xs ≡ ys → flat_map escaped ys ≡ ys → flat_map escaped xs ≡ xs
    by e f = ap (flat_map escaped) e ∙ f ∙ sym e

written_char : (c : ℕ) → scalar c ≡ true → IsUtf8 (flat_map escaped (encode c))
written_char c s = ⊎_elim
    (λ (a : c < 128). subst IsUtf8 (sym (ap (flat_map escaped) (encode_one c a) ∙ append-nil (escaped c))) (IsUtf8-from_ascii (escaped c) (written_ascii c a)))
    (λ (a : 128 ≤ c). subst IsUtf8 (sym (high_stands c a)) (c ∷ [], (ap (λ (x : Bool). x && true) s, append-nil (encode c))))
    (cases_lt c 128)

written_chars : (cs : List ℕ) → scalars cs ≡ true → IsUtf8 (flat_map escaped (encodes cs))
written_chars [] s = IsUtf8-nil
written_chars (c ∷ cs) s =
    let p = scalars_first c cs s in
    subst IsUtf8 (sym (flat_map-append escaped (encode c) (encodes cs))) (IsUtf8-append (flat_map escaped (encode c)) (flat_map escaped (encodes cs)) (written_char c p.0) (written_chars cs p.1))

quote_utf8 : IsUtf8 (34 ∷ [])
quote_utf8 = IsUtf8-from_ascii (34 ∷ []) (ascii_all (34 ∷ []) (omega arith, tt))

-- a quoted text is UTF-8
pub quoted_utf8 : (s : List ℕ) → IsUtf8 s → IsUtf8 (quoted_text s)
quoted_utf8 s h =
    let inside : IsUtf8 (flat_map escaped s) = subst (λ (x : List ℕ). IsUtf8 (flat_map escaped x)) (encodes-chars s h) (written_chars (chars s) (scalars-chars s h)) in
    IsUtf8-append (34 ∷ flat_map escaped s) (34 ∷ []) (IsUtf8-append (34 ∷ []) (flat_map escaped s) quote_utf8 inside) quote_utf8
