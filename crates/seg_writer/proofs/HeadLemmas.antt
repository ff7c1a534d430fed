-- Texts with the same head.
use Rattle.std.proofs.Common.{◌≡◌, refl, ap, sym, ◌∙◌, subst, ℕ, zero, suc, ◌%◌, ◌<◌, ◌≤◌, List, length, get_or, true, false, cond, nat_lt, IsUtf8, arith}
use Rattle.std.specs.Int.{w64, to_be_bytes}
use Rattle.std.proofs.lemmas.Bool.{ltb-true}
use Rattle.std.proofs.lemmas.Grind.{same_number_lists}
use Rattle.std.proofs.lemmas.Nat.{be_bytes_8}
use Rattle.lu_grammar.proofs.SpelledBytes.{IsBytes-utf8}
use Rattle.seg_writer.specs.Heads.{head_bytes, is_whole, text_head, told_length}

told-small : (text : List ℕ) → told_length text ≤ 8
told-small text = elim (nat_lt (length text) 8) as (λ b. nat_lt (length text) 8 ≡ b → cond b (length text) 8 ≤ 8) [
  | true ↦ λ e. let lt = ltb-true (length text) 8 e in omega (arith, lt)
  | false ↦ λ e. omega arith
] refl

bytes-small : (text : List ℕ) → IsUtf8 text → (i : ℕ) → get_or (head_bytes text) i 0 < 256
bytes-small text utf8 zero = IsBytes-utf8 text utf8 0
bytes-small text utf8 (suc zero) = IsBytes-utf8 text utf8 1
bytes-small text utf8 (suc (suc zero)) = IsBytes-utf8 text utf8 2
bytes-small text utf8 (suc (suc (suc zero))) = IsBytes-utf8 text utf8 3
bytes-small text utf8 (suc (suc (suc (suc zero)))) = IsBytes-utf8 text utf8 4
bytes-small text utf8 (suc (suc (suc (suc (suc zero))))) = IsBytes-utf8 text utf8 5
bytes-small text utf8 (suc (suc (suc (suc (suc (suc zero)))))) = IsBytes-utf8 text utf8 6
bytes-small text utf8 (suc (suc (suc (suc (suc (suc (suc zero))))))) = let small = told-small text in omega (arith, small)
bytes-small text utf8 (suc (suc (suc (suc (suc (suc (suc (suc i)))))))) = omega arith

-- a head is its bytes
head-bytes : (text : List ℕ) → IsUtf8 text → to_be_bytes w64 (text_head text) ≡ head_bytes text
unfolding text_head
head-bytes text utf8 = be_bytes_8 (head_bytes text) (text_head text) refl (bytes-small text utf8) refl

head-told : (text : List ℕ) → IsUtf8 text → text_head text % 256 ≡ told_length text
head-told text utf8 =
    let last : get_or (to_be_bytes w64 (text_head text)) 7 0 ≡ told_length text = ap (λ bytes. get_or bytes 7 0) (head-bytes text utf8) in
    omega (arith, last)

whole-told : (text : List ℕ) → IsUtf8 text → is_whole (text_head text) ≡ true → (length text < 8) × (told_length text ≡ length text)
whole-told text utf8 whole =
    let told = head-told text utf8 in
    let below = ltb-true (text_head text % 256) 8 whole in
    elim (nat_lt (length text) 8) as (λ b. nat_lt (length text) 8 ≡ b → cond b (length text) 8 < 8 → (length text < 8) × (cond b (length text) 8 ≡ length text)) [
      | true ↦ λ e lt. (ltb-true (length text) 8 e, refl)
      | false ↦ λ e lt. absurd (omega (arith, lt))
    ] refl (omega (arith, told, below))

byte-told : (text : List ℕ) (i : ℕ) → i < 7 → get_or text i 0 ≡ get_or (head_bytes text) i 0
byte-told text zero lt = refl
byte-told text (suc zero) lt = refl
byte-told text (suc (suc zero)) lt = refl
byte-told text (suc (suc (suc zero))) lt = refl
byte-told text (suc (suc (suc (suc zero)))) lt = refl
byte-told text (suc (suc (suc (suc (suc zero))))) lt = refl
byte-told text (suc (suc (suc (suc (suc (suc zero)))))) lt = refl
byte-told text (suc (suc (suc (suc (suc (suc (suc i))))))) lt = absurd (omega (arith, lt))

-- texts with the same head are the same where the head tells them whole
pub head-same : (s t : List ℕ) → IsUtf8 s → IsUtf8 t → text_head s ≡ text_head t → is_whole (text_head s) ≡ true → s ≡ t
head-same s t us ut same whole =
    let bytes : head_bytes s ≡ head_bytes t = sym (head-bytes s us) ∙ ap (to_be_bytes w64) same ∙ head-bytes t ut in
    let first = whole-told s us whole in
    let second = whole-told t ut (subst (λ n. is_whole n ≡ true) same whole) in
    let lengths : length s ≡ length t = sym first.1 ∙ ap (λ b. get_or b 7 0) bytes ∙ second.1 in
    same_number_lists s t lengths (λ i lt. let short = first.0 in let low : i < 7 = omega (arith, lt, short) in byte-told s i low ∙ ap (λ b. get_or b i 0) bytes ∙ sym (byte-told t i low))
