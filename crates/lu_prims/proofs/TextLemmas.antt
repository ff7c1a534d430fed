-- Texts in two pieces: their order by what follows what they share, and UTF-8.
use Rattle.std.proofs.Common.{◌≡◌, ℕ, Bool, true, false, ◌&&◌, List, [], ◌∷◌, ◌++◌, length, take, drop, refl, sym, ap, subst, ◌∙◌, append_assoc, arith}
use Rattle.std.specs.Str.{IsUtf8, is_utf8}
use Rattle.std.proofs.Math.Utf8.{encode, encodes, scalars, scalar}
use Rattle.std.proofs.lemmas.Str.{encode_same, length-encode, len_utf8_bounds, IsUtf8-append, is_utf8-from_IsUtf8, IsUtf8-from_is_utf8}
use Rattle.std.proofs.lemmas.List.{length-append, take-append-drop}
use Rattle.lu_prims.specs.Order.{byte_rank, text_cmp, bytes_cmp}
use Rattle.lu_prims.proofs.OrderLemmas.{level_front}
use Rattle.lu_prims.proofs.Units.{text_cmp_is}

both : (a b : Bool) → (a && b) ≡ true → b ≡ true
both true b e = e
both false b e = cc

-- what follows a text in a text is a text
rest_of : (ca cs : List ℕ) (b : List ℕ) → scalars cs ≡ true → encodes cs ≡ encodes ca ++ b → IsUtf8 b
rest_of [] cs b valid e = (cs, (valid, e))
rest_of (c ∷ ca) [] b valid e =
    let some = len_utf8_bounds c in
    absurd (omega (arith, ap length e, length-append (encode c ++ encodes ca) b, length-append (encode c) (encodes ca), length-encode c, some.0))
rest_of (c ∷ ca) (d ∷ cs) b valid e = rest_of ca cs b (both (scalar d) (scalars cs) valid) (encode_same d c (encodes cs) (encodes ca ++ b) (e ∙ append_assoc (encode c) (encodes ca) b)).1

pub IsUtf8-rest : (a b : List ℕ) → IsUtf8 a → IsUtf8 (a ++ b) → IsUtf8 b
IsUtf8-rest a b (ca, (valid_a, is_a)) (cs, (valid, is)) = rest_of ca cs b valid (is ∙ ap (λ (t : List ℕ). t ++ b) (sym is_a))

-- bytes after a text are a text exactly where all of them are
pub is_utf8-after : (bs : List ℕ) (from : ℕ) → IsUtf8 (take from bs) → IsUtf8 (drop from bs) → is_utf8 bs ≡ true
is_utf8-after bs from front back = is_utf8-from_IsUtf8 bs (subst IsUtf8 (take-append-drop from bs) (IsUtf8-append (take from bs) (drop from bs) front back))

pub is_utf8-not_after : (bs : List ℕ) (from : ℕ) → IsUtf8 (take from bs) → (IsUtf8 (drop from bs) → ⊥) → is_utf8 bs ≡ false
is_utf8-not_after bs from front not_text = go (is_utf8 bs) refl
  where
    go : (b : Bool) → is_utf8 bs ≡ b → b ≡ false
    go true e = absurd (not_text (IsUtf8-rest (take from bs) (drop from bs) front (subst IsUtf8 (sym (take-append-drop from bs)) (IsUtf8-from_is_utf8 bs e))))
    go false e = refl

-- texts that share their first bytes are as the bytes that follow
pub text_cmp-tail : (s x : List ℕ) (p : ℕ) → IsUtf8 s → IsUtf8 (take p s ++ x) → text_cmp s (take p s ++ x) ≡ bytes_cmp (drop p s) x
text_cmp-tail s x p hs ht =
    text_cmp_is s (take p s ++ x) hs ht ∙ ap (λ (t : List ℕ). bytes_cmp t (take p s ++ x)) (sym (take-append-drop p s)) ∙ level_front byte_rank (take p s) (drop p s) x
