-- What a sound last text is, and the text that stands before the next one.
use Rattle.std.proofs.Common.{◌≡◌, Bool, true, false, cond, [], Some, None, refl, sym, ap}
use Rattle.std.specs.Option.{unwrap_or}
use Rattle.term_vectors.specs.declared.texts.LastText.{LastText}
use Rattle.term_vectors.specs.InnerTexts.{text_before, IsSoundText}

-- the bytes are those of the text, or none
pub text_or_none : (last : LastText) → IsSoundText last → unwrap_or (text_before last) [] ≡ last.bytes.items
text_or_none last sound = go last.is_some refl
  where
    go : (b : Bool) → last.is_some ≡ b → unwrap_or (cond b (Some last.bytes.items) None) [] ≡ last.bytes.items
    go true is = refl
    go false is = sym (sound.none is)

pub text_before-some : (last : LastText) → last.is_some ≡ true → text_before last ≡ Some last.bytes.items
text_before-some last is = ap (λ (b : Bool). cond b (Some last.bytes.items) None) is

pub text_before-none : (last : LastText) → last.is_some ≡ false → text_before last ≡ None
text_before-none last is = ap (λ (b : Bool). cond b (Some last.bytes.items) None) is
