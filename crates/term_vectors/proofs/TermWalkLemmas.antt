-- A walk over the terms of a vector.
use Rattle.std.proofs.Common.{◌≡◌, ℕ, suc, ◌+◌, ◌-◌, ◌<◌, ◌≤◌, List, [], ◌∷◌, length, take, Option, Some, None, Ok, sym, ap, subst, ◌∙◌, arith}
use Rattle.std.specs.Option.{unwrap_or}
use Rattle.std.proofs.lemmas.List.{length-append, length-take}
use Rattle.std.specs.Prelude.{vec_capacity}
use Rattle.std.specs.Ordering.{ord_max, nat_cmp}
use Rattle.std.proofs.lemmas.Bool.Decides.{nat_tests}
use Rattle.lu_grammar.specs.Bytes.{Cursor, place_in}
use Rattle.lu_grammar.specs.Plans.{read_plan}
use Rattle.lu_grammar.proofs.Codecs.{ok_pair, ok_of}
use Rattle.lu_model.specs.Index.{VectorTerm}
use Rattle.term_vectors.specs.declared.terms.TermParts.{TermParts}
use Rattle.term_vectors.specs.Vectors.{term_plan}
use Rattle.term_vectors.specs.declared.texts.LastText.{LastText}
use Rattle.term_vectors.specs.InnerTexts.{text_before}
use Rattle.term_vectors.specs.InnerTerms.{HasParts}
use Rattle.term_vectors.specs.InnerViews.{AreTextsWithin, terms_left, AreTermsThere, IsTermWalk}
use Rattle.term_vectors.proofs.TermLemmas.{reads_terms, terms-done}
use Rattle.term_vectors.proofs.LeftLemmas.{terms-next, terms-end, settled_left}

-- the greater of two numbers is not below them
pub ord_max-above : (a b : ℕ) → (a ≤ ord_max nat_cmp a b) × (b ≤ ord_max nat_cmp a b)
ord_max-above a b = (grind (arith, nat_tests), grind (arith, nat_tests))

-- a text is as long as what it shares with the text before and what follows
pub text-length : (tvf : List ℕ) (before : Option (List ℕ)) (t : VectorTerm) (d : Cursor) (parts : TermParts) → HasParts tvf before t d parts → length t.text ≡ parts.prefix + length parts.suffix.now
text-length tvf before t d parts h =
    let prefix = h.prefix in
    omega (arith, ap length h.text, length-append (take parts.prefix (unwrap_or before [])) parts.suffix.now, length-take parts.prefix (unwrap_or before []))

module _ (tvf : List ℕ) (bits count start : ℕ) where
  -- so many texts are passed, and none of them is longer
  pub record LongestWalk (i here longest : ℕ) : Type 0 where
    pub before : Option (List ℕ)
    pub rest : List VectorTerm
    pub end : Cursor
    pub within : here ≤ length tvf
    pub left : reads_terms bits (count - i) before (place_in tvf here) ≡ ok_pair rest end
    pub all : (most : ℕ) → longest ≤ most → AreTextsWithin most rest → AreTextsWithin most (terms_left bits count None (place_in tvf start))

  pub longest-none : start ≤ length tvf → AreTermsThere bits count None (place_in tvf start) → LongestWalk 0 start 0
  longest-none le (end, there) =
      let all : count - 0 ≡ count = omega arith in
      record { before = None; rest = terms_left bits count None (place_in tvf start); end = end; within = le; left = ap (λ (k : ℕ). reads_terms bits k None (place_in tvf start)) all ∙ there; all = λ most lt h. h }

  pub longest-next : (i here longest : ℕ) (w : LongestWalk i here longest) → i < count
      → (x : VectorTerm × Cursor) × (read_plan (term_plan bits w.before) (place_in tvf here) ≡ ok_of x) × ((rest : List VectorTerm) × (reads_terms bits (count - (i + 1)) (Some x.0.text) x.1 ≡ Ok (rest, w.end)) × (w.rest ≡ x.0 ∷ rest))
  longest-next i here longest w lt =
      let more : count - i ≡ suc (count - (i + 1)) = omega arith in
      terms-next bits (count - (i + 1)) w.before (place_in tvf here) w.rest w.end (ap (λ (k : ℕ). reads_terms bits k w.before (place_in tvf here)) (sym more) ∙ w.left)

  pub longest-more : (i here longest new : ℕ) (parts : TermParts) (w : LongestWalk i here longest) → (lt : i < count) → HasParts tvf w.before (longest-next i here longest w lt).0.0 (longest-next i here longest w lt).0.1 parts
      → longest ≤ new → parts.prefix + length parts.suffix.now ≤ new → LongestWalk (i + 1) parts.end new
  longest-more i here longest new parts w lt has old long =
      let next = longest-next i here longest w lt in
      let size = text-length tvf w.before next.0.0 next.0.1 parts has in
      record {
        before = Some next.0.0.text;
        rest = next.2.0;
        end = w.end;
        within = has.within;
        left = ap (λ (c : Cursor). reads_terms bits (count - (i + 1)) (Some next.0.0.text) c) (sym has.end) ∙ next.2.1;
        all = λ most le h. w.all most (omega arith) (subst (AreTextsWithin most) (sym next.2.2) ((omega arith), h));
      }

  pub longest-all : (i here longest : ℕ) → LongestWalk i here longest → i ≡ count → AreTextsWithin longest (terms_left bits count None (place_in tvf start))
  longest-all i here longest w is =
      let none : count - i ≡ 0 = omega arith in
      let rest = terms-end bits w.before (place_in tvf here) w.rest w.end (ap (λ (k : ℕ). reads_terms bits k w.before (place_in tvf here)) (sym none) ∙ w.left) in
      w.all longest (omega arith) (subst (AreTextsWithin longest) (sym rest) tt)

-- ---- one step of a walk

pub AreWithin-more : (a b : ℕ) (terms : List VectorTerm) → a ≤ b → AreTextsWithin a terms → AreTextsWithin b terms
AreWithin-more a b [] le h = tt
AreWithin-more a b (t ∷ terms) le (first, rest) = (omega arith, AreWithin-more a b terms le rest)

-- the next term of a walk
pub record NextTerm (tvf : List ℕ) (place bits left : ℕ) (last : LastText) : Type 0 where
  pub it : VectorTerm
  pub behind : Cursor
  pub there : read_plan (term_plan bits (text_before last)) (place_in tvf place) ≡ ok_pair it behind
  pub rest : List VectorTerm
  pub end : Cursor
  pub reads : reads_terms bits (left - 1) (Some it.text) behind ≡ ok_pair rest end
  pub all : terms_left bits left (text_before last) (place_in tvf place) ≡ it ∷ rest
  pub fits : length it.text ≤ vec_capacity last.bytes
  pub others : AreTextsWithin (vec_capacity last.bytes) rest

pub next_term : (tvf : List ℕ) (place bits left : ℕ) (last : LastText) → IsTermWalk tvf place bits left last → 0 < left → NextTerm tvf place bits left last
next_term tvf place bits left last w some =
    let more : left ≡ suc (left - 1) = omega arith in
    let before = text_before last in
    let here = place_in tvf place in
    let next = terms-next bits (left - 1) before here (terms_left bits left before here) w.there.0 (ap (λ (n : ℕ). reads_terms bits n before here) (sym more) ∙ w.there.1) in
    let room = subst (AreTextsWithin (vec_capacity last.bytes)) next.2.2 w.room in
    record { it = next.0.0; behind = next.0.1; there = next.1; rest = next.2.0; end = w.there.0; reads = next.2.1; all = next.2.2; fits = room.0; others = room.1 }

pub none_left : (bits : ℕ) (before : Option (List ℕ)) (here : Cursor) → terms_left bits 0 before here ≡ []
none_left bits before here = sym (settled_left (reads_terms bits 0 before here) ([], here) [] here (terms-done bits before here)).1
