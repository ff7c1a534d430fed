-- The terms of a column, from its texts with their uses.
use Rattle.std.proofs.Common.{◌≡◌, refl, ap, sym, ◌∙◌, subst, ℕ, zero, suc, ◌+◌, ◌<◌, ◌++◌, List, [], ◌∷◌, length, bytes_eq, get_or, true, false, cond, All, Contains, IsUtf8, IsPermutation, IsSortedByKey, is_lt, arith}
use Rattle.std.specs.declared.cmp.Ordering.{Ordering}
use Rattle.std.specs.declared.cmp.Ordering.TheVariants.{Less, Equal, Greater}
use Rattle.std.specs.Ordering.{ordering_reverse}
use Rattle.std.specs.List.{AllByRecursion, IsDistinct}
use Rattle.std.specs.List.Sorted.{IsStrictlySortedBy}
use Rattle.std.proofs.lemmas.Bool.{false≢true}
use Rattle.std.proofs.lemmas.List.{append-nil, length-map}
use Rattle.std.proofs.lemmas.List.Sorted.{IsPermutation-map, All-permutation, Contains-permutation}
use Rattle.std.proofs.lemmas.Map.Keys.{IsDistinct-IsPermutation, apart_from_distinct, sorted_from_all_adjacent}
use Rattle.std.proofs.lemmas.Slice.Eq.{bytes_eq-Decides}
use Rattle.lu_prims.specs.Order.{text_cmp}
use Rattle.lu_prims.proofs.Units.{level_same, text_order}
use Rattle.seg_writer.specs.declared.appearance.Appearance.{Appearance}
use Rattle.seg_writer.specs.declared.inverted.Inverted.{Inverted}
use Rattle.seg_writer.specs.declared.inverted.Use.{Use}
use Rattle.seg_writer.specs.Columns.{uses_of}
use Rattle.seg_writer.specs.SortedUses.{AreGrouped, AreSortedUses, listed_uses}
use Rattle.seg_writer.specs.Texts.{AreInverted, texts_in}
use Rattle.seg_writer.proofs.GroupLemmas.{filter-sorted}
pub use Rattle.seg_writer.proofs.GroupedLemmas.{bytes_symm}

-- what is not below and not level is above
above : (o : Ordering) → is_lt o ≡ false → (o ≡ Equal → ⊥) → o ≡ Greater
above Less h k = absurd (false≢true (sym h))
above Equal h k = absurd (k refl)
above Greater h k = refl

-- texts that are sorted and differ rise
pub rise_next : (s t : List ℕ) → IsUtf8 s → IsUtf8 t → is_lt (text_cmp t s) ≡ false → bytes_eq s t ≡ false → text_cmp s t ≡ Less
rise_next s t us ut sorted apart =
    text_order.antisymm s t ∙ ap ordering_reverse (above (text_cmp t s) sorted (λ e. false≢true (sym apart ∙ (bytes_eq-Decides s t).1 (sym (level_same t s ut us e)))))

abbrev text_of : Inverted → List ℕ
text_of t = t.text.now

rise_all : (xs : List Inverted) → IsDistinct bytes_eq (texts_in xs) → All (λ (t : Inverted). IsUtf8 t.text.now) xs → IsSortedByKey text_of text_cmp xs → (k : ℕ) → k + 1 < length (texts_in xs) → text_cmp (get_or (texts_in xs) k []) (get_or (texts_in xs) (k + 1) []) ≡ Less
rise_all [] apart utf8 sorted k lt = absurd (omega (arith, lt))
rise_all (x ∷ xs) apart utf8 sorted k lt =
    let all = x ∷ xs in
    let size = length-map all text_of in
    let next : k + 1 < length all = subst (λ n. k + 1 < n) size lt in
    let here : k < length all = omega (arith, next) in
    let a = get_or all k x in
    let b = get_or all (k + 1) x in
    let first : get_or (texts_in all) k [] ≡ a.text.now = text_for all k x here in
    let second : get_or (texts_in all) (k + 1) [] ≡ b.text.now = text_for all (k + 1) x next in
    let differ : bytes_eq a.text.now b.text.now ≡ false = (λ i. bytes_eq (sym first i) (sym second i)) ∙ apart_from_distinct bytes_eq (texts_in all) k (k + 1) [] apart (omega arith) lt in
    (λ i. text_cmp (first i) (second i)) ∙ rise_next a.text.now b.text.now (utf8 k x here) (utf8 (k + 1) x next) (sorted k x (omega arith) next) differ
  where
    text_for : (ts : List Inverted) (k : ℕ) (u : Inverted) → k < length ts → get_or (texts_in ts) k [] ≡ (get_or ts k u).text.now
    text_for [] k u lt = absurd (omega (arith, lt))
    text_for (t ∷ ts) zero u lt = refl
    text_for (t ∷ ts) (suc k) u lt = text_for ts k u (omega (arith, lt))

rises : (ts us : List Inverted) → IsDistinct bytes_eq (texts_in ts) → IsPermutation ts us → IsSortedByKey text_of text_cmp us → All (λ (t : Inverted). IsUtf8 t.text.now) ts → IsStrictlySortedBy text_cmp (texts_in us)
rises ts us distinct moved sorted utf8 =
    let apart : IsDistinct bytes_eq (texts_in us) = IsDistinct-IsPermutation bytes_eq bytes_symm (texts_in ts) (texts_in us) (IsPermutation-map text_of ts us moved) distinct in
    sorted_from_all_adjacent text_order (texts_in us) [] (rise_all us apart (All-permutation (λ (t : Inverted). IsUtf8 t.text.now) ts us moved utf8) sorted)

-- a text that the list has uses for is there
there : (q : List ℕ) (ts : List Inverted) → 0 < length (listed_uses q ts) → Contains (texts_in ts) q
there q [] some = absurd (omega (arith, some))
there q (t ∷ ts) some = elim (bytes_eq q t.text.now) as (λ b. bytes_eq q t.text.now ≡ b → 0 < length (cond b t.uses.now [] ++ listed_uses q ts) → Contains (texts_in (t ∷ ts)) q) [
  | true ↦ λ same k. (0, omega arith, sym ((bytes_eq-Decides q t.text.now).0 same))
  | false ↦ λ other k. let at = there q ts k in (suc at.0, grind (arith, at.1), at.2)
] refl some

-- a text that is none of the list has no uses there
none-listed : (q : List ℕ) (ts : List Inverted) → AllByRecursion (λ text. bytes_eq q text ≡ false) (texts_in ts) → listed_uses q ts ≡ []
none-listed q [] none = refl
none-listed q (t ∷ ts) none = ap (λ b. cond b t.uses.now [] ++ listed_uses q ts) none.0 ∙ none-listed q ts none.1

other-at : (q : List ℕ) (ts : List Inverted) (k : ℕ) (d : Inverted) → k < length ts → AllByRecursion (λ text. bytes_eq q text ≡ false) (texts_in ts) → bytes_eq q (get_or ts k d).text.now ≡ false
other-at q [] k d lt none = absurd (omega (arith, lt))
other-at q (t ∷ ts) zero d lt none = none.0
other-at q (t ∷ ts) (suc k) d lt none = other-at q ts k d (omega (arith, lt)) none.1

-- the list has at a term's text the term's uses
own-listed : (ts : List Inverted) → IsDistinct bytes_eq (texts_in ts) → All (λ (t : Inverted). listed_uses t.text.now ts ≡ t.uses.now) ts
unfolding IsDistinct
own-listed [] distinct k d lt = absurd (omega (arith, lt))
own-listed (t ∷ ts) distinct zero d lt =
    ap (λ b. cond b t.uses.now [] ++ listed_uses t.text.now ts) ((bytes_eq-Decides t.text.now t.text.now).1 refl) ∙ ap (λ w. t.uses.now ++ w) (none-listed t.text.now ts distinct.0) ∙ append-nil t.uses.now
own-listed (t ∷ ts) distinct (suc k) d lt =
    let u = get_or ts k d in
    let within : k < length ts = omega (arith, lt) in
    ap (λ b. cond b t.uses.now [] ++ listed_uses u.text.now ts) (bytes_symm u.text.now t.text.now ∙ other-at t.text.now ts k d within distinct.0) ∙ own-listed ts distinct.1 k d within

pub are_terms : (column : List Appearance) (uses : List Use) (ts us : List Inverted) → AreSortedUses column uses → AreGrouped column uses ts [] → IsPermutation ts us → IsSortedByKey (λ (t : Inverted). t.text.now) text_cmp us → AreInverted column us
are_terms column uses ts us s g moved sorted =
    let at : (q : List ℕ) → listed_uses q ts ≡ uses_of q column = λ q. sym (append-nil (listed_uses q ts)) ∙ g.listed q ∙ filter-sorted column uses s q in
    let own = own-listed ts g.distinct in
    record {
      rise = rises ts us g.distinct moved sorted g.utf8;
      uses = All-permutation (λ (t : Inverted). (t.uses.now ≡ uses_of t.text.now column) × (0 < length t.uses.now)) ts us moved (λ k d lt. let t = get_or ts k d in (sym (own k d lt) ∙ at t.text.now, g.some k d lt));
      utf8 = All-permutation (λ (t : Inverted). IsUtf8 t.text.now) ts us moved g.utf8;
      complete = λ q some. Contains-permutation (texts_in ts) (texts_in us) q (IsPermutation-map (λ (t : Inverted). t.text.now) ts us moved) (there q ts (subst (λ w. 0 < length w) (sym (at q)) some));
    }
