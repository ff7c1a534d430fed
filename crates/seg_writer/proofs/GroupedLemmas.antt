-- The texts of sorted uses, one run more.
use Rattle.std.proofs.Common.{◌≡◌, refl, ap, sym, ◌∙◌, subst, ℕ, zero, suc, ◌+◌, ◌<◌, ◌≤◌, ◌++◌, List, [], ◌∷◌, length, take, drop, get_or, Bool, true, false, ◌||◌, cond, All, IsUtf8, bytes_eq, arith}
use Rattle.std.specs.Cmp.{IsEquivalence}
use Rattle.std.specs.List.{filter, list_any, AllByRecursion, IsDistinct}
use Rattle.std.specs.List.Sorted.{IsStrictlySortedBy}
use Rattle.std.proofs.lemmas.Bool.Decides.{same_from_decides}
use Rattle.std.proofs.lemmas.List.{append_assoc, append-nil, drop-drop, map-append, take-append-drop}
use Rattle.std.proofs.lemmas.List.Elements.{All-push, All-tail, filter-append}
use Rattle.std.proofs.lemmas.Map.Keys.{IsDistinct-push}
use Rattle.std.proofs.lemmas.Slice.Eq.{bytes_eq-Decides}
use Rattle.seg_writer.specs.declared.appearance.Appearance.{Appearance}
use Rattle.seg_writer.specs.declared.inverted.Inverted.{Inverted}
use Rattle.seg_writer.specs.declared.inverted.Use.{Use}
use Rattle.seg_writer.specs.Heads.{text_head}
use Rattle.seg_writer.specs.SortedUses.{AreGrouped, AreSortedUses, has_text, is_of, lead_length, listed_uses, text_at, use_cmp}
use Rattle.seg_writer.specs.Texts.{texts_in}
use Rattle.seg_writer.proofs.GroupLemmas.{filter-every, filter-none, lead-passes, lead-same, run-past, sounds, uses_rise}
use Rattle.seg_writer.proofs.PartlyLemmas.{no_use}
use Rattle.seg_writer.proofs.UseOrder.{IsSound, has_text-is}

bytes_refl : (s : List ℕ) → bytes_eq s s ≡ true
bytes_refl s = (bytes_eq-Decides s s).1 refl

pub bytes_symm : (s t : List ℕ) → bytes_eq s t ≡ bytes_eq t s
bytes_symm s t = same_from_decides (bytes_eq s t) (bytes_eq t s) (bytes_eq-Decides s t) (λ e. sym ((bytes_eq-Decides t s).0 e), λ e. (bytes_eq-Decides t s).1 (sym e))

bytes_laws : IsEquivalence bytes_eq
bytes_laws = record {
  refl = bytes_refl;
  symm = bytes_symm;
  congr = λ x y z e. ap (λ w. bytes_eq w z) ((bytes_eq-Decides x y).0 e);
}

pub each-map : {X : Type 0} (P Q : X → Type 0) → ((x : X) → P x → Q x) → (xs : List X) → AllByRecursion P xs → AllByRecursion Q xs
each-map P Q to [] h = tt
each-map P Q to (x ∷ xs) h = (to x h.0, each-map P Q to xs h.1)

each-drop : {X : Type 0} (P : X → Type 0) (n : ℕ) (xs : List X) → AllByRecursion P xs → AllByRecursion P (drop n xs)
each-drop P zero xs h = h
each-drop P (suc n) [] h = h
each-drop P (suc n) (x ∷ xs) h = each-drop P n xs h.1

rise-drop : (column : List Appearance) (n : ℕ) (xs : List Use) → IsStrictlySortedBy (use_cmp column) xs → IsStrictlySortedBy (use_cmp column) (drop n xs)
unfolding IsStrictlySortedBy
rise-drop column zero xs h = h
rise-drop column (suc n) [] h = h
rise-drop column (suc n) (x ∷ xs) h = rise-drop column n xs h.1

nil-right : (xs ys : List Use) → xs ++ ys ≡ [] → ys ≡ []
nil-right [] ys e = e
nil-right (x ∷ xs) ys e = absurd (let size = ap length e in omega (arith, size))

pub lead-fits : (p : Use → Bool) (xs : List Use) → lead_length p xs ≤ length xs
lead-fits p [] = omega arith
lead-fits p (x ∷ xs) = let rest = lead-fits p xs in elim (p x) as (λ b. cond b (suc (lead_length p xs)) 0 ≤ length (x ∷ xs)) [ true ↦ omega (arith, rest) | false ↦ omega arith ]

listed-push : (q : List ℕ) (terms : List Inverted) (t : Inverted) → listed_uses q (terms ++ t ∷ []) ≡ listed_uses q terms ++ cond (bytes_eq q t.text.now) t.uses.now []
listed-push q [] t = append-nil _
listed-push q (x ∷ terms) t = ap (λ w. cond (bytes_eq q x.text.now) x.uses.now [] ++ w) (listed-push q terms t) ∙ sym (append_assoc (cond (bytes_eq q x.text.now) x.uses.now []) (listed_uses q terms) (cond (bytes_eq q t.text.now) t.uses.now []))

any-none : (q : List ℕ) (terms : List Inverted) → All (λ (t : Inverted). bytes_eq q t.text.now ≡ false) terms → list_any (bytes_eq q) (texts_in terms) ≡ false
any-none q [] none = refl
any-none q (t ∷ terms) none =
    ap (λ b. b || list_any (bytes_eq q) (texts_in terms)) (none 0 t (omega arith)) ∙ any-none q terms (All-tail (λ (u : Inverted). bytes_eq q u.text.now ≡ false) t terms none)

module _ (column : List Appearance) (uses : List Use) (s : AreSortedUses column uses) where
  pub grouped-none : AreGrouped column uses [] uses
  unfolding IsDistinct
  grouped-none = record {
    passed = 0;
    left = refl;
    listed = λ q. refl;
    some = λ k d lt. absurd (omega (arith, lt));
    utf8 = λ k d lt. absurd (omega (arith, lt));
    distinct = tt;
    past = λ k d lt. absurd (omega (arith, lt));
  }

  module _ (terms : List Inverted) (first : Use) (more : List Use) (g : AreGrouped column uses terms (first ∷ more)) where
    sound : AllByRecursion (IsSound column) (first ∷ more)
    sound = subst (AllByRecursion (IsSound column)) (sym g.left) (each-drop (IsSound column) g.passed uses (sounds column uses s))

    rise : IsStrictlySortedBy (use_cmp column) (first ∷ more)
    rise = subst (IsStrictlySortedBy (use_cmp column)) (sym g.left) (rise-drop column g.passed uses (uses_rise column uses s))

    -- how long the run of the first use is
    pub run-length : lead_length (has_text column first.head (text_at column first)) (first ∷ more) ≡ suc (lead_length (is_of column (text_at column first)) more)
    run-length =
        let q = text_at column first in
        ap (λ h. lead_length (has_text column h q) (first ∷ more)) sound.0.own
        ∙ lead-same (has_text column (text_head q) q) (is_of column q) (first ∷ more) (each-map (IsSound column) (λ u. has_text column (text_head q) q u ≡ is_of column q u) (λ u h. has_text-is column q u sound.0.utf8 h) (first ∷ more) sound)
        ∙ ap (λ b. cond b (suc (lead_length (is_of column q) more)) 0) (bytes_refl q)

    module _ (t : Inverted) (text : t.text.now ≡ text_at column first) (own : t.uses.now ≡ first ∷ take (lead_length (is_of column t.text.now) more) more) where
      first_of : is_of column t.text.now first ≡ true
      first_of = (bytes_eq-Decides t.text.now (text_at column first)).1 text

      run-passes : AllByRecursion (λ u. is_of column t.text.now u ≡ true) (first ∷ take (lead_length (is_of column t.text.now) more) more)
      run-passes = (first_of, lead-passes (is_of column t.text.now) more)

      -- the uses of a text in the run
      filter-run : (q : List ℕ) → filter (is_of column q) (first ∷ take (lead_length (is_of column t.text.now) more) more) ≡ cond (bytes_eq q t.text.now) t.uses.now []
      filter-run q =
          let run = first ∷ take (lead_length (is_of column t.text.now) more) more in
          elim (bytes_eq q t.text.now) as (λ b. bytes_eq q t.text.now ≡ b → filter (is_of column q) run ≡ cond b t.uses.now []) [
            | true ↦ λ e. ap (λ w. filter (is_of column w) run) ((bytes_eq-Decides q t.text.now).0 e) ∙ filter-every (is_of column t.text.now) run run-passes ∙ sym own
            | false ↦ λ e. filter-none (is_of column q) run (each-map (λ u. is_of column t.text.now u ≡ true) (λ u. is_of column q u ≡ false) (λ u h. ap (bytes_eq q) (sym ((bytes_eq-Decides t.text.now (text_at column u)).0 h)) ∙ e) run run-passes)
          ] refl

      -- those of the run and those behind it
      parts : (q : List ℕ) → filter (is_of column q) (first ∷ more) ≡ cond (bytes_eq q t.text.now) t.uses.now [] ++ filter (is_of column q) (drop (lead_length (is_of column t.text.now) more) more)
      parts q =
          let n = lead_length (is_of column t.text.now) more in
          ap (λ w. filter (is_of column q) (first ∷ w)) (sym (take-append-drop n more)) ∙ filter-append (is_of column q) (first ∷ take n more) (drop n more) ∙ ap (λ w. w ++ filter (is_of column q) (drop n more)) (filter-run q)

      other-texts : All (λ (u : Inverted). bytes_eq t.text.now u.text.now ≡ false) terms
      other-texts k d lt =
          let u = get_or terms k d in
          elim (bytes_eq t.text.now u.text.now) as (λ b. bytes_eq t.text.now u.text.now ≡ b → b ≡ false) [
            | true ↦ λ e.
                let passes : is_of column u.text.now first ≡ true = ap (λ w. is_of column w first) (sym ((bytes_eq-Decides t.text.now u.text.now).0 e)) ∙ first_of in
                let some : first ∷ filter (is_of column u.text.now) more ≡ [] = ap (λ b. cond b (first ∷ filter (is_of column u.text.now) more) (filter (is_of column u.text.now) more)) (sym passes) ∙ g.past k d lt in
                absurd (let size = ap length some in omega (arith, size))
            | false ↦ λ e. refl
          ] refl

      own-past : filter (is_of column t.text.now) (drop (lead_length (is_of column t.text.now) more) more) ≡ []
      unfolding IsStrictlySortedBy
      own-past = run-past column t.text.now first more sound.0 first_of sound.1 rise.0 rise.1

      pub grouped-next : AreGrouped column uses (terms ++ t ∷ []) (drop (lead_length (is_of column t.text.now) more) more)
      grouped-next =
          let n = lead_length (is_of column t.text.now) more in
          let behind = drop n more in
          record {
            passed = g.passed + suc n;
            left = ap (drop (suc n)) g.left ∙ drop-drop (suc n) g.passed uses;
            listed = λ q.
                ap (λ w. w ++ filter (is_of column q) behind) (listed-push q terms t) ∙ append_assoc (listed_uses q terms) (cond (bytes_eq q t.text.now) t.uses.now []) (filter (is_of column q) behind)
                ∙ ap (λ w. listed_uses q terms ++ w) (sym (parts q)) ∙ g.listed q;
            some = All-push (λ (u : Inverted). 0 < length u.uses.now) terms t g.some (subst (λ w. 0 < length w) (sym own) (omega arith));
            utf8 = All-push (λ (u : Inverted). IsUtf8 u.text.now) terms t g.utf8 (subst IsUtf8 (sym text) sound.0.utf8);
            distinct = subst (IsDistinct bytes_eq) (sym (map-append (λ (u : Inverted). u.text.now) terms (t ∷ []))) (IsDistinct-push bytes_laws (texts_in terms) t.text.now g.distinct (any-none t.text.now terms other-texts));
            past = All-push (λ (u : Inverted). filter (is_of column u.text.now) behind ≡ []) terms t (λ k d lt. let u = get_or terms k d in nil-right (cond (bytes_eq u.text.now t.text.now) t.uses.now []) (filter (is_of column u.text.now) behind) (sym (parts u.text.now) ∙ g.past k d lt)) own-past;
          }

-- ---- at the loop of the code

-- one run more
pub grouped-step : (column : List Appearance) (uses : List Use) (s : AreSortedUses column uses) (terms more-terms : List Inverted) (rest behind : List Use) (t : Inverted) (n : ℕ) → AreGrouped column uses terms rest → 1 ≤ length rest
    → t.text.now ≡ text_at column (get_or rest 0 no_use) → n ≡ lead_length (has_text column (get_or rest 0 no_use).head t.text.now) rest → t.uses.now ≡ take n rest → behind ≡ drop n rest → more-terms ≡ terms ++ t ∷ []
    → AreGrouped column uses more-terms behind
grouped-step column uses s terms more-terms [] behind t n g some text count own left pushed = absurd (omega (arith, some))
grouped-step column uses s terms more-terms (first ∷ more) behind t n g some text count own left pushed =
    let many : n ≡ suc (lead_length (is_of column t.text.now) more) =
    count ∙ ap (λ q. lead_length (has_text column first.head q) (first ∷ more)) text ∙ run-length column uses s terms first more g ∙ ap (λ q. suc (lead_length (is_of column q) more)) (sym text) in
    let next = grouped-next column uses s terms first more g t text (own ∙ ap (λ k. take k (first ∷ more)) many) in
    subst (λ ts. AreGrouped column uses ts behind) (sym pushed) (subst (AreGrouped column uses (terms ++ t ∷ [])) (sym (left ∙ ap (λ k. drop k (first ∷ more)) many)) next)

-- a run has a use
pub run-some : (column : List Appearance) (uses : List Use) (s : AreSortedUses column uses) (terms : List Inverted) (rest : List Use) (text : List ℕ) → AreGrouped column uses terms rest → 1 ≤ length rest → text ≡ text_at column (get_or rest 0 no_use)
    → 0 < lead_length (has_text column (get_or rest 0 no_use).head text) rest
run-some column uses s terms [] text g some is = absurd (omega (arith, some))
run-some column uses s terms (first ∷ more) text g some is =
    let long = ap (λ q. lead_length (has_text column first.head q) (first ∷ more)) is ∙ run-length column uses s terms first more g in
    omega (arith, long)
