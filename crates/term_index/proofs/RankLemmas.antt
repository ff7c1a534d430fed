-- How many terms are below what is sought, and where it stands.
use Rattle.std.proofs.Common.{◌≡◌, ℕ, zero, suc, ◌+◌, ◌<◌, ◌≤◌, Bool, true, false, ◌&&◌, ltb, List, [], ◌∷◌, length, get_or, Option, Some, None, refl, sym, ap, subst, ◌∙◌, arith, inl, inr}
use Rattle.std.specs.Prelude.{All, AllPairs, cond}
use Rattle.std.specs.List.{find, prefix_len}
use Rattle.std.specs.Str.{IsUtf8, bytes_eq}
use Rattle.std.specs.Cmp.{IsTotalOrder}
use Rattle.std.specs.declared.cmp.Ordering.{Ordering}
use Rattle.std.specs.declared.cmp.Ordering.TheVariants.{Less, Equal, Greater}
use Rattle.std.specs.Ordering.{ordering_then, ordering_reverse, is_lt}
use Rattle.std.proofs.lemmas.Bool.{cases_lt, cases_eq, lt-ltb, le-ltb, and_parts}
use Rattle.std.proofs.lemmas.Cmp.{on_total, then_total}
use Rattle.std.proofs.lemmas.List.{get_or_default}
use Rattle.std.proofs.lemmas.Slice.Eq.{bytes_eq-Decides}
use Rattle.lu_prims.specs.Order.{text_cmp}
use Rattle.lu_prims.proofs.Units.{text_order, level_same}
use Rattle.term_dict.specs.Terms.{DictionaryTerm, no_term}
use Rattle.term_dict.specs.Dictionary.{Dictionary}
use Rattle.term_dict.proofs.OrderLemmas.{text_cmp-same}
use Rattle.term_index.specs.Seeking.{Searched, field_name_of, is_sought, sought_cmp, rank}
use Rattle.term_index.specs.InnerSearch.{IsSearchable, terms_cmp}

-- ---- the order

-- a name and a text
abbrev Key : Type 0
Key = List ℕ × List ℕ

abbrev key_cmp : Key → Key → Ordering
key_cmp a b = ordering_then (text_cmp a.0 b.0) (text_cmp a.1 b.1)

key_order : IsTotalOrder key_cmp
key_order = then_total (on_total (λ (k : Key). k.0) text_order) (on_total (λ (k : Key). k.1) text_order)

abbrev key_of : List (List ℕ) → DictionaryTerm → Key
key_of names t = (field_name_of names t.info.field, t.text)

-- what is before a term that is below is below
less_back : (names : List (List ℕ)) (field text : List ℕ) (a b : DictionaryTerm) → terms_cmp names a b ≡ Less → sought_cmp names field text b ≡ Less → sought_cmp names field text a ≡ Less
less_back names field text a b ab b_less = key_order.trans (key_of names a) (key_of names b) (field, text) ab b_less

reversed : (o p : Ordering) → o ≡ ordering_reverse p → p ≡ Less → o ≡ Greater
reversed o p e is = e ∙ ap ordering_reverse is

-- what is behind a term that is level or above is above
above_later : (names : List (List ℕ)) (field text : List ℕ) (a b : DictionaryTerm) (o : Ordering) → sought_cmp names field text a ≡ o → is_lt o ≡ false → terms_cmp names a b ≡ Less → sought_cmp names field text b ≡ Greater
above_later names field text a b Less here not_below ab = cc
above_later names field text a b Equal here not_below ab =
    reversed (sought_cmp names field text b) (key_cmp (field, text) (key_of names b)) (key_order.antisymm (key_of names b) (field, text)) (sym (key_order.congr (key_of names a) (field, text) (key_of names b) here) ∙ ab)
above_later names field text a b Greater here not_below ab =
    let less : key_cmp (field, text) (key_of names a) ≡ Less = key_order.antisymm (field, text) (key_of names a) ∙ ap ordering_reverse here in
    reversed (sought_cmp names field text b) (key_cmp (field, text) (key_of names b)) (key_order.antisymm (key_of names b) (field, text)) (key_order.trans (field, text) (key_of names a) (key_of names b) less ab)

-- ---- the first that are below

-- of the first so many each passes, and the next does not
prefix_passes : {X : Type 0} (p : X → Bool) (xs : List X) (i : ℕ) (d : X) → i < prefix_len p xs → p (get_or xs i d) ≡ true
prefix_passes {X} p [] i d lt = absurd (omega (arith, lt))
prefix_passes {X} p (x ∷ xs) i d lt = go (λ k less. prefix_passes p xs k d less) (p x) refl i lt
  where
    go : ((k : ℕ) → k < prefix_len p xs → p (get_or xs k d) ≡ true) → (b : Bool) → p x ≡ b → (i : ℕ) → i < cond b (1 + prefix_len p xs) 0 → p (get_or (x ∷ xs) i d) ≡ true
    go later true e zero lt = e
    go later true e (suc i) lt = later i (omega (arith, lt))
    go later false e i lt = absurd (omega (arith, lt))

prefix_stops : {X : Type 0} (p : X → Bool) (xs : List X) (d : X) → prefix_len p xs < length xs → p (get_or xs (prefix_len p xs) d) ≡ false
prefix_stops {X} p [] d lt = absurd (omega (arith, lt))
prefix_stops {X} p (x ∷ xs) d lt = go (λ less. prefix_stops p xs d less) (p x) refl lt
  where
    go : (prefix_len p xs < length xs → p (get_or xs (prefix_len p xs) d) ≡ false) → (b : Bool) → p x ≡ b → cond b (1 + prefix_len p xs) 0 < suc (length xs) → p (get_or (x ∷ xs) (cond b (1 + prefix_len p xs) 0) d) ≡ false
    go later true e lt = subst (λ (n : ℕ). p (get_or (x ∷ xs) n d) ≡ false) (let e : suc (prefix_len p xs) ≡ 1 + prefix_len p xs = omega arith in e) (later (omega (arith, lt)))
    go later false e lt = e

pub rank-few : (s : Searched) (field text : List ℕ) → rank s field text ≤ length s.dictionary.terms
rank-few s field text = few (λ t. is_lt (sought_cmp s.names field text t)) s.dictionary.terms
  where
    few : (p : DictionaryTerm → Bool) (xs : List DictionaryTerm) → prefix_len p xs ≤ length xs
    few p [] = omega arith
    few p (x ∷ xs) = go (p x) (few p xs)
      where
        go : (b : Bool) → prefix_len p xs ≤ length xs → cond b (1 + prefix_len p xs) 0 ≤ suc (length xs)
        go true le = omega (arith, le)
        go false le = omega arith

was_lt : (o : Ordering) → is_lt o ≡ true → o ≡ Less
was_lt Less e = refl
was_lt Equal e = cc
was_lt Greater e = cc

-- those before that place are below
pub below-before : (s : Searched) (field text : List ℕ) (i : ℕ) → i < rank s field text → sought_cmp s.names field text (get_or s.dictionary.terms i no_term) ≡ Less
below-before s field text i lt = was_lt _ (prefix_passes (λ t. is_lt (sought_cmp s.names field text t)) s.dictionary.terms i no_term lt)

-- those from there on are not
pub below-not : (s : Searched) (field text : List ℕ) (i : ℕ) → IsSearchable s → rank s field text ≤ i → i < length s.dictionary.terms → is_lt (sought_cmp s.names field text (get_or s.dictionary.terms i no_term)) ≡ false
below-not s field text i h le lt =
    let terms = s.dictionary.terms in
    let r = rank s field text in
    let first = prefix_stops (λ t. is_lt (sought_cmp s.names field text t)) terms no_term (omega (arith, le, lt)) in
    elim (cases_eq i r) [
      | inl e ↦ ap (λ (k : ℕ). is_lt (sought_cmp s.names field text (get_or terms k no_term))) e ∙ first
      | inr ne ↦
          let above = above_later s.names field text (get_or terms r no_term) (get_or terms i no_term) (sought_cmp s.names field text (get_or terms r no_term)) refl first (h.rise r i no_term (omega (arith, le, ne)) lt) in
          ap is_lt above
    ]

pub below-is : (s : Searched) (field text : List ℕ) (i : ℕ) → IsSearchable s → i < length s.dictionary.terms → is_lt (sought_cmp s.names field text (get_or s.dictionary.terms i no_term)) ≡ ltb i (rank s field text)
below-is s field text i h lt = elim (cases_lt i (rank s field text)) [
  | inl below ↦ ap is_lt (below-before s field text i below) ∙ sym (lt-ltb i (rank s field text) below)
  | inr ge ↦ below-not s field text i h ge lt ∙ sym (le-ltb i (rank s field text) ge)
]

-- ---- the term that is sought

-- one that is sought is level
level : (names : List (List ℕ)) (field text : List ℕ) (t : DictionaryTerm) → is_sought names field text t ≡ true → sought_cmp names field text t ≡ Equal
level names field text t e =
    let both = and_parts (bytes_eq (field_name_of names t.info.field) field) (bytes_eq t.text text) e in
    let name = (bytes_eq-Decides (field_name_of names t.info.field) field).0 both.0 in
    let same = (bytes_eq-Decides t.text text).0 both.1 in
    let first : text_cmp (field_name_of names t.info.field) field ≡ Equal = ap (λ (n : List ℕ). text_cmp n field) name ∙ text_cmp-same field in
    let second : text_cmp t.text text ≡ Equal = ap (λ (n : List ℕ). text_cmp n text) same ∙ text_cmp-same text in
    ap (λ (o : Ordering). ordering_then o (text_cmp t.text text)) first ∙ second

-- one that is not level is not sought
not_sought : (names : List (List ℕ)) (field text : List ℕ) (t : DictionaryTerm) → (sought_cmp names field text t ≡ Equal → ⊥) → is_sought names field text t ≡ false
not_sought names field text t apart = go (is_sought names field text t) refl
  where
    go : (b : Bool) → is_sought names field text t ≡ b → b ≡ false
    go true e = absurd (apart (level names field text t e))
    go false e = refl

find-at : (p : DictionaryTerm → Bool) (xs : List DictionaryTerm) (k : ℕ) → k < length xs → ((i : ℕ) → i < k → p (get_or xs i no_term) ≡ false) → p (get_or xs k no_term) ≡ true → find p xs ≡ Some (get_or xs k no_term)
find-at p [] k lt before here = absurd (omega (arith, lt))
find-at p (x ∷ xs) zero lt before here = rw here refl
find-at p (x ∷ xs) (suc k) lt before here =
    let first : p x ≡ false = before 0 (omega arith) in
    rw first (find-at p xs k (omega (arith, lt)) (λ i less. before (suc i) (omega (arith, less))) here)

find-none : (p : DictionaryTerm → Bool) (xs : List DictionaryTerm) → ((i : ℕ) → i < length xs → p (get_or xs i no_term) ≡ false) → find p xs ≡ None
find-none p [] none = refl
find-none p (x ∷ xs) none =
    let first : p x ≡ false = none 0 (omega arith) in
    rw first (find-none p xs (λ i less. none (suc i) (omega (arith, less))))

before_not : (s : Searched) (field text : List ℕ) (i : ℕ) → i < rank s field text → is_sought s.names field text (get_or s.dictionary.terms i no_term) ≡ false
before_not s field text i lt = not_sought s.names field text (get_or s.dictionary.terms i no_term) (λ e. let less = below-before s field text i lt in cc)

-- where the first that is not below is level, it is the one
pub sought-there : (s : Searched) (field text : List ℕ) → rank s field text < length s.dictionary.terms → IsSearchable s → IsUtf8 (field_name_of s.names (get_or s.dictionary.terms (rank s field text) no_term).info.field) → IsUtf8 field → IsUtf8 text
    → sought_cmp s.names field text (get_or s.dictionary.terms (rank s field text) no_term) ≡ Equal → find (is_sought s.names field text) s.dictionary.terms ≡ Some (get_or s.dictionary.terms (rank s field text) no_term)
sought-there s field text lt h name_utf8 field_utf8 text_utf8 here =
    let k = rank s field text in
    let t = get_or s.dictionary.terms k no_term in
    let name = field_name_of s.names t.info.field in
    let parts = both_level (text_cmp name field) (text_cmp t.text text) here in
    let same_name = level_same name field name_utf8 field_utf8 parts.0 in
    let same_text = level_same t.text text (h.texts k no_term lt) text_utf8 parts.1 in
    let is : is_sought s.names field text t ≡ true = rw ((bytes_eq-Decides name field).1 same_name, (bytes_eq-Decides t.text text).1 same_text) refl in
    find-at (is_sought s.names field text) s.dictionary.terms k lt (λ i less. before_not s field text i less) is
  where
    both_level : (a b : Ordering) → ordering_then a b ≡ Equal → (a ≡ Equal) × (b ≡ Equal)
    both_level Less b e = cc
    both_level Equal b e = (refl, e)
    both_level Greater b e = cc

-- where it is above, or all are below, there is none
pub sought-none : (s : Searched) (field text : List ℕ) → IsSearchable s → (rank s field text < length s.dictionary.terms → sought_cmp s.names field text (get_or s.dictionary.terms (rank s field text) no_term) ≡ Greater)
    → find (is_sought s.names field text) s.dictionary.terms ≡ None
sought-none s field text h above = find-none (is_sought s.names field text) s.dictionary.terms none
  where
    none : (i : ℕ) → i < length s.dictionary.terms → is_sought s.names field text (get_or s.dictionary.terms i no_term) ≡ false
    none i lt = elim (cases_lt i (rank s field text)) [
      | inl less ↦ before_not s field text i less
      | inr ge ↦
          let terms = s.dictionary.terms in
          let r = rank s field text in
          let there = above (omega (arith, ge, lt)) in
          not_sought s.names field text (get_or terms i no_term) (λ e. elim (cases_eq i r) [
            | inl same ↦ let here = ap (λ (k : ℕ). sought_cmp s.names field text (get_or terms k no_term)) same ∙ there in cc
            | inr ne ↦ let later = above_later s.names field text (get_or terms r no_term) (get_or terms i no_term) Greater there refl (h.rise r i no_term (omega (arith, ge, ne)) lt) in cc
          ])
    ]
