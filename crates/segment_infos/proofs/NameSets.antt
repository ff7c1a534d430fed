-- Names in a set: it has a name exactly where one of its keys is the name.
use Rattle.std.proofs.Common.{◌≡◌, ◌↔◌, ℕ, ◌+◌, ◌<◌, Bool, true, false, cond, ◌||◌, List, [], ◌∷◌, length, take, get_or, refl, sym, subst, ap, ◌∙◌, arith, rules, Contains}
use Rattle.std.specs.List.{list_any}
use Rattle.std.specs.Ordering.{is_eq, ordering_then, nat_cmp}
use Rattle.std.specs.declared.cmp.Ordering.{Ordering}
use Rattle.std.proofs.lemmas.Bool.Decides.{nat_tests}
use Rattle.std.proofs.lemmas.Grind.{common_steps}
use Rattle.std.proofs.lemmas.List.{take_more}
use Rattle.std.proofs.lemmas.List.Folds.{list_any_at, list_any-append}
use Rattle.std.proofs.lemmas.Map.Views.{Contains-from_any}
use Rattle.lu_types.specs.declared.kind.FileKind.{FileKind}
use Rattle.lu_types.specs.contracts.kind.FileKindOrd.TheImpl.{cmp-value as kind_order}
use Rattle.segment_infos.specs.declared.naming.LuceneName.{LuceneName}
use Rattle.segment_infos.specs.declared.naming.LuceneName.TheVariants.{Commit, Part, Del, Sep}
use Rattle.segment_infos.specs.contracts.naming.LuceneNameOrd.TheImpl.{cmp-value as name_order}
use Rattle.segment_infos.specs.Keeping.{HasNames}

-- the order of names does not tell the two apart
abbrev pub is_same : LuceneName → LuceneName → Bool
is_same a b = is_eq (name_order.it a b)

then-same : (s t : ℕ) (o : Ordering) → is_eq (ordering_then (nat_cmp s t) o) ≡ true → (s ≡ t) × (is_eq o ≡ true)
then-same s t o h = grind (arith, nat_tests, common_steps)

kind-same : (a b : FileKind) → is_eq (kind_order.it a b) ≡ true → a ≡ b
kind-same a b h = search rules

pub same-name : (a b : LuceneName) → is_same a b ≡ true → a ≡ b
same-name (Commit m) (Commit n) h = let e : m ≡ n = grind (arith, nat_tests) in ap Commit e
same-name (Commit m) (Part t l) h = cc
same-name (Commit m) (Del t l) h = cc
same-name (Commit m) (Sep t l n) h = cc
same-name (Part s k) (Commit n) h = cc
same-name (Part s k) (Part t l) h = let both = then-same s t (kind_order.it k l) h in ap (λ (n : ℕ). Part n k) both.0 ∙ ap (Part t) (kind-same k l both.1)
same-name (Part s k) (Del t l) h = cc
same-name (Part s k) (Sep t l n) h = cc
same-name (Del s k) (Commit n) h = cc
same-name (Del s k) (Part t l) h = cc
same-name (Del s k) (Del t l) h = search rules
same-name (Del s k) (Sep t l n) h = cc
same-name (Sep s k m) (Commit n) h = cc
same-name (Sep s k m) (Part t l) h = cc
same-name (Sep s k m) (Del t l) h = cc
same-name (Sep s k m) (Sep t l n) h = grind (arith, nat_tests, common_steps)

pub same-itself : (a : LuceneName) → is_same a a ≡ true
same-itself a = search rules

one_test : (s t : Bool) → (s ≡ true → t ≡ true) → (t ≡ true → s ≡ true) → s ≡ t
one_test true t f g = sym (f refl)
one_test false true f g = g refl
one_test false false f g = refl

-- which of the two comes first makes no difference
pub same-turned : (a b : LuceneName) → is_same a b ≡ is_same b a
same-turned a b = one_test (is_same a b) (is_same b a) (turned a b) (turned b a)
  where
    turned : (a b : LuceneName) → is_same a b ≡ true → is_same b a ≡ true
    turned a b h = subst (λ (n : LuceneName). is_same n a ≡ true) (same-name a b h) (same-itself a)

-- one of the names is the name
pub any-Contains : (name : LuceneName) (names : List LuceneName) → (list_any (is_same name) names ≡ true) ↔ Contains names name
any-Contains name names = (Contains-from_any same-name name names, back)
  where
    back : Contains names name → list_any (is_same name) names ≡ true
    back (k, within, here) = list_any_at (is_same name) names k name within (ap (is_same name) here ∙ same-itself name)

-- a name more
pub any-more : (q name : LuceneName) (names : List LuceneName) (i : ℕ) (old new : Bool) → i < length names → name ≡ get_or names i name → old ≡ list_any (is_same q) (take i names) → new ≡ cond (is_same name q) true old
    → new ≡ list_any (is_same q) (take (i + 1) names)
any-more q name names i old new within is before step =
    step ∙ ap (λ (t : Bool). cond t true old) (same-turned name q) ∙ either (is_same q name) old (list_any (is_same q) (take i names)) before
    ∙ ap (λ (n : LuceneName). list_any (is_same q) (take i names) || list_any (is_same q) (n ∷ [])) is
    ∙ sym (list_any-append (is_same q) (take i names) (get_or names i name ∷ [])) ∙ ap (list_any (is_same q)) (sym (take_more names i name within))
  where
    either : (t old so_far : Bool) → old ≡ so_far → cond t true old ≡ (so_far || (t || false))
    either true old true e = refl
    either true old false e = refl
    either false old true e = e
    either false old false e = e

-- the keys are these names
pub keys-HasNames : (keys names : List LuceneName) → ((q : LuceneName) → list_any (is_same q) keys ≡ list_any (is_same q) names) → HasNames keys names
keys-HasNames keys names same name =
    (λ has. (any-Contains name names).0 (sym (same name) ∙ (any-Contains name keys).1 has), λ has. (any-Contains name keys).0 (same name ∙ (any-Contains name names).1 has))
