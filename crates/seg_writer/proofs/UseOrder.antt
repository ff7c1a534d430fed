-- The order in which uses are sorted: those of one text stand together.
use Rattle.std.proofs.Common.{◌≡◌, refl, ap, sym, ◌∙◌, subst, ℕ, ◌==◌, List, [], true, false, cond, IsUtf8}
use Rattle.std.specs.declared.cmp.Ordering.{Ordering}
use Rattle.std.specs.declared.cmp.Ordering.TheVariants.{Less, Equal, Greater}
use Rattle.std.specs.Ordering.{is_eq, is_lt, nat_cmp, ordering_reverse, ordering_then}
use Rattle.std.specs.Cmp.{IsTotalOrder, nat_cmp_total, on_total, then_total, tied_itself}
use Rattle.std.specs.Cmp.Lexicographic.{slice_cmp, nat_list_cmp_total}
use Rattle.std.proofs.lemmas.Bool.{false≢true, eqb-true, eq-eqb}
use Rattle.std.proofs.lemmas.Map.Lookups.{exact_bytes, exact_unsigned}
use Rattle.std.proofs.lemmas.Slice.Eq.{bytes_eq-Decides}
use Rattle.seg_writer.specs.declared.appearance.Appearance.{Appearance}
use Rattle.seg_writer.specs.declared.inverted.Use.{Use}
use Rattle.seg_writer.specs.Heads.{is_whole, text_head}
use Rattle.seg_writer.specs.SortedUses.{has_text, is_of, place_cmp, text_at, untold_text, use_cmp}
use Rattle.seg_writer.proofs.HeadLemmas.{head-same}

pub place_total : IsTotalOrder place_cmp
place_total = then_total (on_total (λ (u : Use). u.entry) nat_cmp_total) (on_total (λ (u : Use). u.token) nat_cmp_total)

pub use_total : (column : List Appearance) → IsTotalOrder (use_cmp column)
use_total column = then_total (on_total (λ (u : Use). u.head) nat_cmp_total) (then_total (on_total (untold_text column) nat_list_cmp_total) place_total)

-- the order of uses by their texts alone
abbrev pub text_order_cmp : List Appearance → Use → Use → Ordering
text_order_cmp column a b = ordering_then (nat_cmp a.head b.head) (slice_cmp nat_cmp (untold_text column a) (untold_text column b))

text_total : (column : List Appearance) → IsTotalOrder (text_order_cmp column)
text_total column = then_total (on_total (λ (u : Use). u.head) nat_cmp_total) (on_total (untold_text column) nat_list_cmp_total)

-- a use of a column with a text that is one, and its head
pub record IsSound (column : List Appearance) (here : Use) : Type 0 where
  pub utf8 : IsUtf8 (text_at column here)
  pub own : here.head ≡ text_head (text_at column here)

not_above : (a b c : Ordering) → ordering_then a (ordering_then b c) ≡ Less → ordering_then a b ≡ Greater → ⊥
not_above Less b c e above = false≢true (sym (ap is_lt above))
not_above Equal Less c e above = false≢true (sym (ap is_lt above))
not_above Equal Equal c e above = false≢true (sym (ap is_eq above))
not_above Equal Greater c e above = false≢true (ap is_lt e)
not_above Greater b c e above = false≢true (ap is_lt e)

-- what stands between two that tie ties with both
between : {X : Type 0} {R : X → X → Ordering} → IsTotalOrder R → (x y z : X) → (R x y ≡ Greater → ⊥) → (R y z ≡ Greater → ⊥) → R x z ≡ Equal → R x y ≡ Equal
between {X} {R} order x y z low high ties = elim (R x y) as (λ r. R x y ≡ r → r ≡ Equal) [
  | Less ↦ λ e. absurd (high (order.antisymm y z ∙ ap ordering_reverse (sym (order.congr x z y ties) ∙ e)))
  | Equal ↦ λ e. refl
  | Greater ↦ λ e. absurd (low e)
] refl

both : (a b : Ordering) → ordering_then a b ≡ Equal → (a ≡ Equal) × (b ≡ Equal)
both Less b e = absurd (false≢true (ap is_eq e))
both Equal b e = (refl, e)
both Greater b e = absurd (false≢true (ap is_eq e))

-- uses of one text tie
same_text_ties : (column : List Appearance) (x z : Use) → IsSound column x → IsSound column z → text_at column x ≡ text_at column z → text_order_cmp column x z ≡ Equal
same_text_ties column x z a b same =
    let heads : z.head ≡ x.head = b.own ∙ ap text_head (sym same) ∙ sym a.own in
    (λ i. ordering_then (nat_cmp x.head (heads i)) (slice_cmp nat_cmp (untold_text column x) (cond (is_whole (heads i)) [] (sym same i)))) ∙ tied_itself (text_total column) x

-- and those that tie have one text
tied_text : (column : List Appearance) (x y : Use) → IsSound column x → IsSound column y → text_order_cmp column x y ≡ Equal → text_at column x ≡ text_at column y
tied_text column x y a b ties =
    let parts = both (nat_cmp x.head y.head) (slice_cmp nat_cmp (untold_text column x) (untold_text column y)) ties in
    let heads : x.head ≡ y.head = exact_unsigned x.head y.head parts.0 in
    let texts : untold_text column x ≡ untold_text column y = exact_bytes (untold_text column x) (untold_text column y) parts.1 in
    let untold : untold_text column x ≡ cond (is_whole x.head) [] (text_at column y) = texts ∙ ap (λ n. cond (is_whole n) [] (text_at column y)) (sym heads) in
    elim (is_whole x.head) as (λ b. is_whole x.head ≡ b → cond b [] (text_at column x) ≡ cond b [] (text_at column y) → text_at column x ≡ text_at column y) [
      | true ↦ λ whole e. head-same (text_at column x) (text_at column y) a.utf8 b.utf8 (sym a.own ∙ heads ∙ b.own) (subst (λ n. is_whole n ≡ true) a.own whole)
      | false ↦ λ more e. e
    ] refl untold

-- what stands between two uses of a text has that text
pub text_between : (column : List Appearance) (x y z : Use) → IsSound column x → IsSound column y → IsSound column z → use_cmp column x y ≡ Less → use_cmp column y z ≡ Less → text_at column x ≡ text_at column z → text_at column x ≡ text_at column y
text_between column x y z a b c low high same =
    tied_text column x y a b (between (text_total column) x y z
    (not_above (nat_cmp x.head y.head) (slice_cmp nat_cmp (untold_text column x) (untold_text column y)) (place_cmp x y) low)
    (not_above (nat_cmp y.head z.head) (slice_cmp nat_cmp (untold_text column y) (untold_text column z)) (place_cmp y z) high)
    (same_text_ties column x z a c same))

-- uses of one text stand as their numbers do
pub same_text_places : (column : List Appearance) (x z : Use) → IsSound column x → IsSound column z → text_at column x ≡ text_at column z → use_cmp column x z ≡ place_cmp x z
same_text_places column x z a b same =
    let ties = both (nat_cmp x.head z.head) (slice_cmp nat_cmp (untold_text column x) (untold_text column z)) (same_text_ties column x z a b same) in
    λ i. ordering_then (ties.0 i) (ordering_then (ties.1 i) (place_cmp x z))

-- uses that tie have the same numbers
pub tied_places : (column : List Appearance) (x z : Use) → use_cmp column x z ≡ Equal → place_cmp x z ≡ Equal
tied_places column x z e = (both (slice_cmp nat_cmp (untold_text column x) (untold_text column z)) (place_cmp x z) (both (nat_cmp x.head z.head) (ordering_then (slice_cmp nat_cmp (untold_text column x) (untold_text column z)) (place_cmp x z)) e).1).1

-- the test of a run is that of its text
pub has_text-is : (column : List Appearance) (q : List ℕ) (u : Use) → IsUtf8 q → IsSound column u → has_text column (text_head q) q u ≡ is_of column q u
has_text-is column q u utf8 sound = elim (u.head == text_head q) as (λ b. (u.head == text_head q) ≡ b → cond b (cond (is_whole (text_head q)) true (is_of column q u)) false ≡ is_of column q u) [
  | true ↦ λ same.
      let heads : text_head q ≡ text_head (text_at column u) = sym (eqb-true u.head (text_head q) same) ∙ sound.own in
      elim (is_whole (text_head q)) as (λ w. is_whole (text_head q) ≡ w → cond w true (is_of column q u) ≡ is_of column q u) [
        | true ↦ λ whole. sym ((bytes_eq-Decides q (text_at column u)).1 (head-same q (text_at column u) utf8 sound.utf8 heads whole))
        | false ↦ λ more. refl
      ] refl
  | false ↦ λ other. elim (is_of column q u) as (λ b. is_of column q u ≡ b → false ≡ b) [
    | true ↦ λ e. sym other ∙ eq-eqb u.head (text_head q) (sound.own ∙ ap text_head (sym ((bytes_eq-Decides q (text_at column u)).0 e)))
    | false ↦ λ e. refl
  ] refl
] refl
