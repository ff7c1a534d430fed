-- The texts of a JSON value are no longer than what it was read from.
use Rattle.std.proofs.Common.{◌≡◌, ℕ, zero, suc, ◌<◌, ◌≤◌, ◌^◌, max, List, [], ◌∷◌, length, Option, Some, None, option_map, option_and_then, Ordering, Less, Equal, Greater, refl, ap, subst, arith}
use Rattle.std.specs.Prelude.{⊤}
use Rattle.std.specs.Ordering.{nat_cmp, match_ordering}
use Rattle.std.specs.Cmp.Lexicographic.{slice_cmp}
use Rattle.std.specs.List.{slice_index_or}
use Rattle.json.specs.Token.{Token}
use Rattle.json.specs.Lex.{tokens}
use Rattle.json.specs.Json as json
use Rattle.serde_json.specs.Data.{Data, null, boolean, number, string, array, object, Items, item, Members, no_members, member, put}
use Rattle.serde_json.specs.Read.{number_of, of_json, of_items, of_members, max_depth, read}
use Rattle.serde_json.specs.Find.{get, get_member, as_array}
use Rattle.serde_json.specs.View.{view, items_view}
use Rattle.serde_json.specs.declared.value.Value.{Value}
use Rattle.lu_input.specs.Lengths.{longest, longest_item, longest_member, HasShortTexts, HasShortTextsIfAny}
use Rattle.lu_input.proofs.TokenLengths.{longest_text, tokens-le}

-- ---- what the grammar gives

abbrev mutual
  long_json : json.Json → ℕ
  long_json json.null = 0
  long_json (json.boolean b) = 0
  long_json (json.number s) = 0
  long_json (json.string s) = length s
  long_json (json.array js) = long_item js
  long_json (json.object ms) = long_member ms

  long_item : json.Items → ℕ
  long_item json.no_items = 0
  long_item (json.item j js) = max (long_json j) (long_item js)

  long_member : json.Members → ℕ
  long_member json.no_members = 0
  long_member (json.member k j ms) = max (long_json j) (long_member ms)

-- what is read is so long at most, and so are the tokens that are left
abbrev ReadsWithin : {A : Type 0} → (A → ℕ) → ℕ → Option (A × List Token) → Type 0
ReadsWithin f n None = ⊤
ReadsWithin f n (Some p) = (f p.0 ≤ n) × (longest_text p.1 ≤ n)

abbrev Within : {A : Type 0} → (A → ℕ) → ℕ → json.Parse A → Type 0
Within f n p = (ts : List Token) → longest_text ts ≤ n → ReadsWithin f n (p ts)

mapped : {A B : Type 0} (f : A → ℕ) (g : B → ℕ) (n : ℕ) (h : A → B) → ((a : A) → f a ≤ n → g (h a) ≤ n) → (o : Option (A × List Token)) → ReadsWithin f n o → ReadsWithin g n (json.parse_map h o)
mapped f g n h k None x = tt
mapped f g n h k (Some p) x = (k p.0 x.0, x.1)

and_more : {B : Type 0} (g : B → ℕ) (n : ℕ) (h : json.Json → B → B) → ((j : json.Json) (b : B) → g (h j b) ≡ max (long_json j) (g b)) → (more : json.Parse B) → Within g n more → (o : Option (json.Json × List Token)) → ReadsWithin long_json n o
    → ReadsWithin g n (option_and_then (λ q. json.parse_map (h q.0) (more q.1)) o)
and_more g n h is more within None x = tt
and_more g n h is more within (Some q) x = mapped g g n (h q.0) (λ b y. omega (arith, is q.0 b, x.0)) _ (within q.1 x.1)

abbrev RestWithin : ℕ → Option (List Token) → Type 0
RestWithin n None = ⊤
RestWithin n (Some r) = longest_text r ≤ n

closing-within : (n : ℕ) (ts : List Token) → longest_text ts ≤ n → RestWithin n (json.after_end_array ts)
closing-within n [] h = tt
closing-within n (Token.begin_object ∷ ts) h = tt
closing-within n (Token.end_object ∷ ts) h = tt
closing-within n (Token.begin_array ∷ ts) h = tt
closing-within n (Token.end_array ∷ ts) h = omega arith
closing-within n (Token.key s ∷ ts) h = tt
closing-within n (Token.string s ∷ ts) h = tt
closing-within n (Token.number s ∷ ts) h = tt
closing-within n (Token.boolean b ∷ ts) h = tt
closing-within n (Token.null ∷ ts) h = tt
closing-within n (Token.bad ∷ ts) h = tt

key-within : (n : ℕ) (ts : List Token) → longest_text ts ≤ n → ReadsWithin (λ k. 0) n (json.read_key ts)
key-within n [] h = tt
key-within n (Token.begin_object ∷ ts) h = tt
key-within n (Token.end_object ∷ ts) h = (omega arith, omega arith)
key-within n (Token.begin_array ∷ ts) h = tt
key-within n (Token.end_array ∷ ts) h = tt
key-within n (Token.key s ∷ ts) h = (omega arith, omega arith)
key-within n (Token.string s ∷ ts) h = tt
key-within n (Token.number s ∷ ts) h = tt
key-within n (Token.boolean b ∷ ts) h = tt
key-within n (Token.null ∷ ts) h = tt
key-within n (Token.bad ∷ ts) h = tt

module _ (n : ℕ) (p : json.Parse json.Json) (within : Within long_json n p) where
  item_turn : (more : json.Parse json.Items) → Within long_item n more → (ts : List Token) → longest_text ts ≤ n → (o : Option (List Token)) → RestWithin n o → ReadsWithin long_item n (json.items_step p more ts o)
  item_turn more again ts h (Some r) x = (omega arith, x)
  item_turn more again ts h None x = and_more long_item n json.item (λ j b. refl) more again (p ts) (within ts h)

  Within-items : (k : ℕ) → Within long_item n (json.items p k)
  unfolding json.items
  Within-items zero ts h = tt
  Within-items (suc k) ts h = item_turn (json.items p k) (Within-items k) ts h (json.after_end_array ts) (closing-within n ts h)

  member_turn : (more : json.Parse json.Members) → Within long_member n more → (o : Option (Option (List ℕ) × List Token)) → ReadsWithin (λ k. 0) n o → ReadsWithin long_member n (option_and_then (λ q. json.members_step p more q.0 q.1) o)
  member_turn more again None x = tt
  member_turn more again (Some (None, s)) x = (omega arith, x.1)
  member_turn more again (Some (Some k, s)) x = and_more long_member n (json.member k) (λ j b. refl) more again (p s) (within s x.1)

  Within-members : (k : ℕ) → Within long_member n (json.members p k)
  unfolding json.members
  Within-members zero ts h = tt
  Within-members (suc k) ts h = member_turn (json.members p k) (Within-members k) (json.read_key ts) (key-within n ts h)

one_level : (n : ℕ) (a : json.Parse json.Items) (o : json.Parse json.Members) → Within long_item n a → Within long_member n o → Within long_json n (json.value_with a o)
one_level n a o p q [] h = tt
one_level n a o p q (Token.begin_object ∷ ts) h = mapped long_member long_json n json.object (λ ms x. x) (o ts) (q ts (omega arith))
one_level n a o p q (Token.end_object ∷ ts) h = tt
one_level n a o p q (Token.begin_array ∷ ts) h = mapped long_item long_json n json.array (λ js x. x) (a ts) (p ts (omega arith))
one_level n a o p q (Token.end_array ∷ ts) h = tt
one_level n a o p q (Token.key s ∷ ts) h = tt
one_level n a o p q (Token.string s ∷ ts) h = (omega arith, omega arith)
one_level n a o p q (Token.number s ∷ ts) h = (omega arith, omega arith)
one_level n a o p q (Token.boolean b ∷ ts) h = (omega arith, omega arith)
one_level n a o p q (Token.null ∷ ts) h = (omega arith, omega arith)
one_level n a o p q (Token.bad ∷ ts) h = tt

Within-value : (n d : ℕ) → Within long_json n (json.value d)
unfolding json.value
Within-value n zero = one_level n (λ ts. None) (λ ts. None) (λ ts h. tt) (λ ts h. tt)
Within-value n (suc d) =
    one_level n (λ ts. json.items (json.value d) (length ts) ts) (λ ts. json.members (json.value d) (length ts) ts)
    (λ ts h. Within-items n (json.value d) (Within-value n d) (length ts) ts h) (λ ts h. Within-members n (json.value d) (Within-value n d) (length ts) ts h)

-- ---- what the value is

abbrev AtMost : {A : Type 0} → (A → ℕ) → ℕ → Option A → Type 0
AtMost f n None = ⊤
AtMost f n (Some a) = f a ≤ n

AtMost-map : {A B : Type 0} (f : A → ℕ) (g : B → ℕ) (n : ℕ) (h : A → B) → ((a : A) → f a ≤ n → g (h a) ≤ n) → (o : Option A) → AtMost f n o → AtMost g n (option_map h o)
AtMost-map f g n h k None x = tt
AtMost-map f g n h k (Some a) x = k a x

AtMost-before_the_rest : {A B : Type 0} (f : A → ℕ) (g : B → ℕ) (n : ℕ) (h : A → Option B) → ((a : A) → f a ≤ n → AtMost g n (h a)) → (o : Option A) → AtMost f n o → AtMost g n (option_and_then h o)
AtMost-before_the_rest f g n h k None x = tt
AtMost-before_the_rest f g n h k (Some a) x = k a x

none_of : {A : Type 0} (n : ℕ) (o : Option A) → AtMost (λ _. 0) n o
none_of n None = tt
none_of n (Some a) = omega arith

match_ordering-le : (o : Ordering) (a b c : Members) (n : ℕ) → longest_member a ≤ n → longest_member b ≤ n → longest_member c ≤ n → longest_member (match_ordering o a b c) ≤ n
match_ordering-le Less a b c n p q r = p
match_ordering-le Equal a b c n p q r = q
match_ordering-le Greater a b c n p q r = r

put-le : (k : List ℕ) (d : Data) (ms : Members) (n : ℕ) → longest d ≤ n → longest_member ms ≤ n → longest_member (put k d ms) ≤ n
put-le k d no_members n p q = omega arith
put-le k d (member l e ms) n p q = match_ordering-le _ (member k d (member l e ms)) (member l d ms) (member l e (put k d ms)) n (omega arith) (omega arith) (omega (arith, put-le k d ms n p (omega arith)))

mutual
  json-le : (j : json.Json) (n : ℕ) → long_json j ≤ n → AtMost longest n (of_json j)
  json-le json.null n h = omega arith
  json-le (json.boolean b) n h = omega arith
  json-le (json.number s) n h = AtMost-map (λ _. 0) longest n number (λ a x. omega arith) (number_of s) (none_of n _)
  json-le (json.string s) n h = h
  json-le (json.array js) n h = AtMost-map longest_item longest n array (λ a x. x) _ (items-le js n h)
  json-le (json.object ms) n h = AtMost-map longest_member longest n object (λ a x. x) _ (members-le ms no_members n h (omega arith))

  items-le : (js : json.Items) (n : ℕ) → long_item js ≤ n → AtMost longest_item n (of_items js)
  items-le json.no_items n h = omega arith
  items-le (json.item j js) n h =
      AtMost-before_the_rest longest longest_item n _ (λ d x. AtMost-map longest_item longest_item n (item d) (λ ds y. omega arith) _ (items-le js n (omega arith))) _ (json-le j n (omega arith))

  members-le : (ms : json.Members) (found : Members) (n : ℕ) → long_member ms ≤ n → longest_member found ≤ n → AtMost longest_member n (of_members ms found)
  members-le json.no_members found n h k = k
  members-le (json.member name j ms) found n h k =
      AtMost-before_the_rest longest longest_member n _ (λ d x. members-le ms (put name d found) n (omega arith) (put-le name d found n x k)) _ (json-le j n (omega arith))

last-le : (o : Option (json.Json × List Token)) (n : ℕ) → ReadsWithin long_json n o → AtMost long_json n (option_and_then (λ p. json.if_last p.0 p.1) o)
last-le None n h = tt
last-le (Some (j, [])) n h = h.0
last-le (Some (j, t ∷ r)) n h = tt

pub read-le : (text : List ℕ) (d : Data) → read text ≡ Some d → longest d ≤ length text
read-le text d e =
    let n = length text in
    subst (AtMost longest n) e (AtMost-before_the_rest long_json longest n of_json (λ j x. json-le j n x) _ (last-le _ n (Within-value n max_depth (tokens text) (tokens-le text))))

-- ---- parts of a value

member-le : (k : List ℕ) (ms : Members) (n : ℕ) → longest_member ms ≤ n → AtMost longest n (get_member k ms)
member-le k no_members n h = tt
member-le k (member l e ms) n h = either (slice_cmp nat_cmp k l) (member-le k ms n (omega arith))
  where
    either : (o : Ordering) → AtMost longest n (get_member k ms) → AtMost longest n (match_ordering o (get_member k ms) (Some e) (get_member k ms))
    either Less x = x
    either Equal x = omega arith
    either Greater x = x

short-of : (o : Option Data) (n : ℕ) → n < 2 ^ 31 → AtMost longest n o → HasShortTextsIfAny o
short-of None n h x = tt
short-of (Some d) n h x = omega arith

pub get-short : (k : List ℕ) (d : Data) → HasShortTexts d → HasShortTextsIfAny (get k d)
get-short k null h = tt
get-short k (boolean b) h = tt
get-short k (number n) h = tt
get-short k (string s) h = tt
get-short k (array ds) h = tt
get-short k (object ms) h = short-of (get_member k ms) (longest_member ms) h (member-le k ms (longest_member ms) (omega arith))

item-le : (vs : List Value) (i : ℕ) (d : Value) → i < length vs → longest (view (slice_index_or vs i d)) ≤ longest_item (items_view vs)
item-le [] i d h = absurd (omega arith)
item-le (v ∷ vs) zero d h = omega arith
item-le (v ∷ vs) (suc i) d h = omega (arith, item-le vs i d (omega arith))

array-longest : (d : Data) (ds : Items) → as_array d ≡ Some ds → longest d ≡ longest_item ds
array-longest null ds e = absurd (cc)
array-longest (boolean b) ds e = absurd (cc)
array-longest (number n) ds e = absurd (cc)
array-longest (string s) ds e = absurd (cc)
array-longest (array es) ds e = ap longest_item (same es ds e)
  where
    same : (a b : Items) → Some a ≡ Some b → a ≡ b
    same a b h = cc
array-longest (object ms) ds e = absurd (cc)

-- an item of a list
pub item-short : (d : Data) (vs found : List Value) (i : ℕ) (v : Value) → HasShortTexts d → as_array d ≡ Some (items_view vs) → found ≡ vs → i < length found → v ≡ slice_index_or found i v → HasShortTexts (view v)
item-short d vs found i v h e same within at =
    let here = item-le found i v within in
    let all : longest_item (items_view found) ≡ longest_item (items_view vs) = ap (λ (ws : List Value). longest_item (items_view ws)) same in
    let is : longest (view v) ≡ longest (view (slice_index_or found i v)) = ap (λ (w : Value). longest (view w)) at in
    omega (arith, array-longest d (items_view vs) e, here, all, is)
