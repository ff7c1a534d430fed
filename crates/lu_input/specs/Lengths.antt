-- How long the texts of a JSON value are, the names of members aside.
use Rattle.std.specs.Prelude.{ℕ, max, ◌<◌, ◌^◌, length, Option, Some, None}
use Rattle.serde_json.specs.Data.{Data, null, boolean, number, string, array, object, Items, no_items, item, Members, no_members, member}

-- the length of the longest
abbrev mutual
  pub longest : Data → ℕ
  longest null = 0
  longest (boolean b) = 0
  longest (number n) = 0
  longest (string s) = length s
  longest (array ds) = longest_item ds
  longest (object ms) = longest_member ms

  pub longest_item : Items → ℕ
  longest_item no_items = 0
  longest_item (item d ds) = max (longest d) (longest_item ds)

  pub longest_member : Members → ℕ
  longest_member no_members = 0
  longest_member (member k d ms) = max (longest d) (longest_member ms)

-- each of them has fewer than 2 ^ 31 bytes
abbrev pub HasShortTexts : Data → Type 0
HasShortTexts d = longest d < 2 ^ 31

-- so it is with the value, where there is one
abbrev pub HasShortTextsIfAny : Option Data → Type 0
HasShortTextsIfAny None = Unit {0}
HasShortTextsIfAny (Some d) = HasShortTexts d
