-- Which term is sought, and how many steps the search takes (format page, "DictionaryTerm index").
use Rattle.std.specs.Prelude.{ℕ, zero, suc, ◌+◌, ◌-◌, ◌*◌, ◌/◌, Bool, ◌&&◌, ◌==◌, if◌then◌else◌, min, List, map, length, slice_index_or, []}
use Rattle.std.specs.Str.{bytes_eq}
use Rattle.std.specs.List.{prefix_len}
use Rattle.std.specs.declared.cmp.Ordering.{Ordering}
use Rattle.std.specs.Ordering.{ordering_then, is_lt}
use Rattle.lu_grammar.specs.Meaning.{Reads}
use Rattle.lu_prims.specs.Order.{text_cmp}
use Rattle.lu_types.specs.Tables.{TableField}
use Rattle.term_dict.specs.Terms.{DictionaryTerm}
use Rattle.term_dict.specs.Dictionary.{Dictionary, tis_plan}
use Rattle.term_dict.specs.Index.{entry_count, tii_plan}

-- the terms of a segment, and the names of its fields by their numbers
pub record Searched : Type 0 where
  pub dictionary : Dictionary
  pub names : List (List ℕ)

-- these terms and names
abbrev pub searched : Dictionary → List (List ℕ) → Searched
searched dictionary names = record { dictionary = dictionary; names = names }

-- the names of some fields
abbrev pub names_of : List TableField → List (List ℕ)
names_of fields = map (λ f. f.name) fields

-- the name of the field with a number, empty where there is none
abbrev pub field_name_of : List (List ℕ) → ℕ → List ℕ
field_name_of names number = slice_index_or names number []

-- both files of the terms were checked: bytes that stand for them in a segment with these fields, and their index beside them
pub record AreChecked (tii : List ℕ) (d : Dictionary) (fields : List TableField) : Type 0 where
  pub documents : ℕ
  pub tis : List ℕ
  pub terms : Reads (tis_plan fields documents (length tis)) tis d
  pub entries : Reads (tii_plan d) tii tt

-- the term has this text in the field of this name
abbrev pub is_sought : List (List ℕ) → List ℕ → List ℕ → DictionaryTerm → Bool
is_sought names field text t = bytes_eq (field_name_of names t.info.field) field && bytes_eq t.text text

-- how a term stands to what is sought: by the name of its field, and then by its text, in UTF-16 order
abbrev pub sought_cmp : List (List ℕ) → List ℕ → List ℕ → DictionaryTerm → Ordering
sought_cmp names field text t = ordering_then (text_cmp (field_name_of names t.info.field) field) (text_cmp t.text text)

-- how many terms are below what is sought
abbrev pub rank : Searched → List ℕ → List ℕ → ℕ
rank s field text = prefix_len (λ t. is_lt (sought_cmp s.names field text t)) s.dictionary.terms

-- ---- the steps

-- how often a number is halved until 0 is left, in at most so many turns
unfoldable pub halvings : ℕ → ℕ → ℕ
halvings zero n = 0
halvings (suc turns) n = if n == 0 then 0 else suc (halvings turns (n / 2))

-- how many binary digits a number has, and 0 has none
abbrev pub digits : ℕ → ℕ
digits n = halvings n n

-- the interval of terms in which the first term that is not below stands, and the last interval where all are below
abbrev pub interval_of : Dictionary → ℕ → ℕ
interval_of d below = min (below / d.numbers.index_interval) (entry_count d.numbers - 1)

-- how many terms there are up to the first that is not below
abbrev pub read_up_to : Dictionary → ℕ → ℕ
read_up_to d below = min (below + 1) (length d.terms)

-- how many terms are read: those of the interval, up to the first that is not below
abbrev pub terms_read : Dictionary → ℕ → ℕ
terms_read d below = read_up_to d below - interval_of d below * d.numbers.index_interval

-- the steps of a search: one for each entry that is compared, as many as the number of entries behind entry 0 has binary digits; and one for each term that is read
abbrev pub seek_steps : Searched → List ℕ → List ℕ → ℕ
seek_steps s field text = digits (entry_count s.dictionary.numbers - 1) + terms_read s.dictionary (rank s field text)

-- the most steps that a search takes
abbrev pub most_seek_steps : Dictionary → ℕ
most_seek_steps d = digits (entry_count d.numbers) + d.numbers.index_interval + 1
