-- What is so of every term of a good dictionary.
use Rattle.std.specs.Prelude.{◌≡◌, ℕ, ◌<◌, ◌≤◌, ◌^◌, true, List, length, All, AllPairs}
use Rattle.std.specs.declared.cmp.Ordering.TheVariants.{Less}
use Rattle.std.specs.Str.{IsUtf8}
use Rattle.lu_types.specs.Tables.{TableField}
use Rattle.term_dict.specs.Terms.{DictionaryTerm, is_indexed, dictionary_term_cmp}
use Rattle.term_dict.specs.Dictionary.{Dictionary}

-- what a term of a segment with these fields and so many documents meets, where skip data start at so many documents
pub record IsTermOfSegment (fields : List TableField) (documents interval : ℕ) (t : DictionaryTerm) : Type 0 where
  pub field : t.info.field < length fields
  pub indexed : is_indexed fields t.info.field ≡ true
  pub text : IsUtf8 t.text
  pub some : 1 ≤ t.info.doc_freq
  pub most : t.info.doc_freq ≤ documents
  pub freq : t.info.freq < 2 ^ 31
  pub prox : t.info.prox < 2 ^ 31
  pub no_skip : t.info.doc_freq < interval → t.info.skip ≡ 0

-- each term does, they rise by name and text, and there are as many terms and places as the numbers say
pub record AreGoodTerms (fields : List TableField) (documents : ℕ) (d : Dictionary) : Type 0 where
  pub each : All (IsTermOfSegment fields documents d.numbers.skip_interval) d.terms
  pub rise : AllPairs (λ a b. dictionary_term_cmp fields a b ≡ Less) d.terms
  pub count : length d.terms ≡ d.numbers.count
  pub starts : length d.starts ≡ d.numbers.count
