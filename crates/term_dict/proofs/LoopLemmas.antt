-- What a loop that reads terms keeps.
use Rattle.std.proofs.Common.{◌≡◌, ℕ, ◌+◌, ◌-◌, ◌<◌, ◌≤◌, List, [], ◌∷◌, ◌++◌, length, Some, None, Result, Ok, Err, refl, sym, ap, subst, ◌∙◌, arith, inl, inr}
use Rattle.std.proofs.lemmas.Bool.{cases_lt, cases_eq}
use Rattle.std.proofs.lemmas.List.{get_or_append_left, get_or_push, get_or_past, length-append}
use Rattle.std.proofs.lemmas.Str.{IsUtf8-nil}
use Rattle.std.specs.Ordering.{ord_max, nat_cmp}
use Rattle.std.proofs.lemmas.Bool.Decides.{nat_tests}
use Rattle.lu_grammar.specs.Bytes.{Cursor}
use Rattle.lu_grammar.specs.Plans.{Broken, read_plan, one, times}
use Rattle.lu_grammar.proofs.Loops.{each-none, times-more, times-fault}
use Rattle.term_dict.specs.Headings.{entry}
use Rattle.term_dict.specs.Terms.{DictionaryTerm, no_term, last_term}
use Rattle.term_dict.specs.Dictionary.{TermConditions, Progress, no_terms, term_kind}
use Rattle.term_dict.specs.Last.{IsSoundTerm}
use Rattle.term_dict.specs.Checks.{IsNextTerm, AreWithin, broken_so}
use Rattle.lu_types.specs.Judging.{IsBrokenSo}
use Rattle.lu_types.specs.declared.fault.CodecFault.{CodecFault}
use Rattle.lu_types.specs.declared.fault.CodecFault.TheVariants.{Spot, OutOfMemory}
use Rattle.lu_types.specs.declared.kind.FileKind.{FileKind}

-- the last of some terms and one more
pub last_term-push : (ts : List DictionaryTerm) (t : DictionaryTerm) → last_term (ts ++ t ∷ []) ≡ t
last_term-push ts t = get_or_push ts t no_term (length (ts ++ t ∷ []) - 1) (omega (arith, length-append ts (t ∷ [])))

pub AreWithin-push : (longest more : ℕ) (ts : List DictionaryTerm) (t : DictionaryTerm) → AreWithin longest ts → longest ≤ more → length t.text ≤ more → AreWithin more (ts ++ t ∷ [])
AreWithin-push longest more ts t within le here = λ i. elim (cases_lt i (length ts)) [
  | inl lt ↦ rw (get_or_append_left ts (t ∷ []) no_term i lt) (omega (arith, within i))
  | inr ge ↦ elim (cases_eq i (length ts)) [
    | inl e ↦ rw (get_or_push ts t no_term i (sym e)) here
    | inr ne ↦ rw (get_or_past (ts ++ t ∷ []) i no_term (omega (arith, length-append ts (t ∷ [])))) (omega arith)
  ]
]

-- so many terms are read between two places, the last is this one, and no text is longer
pub record HasRead (standing : TermConditions) (interval : ℕ) (start : Cursor) (i : ℕ) (here : Cursor) (last : DictionaryTerm) (longest : ℕ) : Type 0 where
  pub so_far : Progress
  pub read : read_plan (times (term_kind standing interval) i no_terms) start ≡ Ok (so_far, here)
  pub is_last : last_term so_far.terms ≡ last
  pub count : length so_far.terms ≡ i
  pub within : AreWithin longest so_far.terms
  pub sound : IsSoundTerm last

pub HasRead-none : (standing : TermConditions) (interval : ℕ) (start : Cursor) (last : DictionaryTerm) → last ≡ no_term → IsSoundTerm last → HasRead standing interval start 0 start last 0
HasRead-none standing interval start last is sound = record {
  so_far = no_terms;
  read = each-none (one (term_kind standing interval)) no_terms start;
  is_last = sym is;
  count = refl;
  within = λ i. omega arith;
  sound = sound;
}

pub HasRead-more : (standing : TermConditions) (interval : ℕ) (start : Cursor) (i : ℕ) (here : Cursor) (last : DictionaryTerm) (longest : ℕ) (new : Cursor) (next : DictionaryTerm) (more : ℕ) → (h : HasRead standing interval start i here last longest)
    → IsNextTerm standing interval h.so_far here new next None → IsSoundTerm next → longest ≤ more → length next.text ≤ more → HasRead standing interval start (i + 1) new next more
HasRead-more standing interval start i here last longest new next more h (e, good, is) sound le fits = record {
  so_far = record { terms = h.so_far.terms ++ _ ∷ []; starts = h.so_far.starts ++ here.place ∷ [] };
  read = times-more (term_kind standing interval) i no_terms start h.so_far here (entry e) new h.read good;
  is_last = last_term-push h.so_far.terms _ ∙ sym is;
  count = length-append h.so_far.terms _ ∙ omega (arith, h.count);
  within = AreWithin-push longest more h.so_far.terms _ h.within le (subst (λ (t : DictionaryTerm). length t.text ≤ more) is fits);
  sound = sound;
}

pub HasRead-fault : (standing : TermConditions) (interval : ℕ) (start : Cursor) (i n : ℕ) (here : Cursor) (last : DictionaryTerm) (longest : ℕ) (new : Cursor) (next : DictionaryTerm) (rule : ℕ) → (h : HasRead standing interval start i here last longest)
    → i < n → IsNextTerm standing interval h.so_far here new next (Some rule) → read_plan (times (term_kind standing interval) n no_terms) start ≡ Err (record { offset = here.place; rule = rule })
HasRead-fault standing interval start i n here last longest new next rule h lt broken = times-fault (term_kind standing interval) i n no_terms start h.so_far here rule lt h.read broken

pub IsSoundTerm-none : (last : DictionaryTerm) → last ≡ no_term → IsSoundTerm last
IsSoundTerm-none last is = subst IsSoundTerm (sym is) (record { text = IsUtf8-nil; freq = omega arith; prox = omega arith })

-- what a fault says is so of what reading answers
pub IsBrokenSo-same : {A : Type 0} (kind : FileKind) (place rule : ℕ) (read : Result A Broken) (fault : CodecFault) → read ≡ Err (record { offset = place; rule = rule }) → IsBrokenSo kind (broken_so place rule) fault → IsBrokenSo kind read fault
IsBrokenSo-same {A} kind place rule read (Spot s) e h = (h.0, e ∙ ap again h.1)
  where
    again : Result (Unit {0}) Broken → Result A Broken
    again (Err b) = Err b
    again (Ok x) = read
IsBrokenSo-same kind place rule read OutOfMemory e h = tt

-- the greater of two numbers is below neither
pub ord_max-above : (a b : ℕ) → (a ≤ ord_max nat_cmp a b) × (b ≤ ord_max nat_cmp a b)
ord_max-above a b = (grind (arith, nat_tests), grind (arith, nat_tests))

pub IsBrokenSo-map : {A B : Type 0} (kind : FileKind) (read : Result A Broken) (other : Result B Broken) (fault : CodecFault) → ((b : Broken) → read ≡ Err b → other ≡ Err b) → IsBrokenSo kind read fault → IsBrokenSo kind other fault
IsBrokenSo-map kind read other (Spot s) same h = (h.0, same (record { offset = s.offset; rule = s.rule }) h.1)
IsBrokenSo-map kind read other OutOfMemory same h = tt

pub ruleset pushing = (last_term-push)
