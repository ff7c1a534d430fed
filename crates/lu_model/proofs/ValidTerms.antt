-- The terms of an index of documents that can be written.
use Rattle.std.proofs.Common.{◌≡◌, ℕ, ◌+◌, ◌<◌, ◌≤◌, true, false, not, cond, List, [], ◌∷◌, Some, None, length, map, refl, sym, ap, ◌∙◌, subst, inl, inr, arith}
use Rattle.std.specs.Prelude.{filter_map, flat_map, is_some, option_map, ◌&&◌}
use Rattle.std.specs.List.{enumerate_from, cons_option, AllByRecursion}
use Rattle.std.specs.List.Sorted.{IsStrictlySortedBy}
use Rattle.std.specs.Ordering.{nat_cmp}
use Rattle.std.specs.declared.cmp.Ordering.TheVariants.{Less}
use Rattle.std.specs.Str.{bytes_eq}
use Rattle.std.proofs.lemmas.List.{length-map}
use Rattle.lu_prims.proofs.OrderLemmas.{nat_less}
use mathlib.Core.Bool.{true≢false}
use Rattle.lu_types.specs.Bits.{has_bit}
use Rattle.lu_types.specs.Tables.{TableField}
use Rattle.lu_types.specs.Bits as bit
use Rattle.lu_types.specs.declared.document.Document.{Document}
use Rattle.lu_types.specs.declared.document.IndexedField.{IndexedField}
use Rattle.lu_types.specs.declared.document.Token.{Token}
use Rattle.lu_types.specs.declared.document.Limits.{Limits}
use Rattle.lu_types.specs.Bounds.{most_bytes, most_place}
use Rattle.lu_types.specs.Documents.{IsDocument, IsIndexedField, IsToken}
use Rattle.lu_types.specs.DocFaults.{IsSoundToken, IsSoundField, IsSound}
use Rattle.lu_types.specs.Joins.{has_payloads, asked_bits}
use Rattle.lu_types.specs.declared.stored.Stored.TheVariants.{Binary}
use Rattle.lu_types.specs.Occurrences.{Occurrence}
use Rattle.lu_model.specs.Index.{Term, KeptOccurrences, given, omitted, IndexedEntry}
use Rattle.lu_model.specs.Contents.{Content, bits_of, content_of, given_if_any, kept, tokens_for, tokens_with}
use Rattle.lu_model.specs.Valid.{IsSmall, IsStorable, IsKept}
use Rattle.lu_model.proofs.Words.{IsIn, Each, entry_of}
use Rattle.lu_model.proofs.Asked.{payloads-asked, omit_tf-asked}
use Rattle.lu_model.proofs.Bits.{Says, turned_false}
use Rattle.lu_model.proofs.Held.{HasFields, HasFields-indexed, Says-indexed, stands_in, occurrences-in_terms}
use Rattle.lu_model.proofs.Each.{each_in, each_at, each_by_recursion, each_filter, each_map, pair_filter, pair_map, length_filter-le, each-from_all, non_decreasing, all-from_each}
use Rattle.lu_model.proofs.Among.{from_filter}
use Rattle.lu_model.proofs.SoundTokens.{each_sound, do_not_fall, one_field, no_payload}

-- below 2^31
pub small_bytes : (n : ℕ) → n ≤ most_bytes → IsSmall n
small_bytes n h = omega arith

pub small_place : (n : ℕ) → n ≤ most_place → IsSmall n
small_place n h = omega arith

-- the occurrence of a token
abbrev occurrence : Token → Occurrence
occurrence token = record { position = token.position; payload = token.payload }

-- the entries of a term, by what holds of each document's occurrences
module _ (table : List TableField) (term : Term) where
  abbrev bits : ℕ
  bits = bits_of term.field table

  abbrev entries_from : ℕ → List Content → List IndexedEntry
  entries_from m contents = filter_map (entry_of table term) (enumerate_from m contents)

  pub entries_within : (size m : ℕ) (contents : List Content) → m + length contents ≤ size → ((c : Content) (o : KeptOccurrences) → IsIn c contents → c.occurrences term ≡ Some o → IsKept bits (kept bits o))
      → Each (λ entry. (m ≤ entry.document) × (entry.document < size) × IsKept bits entry.occurrences) (entries_from m contents)
  entries_within size m [] room h = tt
  entries_within size m (c ∷ contents) room h =
      let rest = each_in (λ (entry : IndexedEntry). (m ≤ entry.document) × (entry.document < size) × IsKept bits entry.occurrences) (entries_from (m + 1) contents) (λ e k.
      let at = each_at (λ (entry : IndexedEntry). (m + 1 ≤ entry.document) × (entry.document < size) × IsKept bits entry.occurrences) e (entries_from (m + 1) contents) (entries_within size (m + 1) contents (omega arith) (λ d o q. h d o (inr q))) k in
      let above : m + 1 ≤ e.document = at.0 in
      (omega arith, at.1, at.2)) in
      elim (c.occurrences term) as (λ o. c.occurrences term ≡ o → Each (λ (entry : IndexedEntry). (m ≤ entry.document) × (entry.document < size) × IsKept bits entry.occurrences) (cons_option (option_map (λ (occurrences : KeptOccurrences). let e : IndexedEntry = record { document = m; occurrences = kept bits occurrences } in e) o) (entries_from (m + 1) contents))) [
        | None ↦ λ q. rest
        | Some o ↦ λ q. ((omega arith, omega arith, h c o (inl refl) q), rest)
      ] refl

  above_all : (m : ℕ) (entries : List IndexedEntry) → Each (λ entry. m < entry.document) entries → AllByRecursion (λ n. nat_cmp m n ≡ Less) (map (λ entry. entry.document) entries)
  above_all m [] h = tt
  above_all m (e ∷ entries) h = (nat_less m e.document h.0, above_all m entries h.1)

  not_below : (m : ℕ) (contents : List Content) → Each (λ entry. m ≤ entry.document) (entries_from m contents)
  not_below m [] = tt
  not_below m (c ∷ contents) =
      let rest = each_in (λ (entry : IndexedEntry). m ≤ entry.document) (entries_from (m + 1) contents) (λ e k.
      let at : m + 1 ≤ e.document = each_at (λ (entry : IndexedEntry). m + 1 ≤ entry.document) e (entries_from (m + 1) contents) (not_below (m + 1) contents) k in omega arith) in
      elim (c.occurrences term) as (λ o. Each (λ (entry : IndexedEntry). m ≤ entry.document) (cons_option (option_map (λ (occurrences : KeptOccurrences). let e : IndexedEntry = record { document = m; occurrences = kept bits occurrences } in e) o) (entries_from (m + 1) contents))) [
        | None ↦ rest
        | Some o ↦ (omega arith, rest)
      ]

  pub entries_rise : (m : ℕ) (contents : List Content) → IsStrictlySortedBy nat_cmp (map (λ (entry : IndexedEntry). entry.document) (entries_from m contents))
  unfolding IsStrictlySortedBy
  entries_rise m [] = tt
  entries_rise m (c ∷ contents) =
      let rest = entries_rise (m + 1) contents in
      let above = above_all m (entries_from (m + 1) contents) (each_in (λ (entry : IndexedEntry). m < entry.document) (entries_from (m + 1) contents) (λ e k.
      let at : m + 1 ≤ e.document = each_at (λ (entry : IndexedEntry). m + 1 ≤ entry.document) e (entries_from (m + 1) contents) (not_below (m + 1) contents) k in omega arith)) in
      elim (c.occurrences term) as (λ o. IsStrictlySortedBy nat_cmp (map (λ (entry : IndexedEntry). entry.document) (cons_option (option_map (λ (occurrences : KeptOccurrences). let e : IndexedEntry = record { document = m; occurrences = kept bits occurrences } in e) o) (entries_from (m + 1) contents)))) [
        | None ↦ rest
        | Some o ↦ (above, rest)
      ]

  pub some_entry : (m : ℕ) (c : Content) (contents : List Content) → IsIn c contents → is_some (c.occurrences term) ≡ true → 0 < length (entries_from m contents)
  some_entry m c [] h e = absurd h
  some_entry m c (d ∷ contents) (inl q) e =
      let there : is_some (d.occurrences term) ≡ true = ap (λ (w : Content). is_some (w.occurrences term)) (sym q) ∙ e in
      elim (d.occurrences term) as (λ o. is_some o ≡ true → 0 < length (cons_option (option_map (λ (occurrences : KeptOccurrences). let e : IndexedEntry = record { document = m; occurrences = kept bits occurrences } in e) o) (entries_from (m + 1) contents))) [
        | None ↦ λ t. absurd (true≢false (sym t))
        | Some o ↦ λ t. omega arith
      ] there
  some_entry m c (d ∷ contents) (inr k) e =
      let rest = some_entry (m + 1) c contents k e in
      elim (d.occurrences term) as (λ o. 0 < length (cons_option (option_map (λ (occurrences : KeptOccurrences). let e : IndexedEntry = record { document = m; occurrences = kept bits occurrences } in e) o) (entries_from (m + 1) contents))) [
        | None ↦ rest
        | Some o ↦ omega arith
      ]

given_is : (tokens : List Token) (o : KeptOccurrences) → given_if_any tokens ≡ Some o → (o ≡ given (map occurrence tokens)) × (0 < length tokens)
given_is [] o e = cc
given_is (t ∷ tokens) o e = let same : given (map occurrence (t ∷ tokens)) ≡ o = cc in (sym same, omega arith)

-- a document of which nothing is wrong, under a table that has its fields
module _ (table : List TableField) (doc : Document) (limits : Limits) (small : IsSmall limits.tokens) (fields : HasFields table doc) (sound : IsSound doc limits) (made : IsDocument doc) where
  pub sound_field : (f : IndexedField) → IsIn f doc.indexed → IsSoundField limits f
  sound_field f h = each_at (IsSoundField limits) f doc.indexed (each_by_recursion (IsSoundField limits) doc.indexed sound.fields) h

  pub made_field : (f : IndexedField) → IsIn f doc.indexed → IsIndexedField f
  made_field f h = each_at IsIndexedField f doc.indexed (each-from_all IsIndexedField doc.indexed made.indexed) h

  -- what is kept of a term in the document is as the table wants it
  pub is_kept : (term : Term) (o : KeptOccurrences) → (content_of doc).occurrences term ≡ Some o → IsKept (bits_of term.field table) (kept (bits_of term.field table) o)
  is_kept term o e =
      let s = stands_in doc term (occurrences-in_terms doc term (ap is_some e)) in
      let f = s.field in
      let tokens = tokens_with term.text f.tokens in
      let same : flat_map (tokens_for term) doc.indexed ≡ tokens = one_field term f doc.indexed sound.apart s.inside s.name in
      let is = given_is tokens o (ap given_if_any (sym same) ∙ e) in
      let right = sound_field f s.inside in
      let says = subst (λ name. Says (bits_of name table) (asked_bits f.vector (is_some f.norm) f.omit_tf (has_payloads f))) (sym s.name) (Says-indexed table f (HasFields-indexed table doc fields f s.inside)) in
      let fewer = length_filter-le (λ (token : Token). bytes_eq term.text token.text) f.tokens in
      let few : length f.tokens ≤ limits.tokens = right.few in
      let count : length (map occurrence tokens) ≡ length tokens = length-map tokens occurrence in
      elim (has_bit bit.omit_tf (bits_of term.field table)) as (λ b. has_bit bit.omit_tf (bits_of term.field table) ≡ b → IsKept (bits_of term.field table) (cond b omitted o)) [
        | true ↦ λ t. t
        | false ↦ λ t.
            let no_omit : f.omit_tf ≡ false = turned_false (has_bit bit.omit_tf (bits_of term.field table)) f.omit_tf (λ q. says.omit_tf (omit_tf-asked f.vector (is_some f.norm) f.omit_tf (has_payloads f) ∙ q)) t in
            subst (IsKept (bits_of term.field table)) (sym is.0) (
              t,
              record {
                some = omega (arith, is.1, count);
                few = omega (arith, fewer, few, count, small);
                rise = non_decreasing (map (λ (o : Occurrence). o.position) (map occurrence tokens)) (pair_map (λ m n. m ≤ n) (λ (o : Occurrence). o.position) (map occurrence tokens) (pair_map (λ (a b : Occurrence). a.position ≤ b.position) occurrence tokens (pair_filter (λ (a b : Token). a.position ≤ b.position) (λ (token : Token). bytes_eq term.text token.text) f.tokens (do_not_fall 0 f.tokens right.tokens))));
                small = all-from_each (λ (o : Occurrence). IsSmall o.position × IsStorable (Binary o.payload)) (map occurrence tokens) (each_map (λ (o : Occurrence). IsSmall o.position × IsStorable (Binary o.payload)) occurrence tokens (each_in (λ (token : Token). IsSmall token.position × IsStorable (Binary token.payload)) tokens (λ token k.
                    let one = each_at IsSoundToken token tokens (each_filter IsSoundToken (λ (token : Token). bytes_eq term.text token.text) f.tokens (each_sound 0 f.tokens right.tokens)) k in
                    let of = each_at IsToken token f.tokens (each-from_all IsToken f.tokens (made_field f s.inside).tokens) (from_filter (λ (token : Token). bytes_eq term.text token.text) token f.tokens k).0 in
                    (small_place token.position one.position, (of.payload, small_bytes (length token.payload) one.payload)))));
                payloads = λ q.
                    let asked : (not f.omit_tf && has_payloads f) ≡ false = turned_false (has_bit bit.payloads (bits_of term.field table)) (not f.omit_tf && has_payloads f) (λ p. says.payloads (payloads-asked f.vector (is_some f.norm) f.omit_tf (has_payloads f) ∙ p)) q in
                    let none : has_payloads f ≡ false = ap (λ b. not b && has_payloads f) (sym no_omit) ∙ asked in
                    all-from_each (λ (o : Occurrence). o.payload ≡ []) (map occurrence tokens) (each_map (λ (o : Occurrence). o.payload ≡ []) occurrence tokens (each_filter (λ (token : Token). token.payload ≡ []) (λ (token : Token). bytes_eq term.text token.text) f.tokens (no_payload f.tokens none)));
              },
            )
      ] refl
