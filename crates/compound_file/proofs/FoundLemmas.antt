-- Each file that is packed is found under its name.
use Rattle.std.proofs.Common.{◌≡◌, ◌≢◌, ℕ, Bool, true, false, not, ◌&&◌, List, [], ◌∷◌, map, option_map, filter_map, Option, Some, None, refl, sym, ap, subst, ◌∙◌, inl, inr}
use Rattle.std.specs.Str.{bytes_eq}
use Rattle.std.specs.List.{AllByRecursion, cons_option}
use Rattle.std.specs.Cmp.Lexicographic.{bytes_decides}
use Rattle.std.proofs.lemmas.Bool.{cases_Bool, or_parts}
use Rattle.lu_types.specs.declared.kind.FileKind.{FileKind}
use Rattle.lu_types.specs.declared.kind.FileKind.TheVariants.{Commit, Cfs, Cfx, Fnm, Fdx, Fdt, Tis, Tii, Frq, Prx, Nrm, Sep, Del, Tvx, Tvd, Tvf}
use Rattle.lu_types.specs.declared.named_file.NamedFile.{NamedFile}
use Rattle.lu_types.specs.Names.{part_name, IsPart}
use Rattle.lu_types.specs.Kinds.{part_kinds}
use Rattle.compound_file.specs.Entries.{part_named}
use Rattle.compound_file.specs.Packing.{is_same, file_of, packed_in}
use Rattle.compound_file.proofs.KindLemmas.{file_of-kind, same_kind, same_name, all-parts}
use Rattle.compound_file.proofs.PackedLemmas.{same_kind-refl, has, differ, part_kinds-differ}

-- two texts that differ
differs : (a b : List ℕ) → a ≢ b → bytes_eq a b ≡ false
differs a b apart = elim (cases_Bool (bytes_eq a b)) [
  | inl t ↦ absurd (apart ((bytes_decides a b).0 t))
  | inr f ↦ f
]

true_is_not : true ≡ false → ⊥
true_is_not h = cc

-- no kind is the same as one and not the same
other : (j kind : FileKind) → is_same j kind ≡ false → kind ≢ j
other j kind f same = true_is_not (sym (ap (is_same j) same ∙ same_kind-refl j) ∙ f)

module _ (files : List NamedFile) (segment : List ℕ) (kind : FileKind) (part : IsPart kind) where
  abbrev named_in : List NamedFile → Option (List ℕ)
  named_in found = part_named (part_name segment kind) (map (packed_in segment) found)

  -- a file of another kind in front
  passed : (file : NamedFile) (found : List NamedFile) → IsPart file.kind → kind ≢ file.kind → named_in (file ∷ found) ≡ named_in found
  passed file found is apart =
      let f : bytes_eq (part_name segment kind) (part_name segment file.kind) ≡ false = differs _ _ (λ same. apart (same_name segment kind file.kind part is same)) in
      rw f refl

  -- the file in front
  first : (file : NamedFile) (found : List NamedFile) → file.kind ≡ kind → named_in (file ∷ found) ≡ Some file.bytes
  first file found is =
      let t : bytes_eq (part_name segment kind) (part_name segment file.kind) ≡ true = (bytes_decides _ _).1 (ap (part_name segment) (sym is)) in
      rw t refl

  not-found : (kinds : List FileKind) → AllByRecursion IsPart kinds → has kind kinds ≡ false → named_in (filter_map (file_of files) kinds) ≡ None
  unfolding has
  not-found [] parts none = refl
  not-found (j ∷ js) parts none =
      let apart = or_parts (is_same j kind) (has kind js) none in go (file_of files j) refl (other j kind apart.0) (not-found js parts.1 apart.1)
    where
      go : (o : Option NamedFile) → file_of files j ≡ o → kind ≢ j → named_in (filter_map (file_of files) js) ≡ None → named_in (cons_option o (filter_map (file_of files) js)) ≡ None
      go None e apart rest = rest
      go (Some file) e apart rest =
          let is : j ≡ file.kind = sym (file_of-kind files j file e) in
          passed file (filter_map (file_of files) js) (subst IsPart is parts.0) (λ same. apart (same ∙ sym is)) ∙ rest

  found : (kinds : List FileKind) → AllByRecursion IsPart kinds → differ kinds ≡ true → has kind kinds ≡ true → named_in (filter_map (file_of files) kinds) ≡ option_map (λ (f : NamedFile). f.bytes) (file_of files kind)
  unfolding has differ
  found [] parts d is = cc
  found (j ∷ js) parts d is = elim (cases_Bool (is_same j kind)) [
    | inl same ↦ here (file_of files j) refl (same_kind j kind same) (not-found js parts.1 (subst (λ (k : FileKind). has k js ≡ false) (same_kind j kind same) (front (has j js) (differ js) d)))
    | inr apart ↦ there (file_of files j) refl (other j kind apart) (found js parts.1 (back (has j js) (differ js) d) (rw apart at is))
  ]
    where
      front : (a b : Bool) → (not a && b) ≡ true → a ≡ false
      front false b e = refl
      front true b e = cc

      back : (a b : Bool) → (not a && b) ≡ true → b ≡ true
      back false b e = e
      back true b e = cc

      here : (o : Option NamedFile) → file_of files j ≡ o → j ≡ kind → named_in (filter_map (file_of files) js) ≡ None
          → named_in (cons_option o (filter_map (file_of files) js)) ≡ option_map (λ (f : NamedFile). f.bytes) (file_of files kind)
      here None e same rest = rest ∙ sym (ap (λ (k : FileKind). option_map (λ (f : NamedFile). f.bytes) (file_of files k)) (sym same) ∙ ap (option_map (λ (f : NamedFile). f.bytes)) e)
      here (Some file) e same rest =
          first file (filter_map (file_of files) js) (file_of-kind files j file e ∙ same)
          ∙ sym (ap (λ (k : FileKind). option_map (λ (f : NamedFile). f.bytes) (file_of files k)) (sym same) ∙ ap (option_map (λ (f : NamedFile). f.bytes)) e)

      there : (o : Option NamedFile) → file_of files j ≡ o → kind ≢ j → named_in (filter_map (file_of files) js) ≡ option_map (λ (f : NamedFile). f.bytes) (file_of files kind)
          → named_in (cons_option o (filter_map (file_of files) js)) ≡ option_map (λ (f : NamedFile). f.bytes) (file_of files kind)
      there None e apart rest = rest
      there (Some file) e apart rest =
          let is : j ≡ file.kind = sym (file_of-kind files j file e) in
          passed file (filter_map (file_of files) js) (subst IsPart is parts.0) (λ same. apart (same ∙ sym is)) ∙ rest

-- a part's kind is among those that are packed
among : (kind : FileKind) → IsPart kind → has kind part_kinds ≡ true
unfolding has
among Commit part = absurd part
among Cfs part = refl
among Cfx part = refl
among Fnm part = refl
among Fdx part = refl
among Fdt part = refl
among Tis part = refl
among Tii part = refl
among Frq part = refl
among Prx part = refl
among Nrm part = refl
among (Sep field) part = absurd part
among Del part = absurd part
among Tvx part = refl
among Tvd part = refl
among Tvf part = refl

-- the file of a kind is found under its name, and no other
pub part_named-file_of : (files : List NamedFile) (segment : List ℕ) (kind : FileKind) → IsPart kind
    → part_named (part_name segment kind) (map (packed_in segment) (filter_map (file_of files) part_kinds)) ≡ option_map (λ (f : NamedFile). f.bytes) (file_of files kind)
part_named-file_of files segment kind part = found files segment kind part part_kinds all-parts part_kinds-differ (among kind part)
