use Rattle.std.proofs.Common.{◌≡◌, ℕ, List, [], ◌∷◌, ◌++◌, map, All, sym, ap, subst, ◌∙◌, append_assoc}
use Rattle.std.specs.Vec.Iter.{into_iter_items}
use Rattle.std.proofs.lemmas.List.Elements.{All-tail}
use Rattle.lu_types.specs.Names.{IsPart}
use Rattle.lu_types.specs.declared.named_file.NamedFile.{NamedFile}
use Rattle.lu_folder.specs.declared.new_file.NewFile.{NewFile}
use Rattle.lu_changes.specs.Building.{new_file}
use Rattle.lu_changes.proofs.new_segment.new_files.Goals as goal

-- one file more is under its name, and one less is left
files-more : (number : ℕ) (made after : List NewFile) (made_file : NewFile) (file : NamedFile) (left rest : List NamedFile) (all : List NewFile) → left ≡ file ∷ rest → after ≡ made ++ made_file ∷ [] → made_file ≡ new_file number file
    → made ++ map (new_file number) left ≡ all → after ++ map (new_file number) rest ≡ all
files-more number made after made_file file left rest all split pushed is was =
    ap (λ (files : List NewFile). files ++ map (new_file number) rest) pushed
    ∙ append_assoc made (made_file ∷ []) (map (new_file number) rest)
    ∙ ap (λ (one : NewFile). made ++ one ∷ map (new_file number) rest) is
    ∙ ap (λ (files : List NamedFile). made ++ map (new_file number) files) (sym split)
    ∙ was

pub loop-file-preserved : goal.loop-file-preserved
loop-file-preserved c =
    let left = into_iter_items c.loop-file.file-iterator in
    let rest = into_iter_items c.next.new.self in
    let split : left ≡ c.in-Some.file ∷ rest = c.in-Some.ensures.steps.0 in
    record {
      all = files-more c.args.number c.loop-file.new.items c.push.new.self.items c.in_ok-new_file.field-0 c.in-Some.file left rest (map (new_file c.args.number) c.args.files.items) split c.in_ok-push.ensures.items c.in_ok-new_file.ensures c.loop-file.invariant.all;
      left = All-tail (λ (file : NamedFile). IsPart file.kind) c.in-Some.file rest (subst (λ (files : List NamedFile). All (λ (file : NamedFile). IsPart file.kind) files) split c.loop-file.invariant.left);
    }
