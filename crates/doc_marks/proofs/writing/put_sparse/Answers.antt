use Rattle.std.proofs.Common.{ℕ, List, ◌++◌, length, append_assoc, ap, ◌∙◌}
use Rattle.lu_grammar.specs.Parts.{int32, spelling}
use Rattle.doc_marks.specs.Marking.{documents_of}
use Rattle.doc_marks.specs.Deletions.{sparse_mark}
use Rattle.doc_marks.specs.Spelling.{sizes_bytes, pairs_bytes, marks_of}
use Rattle.doc_marks.proofs.writing.put_sparse.Goals as goal

pub returns : goal.returns
returns c =
    let old = c.args.out.now.items in
    let fs = c.args.marks.now in
    let mark = spelling int32 sparse_mark in
    let sizes = sizes_bytes (length fs) (length (documents_of fs)) in
    let pairs = pairs_bytes 0 0 (marks_of (length fs) (documents_of fs)) in
    c.in_ok-put_pairs.ensures
    ∙ ap (λ (t : List ℕ). c.put_sizes.new.out.items ++ pairs_bytes 0 0 t) c.bytes.ensures.marks
    ∙ ap (λ (t : List ℕ). t ++ pairs) c.in_ok-put_sizes.ensures
    ∙ ap (λ (t : List ℕ). (t ++ sizes) ++ pairs) c.in_ok-put_i32.ensures.ok
    ∙ append_assoc (old ++ mark) sizes pairs
    ∙ append_assoc old mark (sizes ++ pairs)
