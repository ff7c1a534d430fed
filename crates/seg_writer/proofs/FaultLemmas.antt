-- The first document with a fault.
use Rattle.std.proofs.Common.{◌≡◌, ap, sym, ◌∙◌, ℕ, suc, add-one, ◌+◌, ◌<◌, ◌≤◌, List, length, drop, get_or, None, Some}
use Rattle.std.proofs.lemmas.List.{drop_more, drop_all}
use Rattle.lu_types.specs.DocFaults.{doc_fault}
use Rattle.lu_types.specs.declared.document.DocFault.{DocFault}
use Rattle.lu_types.specs.declared.document.Document.{Document}
use Rattle.lu_types.specs.declared.document.Limits.{Limits}
use Rattle.seg_writer.specs.Answers.{fault_or, first_faulty}

faulty-at : (limits : Limits) (docs : List Document) (i : ℕ) (doc : Document) → i < length docs → doc ≡ get_or docs i doc → first_faulty limits i (drop i docs) ≡ fault_or (doc_fault doc limits) i (first_faulty limits (i + 1) (drop (i + 1) docs))
faulty-at limits docs i doc lt is =
    ap (first_faulty limits i) (drop_more docs i doc lt)
    ∙ ap (λ x. fault_or (doc_fault x limits) i (first_faulty limits (suc i) (drop (i + 1) docs))) (sym is)
    ∙ ap (λ n. fault_or (doc_fault doc limits) i (first_faulty limits n (drop (i + 1) docs))) (sym (add-one i))

pub faulty-next : (limits : Limits) (docs : List Document) (i : ℕ) (doc : Document) → i < length docs → doc ≡ get_or docs i doc → doc_fault doc limits ≡ None → first_faulty limits i (drop i docs) ≡ first_faulty limits (i + 1) (drop (i + 1) docs)
faulty-next limits docs i doc lt is none = faulty-at limits docs i doc lt is ∙ ap (λ f. fault_or f i (first_faulty limits (i + 1) (drop (i + 1) docs))) none

pub faulty-here : (limits : Limits) (docs : List Document) (i : ℕ) (doc : Document) (fault : DocFault) → i < length docs → doc ≡ get_or docs i doc → doc_fault doc limits ≡ Some fault → first_faulty limits i (drop i docs) ≡ Some (i, fault)
faulty-here limits docs i doc fault lt is some = faulty-at limits docs i doc lt is ∙ ap (λ f. fault_or f i (first_faulty limits (i + 1) (drop (i + 1) docs))) some

pub faulty-end : (limits : Limits) (docs : List Document) (i : ℕ) → length docs ≤ i → first_faulty limits i (drop i docs) ≡ None
faulty-end limits docs i le = ap (first_faulty limits i) (drop_all i docs le)
