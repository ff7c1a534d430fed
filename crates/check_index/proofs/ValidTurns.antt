-- Where the plans of some things in turn were read, each of them was read at a place of its own.
use Rattle.std.proofs.Common.{◌≡◌, ℕ, ◌≤◌, List, [], ◌∷◌, ◌++◌, length, sym, subst, ◌∙◌, append_assoc, arith}
use Rattle.std.specs.List.{AllZip}
use Rattle.std.proofs.lemmas.List.{append-nil}
use Rattle.lu_grammar.specs.Bytes.{IsBytes, Cursor, place_in}
use Rattle.lu_grammar.specs.Plans.{Plan, gather, in_turn, read_plan}
use Rattle.lu_grammar.specs.Meaning.{ReadsTo, Reads}
use Rattle.lu_grammar.proofs.Files.{read_file-Reads}
use Rattle.lu_grammar.proofs.Parts.{IsBytes-drop}
use Rattle.lu_grammar.proofs.Codecs.{ok_pair, same_pair, then_ok, read_plan-and_then, reads-read_plan, place_in-after, file_was}

-- the plan of the thing was read at some place of these bytes, and stood for this
pub record StandsSomewhere {C V R : Type 0} (plan : C → Plan V R) (bytes : List ℕ) (c : C) (v : V) : Type 0 where
  pub place : ℕ
  pub within : place ≤ length bytes
  pub end : Cursor
  pub reads : ReadsTo (plan c) (place_in bytes place) v end

module _ {C V R : Type 0} (plan : C → Plan V R) (bytes : List ℕ) (fits : IsBytes bytes) where
  -- what the plans from a place on stood for, behind what those before did
  pub record Turned (front : List V) (cs : List C) (values : List V) : Type 0 where
    pub more : List V
    pub all : values ≡ front ++ more
    pub each : AllZip (StandsSomewhere plan bytes) cs more

  turned : (front : List V) (cs : List C) (place : ℕ) (values : List V) (d : Cursor) → place ≤ length bytes → read_plan (gather plan front cs) (place_in bytes place) ≡ ok_pair values d → Turned front cs values
  unfolding read_plan
  turned front [] place values d le e = record { more = []; all = sym (same_pair front values (place_in bytes place) d e).0 ∙ sym (append-nil front); each = tt }
  turned front (c ∷ cs) place values d le e =
      let first = then_ok (read_plan (plan c) (place_in bytes place)) (λ x. read_plan (gather plan (front ++ x.0 ∷ []) cs) x.1) (values, d) (sym (read_plan-and_then (plan c) (λ v. gather plan (front ++ v ∷ []) cs) (place_in bytes place)) ∙ e) in
      let after = place_in-after (plan c) bytes place first.0.0 first.0.1 fits le first.1 in
      let rest = turned (front ++ first.0.0 ∷ []) cs first.0.1.place values d after.1 (subst (λ (x : Cursor). read_plan (gather plan (front ++ first.0.0 ∷ []) cs) x ≡ ok_pair values d) after.0 first.2) in
      record {
        more = first.0.0 ∷ rest.more;
        all = rest.all ∙ append_assoc front (first.0.0 ∷ []) rest.more;
        each = (record { place = place; within = le; end = first.0.1; reads = reads-read_plan (plan c) (place_in bytes place) first.0.0 first.0.1 (IsBytes-drop place bytes fits) first.1 }, rest.each);
      }

  -- the whole file
  pub each-stands : (cs : List C) (values : List V) → Reads (in_turn plan cs) bytes values → AllZip (StandsSomewhere plan bytes) cs values
  each-stands cs values h =
      let file = file_was (in_turn plan cs) bytes values (read_file-Reads (in_turn plan cs) bytes values h) in
      let all = turned [] cs 0 values file.0 (omega arith) file.1 in
      subst (λ (vs : List V). AllZip (StandsSomewhere plan bytes) cs vs) (sym all.all) all.each
