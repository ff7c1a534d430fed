-- The vectors of a document, by their number.
use Rattle.std.proofs.Common.{◌≡◌, ℕ, ◌<◌, List, length, get_or, sym, ap, ◌∙◌, arith}
use Rattle.std.proofs.lemmas.List.{length-map, get_or-map}
use Rattle.lu_grammar.specs.Bytes.{place_in}
use Rattle.term_vectors.specs.Fields.{VectorPlace}
use Rattle.term_vectors.specs.Vectors.{StoredVector}
use Rattle.term_vectors.specs.InnerViews.{no_vector, no_slot, slots_here, vector_here, vectors_here, IsVectorThere, AreThere}
use Rattle.term_vectors.proofs.SlotLemmas.{slots-many, is_there}

module _ (tvd : List ℕ) (numbers count place : ℕ) (tvf : List ℕ) (inv : AreThere tvd numbers count place tvf) (now : List StoredVector) (view_is : vectors_here tvd numbers count place tvf ≡ now) where
  slots : List VectorPlace
  slots = slots_here count place (place_in tvd numbers)

  pub there-many : length now ≡ count
  unfolding slots
  there-many = sym (ap (λ (vs : List StoredVector). length vs) view_is) ∙ length-map slots (vector_here tvf) ∙ slots-many count place (place_in tvd numbers) slots inv.end inv.slots

  pub there-at : (nth : ℕ) → nth < length now → IsVectorThere tvf (get_or (slots_here count place (place_in tvd numbers)) nth no_slot)
  there-at nth lt =
      let many = slots-many count place (place_in tvd numbers) (slots_here count place (place_in tvd numbers)) inv.end inv.slots in
      is_there tvf (slots_here count place (place_in tvd numbers)) nth inv.vectors (omega (arith, many, there-many))

  pub there-vector : (nth : ℕ) → nth < length now → get_or now nth no_vector ≡ vector_here tvf (get_or (slots_here count place (place_in tvd numbers)) nth no_slot)
  there-vector nth lt =
      let many = slots-many count place (place_in tvd numbers) (slots_here count place (place_in tvd numbers)) inv.end inv.slots in
      ap (λ (vs : List StoredVector). get_or vs nth no_vector) (sym view_is)
      ∙ get_or-map (vector_here tvf) (slots_here count place (place_in tvd numbers)) nth no_slot no_vector (omega (arith, many, there-many))
