use Rattle.std.proofs.Common.{◌≡◌, ◌<◌, ◌^◌, [], List, get_or, sym, ap, ◌∙◌, arith, rules, pos, to_z, of_z, w64}
use Rattle.lu_types.specs.Stores.{windowed}
use Rattle.stored_fields.specs.Values.{StoredDocument}
use Rattle.stored_fields.specs.Stores.{documents_in}
use Rattle.stored_fields.proofs.StoreLemmas.{number_in_window, number_in_store, stands_here, not_counted, document_values}
use Rattle.stored_fields.proofs.view.StoredView.doc.Goals as goal

pub overflow_add-self-inside : goal.overflow_add-self-inside
overflow_add-self-inside c =
    let s = c.self.inside in
    let lt = number_in_window s.fields s.total s.window s.fdx.now s.fdt.now c.args.number c.args.self.now c.self.invariant c.self.view_is c.requires in
    omega (arith, (number_in_store s.fields s.total s.window s.fdx.now s.fdt.now c.args.number c.self.invariant lt).0)

pub place_at-place-requires : goal.place_at-place-requires
place_at-place-requires c =
    let s = c.self.inside in
    let lt = number_in_window s.fields s.total s.window s.fdx.now s.fdt.now c.args.number c.args.self.now c.self.invariant c.self.view_is c.requires in
    (number_in_store s.fields s.total s.window s.fdx.now s.fdt.now c.args.number c.self.invariant lt).1

pub overflow_cast-place : goal.overflow_cast-place
overflow_cast-place c =
    let s = c.self.inside in
    let lt = number_in_window s.fields s.total s.window s.fdx.now s.fdt.now c.args.number c.args.self.now c.self.invariant c.self.view_is c.requires in
    let there = stands_here s.fields s.total s.window s.fdx.now s.fdt.now c.args.number c.place_at-place.result c.self.invariant lt c.place_at-place.ensures in
    let e : to_z w64 (of_z w64 c.place_at-place.result) ≡ c.place_at-place.result = search rules in
    let is : to_z w64 (of_z w64 c.place_at-place.result) ≡ pos there.here.place = e ∙ sym there.place in
    let fits : there.here.place < 2 ^ 64 = omega (arith, there.on.within) in
    rw is (tt, record { fits = fits })

pub at-here-requires : goal.at-here-requires
at-here-requires c =
    let s = c.self.inside in
    let lt = number_in_window s.fields s.total s.window s.fdx.now s.fdt.now c.args.number c.args.self.now c.self.invariant c.self.view_is c.requires in
    let there = stands_here s.fields s.total s.window s.fdx.now s.fdt.now c.args.number c.place_at-place.result c.self.invariant lt c.place_at-place.ensures in
    let e : to_z w64 (of_z w64 c.place_at-place.result) ≡ c.place_at-place.result = search rules in
    let is : to_z w64 (of_z w64 c.place_at-place.result) ≡ pos there.here.place = e ∙ sym there.place in
    rw is there.on.within

pub unreachable-requires : goal.unreachable-requires
unreachable-requires c =
    let s = c.self.inside in
    let lt = number_in_window s.fields s.total s.window s.fdx.now s.fdt.now c.args.number c.args.self.now c.self.invariant c.self.view_is c.requires in
    let there = stands_here s.fields s.total s.window s.fdx.now s.fdt.now c.args.number c.place_at-place.result c.self.invariant lt c.place_at-place.ensures in
    let e : to_z w64 (of_z w64 c.place_at-place.result) ≡ c.place_at-place.result = search rules in
    let is : to_z w64 (of_z w64 c.place_at-place.result) ≡ pos there.here.place = e ∙ sym there.place in
    not_counted s.fdt.now c.place_at-place.result (get_or (windowed s.window (documents_in s.fields s.total s.window s.fdx.now s.fdt.now)) c.args.number []) there c.at-here.result c.in-Err.field-0 (rw is at c.at-here.ensures) c.in-Err.ensures.takes.0

pub invariant_of-result : goal.invariant_of-result
invariant_of-result c =
    let s = c.self.inside in
    let lt = number_in_window s.fields s.total s.window s.fdx.now s.fdt.now c.args.number c.args.self.now c.self.invariant c.self.view_is c.requires in
    let there = stands_here s.fields s.total s.window s.fdx.now s.fdt.now c.args.number c.place_at-place.result c.self.invariant lt c.place_at-place.ensures in
    let e : to_z w64 (of_z w64 c.place_at-place.result) ≡ c.place_at-place.result = search rules in
    let is : to_z w64 (of_z w64 c.place_at-place.result) ≡ pos there.here.place = e ∙ sym there.place in
    (document_values s.fdt.now c.place_at-place.result (get_or (windowed s.window (documents_in s.fields s.total s.window s.fdx.now s.fdt.now)) c.args.number []) there c.at-here.result c.in-Ok.left c.num.new.self (rw is at c.at-here.ensures) c.in-Ok.ensures.takes).0

pub returns : goal.returns
returns c =
    let s = c.self.inside in
    let lt = number_in_window s.fields s.total s.window s.fdx.now s.fdt.now c.args.number c.args.self.now c.self.invariant c.self.view_is c.requires in
    let there = stands_here s.fields s.total s.window s.fdx.now s.fdt.now c.args.number c.place_at-place.result c.self.invariant lt c.place_at-place.ensures in
    let e : to_z w64 (of_z w64 c.place_at-place.result) ≡ c.place_at-place.result = search rules in
    let is : to_z w64 (of_z w64 c.place_at-place.result) ≡ pos there.here.place = e ∙ sym there.place in
    (document_values s.fdt.now c.place_at-place.result (get_or (windowed s.window (documents_in s.fields s.total s.window s.fdx.now s.fdt.now)) c.args.number []) there c.at-here.result c.in-Ok.left c.num.new.self (rw is at c.at-here.ensures) c.in-Ok.ensures.takes).1
    ∙ ap (λ (ds : List StoredDocument). get_or ds c.args.number []) c.self.view_is
