use Rattle.std.proofs.Common.{sym, ap, subst, ◌∙◌, ◌+◌}
use Rattle.std.specs.Global.{Global}
use Rattle.std.specs.declared.vec.Vec.{Vec}
use Rattle.lu_types.specs.Tables.{number_of}
use Rattle.seg_writer.specs.declared.appearance.Appearance.{Appearance}
use Rattle.seg_writer.specs.Appearing.{HaveMore}
use Rattle.seg_writer.proofs.ColumnLemmas.{so_far, columns-put, columns-kept, columns-end}
use Rattle.seg_writer.proofs.columns.add_fields.Goals as goal
use Rattle.seg_writer.proofs.columns.add_fields.Goals.{in-Some+in-Ok, in-None}

pub returns : goal.returns
returns c = columns-end c.args.table.now c.args.doc c.args.fields.now c.loop-field.field-index c.args.columns.now.items c.loop-field.columns.items c.requires.apart c.loop-field-test.false c.loop-field.invariant

pub loop-field-preserved : goal.loop-field-preserved
loop-field-preserved c =
    let table = c.args.table.now in
    let fields = c.args.fields.now in
    let i = c.loop-field.field-index in
    let field = c.field-item.result in
    let old = c.args.columns.now.items in
    let named = ap (λ q. number_of q table) (sym c.as_str.ensures.same) in
    elim c.match-find.branch [
      | in-Some+in-Ok w ↦ subst (λ (v : Vec (Vec Appearance Global) Global). HaveMore (so_far table c.args.doc fields (i + 1)) old v.items) (sym w.columns-is)
          (columns-put table c.args.doc fields i field w.in-Some.number old c.loop-field.columns.items w.add_to.new.columns.items c.requires.first c.requires.count c.loop-field-test.true c.field-item.is (named ∙ sym w.in-Some.ensures.found) w.in-Some.ensures.below w.in-Ok.ensures c.loop-field.invariant)
      | in-None w ↦ subst (λ (v : Vec (Vec Appearance Global) Global). HaveMore (so_far table c.args.doc fields (i + 1)) old v.items) (sym w.columns-is)
          (columns-kept table c.args.doc fields i field old c.loop-field.columns.items c.requires.first c.requires.count c.loop-field-test.true c.field-item.is (named ∙ sym w.in-None.ensures.found) c.loop-field.invariant)
    ]
