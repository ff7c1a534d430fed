use Rattle.std.proofs.Common.{◌≡◌, ◌+◌, ◌<◌, ◌^◌, List, [], ◌∷◌, ◌++◌, length, take, get_or, flat_map, true, None, refl, sym, ap, subst, ◌∙◌}
use Rattle.std.proofs.lemmas.List.{take_all, flat_map_more}
use Rattle.std.proofs.lemmas.List.Elements.{All-push}
use Rattle.lu_grammar.specs.Parts.{text, IsValue}
use Rattle.lu_grammar.specs.Meaning.{Reads}
use Rattle.lu_types.specs.Tables.{TableField}
use Rattle.field_infos.specs.Fnm.{fnm_plan}
use Rattle.field_infos.specs.Spelling.{AreNamed, field_spelling, header_spelling, fnm_spelling}
use Rattle.field_infos.proofs.Spellings.{fields-more, fnm-reads}
use Rattle.field_infos.proofs.writing.write.Goals as goal

pub loop-info-preserved : goal.loop-info-preserved
loop-info-preserved c =
    let fields = c.args.table.now in
    let i = c.loop-info.info-index in
    let info = c.info-item.result in
    let front = take i fields in
    let is : get_or fields i info ≡ info = sym c.info-item.is in
    let more : take (i + 1) fields ≡ front ++ info ∷ [] = fields-more fields i info c.loop-info-test.true ∙ ap (λ (f : TableField). front ++ f ∷ []) is in
    let short : length info.name < 2 ^ 31 = subst (λ (f : TableField). length f.name < 2 ^ 31) is (c.requires.short i info c.loop-info-test.true) in
    let wrote = c.in_ok-put_field.ensures in
    record {
      bytes = wrote.0 ∙ ap (λ (t : List _). t ++ field_spelling info) c.loop-info.invariant.bytes ∙ flat_map_more field_spelling (header_spelling (length fields)) front info
          ∙ ap (λ (fs : List TableField). header_spelling (length fields) ++ flat_map field_spelling fs) (sym more);
      named = subst AreNamed (sym more) (All-push (λ f. IsValue text f.name) front info c.loop-info.invariant.named (short, wrote.1));
    }

pub returns-clause-reads : goal.returns-clause-reads
returns-clause-reads c =
    let fields = c.args.table.now in
    let all : take c.loop-info.info-index fields ≡ fields = take_all c.loop-info.info-index fields c.loop-info-test.false in
    let named : AreNamed fields = subst AreNamed all c.loop-info.invariant.named in
    let bytes : c.loop-info.out.items ≡ fnm_spelling fields = c.loop-info.invariant.bytes ∙ ap (λ (fs : List TableField). header_spelling (length fields) ++ flat_map field_spelling fs) all in
    subst (λ t. Reads (fnm_plan true None) t fields) (sym bytes) (fnm-reads true fields c.requires.table named (λ k d within. refl) None refl)
