use Rattle.std.proofs.Common.{◌++◌}
use Rattle.lu_types.specs.Rules.{all_rules, general_rules, commit_rules, compound_rules, field_table_rules, stored_rules, term_rules, entry_rules, mark_rules, vector_rules}
use Rattle.lu_types.proofs.RuleLemmas.{in_both}
use Rattle.lu_types.proofs.rules.rule_name.Goals as goal

-- the table of all rules is the tables of the functions that are asked in turn
pub returns : goal.returns
unfolding all_rules
returns c =
    let upto_commit = in_both c.args.rule general_rules commit_rules c.general_name.result c.commit_name.result c.or.result c.or.ensures c.general_name.ensures c.commit_name.ensures in
    let upto_compound = in_both c.args.rule (general_rules ++ commit_rules) compound_rules c.or.result c.compound_name.result c.or-2.result c.or-2.ensures upto_commit c.compound_name.ensures in
    let upto_field_table = in_both c.args.rule (general_rules ++ commit_rules ++ compound_rules) field_table_rules c.or-2.result c.field_table_name.result c.or-3.result c.or-3.ensures upto_compound c.field_table_name.ensures in
    let upto_stored = in_both c.args.rule (general_rules ++ commit_rules ++ compound_rules ++ field_table_rules) stored_rules c.or-3.result c.stored_name.result c.or-4.result c.or-4.ensures upto_field_table c.stored_name.ensures in
    let upto_term = in_both c.args.rule (general_rules ++ commit_rules ++ compound_rules ++ field_table_rules ++ stored_rules) term_rules c.or-4.result c.term_name.result c.or-5.result c.or-5.ensures upto_stored c.term_name.ensures in
    let upto_entry = in_both c.args.rule (general_rules ++ commit_rules ++ compound_rules ++ field_table_rules ++ stored_rules ++ term_rules) entry_rules c.or-5.result c.entry_name.result c.or-6.result c.or-6.ensures upto_term c.entry_name.ensures in
    let upto_mark = in_both c.args.rule (general_rules ++ commit_rules ++ compound_rules ++ field_table_rules ++ stored_rules ++ term_rules ++ entry_rules) mark_rules c.or-6.result c.mark_name.result c.or-7.result c.or-7.ensures upto_entry c.mark_name.ensures in
    in_both c.args.rule (general_rules ++ commit_rules ++ compound_rules ++ field_table_rules ++ stored_rules ++ term_rules ++ entry_rules ++ mark_rules) vector_rules c.or-7.result c.vector_name.result c.or-8.result c.or-8.ensures upto_mark c.vector_name.ensures
