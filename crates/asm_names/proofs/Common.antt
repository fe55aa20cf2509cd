-- The names that most proofs of this crate use, passed on.
pub use Rattle.std.proofs.Common.{◌≡◌, refl, arith, ◌+◌, ℕ, ◌∙◌, Some, ap, List, map, sym, [], ◌∷◌, Option, true, ◌++◌, length, drop, ◌<◌, ◌≤◌, Bool, false, None, ◌*◌, suc, pos, is_some, take, not}
pub use Rattle.std.proofs.Common.{nat_eq, append_assoc, subst, cond, zero, inr, nat_lt, ◌||◌, inl, ℤ, negsuc, ◌-ℤ◌, ◌≤ℤ◌, int_lt, nat_abs, bytes_eq, Result, Ok, Err, ◌≢◌, get_or, min, ◌&&◌, is_none}
pub use Rattle.std.proofs.Common.{if◌then◌else◌, int_le, nat_le, option_and_then, ◌^◌, ◌-◌, MatchOption, Vec, Global}
pub use Rattle.std.proofs.lemmas.Bool.{and_parts, leb-true, eq-eqb, ne_eqb, eqb-true, not-false, and_from, or_left, or_right, or_from, lt-ltb, not_from_false, le-ltb, or_parts, ltb-false, le-leb, leb-false}
pub use Rattle.std.proofs.lemmas.Int.{ints}
pub use Rattle.std.proofs.lemmas.List.{length-map, length-append, drop_more}
pub use Rattle.std.proofs.lemmas.List.Sums.{sum_by-cons, sum_by-append}
pub use Rattle.std.proofs.lemmas.Option.{slice_get_within, slice_get-get_or}
pub use Rattle.std.specs.List.{AllByRecursion, list_all}
pub use Rattle.std.specs.Map.{lookup}
pub use Rattle.std.specs.Option.{option_map, option_to_list, IsSome, option_copied}
pub use Rattle.std.specs.Prelude.{slice_get, IfSome, sum, count_by}
pub use Rattle.asm_tree.specs.Forms.{term_fits, all_fit, option_fits, some_fit, rule_fits, rule_fits_by, term_fits_by}
pub use Rattle.asm_tree.specs.Programs.{Parts, is_empty, const_fits, consts_fit, decl_fits, decls_fit, IsProgram, IsLegalWithin}
pub use Rattle.asm_tree.specs.declared.decl.Const.{Const}
pub use Rattle.asm_tree.specs.declared.decl.Decl.{Decl}
pub use Rattle.asm_tree.specs.declared.decl.Kind.{Kind}
pub use Rattle.asm_tree.specs.declared.rule.Rule.{Rule, Rule-F, map-Rule, roll-Rule, fold-roll-Rule, out-Rule, roll-out-Rule, ind-Rule, para-roll-Rule}
pub use Rattle.asm_tree.specs.declared.term.Op.{Op}
pub use Rattle.asm_tree.specs.declared.term.Term.{Term, Term-F, map-Term, roll-Term, out-Term, roll-out-Term, fold-roll-Term, para-roll-Term, ind-Term}
pub use Rattle.asm_names.specs.DeclFaults.{decls_faults, declared, decl_faults, domains_faults, range_size, is_far, names_after, items_from, times_sizes, consts_faults, items_faults, table_faults, constants_of, item_faults}
pub use Rattle.asm_names.specs.Faults.{Fault, fault, code_of, first_end}
pub use Rattle.asm_names.specs.Judging.{part, layer_tokens, JudgesTerm, JudgesLayer}
pub use Rattle.asm_names.specs.JudgingRules.{faulty, rule_layer_tokens, made, rule_layer_binders, JudgesRule, JudgesRuleLayer}
pub use Rattle.asm_names.specs.Meanings.{Scope, meaning_of, Meaning, sort_of_domain, Function, Enumerator, size_of_domain, number_of, Binder, domains_in, Domain, arity_of, argument_sorts, is_domain, is_function, functions_in, sort_of as sort_of_name}
pub use Rattle.asm_names.specs.Order.{Spans, Ascending, Before}
pub use Rattle.asm_names.specs.Places.{term_tokens, rule_tokens, rule_binders, in_parentheses, led, consts_tokens, parted, decl_tokens, with_tokens, decls_tokens, else_tokens, table_tokens}
pub use Rattle.asm_names.specs.Places.{rule_tokens_by, rule_binders_by, term_tokens_by, names_tokens, const_tokens, legal_tokens}
pub use Rattle.asm_names.specs.Programs.{names_of, program_faults, resolved_domains, resolved_funs, resolved_const, legal_faults, index_of}
pub use Rattle.asm_names.specs.ResolvedPlaces.{resolved_term_tokens, resolved_rule_binders, resolved_rule_tokens, resolved_rule_tokens_by, resolved_rule_binders_by, resolved_term_tokens_by, led_if}
pub use Rattle.asm_names.specs.RuleFaults.{each_rule_faults, rule_faults, rule_faults_by, RulePart as Faulty, is_fixed, target_faults, target_need, target_sorts, domain_faults, guard_faults, bound as bound_in, RulePart, parts, bound, declared_faults}
pub use Rattle.asm_names.specs.Rules.{RulePart as Made, always, resolved_each, resolved_rule, resolved_rule_by, resolved_guard}
pub use Rattle.asm_names.specs.Sorts.{same_as, refuses, op_sort, left_need, right_need}
pub use Rattle.asm_names.specs.Table.{scope, known}
pub use Rattle.asm_names.specs.TermFaults.{term_faults, each_faults, term_sort, Part, term_faults_by, count_faults, term_sort_by}
pub use Rattle.asm_names.specs.Terms.{resolved_term, resolved_term_by, resolved_name}
pub use Rattle.asm_names.specs.WellFormed.{truth, Bound, sort_of, Sort as Form, thing, rule_named, in_scope, is_truth, is_thing, read_sort, is_zero_by, is_always_by, guard_stands, is_skip_by}
pub use Rattle.asm_names.specs.WellFormed.{else_stands, named_by, size_of, sort_by, is_changing, new_binder, RulePart as Named, each_named, product, IsDomain, table_length, IsFun, IsWellFormed}
pub use Rattle.asm_names.specs.WellFormed.{size_in, binary_sort}
pub use Rattle.asm_names.specs.declared.fault.NameEnd.{NameEnd}
pub use Rattle.asm_names.specs.declared.fault.NameFault.{NameFault}
pub use Rattle.asm_names.specs.declared.program.Domain.{Domain as Values}
pub use Rattle.asm_names.specs.declared.program.Fun.{Fun}
pub use Rattle.asm_names.specs.declared.program.Resolved.{Resolved}
pub use Rattle.asm_names.specs.declared.resolved_rule.ResolvedRule.{ResolvedRule, ResolvedRule-F, roll-ResolvedRule, map-ResolvedRule, out-ResolvedRule, roll-out-ResolvedRule, out-roll-ResolvedRule, fold-roll-ResolvedRule, para-roll-ResolvedRule}
pub use Rattle.asm_names.specs.declared.resolved_term.ResolvedTerm.{ResolvedTerm, ResolvedTerm-F, roll-ResolvedTerm, out-ResolvedTerm, map-ResolvedTerm, roll-out-ResolvedTerm, out-roll-ResolvedTerm, fold-roll-ResolvedTerm}
pub use Rattle.asm_names.specs.declared.sort.Need.{Need}
pub use Rattle.asm_names.specs.declared.sort.Sort.{Sort}
