-- What it means that a program is another one in numbers.
use Rattle.std.specs.Prelude.{◌≡◌, []}
use Rattle.std.specs.Option.{option_map}
use Rattle.asm_tree.specs.Programs.{Parts}
use Rattle.asm_names.specs.declared.program.Resolved.{Resolved}
use Rattle.asm_names.specs.Places.{rule_binders}
use Rattle.asm_names.specs.Programs.{names_of, resolved_domains, resolved_funs}
use Rattle.asm_names.specs.Rules.{resolved_rule}
use Rattle.asm_names.specs.Terms.{resolved_term}

-- a program is this one with its names replaced by numbers
pub record Resolves (program : Parts) (r : Resolved) : Type 0 where
  pub source : r.source ≡ program
  pub name : r.name ≡ program.name
  pub domains : r.domains ≡ resolved_domains program.decls
  pub funs : r.funs ≡ resolved_funs [] program.decls
  pub binders : r.binders ≡ rule_binders program.rule
  pub legal : r.legal ≡ option_map (resolved_term (names_of program)) program.legal
  pub rule : r.rule ≡ resolved_rule program.rule (names_of program) 0
