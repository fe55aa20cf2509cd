-- The faults of a program, and the program in numbers.
use Rattle.std.specs.Prelude.{ℕ, ◌+◌, ℤ, pos, List, [], ◌∷◌, ◌++◌, length, map, Option, Some, None}
use Rattle.asm_tree.specs.declared.decl.Const.{Const}
use Rattle.asm_tree.specs.declared.decl.Const.TheVariants as consts
use Rattle.asm_tree.specs.declared.decl.Decl.{Decl}
use Rattle.asm_tree.specs.declared.decl.Decl.TheVariants as decls
use Rattle.asm_tree.specs.Programs.{Parts}
use Rattle.asm_tree.specs.declared.term.Term.{Term}
use Rattle.asm_names.specs.declared.program.Domain.{Domain}
use Rattle.asm_names.specs.declared.program.Fun.{Fun}
use Rattle.asm_names.specs.declared.sort.Need.TheVariants as needs
use Rattle.asm_names.specs.declared.sort.Sort.TheVariants as sorts
use Rattle.asm_names.specs.Faults.{Fault}
use Rattle.asm_names.specs.Meanings.{Meaning, Enumerator, Scope, meaning_of, number_of}
use Rattle.asm_names.specs.Places.{decls_tokens, legal_tokens}
use Rattle.asm_names.specs.TermFaults.{term_faults}
use Rattle.asm_names.specs.RuleFaults.{rule_faults}
use Rattle.asm_names.specs.DeclFaults.{declared, names_after, decls_faults, range_size, constants_of}

-- the names that a program declares
abbrev pub names_of : Parts → Scope
names_of program = names_after [] program.decls

-- the faults of the term behind `legal`, where `legal` has this number
abbrev pub legal_faults : Scope → Option Term → ℕ → List Fault
legal_faults scope None at = []
legal_faults scope (Some legal) at = term_faults scope legal (needs.Only sorts.Truth) (at + 1)

-- The faults of a program in the order of the text, with the number of a token each. The first token of the
-- first declaration is the third.
abbrev pub program_faults : Parts → List Fault
program_faults program =
    let legal_at = 3 + decls_tokens program.decls in
    decls_faults [] program.decls 3
    ++ (legal_faults (names_of program) program.legal legal_at
    ++ rule_faults program.rule (names_of program) (legal_at + legal_tokens program.legal + 1) 0)

-- ---- in numbers

-- the domains of declarations in turn
abbrev pub resolved_domains : List Decl → List Domain
resolved_domains [] = []
resolved_domains (decls.Range name lo hi ∷ others) = record { size = range_size lo hi; lo = lo; items = [] } ∷ resolved_domains others
resolved_domains (decls.Names name items ∷ others) = record { size = length items; lo = pos 0; items = items } ∷ resolved_domains others
resolved_domains (decls.Fun kind name args codomain table ∷ others) = resolved_domains others

-- an enumerator is its index
abbrev pub index_of : Option Meaning → ℤ
index_of (Some (Enumerator domain index)) = pos index
index_of _ = pos 0

-- the value of a constant
abbrev pub resolved_const : Scope → Const → ℤ
resolved_const scope (consts.Number value) = value
resolved_const scope (consts.Named name) = index_of (meaning_of scope name)

-- the functions of declarations, where these names are declared before
abbrev pub resolved_funs : Scope → List Decl → List Fun
resolved_funs scope [] = []
resolved_funs scope (decls.Range name lo hi ∷ others) = resolved_funs (scope ++ declared scope (decls.Range name lo hi)) others
resolved_funs scope (decls.Names name items ∷ others) = resolved_funs (scope ++ declared scope (decls.Names name items)) others
resolved_funs scope (decls.Fun kind name args codomain table ∷ others) =
    record {
      kind = kind;
      name = name;
      args = map (λ arg. number_of (meaning_of scope arg)) args;
      codomain = number_of (meaning_of scope codomain);
      table = map (resolved_const scope) (constants_of kind table);
    }
    ∷ resolved_funs (scope ++ declared scope (decls.Fun kind name args codomain table)) others
