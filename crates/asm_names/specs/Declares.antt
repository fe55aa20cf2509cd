-- What functions that judge declarations find.
use Rattle.std.specs.Prelude.{◌≡◌, ℕ, ◌+◌, ◌≤◌, List, [], ◌∷◌, ◌++◌, length, map, Some, Result}
use Rattle.asm_tree.specs.declared.decl.Decl.{Decl}
use Rattle.asm_tree.specs.declared.decl.Const.{Const}
use Rattle.asm_tree.specs.declared.decl.Kind.{Kind}
use Rattle.asm_names.specs.declared.declarations.Declarations.{Declarations}
use Rattle.asm_names.specs.declared.declarations.Signature.{Signature}
use Rattle.asm_names.specs.declared.fault.NameEnd.{NameEnd}
use Rattle.asm_names.specs.Faults.{Judges}
use Rattle.asm_names.specs.Meanings.{Scope, Function, meaning_of, number_of, sort_of_domain, domains_in, functions_in}
use Rattle.asm_names.specs.Places.{decl_tokens}
use Rattle.asm_names.specs.DeclFaults.{declared, decl_faults, constants_of}
use Rattle.asm_names.specs.Programs.{resolved_domains, resolved_funs, resolved_const}
use Rattle.asm_names.specs.Table.{scope}

-- domains and functions are numbered in the order of their names, and there are no more of them than tokens
pub record IsNumbered (d : Declarations) : Type 0 where
  pub domains : domains_in (scope d.table) ≡ length d.domains
  pub functions : functions_in (scope d.table) ≡ length d.funs
  pub domains_room : length d.domains ≤ d.place
  pub functions_room : length d.funs ≤ d.place

-- a declaration was added to those before it
pub record Declares (decl : Decl) (old new : Declarations) : Type 0 where
  pub names : scope new.table ≡ scope old.table ++ declared (scope old.table) decl
  pub domains : new.domains ≡ old.domains ++ resolved_domains (decl ∷ [])
  pub funs : new.funs ≡ old.funs ++ resolved_funs (scope old.table) (decl ∷ [])
  pub place : new.place ≡ old.place + decl_tokens decl

-- A declaration was judged: its first fault, or the declarations with this one behind them.
abbrev pub JudgesDecl : Decl → Declarations → Result (Unit {0}) NameEnd → Declarations → Type 0
JudgesDecl decl old outcome new = Judges (decl_faults (scope old.table) decl old.place) outcome (λ _. Declares decl old new)

-- the parts behind a function's name were found
pub record IsSignature (names : Scope) (kind : Kind) (args : List (List ℕ)) (domain : List ℕ) (constants : List Const) (s : Signature) : Type 0 where
  pub numbers : s.numbers ≡ map (λ arg. number_of (meaning_of names arg)) args
  pub sorts : map Some s.sorts ≡ map (λ arg. sort_of_domain (meaning_of names arg)) args
  pub codomain : s.codomain ≡ number_of (meaning_of names domain)
  pub values : Some s.values ≡ sort_of_domain (meaning_of names domain)
  pub table : s.table ≡ map (resolved_const names) (constants_of kind constants)

-- a function with this signature was added to those before it
pub record AddsFunction (kind : Kind) (name : List ℕ) (s : Signature) (old new : Declarations) : Type 0 where
  pub names : scope new.table ≡ scope old.table ++ (name, Function (functions_in (scope old.table)) kind (map Some s.sorts) (Some s.values)) ∷ []
  pub funs : new.funs ≡ old.funs ++ record { kind = kind; name = name; args = s.numbers; codomain = s.codomain; table = s.table } ∷ []
  pub domains : new.domains ≡ old.domains
  pub place : new.place ≡ old.place
