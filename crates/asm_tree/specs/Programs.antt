-- Declarations and programs that have a text.
use Rattle.std.specs.Prelude.{◌≡◌, ℕ, ℤ, nat_abs, Bool, true, not, ◌&&◌, ◌==◌, nat_le, List, [], ◌∷◌, length, Option, Some, None}
use Rattle.asm_tree.specs.declared.decl.Kind.TheVariants as kinds
use Rattle.asm_tree.specs.declared.decl.Const.{Const}
use Rattle.asm_tree.specs.declared.decl.Const.TheVariants as consts
use Rattle.asm_tree.specs.declared.decl.Decl.{Decl}
use Rattle.asm_tree.specs.declared.decl.Decl.TheVariants as decls
use Rattle.asm_tree.specs.declared.term.Term.{Term}
use Rattle.asm_tree.specs.declared.rule.Rule.{Rule}
use Rattle.asm_tree.specs.Forms.{IsTermWithin, IsRuleWithin}

-- whether a number is from -2147483647 to 2147483647
abbrev pub bound_fits : ℤ → Bool
bound_fits value = nat_le (nat_abs value) 2147483647

-- whether a constant has a text
abbrev pub const_fits : Const → Bool
const_fits (consts.Number value) = bound_fits value
const_fits (consts.Named name) = true

-- whether each constant has a text
abbrev pub consts_fit : List Const → Bool
consts_fit [] = true
consts_fit (c ∷ cs) = const_fits c && consts_fit cs

-- whether a list has no items
abbrev pub is_empty : {A : Type 0} → List A → Bool
is_empty items = length items == 0

-- whether a declaration has a text: bounds and constants fit, a list domain has names, and just a static function has a table
abbrev pub decl_fits : Decl → Bool
decl_fits (decls.Range name lo hi) = bound_fits lo && bound_fits hi
decl_fits (decls.Names name items) = not (is_empty items)
decl_fits (decls.Fun kinds.Static name args codomain table) = not (is_empty table) && consts_fit table
decl_fits (decls.Fun kind name args codomain table) = is_empty table

-- whether each declaration has a text
abbrev pub decls_fit : List Decl → Bool
decls_fit [] = true
decls_fit (d ∷ ds) = decl_fits d && decls_fit ds

-- the parts of a program
pub record Parts : Type 0 where
  pub name : List ℕ
  pub decls : List Decl
  pub legal : Option Term
  pub rule : Rule

-- a legal term, where there is one, is within a depth
abbrev pub IsLegalWithin : ℕ → Option Term → Type 0
IsLegalWithin depth None = Unit {0}
IsLegalWithin depth (Some term) = IsTermWithin depth term

-- parts that some text has
pub record IsProgram (p : Parts) : Type 0 where
  pub decls : decls_fit p.decls ≡ true
  pub legal : IsLegalWithin 48 p.legal
  pub rule : IsRuleWithin 48 p.rule
