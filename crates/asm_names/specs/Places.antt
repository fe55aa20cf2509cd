-- How many tokens the parts of a program have.
use Rattle.std.specs.Prelude.{ℕ, ◌+◌, ◌*◌, ℤ, pos, int_lt, sum, List, [], ◌∷◌, length, map, Option, Some, None, if◌then◌else◌}
use Rattle.asm_tree.specs.declared.decl.Const.{Const}
use Rattle.asm_tree.specs.declared.decl.Const.TheVariants as consts
use Rattle.asm_tree.specs.declared.decl.Decl.{Decl}
use Rattle.asm_tree.specs.declared.decl.Decl.TheVariants as decls
use Rattle.asm_tree.specs.declared.decl.Kind.{Kind}
use Rattle.asm_tree.specs.declared.decl.Kind.TheVariants as kinds
use Rattle.asm_tree.specs.Programs.{Parts}
use Rattle.asm_tree.specs.declared.rule.Rule.{Rule, Rule-F}
use Rattle.asm_tree.specs.declared.rule.Rule.TheFolds.{fold-Rule}
use Rattle.asm_tree.specs.declared.term.Term.{Term, Term-F}
use Rattle.asm_tree.specs.declared.term.Term.TheFolds.{fold-Term}

-- terms of these lengths, each with the comma or the parenthesis after it
abbrev pub parted : List ℕ → ℕ
parted [] = 0
parted (n ∷ ns) = n + 1 + parted ns

-- terms of these lengths in parentheses, if there are any
abbrev pub in_parentheses : List ℕ → ℕ
in_parentheses [] = 0
in_parentheses (n ∷ ns) = 1 + parted (n ∷ ns)

-- One term, with the number of tokens of each part in its place.
abbrev pub term_tokens_by : Term-F ℕ → ℕ
term_tokens_by (Term-F.Number value) = 1
term_tokens_by (Term-F.Apply name args) = 1 + in_parentheses args
term_tokens_by (Term-F.Binary op left right) = 1 + left + 1 + right + 1
term_tokens_by (Term-F.Not inner) = 1 + inner
term_tokens_by (Term-F.Min first second) = 2 + first + 1 + second + 1
term_tokens_by (Term-F.Max first second) = 2 + first + 1 + second + 1
term_tokens_by (Term-F.Cond guard first second) = 2 + guard + 1 + first + 1 + second + 1

-- how many tokens a term has
unfoldable pub term_tokens : Term → ℕ
term_tokens = fold-Term ℕ term_tokens_by

-- ---- rules

-- a rule of this length behind `else`, if there is one
abbrev pub else_tokens : Option ℕ → ℕ
else_tokens None = 0
else_tokens (Some other) = 1 + other

-- a guard behind `with`, if there is one
abbrev pub with_tokens : Option Term → ℕ
with_tokens None = 0
with_tokens (Some guard) = 1 + term_tokens guard

-- rules, each behind `par` or a semicolon
abbrev pub led : List ℕ → ℕ
led [] = 0
led (n ∷ ns) = 1 + n + led ns

-- One rule, with the number of tokens of each part in its place.
abbrev pub rule_tokens_by : Rule-F ℕ → ℕ
rule_tokens_by Rule-F.Skip = 1
rule_tokens_by (Rule-F.Update name args value) = 1 + in_parentheses (map term_tokens args) + 1 + term_tokens value
rule_tokens_by (Rule-F.If guard then_rule else_rule) = 1 + term_tokens guard + 1 + then_rule + else_tokens else_rule + 1
rule_tokens_by (Rule-F.Par parts) = led parts + 1
rule_tokens_by (Rule-F.Forall var domain guard body) = 4 + with_tokens guard + 1 + body + 1
rule_tokens_by (Rule-F.Choose var domain guard body else_rule) = 5 + term_tokens guard + 1 + body + else_tokens else_rule + 1
rule_tokens_by (Rule-F.Let var value body) = 3 + term_tokens value + 1 + body + 1

-- how many tokens a rule has
unfoldable pub rule_tokens : Rule → ℕ
rule_tokens = fold-Rule ℕ rule_tokens_by

-- a count, or 0 where there is none
abbrev pub option_sum : Option ℕ → ℕ
option_sum None = 0
option_sum (Some n) = n

-- One rule, with the number of binders in each part in its place.
abbrev pub rule_binders_by : Rule-F ℕ → ℕ
rule_binders_by Rule-F.Skip = 0
rule_binders_by (Rule-F.Update name args value) = 0
rule_binders_by (Rule-F.If guard then_rule else_rule) = then_rule + option_sum else_rule
rule_binders_by (Rule-F.Par parts) = sum parts
rule_binders_by (Rule-F.Forall var domain guard body) = 1 + body
rule_binders_by (Rule-F.Choose var domain guard body else_rule) = 1 + body + option_sum else_rule
rule_binders_by (Rule-F.Let var value body) = 1 + body

-- how many names a rule binds
unfoldable pub rule_binders : Rule → ℕ
rule_binders = fold-Rule ℕ rule_binders_by

-- ---- declarations

-- names in parentheses, if there are any
abbrev pub names_tokens : List (List ℕ) → ℕ
names_tokens [] = 0
names_tokens (name ∷ names) = 1 + 2 * length (name ∷ names)

-- a number, behind its sign
abbrev pub number_tokens : ℤ → ℕ
number_tokens value = if int_lt value (pos 0) then 2 else 1

-- how many tokens a constant has
abbrev pub const_tokens : Const → ℕ
const_tokens (consts.Number value) = number_tokens value
const_tokens (consts.Named name) = 1

-- constants, each with the comma or the bracket after it
abbrev pub consts_tokens : List Const → ℕ
consts_tokens [] = 0
consts_tokens (const ∷ others) = const_tokens const + 1 + consts_tokens others

-- a table in brackets behind an equals sign
abbrev pub table_tokens : Kind → List Const → ℕ
table_tokens kinds.Static table = 2 + consts_tokens table
table_tokens kinds.Controlled table = 0
table_tokens kinds.Input table = 0
table_tokens kinds.Output table = 0

-- how many tokens a declaration has
abbrev pub decl_tokens : Decl → ℕ
decl_tokens (decls.Range name lo hi) = 3 + number_tokens lo + 1 + number_tokens hi
decl_tokens (decls.Names name items) = 4 + 2 * length items
decl_tokens (decls.Fun kind name args codomain table) = 2 + names_tokens args + 2 + table_tokens kind table

-- how many tokens declarations in turn have
abbrev pub decls_tokens : List Decl → ℕ
decls_tokens [] = 0
decls_tokens (decl ∷ others) = decl_tokens decl + decls_tokens others

-- a term behind `legal`, if there is one
abbrev pub legal_tokens : Option Term → ℕ
legal_tokens None = 0
legal_tokens (Some legal) = 1 + term_tokens legal

-- how many tokens a program has: `machine` and a name, the declarations, the legal term, and `rule` with the rule
abbrev pub program_tokens : Parts → ℕ
program_tokens program = 2 + decls_tokens program.decls + legal_tokens program.legal + 1 + rule_tokens program.rule
