-- The faults of names and sorts in declarations.
use Rattle.std.specs.Prelude.{ℕ, ◌+◌, ◌*◌, ℤ, pos, negsuc, ◌-ℤ◌, int_lt, nat_abs, nat_lt, nat_eq, Bool, true, not, ◌||◌, List, [], ◌∷◌, ◌++◌, length, map, Option, Some, None, if◌then◌else◌}
use Rattle.asm_tree.specs.declared.decl.Const.{Const}
use Rattle.asm_tree.specs.declared.decl.Const.TheVariants as consts
use Rattle.asm_tree.specs.declared.decl.Decl.{Decl}
use Rattle.asm_tree.specs.declared.decl.Decl.TheVariants as decls
use Rattle.asm_tree.specs.declared.decl.Kind.{Kind}
use Rattle.asm_tree.specs.declared.decl.Kind.TheVariants as kinds
use Rattle.asm_names.specs.declared.fault.NameFault.TheVariants as causes
use Rattle.asm_names.specs.declared.sort.Sort.TheVariants as sorts
use Rattle.asm_names.specs.declared.sort.Need.{Need}
use Rattle.asm_names.specs.Faults.{Fault, fault}
use Rattle.asm_names.specs.Sorts.{same_as, refuses}
use Rattle.asm_names.specs.Meanings.{Meaning, Domain, Enumerator, Function, Scope, meaning_of, sort_of_domain, size_of_domain, domains_in, functions_in}
use Rattle.asm_names.specs.Places.{names_tokens, const_tokens, decl_tokens}
use Rattle.asm_names.specs.RuleFaults.{declared_faults, domain_faults}

-- ---- names

-- how many numbers there are from lo to hi
abbrev pub range_size : ℤ → ℤ → ℕ
range_size lo hi = if int_lt hi lo then 0 else nat_abs (hi -ℤ lo) + 1

-- a bound is below -1048576 or above 1048576
abbrev pub is_far : ℤ → Bool
is_far bound = int_lt bound (negsuc 1048575) || int_lt (pos 1048576) bound

-- the enumerators of a list domain, from an index on
abbrev pub items_from : ℕ → ℕ → List (List ℕ) → Scope
items_from domain index [] = []
items_from domain index (item ∷ items) = (item, Enumerator domain index) ∷ items_from domain (index + 1) items

-- the names that a declaration adds to those before it
abbrev pub declared : Scope → Decl → Scope
declared scope (decls.Range name lo hi) = (name, Domain (domains_in scope) (range_size lo hi) sorts.Int) ∷ []
declared scope (decls.Names name items) =
    (name, Domain (domains_in scope) (length items) (sorts.List (domains_in scope))) ∷ items_from (domains_in scope) 0 items
declared scope (decls.Fun kind name args codomain table) =
    (name, Function (functions_in scope) kind (map (λ arg. sort_of_domain (meaning_of scope arg)) args) (sort_of_domain (meaning_of scope codomain))) ∷ []

-- ---- static tables

-- n times the sizes of domains, where each name is one of a domain
abbrev pub times_sizes : ℕ → List (Option ℕ) → Option ℕ
times_sizes n [] = Some n
times_sizes n (None ∷ sizes) = None
times_sizes n (Some size ∷ sizes) = times_sizes (n * size) sizes

-- the fault of a function of this kind with so many constants, where the product of the sizes is known; only a static
-- function has a table
abbrev pub table_faults : Kind → Option ℕ → ℕ → ℕ → List Fault
table_faults kinds.Static (Some product) count at = fault causes.Count at (not (nat_eq product count))
table_faults _ product count at = []

-- the constants of a static function; other functions have none
abbrev pub constants_of : Kind → List Const → List Const
constants_of kinds.Static table = table
constants_of kinds.Controlled table = []
constants_of kinds.Input table = []
constants_of kinds.Output table = []

-- the fault of a name in a table
abbrev pub item_faults : Option Meaning → Need → ℕ → List Fault
item_faults (Some (Enumerator domain index)) need at = fault causes.Sort at (refuses need (Some (sorts.List domain)))
item_faults _ need at = fault causes.Unknown at true

-- the fault of a constant in a place that needs this of its sort
abbrev pub const_faults : Scope → Need → Const → ℕ → List Fault
const_faults scope need (consts.Number value) at = fault causes.Sort at (refuses need (Some sorts.Int))
const_faults scope need (consts.Named name) at = item_faults (meaning_of scope name) need at

-- the faults of constants in turn, the first of which is the token at this number
abbrev pub consts_faults : Scope → Need → List Const → ℕ → List Fault
consts_faults scope need [] at = []
consts_faults scope need (const ∷ others) at = const_faults scope need const at ++ consts_faults scope need others (at + const_tokens const + 1)

-- ---- declarations

-- the faults of enumerators in turn, the first of which is the token at this number
abbrev pub items_faults : Scope → ℕ → ℕ → List (List ℕ) → ℕ → List Fault
items_faults scope domain index [] at = []
items_faults scope domain index (item ∷ items) at =
    declared_faults scope item at ++ items_faults (scope ++ (item, Enumerator domain index) ∷ []) domain (index + 1) items (at + 2)

-- the faults of names of domains in turn, the first of which is the token at this number
abbrev pub domains_faults : Scope → List (List ℕ) → ℕ → List Fault
domains_faults scope [] at = []
domains_faults scope (name ∷ names) at = domain_faults scope name at ++ domains_faults scope names (at + 2)

-- the faults behind a function's name, where the next token has this number
abbrev pub signature_faults : Scope → Kind → List (List ℕ) → List ℕ → List Const → ℕ → List Fault
signature_faults scope kind args codomain table at =
    let codomain_at = at + names_tokens args + 1 in
    domains_faults scope args (at + 1)
    ++ (domain_faults scope codomain codomain_at
    ++ consts_faults scope (same_as (sort_of_domain (meaning_of scope codomain))) (constants_of kind table) (codomain_at + 3))

-- the faults of a declaration whose first token has this number, where these names are declared before
abbrev pub decl_faults : Scope → Decl → ℕ → List Fault
decl_faults scope (decls.Range name lo hi) at =
    declared_faults scope name (at + 1)
    ++ (fault causes.Empty (at + 1) (int_lt hi lo)
    ++ fault causes.TooLarge (at + 1) (nat_lt 65536 (range_size lo hi) || (is_far lo || is_far hi)))
decl_faults scope (decls.Names name items) at =
    declared_faults scope name (at + 1)
    ++ (fault causes.TooLarge (at + 1) (nat_lt 65536 (length items))
    ++ items_faults (scope ++ (name, Domain (domains_in scope) (length items) (sorts.List (domains_in scope))) ∷ []) (domains_in scope) 0 items (at + 4))
decl_faults scope (decls.Fun kind name args codomain table) at =
    declared_faults scope name (at + 1)
    ++ (table_faults kind (times_sizes 1 (map (λ arg. size_of_domain (meaning_of scope arg)) args)) (length table) (at + 1)
    ++ (fault causes.TooManyArguments (at + 1) (nat_lt 3 (length args))
    ++ signature_faults scope kind args codomain table (at + 2)))

-- the names after declarations in turn
abbrev pub names_after : Scope → List Decl → Scope
names_after scope [] = scope
names_after scope (decl ∷ others) = names_after (scope ++ declared scope decl) others

-- the faults of declarations in turn, the first token of which has this number
abbrev pub decls_faults : Scope → List Decl → ℕ → List Fault
decls_faults scope [] at = []
decls_faults scope (decl ∷ others) at = decl_faults scope decl at ++ decls_faults (scope ++ declared scope decl) others (at + decl_tokens decl)
