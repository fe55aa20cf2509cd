-- What a term stands for in a state.
use Rattle.std.specs.{Prelude.{ℕ, ℤ, pos, ◌+ℤ◌, ◌-ℤ◌, Bool, true, false, not, ◌&&◌, ◌||◌, List, [], ◌∷◌, map, int_lt, int_le, slice_index_or, slice_get, if◌then◌else◌, Option, Some, None}, List.{list_all}, Int.{int_min, int_max}, Ordering.{int_eq}}
use Rattle.asm_tree.specs.declared.{decl.Kind.{Kind}, term.Op.{Op}}
use Rattle.asm_names.specs.declared.{program.{Fun.{Fun}, Resolved.{Resolved}}, resolved_term.ResolvedTerm.{ResolvedTerm, ResolvedTerm-F, fold-ResolvedTerm, para-ResolvedTerm}}
use Rattle.state_space.specs.{declared.signature.{Range.{Range}, Signature.{Signature}}, Locations.{place_among, tuple_number, state_locations, input_locations, range_of, signatures_of}, Codomains.{whole}}
use Rattle.asm_tree.specs.declared.decl.Kind.TheVariants as kinds
use Rattle.asm_tree.specs.declared.term.Op.TheVariants as ops

-- What a step reads: the values of the state's locations and of the input locations, each in its order, and of the
-- binders by number.
abbrev pub State : Type 0
State = List ℤ

abbrev pub Inputs : Type 0
Inputs = List ℤ

abbrev pub Env : Type 0
Env = List ℤ

-- the value with a number, and 0 where there is none
abbrev pub numbered : List ℤ → Option ℕ → ℤ
numbered values None = pos 0
numbered values (Some k) = slice_index_or values k (pos 0)

abbrev pub no_fun : Fun
no_fun = record { kind = kinds.Static; name = []; args = []; codomain = 0; table = [] }

abbrev pub fun_of : Resolved → ℕ → Fun
fun_of program n = slice_index_or program.funs n no_fun

-- the number of a function's value at these arguments, in the list where the values of its kind stand
abbrev pub number_read : Resolved → Kind → ℕ → List ℤ → Option ℕ
number_read program kinds.Controlled fun args = place_among (state_locations (signatures_of program)) (record { fun = fun; args = args })
number_read program kinds.Output fun args = place_among (state_locations (signatures_of program)) (record { fun = fun; args = args })
number_read program kinds.Input fun args = place_among (input_locations (signatures_of program)) (record { fun = fun; args = args })
number_read program kinds.Static fun args = tuple_number (map (range_of program.domains) (fun_of program fun).args) args

-- that list
abbrev pub values_read : Resolved → State → Inputs → Kind → ℕ → List ℤ
values_read program state inputs kinds.Controlled fun = state
values_read program state inputs kinds.Output fun = state
values_read program state inputs kinds.Input fun = inputs
values_read program state inputs kinds.Static fun = (fun_of program fun).table

-- the value of a function at these arguments, and 0 outside its domains
unfoldable pub read : Resolved → State → Inputs → ℕ → List ℤ → ℤ
read program state inputs fun args =
    let kind = (fun_of program fun).kind in
    numbered (values_read program state inputs kind fun) (number_read program kind fun args)

abbrev pub truth : Bool → ℤ
truth true = pos 1
truth false = pos 0

abbrev pub holds : ℤ → Bool
holds value = not (int_eq value (pos 0))

abbrev pub binary : Op → ℤ → ℤ → ℤ
binary ops.Add a b = a +ℤ b
binary ops.Sub a b = a -ℤ b
binary ops.Eq a b = truth (int_eq a b)
binary ops.Ne a b = truth (not (int_eq a b))
binary ops.Lt a b = truth (int_lt a b)
binary ops.Le a b = truth (int_le a b)
binary ops.Gt a b = truth (int_lt b a)
binary ops.Ge a b = truth (int_le b a)
binary ops.And a b = truth (holds a && holds b)
binary ops.Or a b = truth (holds a || holds b)

-- one term, with the value of each part in its place
abbrev pub value_by : Resolved → State → Inputs → Env → ResolvedTerm-F ℤ → ℤ
value_by program state inputs env (ResolvedTerm-F.Number value) = value
value_by program state inputs env (ResolvedTerm-F.Var binder) = slice_index_or env binder (pos 0)
value_by program state inputs env (ResolvedTerm-F.Read fun args) = read program state inputs fun args
value_by program state inputs env (ResolvedTerm-F.Binary op left right) = binary op left right
value_by program state inputs env (ResolvedTerm-F.Not inner) = truth (not (holds inner))
value_by program state inputs env (ResolvedTerm-F.Min first second) = int_min first second
value_by program state inputs env (ResolvedTerm-F.Max first second) = int_max first second
value_by program state inputs env (ResolvedTerm-F.Cond guard first second) = if holds guard then first else second

unfoldable pub value : Resolved → State → Inputs → Env → ResolvedTerm → ℤ
value program state inputs env = fold-ResolvedTerm ℤ (value_by program state inputs env)

-- ---- terms that meet no function outside its domains

-- whether a number lies in a domain
abbrev pub lies_in : Range → ℤ → Bool
lies_in domain value = int_le (whole domain).lo value && int_le value (whole domain).hi

-- whether there are as many values as domains, and each lies in its domain
abbrev pub lie_in : List Range → List ℤ → Bool
lie_in [] [] = true
lie_in [] (value ∷ values) = false
lie_in (domain ∷ domains) [] = false
lie_in (domain ∷ domains) (value ∷ values) = lies_in domain value && lie_in domains values

-- whether a function is there and takes these arguments
abbrev pub takes_args : Option Signature → List ℤ → Bool
takes_args None args = false
takes_args (Some signature) args = lie_in signature.args args

-- a term, and whether it is defined
abbrev pub Definite : Type 0
Definite = ResolvedTerm × Bool

-- one term, with each part and whether it is defined
abbrev pub defined_by : Resolved → State → Inputs → Env → ResolvedTerm-F Definite → Bool
defined_by program state inputs env (ResolvedTerm-F.Number value) = true
defined_by program state inputs env (ResolvedTerm-F.Var binder) = true
defined_by program state inputs env (ResolvedTerm-F.Read fun args) =
    list_all (λ arg. arg.1) args && takes_args (slice_get (signatures_of program) fun) (map (λ arg. value program state inputs env arg.0) args)
defined_by program state inputs env (ResolvedTerm-F.Binary op left right) = left.1 && right.1
defined_by program state inputs env (ResolvedTerm-F.Not inner) = inner.1
defined_by program state inputs env (ResolvedTerm-F.Min first second) = first.1 && second.1
defined_by program state inputs env (ResolvedTerm-F.Max first second) = first.1 && second.1
defined_by program state inputs env (ResolvedTerm-F.Cond guard first second) =
    guard.1 && (if holds (value program state inputs env guard.0) then first.1 else second.1)

-- whether no function is met outside its domains: of a `cond` the guard and the decided branch are met, of every other term
-- all parts
unfoldable pub defined : Resolved → State → Inputs → Env → ResolvedTerm → Bool
defined program state inputs env = para-ResolvedTerm Bool (defined_by program state inputs env)
