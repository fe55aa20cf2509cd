-- Lists of plans, joined neighbour by neighbour.
use Rattle.std.specs.Prelude.{ℕ, List, [], ◌∷◌, Option, Some, None}
use Rattle.block_code.specs.Plan.{Plan, Seq}
use Rattle.rule_code.specs.Code.{halved, in_turn, unless_found}
use Rattle.rule_code.specs.declared.joining.Joint.{Joint}
use Rattle.rule_code.specs.declared.joining.Joint.TheVariants as joints

-- two plans, joined
abbrev pub joined : Joint → Plan → Plan → Plan
joined joints.Behind = Seq
joined joints.UnlessFound = unless_found

-- a plan joined with the next, where there is one
abbrev pub with_next : (Plan → Plan → Plan) → Plan → Option Plan → Plan
with_next join plan None = plan
with_next join plan (Some next) = join plan next

-- the plans of a list, each joined with all behind it
abbrev pub all_in_turn : (Plan → Plan → Plan) → List Plan → Option Plan
all_in_turn join [] = None
all_in_turn join (plan ∷ others) = Some (in_turn join plan others)

-- the plans of a list, joined by halves
abbrev pub all_halved : (Plan → Plan → Plan) → (depth : ℕ) → List Plan → Option Plan
all_halved join depth [] = None
all_halved join depth (plan ∷ others) = Some (halved join depth plan others)

-- the plan, unless the other leaves that a case was found
abbrev pub unless_any : Option Plan → Plan → Plan
unless_any None other = other
unless_any (Some cases) other = unless_found cases other
