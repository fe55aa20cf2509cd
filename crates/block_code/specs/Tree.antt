-- What a tree of the program is as plain data.
use Rattle.block_code.specs.declared.tree.Tree.{Tree, Line, Seq', If', Loop', Scan'}
use Rattle.block_code.specs.Plan.{Plan}
use Rattle.block_code.specs.Plan as plan

-- the plan of a tree
abbrev pub plan_of : Tree → Plan
plan_of (Line instrs) = plan.Line instrs
plan_of (Seq' p first q second) = plan.Seq (plan_of first) (plan_of second)
plan_of (If' test p then_part q else_part) = plan.If test (plan_of then_part) (plan_of else_part)
plan_of (Loop' count slot p body) = plan.Loop count slot (plan_of body)
plan_of (Scan' count slot p guard test q found r none) = plan.Scan count slot (plan_of guard) test (plan_of found) (plan_of none)
