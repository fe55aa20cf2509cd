use Rattle.block_code.proofs.Parts.{parts-are-done, parts-stop}
use Rattle.block_code.proofs.laws.parts_are_done_in_order.Goals as goal

pub returns-clause-does : goal.returns-clause-does
returns-clause-does c = parts-are-done

pub returns-clause-stops : goal.returns-clause-stops
returns-clause-stops c = parts-stop
