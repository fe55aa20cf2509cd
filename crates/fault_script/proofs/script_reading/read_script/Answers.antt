use Rattle.text_core.specs.Lines.{lines}
use Rattle.fault_script.proofs.Scripts.{scripts-are-faults}
use Rattle.fault_script.proofs.script_reading.read_script.Goals as goal

pub returns-clause-faults : goal.returns-clause-faults
returns-clause-faults c = scripts-are-faults c.args.ram c.args.first_line (lines c.args.text.now) _ (rw c.from_vec.ensures c.in_ok-read_lines.ensures.script)
