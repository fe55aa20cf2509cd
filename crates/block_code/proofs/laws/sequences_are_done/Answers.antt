use Rattle.block_code.proofs.Sequences.{fixed-loaded, fixed-stored, immediate-loaded}
use Rattle.block_code.proofs.laws.sequences_are_done.Goals as goal

pub returns-clause-immediate : goal.returns-clause-immediate
returns-clause-immediate c = immediate-loaded

pub returns-clause-load : goal.returns-clause-load
returns-clause-load c = fixed-loaded

pub returns-clause-store : goal.returns-clause-store
returns-clause-store c = fixed-stored
