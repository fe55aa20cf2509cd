use Rattle.std.proofs.Common.{take}
use Rattle.fault_script.specs.Glossaries.{AreEnumerators}
use Rattle.fault_script.proofs.glossary.enumerators_of.Given as goal

abbrev pub invariant-loop-domain : goal.invariant-loop-domain
invariant-loop-domain l = AreEnumerators l.tables.items (take l.domain-index l.domains)
