use Rattle.std.proofs.Common.{sym, ◌∙◌}
use Rattle.fault_script.proofs.Tables.{place-within}
use Rattle.fault_script.proofs.value_reading.line_given.Goals as goal

pub value_at-requires-clause-within : goal.value_at-requires-clause-within
value_at-requires-clause-within c =
    place-within c.args.resolved.now c.args.space.now c.args.glossary.now.locations c.in-Some.location.now c.in-Some-find.place c.requires.spaces c.requires.explained.locations
    (sym c.find.ensures ∙ c.in-Some-find.is)

pub returns-in-Ok-clause-within : goal.returns-in-Ok-clause-within
returns-in-Ok-clause-within c =
    place-within c.args.resolved.now c.args.space.now c.args.glossary.now.locations c.in-Some.location.now c.in-Some-find.place c.requires.spaces c.requires.explained.locations
    (sym c.find.ensures ∙ c.in-Some-find.is)
