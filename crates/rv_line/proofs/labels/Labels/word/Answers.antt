use Rattle.std.proofs.Common.{◌∙◌, ap}
use Rattle.std.specs.Prelude.{bytes_eq}
use Rattle.std.specs.Map.{lookup}
use Rattle.rv_line.proofs.Entries.{found}
use Rattle.rv_line.proofs.labels.Labels.word.Goals as goal

pub returns : goal.returns
returns c = c.copied.ensures ∙ c.get.ensures.value ∙ found (bytes_eq c.args.label.now) c.self.inside.words.entries ∙ ap (lookup (bytes_eq c.args.label.now)) c.self.view_is
