use Rattle.std.proofs.Common.{◌≡◌, ◌∙◌, ℕ, Bool, None, ap, refl}
use Rattle.std.specs.Prelude.{Vec, bytes_eq}
use Rattle.std.specs.declared.alloc.Global.{Global}
use Rattle.std.specs.Map.{lookup}
use Rattle.indexmap.proofs.CallerLemmas.{insert_entry-new}
use Rattle.rv_line.proofs.Entries.{view, found, added}
use Rattle.rv_line.proofs.labels.Labels.add.Goals as goal

pub returns-clause-ok : goal.returns-clause-ok
returns-clause-ok c =
    let words = c.self.inside.words in
    let key : c.in_ok-key.key.items ≡ c.args.label.now = c.in_ok-key.ensures.items in
    let same : Vec ℕ Global → Vec ℕ Global → Bool = λ x y. bytes_eq x.items y.items in
    let none : lookup (same c.in_ok-key.key) words.entries ≡ None = found (bytes_eq c.in_ok-key.key.items) words.entries ∙ ap (lookup (bytes_eq c.in_ok-key.key.items)) c.self.view_is ∙ rw key c.requires in
    let put = c.in_ok-insert.ensures.entries ∙ insert_entry-new same words c.in_ok-key.key c.args.word none in
    ap view put ∙ added words.entries c.in_ok-key.key c.args.word ∙ rw (key, c.self.view_is) refl
