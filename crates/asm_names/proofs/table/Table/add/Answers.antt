use Rattle.asm_names.proofs.Common.{ap, ◌∙◌, ◌≡◌, refl, Vec, ℕ, Global, Bool}
use Rattle.std.proofs.Common.{rules}
use Rattle.std.specs.Prelude.{bytes_eq}
use Rattle.indexmap.proofs.CallerLemmas.{insert_entry-new}
use Rattle.asm_names.specs.Table.{scope}
use Rattle.asm_names.proofs.Tables.{view, added, absent}
use Rattle.asm_names.proofs.table.Table.add.Goals as goal

pub returns-clause-added : goal.returns-clause-added
unfolding scope
returns-clause-added c =
    let key : c.in_ok-key.key.items ≡ c.args.name.now = c.in_ok-key.ensures.items ∙ c.bytes.ensures.text in
    let same : Vec ℕ Global → Vec ℕ Global → Bool = λ x y. bytes_eq x.items y.items in
    let none = absent (bytes_eq c.in_ok-key.key.items) c.args.self.now.entries.entries (rw key c.requires) in
    let put = c.in_ok-insert.ensures.entries ∙ insert_entry-new same c.args.self.now.entries c.in_ok-key.key c.args.entry none in
    ap view put ∙ (added c.args.self.now.entries.entries c.in_ok-key.key c.args.entry ∙ rw key refl)

pub returns-in_err-insert-clause-refused : goal.returns-in_err-insert-clause-refused
unfolding scope
returns-in_err-insert-clause-refused c = search rules
