use Rattle.std.proofs.Common.{◌≡◌, ◌≤◌, true, length, rules}
use Rattle.asm_tree.specs.Names.{all_word, begins_letter}
use Rattle.asm_tree.proofs.Keys.{name_where_free}
use Rattle.asm_tree.proofs.name.is_name.Goals as goal

pub returns-then-are_word-clause-name : goal.returns-then-are_word-clause-name
returns-then-are_word-clause-name c =
    let begins : begins_letter c.args.text.now ≡ true = search rules in
    let short : length c.args.text.now ≤ 32 = search rules in
    let bytes : all_word c.args.text.now ≡ true = search rules in
    name_where_free c.args.text.now c.is_key.result c.is_key.ensures begins short bytes
