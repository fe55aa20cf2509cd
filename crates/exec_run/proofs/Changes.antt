-- The lines of RAM that are written, a word further.
use Rattle.std.proofs.Common.{◌≡◌, ◌≢◌, ℕ, suc, ◌+◌, ◌-◌, ◌*◌, ◌<◌, List, ◌∷◌, ◌++◌, sym, ap, ◌∙◌, append_assoc, arith}
use Rattle.std.proofs.lemmas.Bool.{cond-true, cond-false, eq-eqb, ne_eqb}
use Rattle.rv_machine.specs.Memory.{number_at}
use Rattle.exec_run.specs.ExecText.{ram_line, ram_lines}
use Rattle.text_core.specs.WrittenLines.{ended, lines_text}

module _ (count number : ℕ) (start end out whole : List ℕ) (below : number < count) (written : out ++ lines_text (ram_lines (count - number) number start end) ≡ whole) where
  abbrev rest : List (List ℕ)
  rest = ram_lines (count - (number + 1)) (number + 1) start end

  abbrev line : List ℕ
  line = ram_line (4 * number) (number_at 4 (4 * number) end)

  next : out ++ lines_text (ram_lines (suc (count - (number + 1))) number start end) ≡ whole
  next = let e : suc (count - (number + 1)) ≡ count - number = omega arith in ap (λ n. out ++ lines_text (ram_lines n number start end)) e ∙ written

  pub written-same : number_at 4 (4 * number) end ≡ number_at 4 (4 * number) start → out ++ lines_text rest ≡ whole
  written-same same = ap (λ ls. out ++ lines_text ls) (sym (cond-true _ rest (line ∷ rest) (eq-eqb _ _ same))) ∙ next

  pub written-changed : number_at 4 (4 * number) end ≢ number_at 4 (4 * number) start → (out ++ ended line) ++ lines_text rest ≡ whole
  written-changed changed =
      append_assoc out (ended line) (lines_text rest) ∙ ap (λ ls. out ++ lines_text ls) (sym (cond-false _ rest (line ∷ rest) (ne_eqb _ _ changed))) ∙ next
