-- A line of a listing: it says its word, and it is one line.
use Rattle.std.proofs.Common.{◌≡◌, ℕ, List, ◌∷◌, ◌++◌, Option, Some, None, Ok, refl}
use Rattle.rv_isa.specs.declared.instr.Instr.{Instr}
use Rattle.rv_encode.specs.Decoded.{decoded}
use Rattle.rv_encode.proofs.Decoding.{decoded-row}
use Rattle.text_core.specs.Hexadecimal.{hex8}
use Rattle.rv_line.specs.Laws.{ListingReads}
use Rattle.rv_line.specs.Lines.{IsWordOf, item, label}
use Rattle.rv_line.specs.Texts.{line_text, said_text}
use Rattle.rv_line.specs.declared.item.Item.{Item}
use Rattle.rv_line.specs.declared.item.Item.TheVariants.{Coded, Raw}
use Rattle.rv_line.proofs.Rows.{instr_line, raw_line}

pub line_reads : ListingReads
unfolding line_text
line_reads labels here address w below = by_decoded (decoded w) refl
  where
    comment : List ℕ
    comment = 32 ∷ (hex8 address ++ 32 ∷ hex8 w)

    by_decoded : (o : Option Instr) → decoded w ≡ o → (label (said_text w o ++ 32 ∷ 35 ∷ comment) ≡ None) × ((it : Item) × (item labels here (said_text w o ++ 32 ∷ 35 ∷ comment) ≡ Ok (Some it)) × IsWordOf w it)
    by_decoded None e = let says = raw_line labels here comment w below in (says.0, (Raw w, says.1, refl))
    by_decoded (Some instr) e =
        let row = decoded-row w instr below e in
        let says = instr_line labels here comment instr w row in
        (says.0, (Coded instr, says.1, row))
