use Rattle.std.proofs.Common.{◌≡◌, ◌∙◌, ℕ, List, refl, ap, arith}
use Rattle.image_files.specs.Elf.{IsNoElf}
use Rattle.stab_cli.specs.FileJob.{IsUnelfVerdict}
use Rattle.stab_cli.specs.Stages.{IsOne}
use Rattle.stab_cli.specs.Verdict.{Accept, Refuse, Verdict}
use Rattle.stab_cli.specs.declared.refusal.Refusal.TheVariants.{BadElfFile}
use Rattle.stab_cli.proofs.unelf.text.Goals as goal

-- bytes have one longest front that begins a file
one_offset : (bytes : List ℕ) (m n : ℕ) → IsNoElf bytes m → IsNoElf bytes n → m ≡ n
one_offset bytes m n first second =
    let least = first.longest.longest n second.longest.within second.longest.begins in
    let most = second.longest.longest m first.longest.within first.longest.begins in
    omega arith

one_refusal : (bytes : List ℕ) (offset : ℕ) → IsNoElf bytes offset → IsOne (IsUnelfVerdict bytes) (Refuse (BadElfFile offset))
one_refusal bytes offset none = ((offset, none, refl), only)
  where
    only : (verdict : Verdict) → IsUnelfVerdict bytes verdict → verdict ≡ Refuse (BadElfFile offset)
    only Accept is = absurd (none.none is.0 is.1)
    only (Refuse refusal) is = ap Refuse (is.2 ∙ ap BadElfFile (one_offset bytes is.0 offset is.1 none))

pub returns-in-Err-Fault : goal.returns-in-Err-Fault
returns-in-Err-Fault c =
    let offset = c.in-Err-Fault.offset in
    let faulty = rw c.in-Err-Fault.field-0-is at c.in-Err-Fault.ensures.err in
    rw c.in-Err-Fault.field-0-is (one_refusal c.args.bytes.now offset (faulty offset refl))
