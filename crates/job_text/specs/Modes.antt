-- The modes and their words.
use Rattle.std.specs.Prelude.{ℕ, List, if◌then◌else◌, Option, Some, None, codes, bytes_eq}
use Rattle.job_text.specs.declared.mode.Mode.{Mode}
use Rattle.job_text.specs.declared.mode.Mode.TheVariants.{Check, Compile, Run, Model, Exec, Asm, List as Listing, Make, Hex, Unhex, Elf, Unelf}

-- the mode of this name
unfoldable pub mode_named : List ℕ → Option Mode
mode_named word =
    if bytes_eq word (codes "check") then Some Check
    else (if bytes_eq word (codes "compile") then Some Compile
    else (if bytes_eq word (codes "run") then Some Run
    else (if bytes_eq word (codes "model") then Some Model
    else (if bytes_eq word (codes "exec") then Some Exec
    else (if bytes_eq word (codes "asm") then Some Asm
    else (if bytes_eq word (codes "list") then Some Listing
    else (if bytes_eq word (codes "make") then Some Make
    else (if bytes_eq word (codes "hex") then Some Hex
    else (if bytes_eq word (codes "unhex") then Some Unhex
    else (if bytes_eq word (codes "elf") then Some Elf
    else (if bytes_eq word (codes "unelf") then Some Unelf
    else None)))))))))))
