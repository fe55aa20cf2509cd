-- What the lines of an assembly text come to: the items of its words, or its first fault.
use Rattle.std.specs.Prelude.{ℕ, ◌+◌, ◌-◌, ◌==◌, Bool, false, is_some, if◌then◌else◌, List, [], ◌∷◌, ◌++◌, Option, None, Some, Result, Ok, Err, bytes_eq}
use Rattle.std.specs.Map.{lookup}
use Rattle.rv_line.specs.Lines.{IsWordOf, item, label}
use Rattle.rv_line.specs.declared.fault.LineFault.{LineFault}
use Rattle.rv_line.specs.declared.fault.LineFault.TheVariants as line_faults
use Rattle.rv_line.specs.declared.item.Item.{Item}
use Rattle.rv_asm.specs.declared.fault.AsmEnd.{AsmEnd}
use Rattle.rv_asm.specs.declared.fault.AsmEnd.TheVariants.{Fault}
use Rattle.rv_asm.specs.declared.fault.AsmFault.{AsmFault}
use Rattle.rv_asm.specs.declared.fault.AsmFault.TheVariants.{TooMany, Form, Mnemonic, Range, Undefined, Repeated}

-- the same fault of a text
abbrev pub of_line : LineFault → AsmFault
of_line line_faults.Form = Form
of_line line_faults.Mnemonic = Mnemonic
of_line line_faults.Range = Range
of_line line_faults.Undefined = Undefined

-- ---- labels and words

-- a label with the number of the word that stands behind it
abbrev pub labelled : ℕ → Option (List ℕ) → List (List ℕ × ℕ)
labelled at None = []
labelled at (Some name) = (name, at) ∷ []

-- how many words an item takes
abbrev pub size_of : Result (Option Item) LineFault → ℕ
size_of (Ok (Some said)) = 1
size_of (Ok None) = 0
size_of (Err fault) = 0

-- how many words a line takes
abbrev pub size : List ℕ → ℕ
size line = size_of (item [] None line)

-- the labels of lines, of which the first word has the number `at`
abbrev pub labels_from : ℕ → List (List ℕ) → List (List ℕ × ℕ)
labels_from at [] = []
labels_from at (line ∷ lines) = labelled at (label line) ++ labels_from (at + size line) lines

-- ---- first turn: the lines themselves, and labels that stood before

-- whether a label is among those before
abbrev pub is_repeated : List (List ℕ × ℕ) → Option (List ℕ) → Bool
is_repeated before None = false
is_repeated before (Some name) = is_some (lookup (bytes_eq name) before)

-- what is wrong with a line: its own spelling, or else its label, where that is among those before
abbrev pub spelling_fault : List (List ℕ × ℕ) → Option (List ℕ) → Result (Option Item) LineFault → Option AsmFault
spelling_fault before name (Err fault) = Some (of_line fault)
spelling_fault before name (Ok said) = if is_repeated before name then Some Repeated else None

-- a fault at a line, or else that of the lines behind it
abbrev pub or_later : ℕ → Option AsmFault → Option AsmEnd → Option AsmEnd
or_later number (Some fault) later = Some (Fault fault number)
or_later number None later = later

-- the first line from line `number` on with something wrong, behind lines with these labels and so many words
abbrev pub first_misspelt : List (List ℕ × ℕ) → ℕ → ℕ → List (List ℕ) → Option AsmEnd
first_misspelt before at number [] = None
first_misspelt before at number (line ∷ lines) =
    or_later number (spelling_fault before (label line) (item [] None line))
    (first_misspelt (before ++ labelled at (label line)) (at + size line) (number + 1) lines)

-- ---- second turn: too many words

-- the first line from line `number` on that takes one word more than there is room for
abbrev pub first_too_many : ℕ → ℕ → List (List ℕ) → Option AsmEnd
first_too_many room number [] = None
first_too_many room number (line ∷ lines) =
    if size line == 0 then first_too_many room (number + 1) lines
    else (if room == 0 then Some (Fault TooMany number)
    else first_too_many (room - 1) (number + 1) lines)

-- ---- third turn: the items, with the displacements of labels

-- the item of a line put before those of the lines behind it, or its fault
abbrev pub led_by : ℕ → Result (Option Item) LineFault → Result (List Item) AsmEnd → Result (List Item) AsmEnd
led_by number (Err fault) rest = Err (Fault (of_line fault) number)
led_by number (Ok None) rest = rest
led_by number (Ok (Some said)) (Ok items) = Ok (said ∷ items)
led_by number (Ok (Some said)) (Err end) = Err end

-- the items of the lines from line `number` on, of which the first word has the number `at`
abbrev pub items_from : List (List ℕ × ℕ) → ℕ → ℕ → List (List ℕ) → Result (List Item) AsmEnd
items_from labels at number [] = Ok []
items_from labels at number (line ∷ lines) =
    let said = item labels (Some at) line in led_by number said (items_from labels (at + size_of said) (number + 1) lines)

-- ---- the whole text

-- no fault, and then what comes next
abbrev pub unless : {A : Type 0} → Option AsmEnd → Result A AsmEnd → Result A AsmEnd
unless None next = next
unless (Some end) next = Err end

-- What the lines from line `first` on come to, where there may be `limit` words. The faults are judged in three turns: the spelling of all lines, the number of words, and labels.
unfoldable pub assembled : ℕ → ℕ → List (List ℕ) → Result (List Item) AsmEnd
assembled limit first lines =
    unless (first_misspelt [] 0 first lines)
    (unless (first_too_many limit first lines)
    (items_from (labels_from 0 lines) 0 first lines))

-- the words are those of the items, one for one
abbrev pub AreWordsOf : List ℕ → List Item → Type 0
AreWordsOf [] [] = Unit {0}
AreWordsOf [] (said ∷ items) = ⊥
AreWordsOf (w ∷ words) [] = ⊥
AreWordsOf (w ∷ words) (said ∷ items) = IsWordOf w said × AreWordsOf words items

-- these are the words of the items that come, and items do come
abbrev pub Comes : Result (List Item) AsmEnd → List ℕ → Type 0
Comes (Ok items) words = AreWordsOf words items
Comes (Err end) words = ⊥

-- the lines assemble to these words
abbrev pub Assembles : ℕ → ℕ → List (List ℕ) → List ℕ → Type 0
Assembles limit first lines words = Comes (assembled limit first lines) words
