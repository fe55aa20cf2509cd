-- The report tells the image.
use Rattle.std.proofs.Common.{◌≡◌, ℕ, ◌<◌, ◌^◌, ℤ, pos, negsuc, unsigned_abs, true, false, List, [], ◌∷◌, ◌++◌, length, map, codes, refl, sym, ap, ◌∙◌, subst, arith, ◌==◌}
use Rattle.std.specs.List.{AllByRecursion}
use Rattle.std.specs.Fmt.{decimal, signed_decimal}
use Rattle.std.specs.Int.Signed.{mag}
use Rattle.std.proofs.lemmas.Bool.{both_ways}
use Rattle.std.proofs.lemmas.Fmt.{decimal_injective, signed_decimal_injective}
use Rattle.std.proofs.lemmas.List.{append_cancel_left, same_from_push}
use Rattle.std.proofs.lemmas.List.Elements.{All-head, All-tail}
use Rattle.std.proofs.lemmas.Simd.{map-map}
use Rattle.text_core.specs.Fields.{begins}
use Rattle.text_core.specs.Hexadecimal.{hex8}
use Rattle.text_core.specs.WrittenLines.{◌␣◌}
use Rattle.text_core.proofs.Hexadecimal.{hex8_injective}
use Rattle.rv_machine.specs.Hart.{AreWords}
use Rattle.asm_names.specs.declared.program.Resolved.{Resolved}
use Rattle.state_space.specs.declared.signature.Range.{Range}
use Rattle.state_space.specs.declared.signature.Side.{Side}
use Rattle.state_space.specs.declared.signature.Side.TheVariants as sides
use Rattle.state_space.specs.declared.signature.Signature.{Signature}
use Rattle.state_space.specs.Codomains.{codomain_at}
use Rattle.state_space.specs.Kinds.{of_side}
use Rattle.state_space.specs.Locations.{Location, input_locations, located, signatures_of, state_locations}
use Rattle.state_layout.specs.declared.entry.Entry.{Entry}
use Rattle.state_layout.specs.declared.layout.Layout.{Layout}
use Rattle.state_layout.specs.declared.layout.Layout.TheVariants as layouts
use Rattle.state_layout.specs.Map.{Placement, cell_of, entries, entry_at}
use Rattle.bound_count.specs.declared.numbers.Numbers.{Numbers}
use Rattle.bound_count.specs.declared.shape.Shape.{Shape}
use Rattle.bound_count.specs.declared.shape.Shape.TheVariants as shapes
use Rattle.image_text.specs.Report.{AreNamed, AreNeedsReadable, IsReportable, ReportDetermines, Reported, address_of, entry_of, head_lines, in_line, layout_word, location_name, making_lines, needs_lines, out_line, place_line, report_lines, report_text, shape_word, side_line, side_lines, word_lines}
use Rattle.image_text.proofs.Bounds.{IsTellable, codomain-tellable, entries-low, width-small}
use Rattle.image_text.proofs.Fields.{IsField, IsLine, one_field, one_more_field, decimal_field, signed_field, hex8_field, location_field, name_field}
use Rattle.image_text.proofs.Parting.{AreLines, AreLines-append, apart, heads, same_lines}
use Rattle.image_text.proofs.Sections.{AllBegin, Elsewhere, all-begin, all-lines, elsewhere, same-front, same-told}

-- behind the same word the same stands
same_behind : (w x y : List ℕ) → w ␣ x ≡ w ␣ y → x ≡ y
same_behind w x y e = (heads 32 32 x y (append_cancel_left w (32 ∷ x) (32 ∷ y) e)).1

same_number : (w : List ℕ) (m n : ℕ) → m < 2 ^ 64 → n < 2 ^ 64 → w ␣ decimal m ≡ w ␣ decimal n → m ≡ n
same_number w m n small little e = decimal_injective m n small little (same_behind w (decimal m) (decimal n) e)

number_line : (w : List ℕ) (n : ℕ) → IsField w → IsLine (w ␣ decimal n)
number_line w n field = one_more_field w (decimal n) field (one_field (decimal n) (decimal_field n))

same_signed : (y z : ℤ) → unsigned_abs y < 2 ^ 63 → unsigned_abs z < 2 ^ 63 → signed_decimal y ≡ signed_decimal z → y ≡ z
same_signed y z small little = signed_decimal_injective y z (mag_below y small) (mag_below z little)
  where
    mag_below : (z : ℤ) → unsigned_abs z < 2 ^ 63 → mag z < 2 ^ 63
    mag_below (pos n) h = h
    mag_below (negsuc n) h = omega arith

-- ---- the lines at the head
shape_field : (s : Shape) → IsField (shape_word s)
shape_field shapes.Unrolled = refl
shape_field shapes.Looped = refl

layout_field : (l : Layout) → IsField (layout_word l)
layout_field layouts.Words = refl
layout_field layouts.Packed = refl

differ : (b : ℕ) (xs ys : List ℕ) → begins b xs ≡ true → begins b ys ≡ false → xs ≡ ys → ⊥
differ b xs ys f g e = both_ways (begins b ys) g (ap (begins b) (sym e) ∙ f)

same_shape : (s t : Shape) → shape_word s ≡ shape_word t → s ≡ t
same_shape shapes.Unrolled shapes.Unrolled e = refl
same_shape shapes.Unrolled shapes.Looped e = absurd (differ 117 _ _ refl refl e)
same_shape shapes.Looped shapes.Unrolled e = absurd (differ 108 _ _ refl refl e)
same_shape shapes.Looped shapes.Looped e = refl

same_layout : (s t : Layout) → layout_word s ≡ layout_word t → s ≡ t
same_layout layouts.Words layouts.Words e = refl
same_layout layouts.Words layouts.Packed e = absurd (differ 119 _ _ refl refl e)
same_layout layouts.Packed layouts.Words e = absurd (differ 112 _ _ refl refl e)
same_layout layouts.Packed layouts.Packed e = refl

abbrev head_of : Reported → List (List ℕ)
head_of r = head_lines r.program.name r.shape r.layout r.revision r.built.needs

are_head_lines : (r : Reported) → AreNamed r.program → AreLines (head_of r)
unfolding head_lines making_lines needs_lines
are_head_lines r named =
    let name = r.program.name in
    let needs = r.built.needs in
    let program = one_more_field (codes "program") name refl (one_field name (name_field name named.machine)) in
    let revision = number_line (codes "revision") r.revision refl in
    let shape = one_more_field (codes "shape") (shape_word r.shape) refl (one_field (shape_word r.shape) (shape_field r.shape)) in
    let layout = one_more_field (codes "layout") (layout_word r.layout) refl (one_field (layout_word r.layout) (layout_field r.layout)) in
    let ram = number_line (codes "ram") needs.ram refl in
    let rom = number_line (codes "rom") needs.rom refl in
    let anchor = number_line (codes "anchor") needs.anchor refl in
    let round = number_line (codes "round") needs.round refl in
    let regs = number_line (codes "registers") needs.regs refl in
    (program, (revision, (shape, (layout, (ram, (rom, (anchor, (round, (regs, tt)))))))))

needs_from : ℕ → ℕ → ℕ → ℕ → ℕ → Numbers
needs_from ram rom anchor round regs = record { ram = ram; rom = rom; anchor = anchor; round = round; regs = regs }

record HeadAlike (r s : Reported) (rest rest' : List (List ℕ)) : Type 0 where
  name : r.program.name ≡ s.program.name
  shape : r.shape ≡ s.shape
  layout : r.layout ≡ s.layout
  revision : r.revision ≡ s.revision
  needs : r.built.needs ≡ s.built.needs
  behind : rest ≡ rest'

same_head : (r s : Reported) (rest rest' : List (List ℕ)) → IsReportable r.program r.built r.revision → IsReportable s.program s.built s.revision
    → head_of r ++ rest ≡ head_of s ++ rest' → HeadAlike r s rest rest'
unfolding head_lines making_lines needs_lines needs_from
same_head r s rest rest' good fine e =
    let needs : Numbers = r.built.needs in
    let needs' : Numbers = s.built.needs in
    let small : AreNeedsReadable needs = good.needs in
    let little : AreNeedsReadable needs' = fine.needs in
    let h0 = heads _ _ _ _ e in
    let h1 = heads _ _ _ _ h0.1 in
    let h2 = heads _ _ _ _ h1.1 in
    let h3 = heads _ _ _ _ h2.1 in
    let h4 = heads _ _ _ _ h3.1 in
    let h5 = heads _ _ _ _ h4.1 in
    let h6 = heads _ _ _ _ h5.1 in
    let h7 = heads _ _ _ _ h6.1 in
    let h8 = heads _ _ _ _ h7.1 in
    let ram = same_number (codes "ram") needs.ram needs'.ram small.ram little.ram h4.0 in
    let rom = same_number (codes "rom") needs.rom needs'.rom small.rom little.rom h5.0 in
    let anchor = same_number (codes "anchor") needs.anchor needs'.anchor small.anchor little.anchor h6.0 in
    let round = same_number (codes "round") needs.round needs'.round small.round little.round h7.0 in
    let regs = same_number (codes "registers") needs.regs needs'.regs small.regs little.regs h8.0 in
    let same : needs_from needs.ram needs.rom needs.anchor needs.round needs.regs ≡ needs_from needs'.ram needs'.rom needs'.anchor needs'.round needs'.regs = cc in
    record {
      name = same_behind (codes "program") r.program.name s.program.name h0.0;
      shape = same_shape r.shape s.shape (same_behind (codes "shape") _ _ h2.0);
      layout = same_layout r.layout s.layout (same_behind (codes "layout") _ _ h3.0);
      revision = same_number (codes "revision") r.revision s.revision good.making fine.making h1.0;
      needs = same;
      behind = h8.1;
    }

-- ---- the lines of locations
is_place_line : (name : List ℕ) (e : Entry) → IsField name → IsLine (place_line name e)
unfolding place_line
is_place_line name e field =
    let lo : List ℕ = signed_decimal e.lo in
    let size : List ℕ = decimal e.size ␣ lo in
    let width : List ℕ = decimal e.width ␣ size in
    let address : List ℕ = hex8 (address_of e) ␣ width in
    let s = one_more_field (decimal e.size) lo (decimal_field e.size) (one_field lo (signed_field e.lo)) in
    let w = one_more_field (decimal e.width) size (decimal_field e.width) s in
    let a = one_more_field (hex8 (address_of e)) width (hex8_field (address_of e)) w in
    one_more_field (codes "place") (name ␣ address) refl (one_more_field name address field a)

is_in_line : (port : ℕ) (name : List ℕ) (range : Range) → IsField name → IsLine (in_line port name range)
unfolding in_line
is_in_line port name range field =
    let lo : List ℕ = signed_decimal range.lo in
    let size : List ℕ = decimal range.size ␣ lo in
    let s = one_more_field (decimal range.size) lo (decimal_field range.size) (one_field lo (signed_field range.lo)) in
    one_more_field (codes "in") (decimal port ␣ name ␣ size) refl (one_more_field (decimal port) (name ␣ size) (decimal_field port) (one_more_field name size field s))

is_out_line : (port : ℕ) (name : List ℕ) → IsField name → IsLine (out_line port name)
unfolding out_line
is_out_line port name field = one_more_field (codes "out") (decimal port ␣ name) refl (one_more_field (decimal port) name (decimal_field port) (one_field name field))

is_side_line : (side : Side) (program : Resolved) (placement : Placement) → AreNamed program → (n : ℕ) (l : Location) → IsLine (side_line side program placement n l)
is_side_line sides.State program placement named n l = is_place_line (location_name program l) (entry_of placement l) (location_field program l named)
is_side_line sides.Input program placement named n l = is_in_line n (location_name program l) (codomain_at placement.signatures l) (location_field program l named)
is_side_line sides.Output program placement named n l = is_out_line n (location_name program l) (location_field program l named)

entry_from : ℕ → ℕ → ℕ → ℤ → Entry
entry_from offset width size lo = record { offset = offset; width = width; size = size; lo = lo }

-- an entry whose numbers can be read back
record IsEntryTellable (e : Entry) : Type 0 where
  address : address_of e < 2 ^ 32
  width : e.width < 2 ^ 64
  domain : IsTellable (record { size = e.size; lo = e.lo })

same_place : (name name' : List ℕ) (e h : Entry) → IsField name → IsField name' → IsEntryTellable e → IsEntryTellable h → place_line name e ≡ place_line name' h → (name ≡ name') × (e ≡ h)
unfolding place_line entry_from
same_place name name' e h named called small little same =
    let behind = same_behind (codes "place") _ _ same in
    let first = apart 32 name name' _ _ named called behind in
    let address = apart 32 (hex8 (address_of e)) (hex8 (address_of h)) _ _ (hex8_field _) (hex8_field _) first.1 in
    let width = apart 32 (decimal e.width) (decimal h.width) _ _ (decimal_field _) (decimal_field _) address.1 in
    let size = apart 32 (decimal e.size) (decimal h.size) _ _ (decimal_field _) (decimal_field _) width.1 in
    let offsets = hex8_injective (address_of e) (address_of h) small.address little.address address.0 in
    let offset : e.offset ≡ h.offset = omega (arith, offsets) in
    let widths = decimal_injective e.width h.width small.width little.width width.0 in
    let sizes = decimal_injective e.size h.size small.domain.size little.domain.size size.0 in
    let los = same_signed e.lo h.lo small.domain.lo little.domain.lo size.1 in
    let all : entry_from e.offset e.width e.size e.lo ≡ entry_from h.offset h.width h.size h.lo = cc in
    (first.0, all)

range_from : ℕ → ℤ → Range
range_from size lo = record { size = size; lo = lo }

same_in : (port : ℕ) (name name' : List ℕ) (a b : Range) → IsField name → IsField name' → IsTellable a → IsTellable b → in_line port name a ≡ in_line port name' b → (name ≡ name') × (a ≡ b)
unfolding in_line range_from
same_in port name name' a b named called small little same =
    let behind = same_behind (decimal port) _ _ (same_behind (codes "in") _ _ same) in
    let first = apart 32 name name' _ _ named called behind in
    let size = apart 32 (decimal a.size) (decimal b.size) _ _ (decimal_field _) (decimal_field _) first.1 in
    let sizes = decimal_injective a.size b.size small.size little.size size.0 in
    let los = same_signed a.lo b.lo small.lo little.lo size.1 in
    let all : range_from a.size a.lo ≡ range_from b.size b.lo = cc in
    (first.0, all)

same_out : (port : ℕ) (name name' : List ℕ) → out_line port name ≡ out_line port name' → name ≡ name'
unfolding out_line
same_out port name name' same = same_behind (decimal port) name name' (same_behind (codes "out") _ _ same)

-- ---- the sections of lines
abbrev byte_of : Side → ℕ
byte_of sides.State = 112
byte_of sides.Input = 105
byte_of sides.Output = 111

begins_so : (side : Side) (program : Resolved) (placement : Placement) (n : ℕ) (l : Location) → begins (byte_of side) (side_line side program placement n l) ≡ true
unfolding place_line in_line out_line
begins_so sides.State program placement n l = refl
begins_so sides.Input program placement n l = refl
begins_so sides.Output program placement n l = refl

begins_else : (b : ℕ) (side : Side) (program : Resolved) (placement : Placement) (n : ℕ) (l : Location) → (byte_of side == b) ≡ false → begins b (side_line side program placement n l) ≡ false
unfolding place_line in_line out_line
begins_else b sides.State program placement n l e = e
begins_else b sides.Input program placement n l e = e
begins_else b sides.Output program placement n l e = e

words_elsewhere : (b : ℕ) (ws : List ℕ) → (119 == b) ≡ false → Elsewhere b (word_lines ws)
unfolding word_lines
words_elsewhere b ws e = e

abbrev lines_on : Side → Reported → List (List ℕ)
lines_on side r = side_lines side r.program r.built.map

abbrev behind_outputs : Reported → List (List ℕ)
behind_outputs r = word_lines r.built.written

abbrev behind_inputs : Reported → List (List ℕ)
behind_inputs r = lines_on sides.Output r ++ behind_outputs r

abbrev behind_state : Reported → List (List ℕ)
behind_state r = lines_on sides.Input r ++ behind_inputs r

all_on : (side : Side) (r : Reported) → AllBegin (byte_of side) (lines_on side r)
all_on side r = all-begin (side_line side r.program r.built.map) (byte_of side) 0 (located (of_side side) 0 (signatures_of r.program)) (begins_so side r.program r.built.map)

behind : (b : ℕ) (side : Side) (r : Reported) (rest : List (List ℕ)) → (byte_of side == b) ≡ false → Elsewhere b rest → Elsewhere b (lines_on side r ++ rest)
behind b side r rest e =
    elsewhere (side_line side r.program r.built.map) b 0 (located (of_side side) 0 (signatures_of r.program)) rest (λ n l. begins_else b side r.program r.built.map n l e)

outputs_else : (b : ℕ) (r : Reported) → (111 == b) ≡ false → (119 == b) ≡ false → Elsewhere b (behind_inputs r)
outputs_else b r e f = behind b sides.Output r (behind_outputs r) e (words_elsewhere b r.built.written f)

inputs_else : (b : ℕ) (r : Reported) → (105 == b) ≡ false → (111 == b) ≡ false → (119 == b) ≡ false → Elsewhere b (behind_state r)
inputs_else b r d e f = behind b sides.Input r (behind_inputs r) d (outputs_else b r e f)

record SectionsAlike (r s : Reported) : Type 0 where
  state : lines_on sides.State r ≡ lines_on sides.State s
  inputs : lines_on sides.Input r ≡ lines_on sides.Input s
  outputs : lines_on sides.Output r ≡ lines_on sides.Output s
  words : word_lines r.built.written ≡ word_lines s.built.written

same_sections : (r s : Reported) → lines_on sides.State r ++ behind_state r ≡ lines_on sides.State s ++ behind_state s → SectionsAlike r s
same_sections r s e =
    let a = same-front 112 (lines_on sides.State r) (lines_on sides.State s) (behind_state r) (behind_state s) (all_on sides.State r) (all_on sides.State s) (inputs_else 112 r refl refl refl) (inputs_else 112 s refl refl refl) e in
    let b = same-front 105 (lines_on sides.Input r) (lines_on sides.Input s) (behind_inputs r) (behind_inputs s) (all_on sides.Input r) (all_on sides.Input s) (outputs_else 105 r refl refl) (outputs_else 105 s refl refl) a.1 in
    let c = same-front 111 (lines_on sides.Output r) (lines_on sides.Output s) (behind_outputs r) (behind_outputs s) (all_on sides.Output r) (all_on sides.Output s) (words_elsewhere 111 r.built.written refl) (words_elsewhere 111 s.built.written refl) b.1 in
    record { state = a.0; inputs = b.0; outputs = c.0; words = c.1 }

-- ---- what the lines of locations tell
anywhere : (locations : List Location) → AllByRecursion (λ l. Unit {0}) locations
anywhere [] = tt
anywhere (l ∷ locations) = (tt, anywhere locations)

abbrev IsLow : Reported → Location → Type 0
IsLow r l = address_of (entry_of r.built.map l) < 2 ^ 32

low_state : (r : Reported) → IsReportable r.program r.built r.revision → AllByRecursion (IsLow r) (state_locations (signatures_of r.program))
low_state r good = subst (λ (ss : List Signature). AllByRecursion (IsLow r) (state_locations ss)) good.map (entries-low r.built.map good.placed)

entry_tellable : (r : Reported) → IsReportable r.program r.built r.revision → (l : Location) → IsLow r l → IsEntryTellable (entry_of r.built.map l)
entry_tellable r good l low = record {
  address = low;
  width = width-small r.built.map l;
  domain = codomain-tellable r.built.map.signatures l.fun good.placed.sized;
}

module _ (r s : Reported) (good : IsReportable r.program r.built r.revision) (fine : IsReportable s.program s.built s.revision) where
  place_told : (n : ℕ) (l m : Location) → IsLow r l → IsLow s m → side_line sides.State r.program r.built.map n l ≡ side_line sides.State s.program s.built.map n m
      → (location_name r.program l ≡ location_name s.program m) × (entry_of r.built.map l ≡ entry_of s.built.map m)
  place_told n l m low deep =
      same_place (location_name r.program l) (location_name s.program m) (entry_of r.built.map l) (entry_of s.built.map m) (location_field r.program l good.names) (location_field s.program m fine.names)
      (entry_tellable r good l low) (entry_tellable s fine m deep)

  in_told : (n : ℕ) (l m : Location) → side_line sides.Input r.program r.built.map n l ≡ side_line sides.Input s.program s.built.map n m
      → (location_name r.program l ≡ location_name s.program m) × (codomain_at r.built.map.signatures l ≡ codomain_at s.built.map.signatures m)
  in_told n l m =
      same_in n (location_name r.program l) (location_name s.program m) (codomain_at r.built.map.signatures l) (codomain_at s.built.map.signatures m) (location_field r.program l good.names) (location_field s.program m fine.names)
      (codomain-tellable r.built.map.signatures l.fun good.placed.sized) (codomain-tellable s.built.map.signatures m.fun fine.placed.sized)

  module _ {A : Type 0} (told told' : Location → A) where
    same_states : ((n : ℕ) (l m : Location) → IsLow r l → IsLow s m → side_line sides.State r.program r.built.map n l ≡ side_line sides.State s.program s.built.map n m → told l ≡ told' m)
        → lines_on sides.State r ≡ lines_on sides.State s → map told (state_locations (signatures_of r.program)) ≡ map told' (state_locations (signatures_of s.program))
    same_states h =
        same-told (side_line sides.State r.program r.built.map) (side_line sides.State s.program s.built.map) told told' (IsLow r) (IsLow s) h 0 (state_locations (signatures_of r.program)) (state_locations (signatures_of s.program))
        (low_state r good) (low_state s fine)

    same_ports : (side : Side) → ((n : ℕ) (l m : Location) → side_line side r.program r.built.map n l ≡ side_line side s.program s.built.map n m → told l ≡ told' m)
        → lines_on side r ≡ lines_on side s → map told (located (of_side side) 0 (signatures_of r.program)) ≡ map told' (located (of_side side) 0 (signatures_of s.program))
    same_ports side h =
        same-told (side_line side r.program r.built.map) (side_line side s.program s.built.map) told told' (λ l. Unit {0}) (λ l. Unit {0}) (λ n l m f g. h n l m) 0 (located (of_side side) 0 (signatures_of r.program)) (located (of_side side) 0 (signatures_of s.program))
        (anywhere _) (anywhere _)

-- the entries of a map are those of the program's locations
entries_are : (r : Reported) → IsReportable r.program r.built r.revision → entries r.built.map ≡ map (entry_of r.built.map) (state_locations (signatures_of r.program))
entries_are r good =
    map-map (entry_at r.built.map) (cell_of r.built.map.signatures) (state_locations r.built.map.signatures)
    ∙ ap (λ (ss : List Signature). map (entry_of r.built.map) (state_locations ss)) good.map

domains_are : (r : Reported) → IsReportable r.program r.built r.revision
    → map (codomain_at (signatures_of r.program)) (input_locations (signatures_of r.program)) ≡ map (codomain_at r.built.map.signatures) (input_locations (signatures_of r.program))
domains_are r good = ap (λ (ss : List Signature). map (codomain_at ss) (input_locations (signatures_of r.program))) (sym good.map)

-- ---- the words
are_words : (ws : List ℕ) → AreLines (map hex8 ws)
are_words [] = tt
are_words (w ∷ ws) = (one_field (hex8 w) (hex8_field w), are_words ws)

are_word_lines : (ws : List ℕ) → AreLines (word_lines ws)
unfolding word_lines
are_word_lines ws = (number_line (codes "words") (length ws) refl, AreLines-append (map hex8 ws) (codes "end" ∷ []) (are_words ws) (refl, tt))

same_words : (ws vs : List ℕ) → AreWords ws → AreWords vs → map hex8 ws ≡ map hex8 vs → ws ≡ vs
same_words [] [] small little e = refl
same_words [] (v ∷ vs) small little e = absurd cc
same_words (w ∷ ws) [] small little e = absurd cc
same_words (w ∷ ws) (v ∷ vs) small little e =
    let P = λ (x : ℕ). x < 2 ^ 32 in
    let parts = heads _ _ _ _ e in
    let first = hex8_injective w v (All-head P w ws small) (All-head P v vs little) parts.0 in
    let rest = same_words ws vs (All-tail P w ws small) (All-tail P v vs little) parts.1 in
    cc

same_word_lines : (ws vs : List ℕ) → AreWords ws → AreWords vs → word_lines ws ≡ word_lines vs → ws ≡ vs
unfolding word_lines
same_word_lines ws vs small little e =
    same_words ws vs small little (same_from_push (map hex8 ws) (map hex8 vs) (codes "end") (codes "end") (heads _ _ _ _ e).1).0

-- ---- the report
are_side_lines : (side : Side) (r : Reported) → AreNamed r.program → AreLines (lines_on side r)
are_side_lines side r named = all-lines (side_line side r.program r.built.map) 0 (located (of_side side) 0 (signatures_of r.program)) (is_side_line side r.program r.built.map named)

are_report_lines : (r : Reported) → AreNamed r.program → AreLines (report_lines r.program r.built r.shape r.layout r.revision)
are_report_lines r named =
    AreLines-append (head_of r) _ (are_head_lines r named)
    (AreLines-append (lines_on sides.State r) _ (are_side_lines sides.State r named)
    (AreLines-append (lines_on sides.Input r) _ (are_side_lines sides.Input r named)
    (AreLines-append (lines_on sides.Output r) _ (are_side_lines sides.Output r named) (are_word_lines r.built.written))))

pub report_determines : ReportDetermines
unfolding report_text
report_determines r s good fine e =
    let lines = same_lines (report_lines r.program r.built r.shape r.layout r.revision) (report_lines s.program s.built s.shape s.layout s.revision) (are_report_lines r good.names) (are_report_lines s fine.names) e in
    let head = same_head r s (lines_on sides.State r ++ behind_state r) (lines_on sides.State s ++ behind_state s) good fine lines in
    let parts = same_sections r s head.behind in
    record {
      name = head.name;
      shape = head.shape;
      layout = head.layout;
      revision = head.revision;
      needs = head.needs;
      locations = same_states r s good fine (location_name r.program) (location_name s.program) (λ n l m f g same. (place_told r s good fine n l m f g same).0) parts.state;
      map = entries_are r good ∙ same_states r s good fine (entry_of r.built.map) (entry_of s.built.map) (λ n l m f g same. (place_told r s good fine n l m f g same).1) parts.state ∙ sym (entries_are s fine);
      inputs = same_ports r s good fine (location_name r.program) (location_name s.program) sides.Input (λ n l m same. (in_told r s good fine n l m same).0) parts.inputs;
      domains = domains_are r good ∙ same_ports r s good fine (codomain_at r.built.map.signatures) (codomain_at s.built.map.signatures) sides.Input (λ n l m same. (in_told r s good fine n l m same).1) parts.inputs ∙ sym (domains_are s fine);
      outputs = same_ports r s good fine (location_name r.program) (location_name s.program) sides.Output (λ n l m same. same_out n (location_name r.program l) (location_name s.program m) same) parts.outputs;
      written = same_word_lines r.built.written s.built.written good.words fine.words parts.words;
    }
