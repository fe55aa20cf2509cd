-- The index of arguments, in numbers, and the lines that compute it.
use Rattle.std.proofs.Common.{◌≡◌, ◌≢◌, ℕ, suc, ◌+◌, ◌*◌, ◌%◌, ◌^◌, ◌<◌, ◌≤◌, ℤ, pos, negsuc, ◌+ℤ◌, true, List, [], ◌∷◌, length, map, Some, refl, sym, ap, ◌∙◌, subst, arith}
use Rattle.std.{specs.{Prelude.{◌-ℤ◌, ◌≤ℤ◌, nat_abs, int_le}}, proofs.lemmas.{Int.{ints}, Bool.{and_parts}}}
use Rattle.rv_isa.specs.declared.instr.Instr.{Instr}
use Rattle.rv_isa.specs.declared.instr.Instr.TheVariants.{Add, Slli, Sub}
use Rattle.rv_machine.specs.Effect.{effect}
use Rattle.rv_machine.specs.Word.{minus}
use Rattle.rv_machine.specs.declared.effect.Effect.TheVariants.{Write}
use Rattle.state_space.specs.{declared.signature.Range.{Range}, Decoding.{exponent, index_of, padded}, Codomains.{In, whole}, Locations.{tuples, tuple_number}, Arrays.{widened}, Sizes.{padded_count}}
use Rattle.state_space.proofs.{Indices.{index-same}, Numbers.{block-below, length-tuples, number-inside}, Exponents.{exponent_enough}, Positions.{after}}
use Rattle.asm_ranges.specs.Ranges.{inside, just}
use Rattle.asm_ranges.specs.Values.{lie_in}
use Rattle.block_code.specs.Effect.{reg_at, written}
use Rattle.block_code.specs.Moment.{Moment}
use Rattle.block_code.specs.Sequence.{load_immediate, scratch}
use Rattle.block_code.proofs.Counter.{reg-other, reg-same}
use Rattle.block_code.proofs.Sequences.{immediate-loaded}
use Rattle.mask_guard.specs.{Mask.{mask_index, word_of}}
use Rattle.instr_select.specs.{Terms.{argument_line, joined_line}}
use Rattle.instr_select.proofs.{Arithmetic.{IsShort, minus-words, word-below}, Instructions.{IsAt, LineLeads, line-ends, line-then, valid-written, writes-then}, Masks.{Turned, mask-leads}, Operators.{Becomes, does-add, does-slli, does-sub}}

-- a domain of 1 to 65,536 values from -1,048,576 to 1,048,576
pub record IsNarrow (range : Range) : Type 0 where
  pub some : 1 ≤ range.size
  pub few : range.size ≤ 65536
  pub low : negsuc 1048575 ≤ℤ range.lo
  pub high : (range.lo +ℤ pos range.size) ≤ℤ pos 1048577

abbrev pub AreNarrow : List Range → Type 0
AreNarrow [] = Unit {0}
AreNarrow (range ∷ ranges) = IsNarrow range × AreNarrow ranges

-- ---- indices in numbers

-- how far a value is above the least of its domain
abbrev pub place_in : Range → ℤ → ℕ
place_in range v = nat_abs (v -ℤ range.lo)

abbrev pub Lies : Range → ℤ → Type 0
Lies range v = inside (just v) (whole range) ≡ true

pub lies-above : (range : Range) (v : ℤ) → Lies range v → v ≡ (range.lo +ℤ pos (place_in range v))
lies-above range v h = let p = and_parts (int_le range.lo v) (int_le v (range.lo +ℤ pos range.size -ℤ pos 1)) h in grind (arith, ints)

pub lies-below : (range : Range) (v : ℤ) → Lies range v → place_in range v < range.size
lies-below range v h = let p = and_parts (int_le range.lo v) (int_le v (range.lo +ℤ pos range.size -ℤ pos 1)) h in grind (arith, ints)

pub lies-in : (range : Range) (v : ℤ) → Lies range v → In (whole range) v
lies-in range v h = let p = and_parts (int_le range.lo v) (int_le v (range.lo +ℤ pos range.size -ℤ pos 1)) h in record { low = grind (arith, ints); high = grind (arith, ints) }

-- the index of an argument tuple: each argument's place, in as many bits as its domain has
abbrev pub placed : List Range → List ℤ → ℕ
placed [] vs = 0
placed (range ∷ ranges) [] = 0
placed (range ∷ ranges) (v ∷ vs) = place_in range v * padded_count ranges + placed ranges vs

pub padded-enough : (n : ℕ) → n ≤ padded n
padded-enough n = exponent_enough n

widened-count : (ranges : List Range) → length (tuples (map widened ranges)) ≡ padded_count ranges
widened-count [] = refl
widened-count (range ∷ ranges) = length-tuples (widened range) (map widened ranges) ∙ ap (λ n. padded range.size * n) (widened-count ranges)

-- it is the padded number of the tuple
pub placed-number : (ranges : List Range) (vs : List ℤ) → lie_in ranges vs ≡ true → tuple_number (map widened ranges) vs ≡ Some (placed ranges vs)
placed-number [] [] h = refl
placed-number [] (v ∷ vs) h = absurd cc
placed-number (range ∷ ranges) [] h = absurd cc
placed-number (range ∷ ranges) (v ∷ vs) h =
    let p = and_parts (inside (just v) (whole range)) (lie_in ranges vs) h in
    let below = lies-below range v p.0 in
    let enough = padded-enough range.size in
    number-inside (widened range) (map widened ranges) v vs (place_in range v) (lies-above range v p.0) (omega arith)
    ∙ ap (after (place_in range v * length (tuples (map widened ranges)))) (placed-number ranges vs p.1)
    ∙ ap (λ n. Some (place_in range v * n + placed ranges vs)) (widened-count ranges)

pub placed-below : (ranges : List Range) (vs : List ℤ) → lie_in ranges vs ≡ true → placed ranges vs < padded_count ranges
placed-below [] [] h = omega arith
placed-below [] (v ∷ vs) h = absurd cc
placed-below (range ∷ ranges) [] h = absurd cc
placed-below (range ∷ ranges) (v ∷ vs) h =
    let p = and_parts (inside (just v) (whole range)) (lie_in ranges vs) h in
    let below = lies-below range v p.0 in
    let enough = padded-enough range.size in
    let rest = placed-below ranges vs p.1 in
    block-below (place_in range v) (padded range.size) (placed ranges vs) (padded_count ranges) (omega arith) rest

-- ---- lines

pub line-more : (rom : List ℕ) (address : ℕ) (instrs : List Instr) (s : Moment) (Post Less : Moment → Type 0) → LineLeads rom address instrs s Post
    → ((end : Moment) → Post end → Less end) → LineLeads rom address instrs s Less
line-more rom address instrs s Post Less l f = record { end = l.end; does = l.does; post = f l.end l.post }

lo-short : (range : Range) → IsNarrow range → IsShort range.lo
lo-short range n = let a = n.low in let b = n.high in let c = n.some in let d = n.few in grind (arith, ints)

lo-below : (range : Range) → IsNarrow range → word_of range.lo < 2 ^ 32
lo-below range n = word-below range.lo (lo-short range n)

-- the word of a value in its domain is masked to its place there
masked-place : (range : Range) (v : ℤ) → IsNarrow range → IsShort v → Lies range v → (x : ℕ) → x ≡ word_of v → index_of range.size (minus x (word_of range.lo)) ≡ place_in range v
masked-place range v narrow f lies x e =
    let above = lies-above range v lies in
    let below = lies-below range v lies in
    let small : IsShort (v -ℤ range.lo) = let c = narrow.few in grind (arith, ints) in
    let is : word_of (v -ℤ range.lo) ≡ place_in range v = grind (arith, ints) in
    ap (λ y. index_of range.size (minus y (word_of range.lo))) e ∙ ap (index_of range.size) (minus-words v range.lo f (lo-short range narrow) small ∙ is) ∙ index-same range.size (place_in range v) below

module _ (rom : List ℕ) (size : ℕ) where
  -- whatever it is, an argument becomes an index of its domain
  pub argument-turns : (address q : ℕ) (range : Range) (s : Moment) → 5 ≤ suc q → suc q ≤ 20 → IsNarrow range → IsAt size address 9 s
      → LineLeads rom address (argument_line range (suc q)) s (Turned size (address + 36) (suc q) (index_of range.size (minus (reg_at (suc q) s) (word_of range.lo))) s)
  argument-turns address q range s low5 small narrow at =
      let room = at.room in
      let w = word_of range.lo in
      let x = minus (reg_at (suc q) s) w in
      let m1 : Moment = written (address + 8) scratch w s in
      let valid1 = valid-written size (address + 8) scratch w s at.valid (omega arith) (lo-below range narrow) in
      line-then rom address (load_immediate scratch w) (Sub (suc q) (suc q) scratch ∷ mask_index (suc q) range.size) s (λ m. m ≡ m1) _
      (record {
        end = m1;
        does = immediate-loaded rom size address scratch w s (record { valid = at.valid; here = at.here; room = omega arith }) (omega arith) (lo-below range narrow);
        post = refl;
      })
      (λ mid is.
      subst (λ m. LineLeads rom (address + 8) (Sub (suc q) (suc q) scratch ∷ mask_index (suc q) range.size) m (Turned size (address + 36) (suc q) (index_of range.size x) s)) (sym is)
      (writes-then rom size (address + 8) m1 _ 6 q x (Sub (suc q) (suc q) scratch) _
      (record { valid = valid1; here = refl; aligned = let a = at.aligned in omega arith; room = omega arith })
      (does-sub m1 (suc q) (reg_at (suc q) s) w scratch (reg-other (address + 8) scratch (suc q) w s differs) (reg-same size (address + 8) 20 w s at.valid (omega arith))) (omega arith)
      (λ next. line-more rom (address + 8 + 4) (mask_index (suc q) range.size) _ _ _
      (mask-leads rom size (address + 8 + 4) q (written (address + 8 + 4) (suc q) x m1) low5 small range.size (record { some = narrow.some; few = let c = narrow.few in omega arith }) next)
      (λ end t. record {
        valid = t.valid;
        here = t.here ∙ omega arith;
        holds = t.holds ∙ ap (index_of range.size) (reg-same size (address + 8 + 4) q x m1 valid1 (omega arith));
        others = λ r a b. t.others r a b ∙ reg-other (address + 8 + 4) (suc q) r x m1 a ∙ reg-other (address + 8) scratch r w s b;
        ram = t.ram;
      }))))
    where
      differs : suc q ≢ scratch
      differs h = absurd (omega arith)

  -- the index of one argument more, whatever it is, goes behind the index so far
  pub joined-turns : (address q acc i : ℕ) (range : Range) (s : Moment) → 5 ≤ suc q → suc (suc q) ≤ 20 → IsNarrow range → reg_at (suc q) s ≡ acc
      → index_of range.size (minus (reg_at (suc (suc q)) s) (word_of range.lo)) ≡ i → acc * padded range.size + i < 2 ^ 32 → IsAt size address 11 s
      → LineLeads rom address (joined_line range (suc q)) s (Becomes size (address + 44) (suc q) (acc * padded range.size + i))
  joined-turns address q acc d range s low5 small narrow so_far is room at =
      let top = at.room in
      line-then rom address (argument_line range (suc (suc q))) (Slli (suc q) (suc q) (exponent range.size) ∷ Add (suc q) (suc q) (suc (suc q)) ∷ []) s _ _
      (argument-turns address (suc q) range s (omega arith) small narrow (record { valid = at.valid; here = at.here; aligned = at.aligned; room = omega arith }))
      (λ mid t.
      let first : reg_at (suc q) mid ≡ acc = t.others (suc q) (λ h. absurd (omega arith)) (λ h. absurd (omega arith)) ∙ so_far in
      let x = acc * padded range.size in
      writes-then rom size (address + 36) mid _ 1 q x (Slli (suc q) (suc q) (exponent range.size)) _
      (record { valid = t.valid; here = t.here; aligned = let a = at.aligned in omega arith; room = omega arith })
      (shifted mid acc x first (omega arith) refl) (omega arith)
      (λ next.
      let m1 : Moment = written (address + 36 + 4) (suc q) x mid in
      let second : reg_at (suc (suc q)) m1 ≡ d = reg-other (address + 36 + 4) (suc q) (suc (suc q)) x mid (λ h. absurd (omega arith)) ∙ t.holds ∙ is in
      writes-then rom size (address + 36 + 4) m1 _ 0 q (x + d) (Add (suc q) (suc q) (suc (suc q))) [] next
      (added m1 x d (reg-same size (address + 36 + 4) q x mid t.valid (omega arith)) second room) room
      (λ last. line-ends rom size (address + 36 + 4 + 4) _ _ (record { valid = last.valid; here = last.here ∙ omega arith; holds = reg-same size (address + 36 + 4 + 4) q (x + d) m1 next.valid (omega arith) }))))
    where
      shifted : (m : Moment) (acc x : ℕ) → reg_at (suc q) m ≡ acc → x < 2 ^ 32 → x ≡ acc * padded range.size → effect (Slli (suc q) (suc q) (exponent range.size)) m.hart ≡ Write (suc q) x
      shifted m acc x a b is = does-slli m (suc q) acc 0 (exponent range.size) a ∙ ap (Write (suc q)) (let e : acc * 2 ^ exponent range.size % 2 ^ 32 ≡ x = omega arith in e)

      added : (m : Moment) (x d : ℕ) → reg_at (suc q) m ≡ x → reg_at (suc (suc q)) m ≡ d → x + d < 2 ^ 32 → effect (Add (suc q) (suc q) (suc (suc q))) m.hart ≡ Write (suc q) (x + d)
      added m x d a b h = does-add m (suc q) x d (suc (suc q)) a b ∙ ap (Write (suc q)) (let e : (x + d) % 2 ^ 32 ≡ x + d = omega arith in e)

  -- a value in its domain becomes its place there
  pub argument-leads : (address q : ℕ) (range : Range) (v : ℤ) (s : Moment) → 5 ≤ suc q → suc q ≤ 20 → IsNarrow range → IsShort v → Lies range v → reg_at (suc q) s ≡ word_of v
      → IsAt size address 9 s → LineLeads rom address (argument_line range (suc q)) s (Turned size (address + 36) (suc q) (place_in range v) s)
  argument-leads address q range v s low5 small narrow f lies e at =
      line-more rom address (argument_line range (suc q)) s _ _ (argument-turns address q range s low5 small narrow at)
      (λ end t. record { valid = t.valid; here = t.here; holds = t.holds ∙ masked-place range v narrow f lies (reg_at (suc q) s) e; others = t.others; ram = t.ram })

  -- the place of one argument more goes behind the index so far
  pub joined-leads : (address q acc : ℕ) (range : Range) (v : ℤ) (s : Moment) → 5 ≤ suc q → suc (suc q) ≤ 20 → IsNarrow range → IsShort v → Lies range v → reg_at (suc (suc q)) s ≡ word_of v
      → reg_at (suc q) s ≡ acc → acc * padded range.size + place_in range v < 2 ^ 32 → IsAt size address 11 s
      → LineLeads rom address (joined_line range (suc q)) s (Becomes size (address + 44) (suc q) (acc * padded range.size + place_in range v))
  joined-leads address q acc range v s low5 small narrow f lies e so_far room at =
      joined-turns address q acc (place_in range v) range s low5 small narrow so_far (masked-place range v narrow f lies (reg_at (suc (suc q)) s) e) room at
