-- How many registers and words of RAM a start has.
use Rattle.std.proofs.Common.{slice_index, slice_set, ◌≡◌, ℕ, suc, ◌/◌, Bool, true, false, cond, List, [], ◌∷◌, length, Option, Some, None, refl, ap, subst, sym, ◌∙◌, length-set, zero}
use Rattle.std.proofs.lemmas.List.{length-replicate}
use Rattle.std.specs.Option.{unwrap_or}
use Rattle.job_text.specs.Keys.{runs_hart}
use Rattle.job_text.specs.Told.{ToldState, ram_size}
use Rattle.job_text.specs.Start.{BareState, StartState, after, base_of, generated, no_hart, ram_words, start_of, successor, with_edit, with_edits}
use Rattle.job_text.specs.Ranges.{IsHartStart, IsStartOf}
use Rattle.job_text.specs.declared.mode.Mode.{Mode}
use Rattle.job_text.specs.declared.told.Base.{Base}
use Rattle.job_text.specs.declared.told.Base.TheVariants.{Fill, Seed}
use Rattle.job_text.specs.declared.told.Edit.{Edit}
use Rattle.job_text.specs.declared.told.Edit.TheVariants.{Register, Memory}

length_generated : (count value : ℕ) → length (generated count value) ≡ count
length_generated zero value = refl
length_generated (suc count) value = ap suc (length_generated count (successor value))

base_whole : (words : ℕ) (base : Option Base) → IsHartStart words (base_of words base).regs (base_of words base).ram
base_whole words None = record { count = refl; zero_reg = refl; size = length-replicate {A = ℕ} words 0 }
base_whole words (Some (Fill word)) = record { count = refl; zero_reg = refl; size = length-replicate {A = ℕ} words word }
base_whole words (Some (Seed seed)) = record {
  count = ap suc (length_generated 31 (after words seed));
  zero_reg = refl;
  size = length_generated words seed;
}

zero_kept : (regs : List ℕ) (number word : ℕ) → slice_index regs 0 ≡ 0 → slice_index (slice_set regs (suc number) word) 0 ≡ 0
zero_kept [] number word e = e
zero_kept (first ∷ regs) number word e = e

edit_whole : (words : ℕ) (bare : BareState) (edit : Edit) → IsHartStart words bare.regs bare.ram
    → IsHartStart words (with_edit bare edit).regs (with_edit bare edit).ram
edit_whole words bare (Register zero word) whole = whole
edit_whole words bare (Register (suc number) word) whole = record {
  count = length-set bare.regs (suc number) word ∙ whole.count;
  zero_reg = zero_kept bare.regs number word whole.zero_reg;
  size = whole.size;
}
edit_whole words bare (Memory index word) whole = record {
  count = whole.count;
  zero_reg = whole.zero_reg;
  size = length-set bare.ram index word ∙ whole.size;
}

edits_whole : (words : ℕ) (bare : BareState) (edits : List Edit) → IsHartStart words bare.regs bare.ram
    → IsHartStart words (with_edits bare edits).regs (with_edits bare edits).ram
edits_whole words bare [] whole = whole
edits_whole words bare (edit ∷ edits) whole = edits_whole words (with_edit bare edit) edits (edit_whole words bare edit whole)

size_said : (revision : Option ℕ) → ram_size revision ≡ ram_size (Some (unwrap_or revision 1))
size_said None = refl
size_said (Some revision) = refl

by_mode : (runs : Bool) (told : ToldState) (hart : BareState) → IsHartStart (ram_words told) hart.regs hart.ram
    → IsStartOf runs (unwrap_or told.revision 1) (cond runs hart no_hart).regs (cond runs hart no_hart).ram
by_mode true told hart whole = record {
  count = whole.count;
  zero_reg = whole.zero_reg;
  size = whole.size ∙ ap (λ size. size / 4) (size_said told.revision);
}
by_mode false told hart whole = (refl, refl)

-- a start of a hart has 32 registers and the words of RAM of the revision, and any other has none
pub start_is : (which : Mode) (told : ToldState)
    → IsStartOf (runs_hart which) (unwrap_or told.revision 1) (start_of which told).regs (start_of which told).ram
unfolding start_of
start_is which told =
    by_mode (runs_hart which) told (with_edits (base_of (ram_words told) told.base) told.edits)
    (edits_whole (ram_words told) (base_of (ram_words told) told.base) told.edits (base_whole (ram_words told) told.base))

pub start_holds : (which : Mode) (told : ToldState) (start : StartState) → start ≡ start_of which told
    → IsStartOf (runs_hart which) (unwrap_or told.revision 1) start.regs start.ram
start_holds which told start e =
    subst (λ s. IsStartOf (runs_hart which) (unwrap_or told.revision 1) s.regs s.ram) (sym e) (start_is which told)
