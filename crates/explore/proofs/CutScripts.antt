-- Which sections of a script as it lies in memory are those of its plan.
use Rattle.std.proofs.Common.{ℕ, ◌≡◌, List, map, Option, Some, None, slice_get, refl, sym, ◌∙◌}
use Rattle.std.specs.Option.{option_map}
use Rattle.std.specs.Global.{Vec}
use Rattle.std.proofs.lemmas.Option.{none-some, same_Some, slice_get-map}
use Rattle.lrc_script.specs.declared.script.Instruction.{Instruction}

-- each is the items of a vector
pub cut_section_kept : (xs : List (Vec Instruction)) (p : ℕ) (section : List Instruction)
    → slice_get (map (λ (v : Vec Instruction). v.items) xs) p ≡ Some section → (v : Vec Instruction) × (slice_get xs p ≡ Some v) × (v.items ≡ section)
cut_section_kept xs p section at = go (slice_get xs p) refl (sym (slice_get-map (λ (v : Vec Instruction). v.items) xs p) ∙ at)
  where
    go : (o : Option (Vec Instruction)) → slice_get xs p ≡ o → option_map (λ (v : Vec Instruction). v.items) o ≡ Some section
        → (v : Vec Instruction) × (slice_get xs p ≡ Some v) × (v.items ≡ section)
    go None e h = absurd (none-some section h)
    go (Some v) e h = (v, e, same_Some v.items section h)
