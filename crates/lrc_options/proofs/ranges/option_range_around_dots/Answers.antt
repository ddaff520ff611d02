use Rattle.std.proofs.Common.{◌≡◌, ◌≢◌, ◌∙◌, ◌==◌, List, ℕ, Option, None, Some, Bor, [], ◌∷◌, true, length, ap, sym, arith}
use Rattle.std.specs.Prelude.{is_some}
use Rattle.std.proofs.lemmas.Bool.{false≢true}
use Rattle.std.proofs.lemmas.List.Splits.{length-slice_split}
use Rattle.lrc_script.specs.LineReading.{parts_behind_in_read_line, parts_of_read_line}
use Rattle.lrc_options.proofs.ranges.option_range_around_dots.Goals as goal
use Rattle.lrc_options.proofs.ranges.option_range_around_dots.Goals.{then-not-is_empty-via-then-not-is_empty, then-not-is_empty-via-else-not-is_empty+then-is_some}

-- three parts and more, of which the second is empty and there are no more
dots_parts : (a b c from to : List ℕ) (left : List (List ℕ)) → a ∷ b ∷ c ∷ left ≡ from ∷ [] ∷ to ∷ []
    → (b ≡ []) × (left ≡ [])
dots_parts a b c from to left is = (cc, cc)

-- what stands behind a separator has a part
some_parts : (r : Option (Bor (List ℕ))) → is_some r ≡ true → parts_behind_in_read_line 46 r ≢ []
some_parts None some none = false≢true some
some_parts (Some rest) some none =
    let more = length-slice_split (λ b. b == 46) rest.now in
    let zero = ap (λ (parts : List (List ℕ)). length parts) none in
    omega arith

pub returns-then-not-is_empty : goal.returns-then-not-is_empty
returns-then-not-is_empty c = λ from to is.
    let first = c.split_script_line_at.result.0.now in
    let second = c.split_script_line_at-2.result.0.now in
    let third = c.split_script_line_at-3.result.0.now in
    let parts = parts_of_read_line 46 in
    let left = λ (r : Option (Bor (List ℕ))). parts_behind_in_read_line 46 r in
    let whole : parts c.args.text.now ≡ first ∷ second ∷ third ∷ left c.split_script_line_at-3.result.1 =
    ap parts (sym c.as_bytes.ensures.value) ∙ c.split_script_line_at.ensures.parts
    ∙ ap (λ l. first ∷ l) (ap left c.in_ok-rest.was ∙ c.split_script_line_at-2.ensures.parts
    ∙ ap (λ l. second ∷ l) (ap left c.in_ok-rest-2.was ∙ c.split_script_line_at-3.ensures.parts)) in
    let both = dots_parts first second third from to (left c.split_script_line_at-3.result.1) (sym whole ∙ is) in
    let empty = c.is_empty.ensures in
    elim c.then-not-is_empty.branch [
      | then-not-is_empty-via-then-not-is_empty w ↦
          false≢true (sym w.if-not-is_empty.true ∙ empty ∙ ap (λ (xs : List ℕ). length xs == 0) both.0)
      | then-not-is_empty-via-else-not-is_empty+then-is_some w ↦
          some_parts c.split_script_line_at-3.result.1 (sym w.is_some.ensures ∙ w.if-is_some.true) both.1
    ]
