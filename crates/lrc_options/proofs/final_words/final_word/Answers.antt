use Rattle.std.proofs.Common.{◌≡◌, ◌≢◌, ◌∙◌, ◌==◌, List, ℕ, Option, None, Some, Bor, [], ◌∷◌, true, length, ap, refl, sym, arith}
use Rattle.std.specs.Prelude.{is_some}
use Rattle.std.proofs.lemmas.Bool.{false≢true}
use Rattle.std.proofs.lemmas.List.Splits.{length-slice_split}
use Rattle.lrc_script.specs.LineReading.{parts_behind_in_read_line, parts_of_read_line}
use Rattle.lrc_options.specs.FinalWords.{final_word_of}
use Rattle.lrc_options.proofs.final_words.final_word.Goals as goal

-- three parts give no word
three_parts : (a b : List ℕ) (left : List (List ℕ)) → left ≢ [] → None ≡ final_word_of (a ∷ b ∷ left)
three_parts a b [] some = absurd (some refl)
three_parts a b (x ∷ left) some = refl

-- what stands behind a sign has a part
some_parts : (r : Option (Bor (List ℕ))) → is_some r ≡ true → parts_behind_in_read_line 61 r ≢ []
some_parts None some none = false≢true some
some_parts (Some rest) some none =
    let more = length-slice_split (λ b. b == 61) rest.now in
    let zero = ap (λ (parts : List (List ℕ)). length parts) none in
    omega arith

pub returns-then-is_some : goal.returns-then-is_some
returns-then-is_some c =
    let first = c.split_script_line_at.result.0.now in
    let second = c.split_script_line_at-2.result.0.now in
    let left = λ (r : Option (Bor (List ℕ))). parts_behind_in_read_line 61 r in
    let whole : parts_of_read_line 61 c.args.item.now ≡ first ∷ second ∷ left c.split_script_line_at-2.result.1 =
    c.split_script_line_at.ensures.parts ∙ ap (λ l. first ∷ l) (ap left c.in_ok-rest.was ∙ c.split_script_line_at-2.ensures.parts) in
    three_parts first second (left c.split_script_line_at-2.result.1)
    (some_parts c.split_script_line_at-2.result.1 (sym c.is_some.ensures ∙ c.if-is_some.true))
    ∙ ap final_word_of (sym whole)
