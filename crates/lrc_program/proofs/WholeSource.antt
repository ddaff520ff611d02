-- What was read is all that the source had: one byte more than the longest script has was asked for.
use Rattle.std.proofs.Common.{◌≡◌, ◌≢◌, ◌∙◌, ◌+◌, ◌≤◌, ℕ, List, Option, Some, None, length, take, sym, ap, arith}
use Rattle.std.specs.Prelude.{IfSome, option_map}
use Rattle.std.proofs.lemmas.List.{length-take, take_all}
use Rattle.lrc_script.specs.Lawful.{IsLawful}
use Rattle.lrc_script.specs.Plan.{Plan}
use Rattle.lrc_script.specs.Laws.{script_law_most_bytes}
use Rattle.lrc_script.specs.ScriptLines.{text}
use Rattle.lrc_script.proofs.LineLengths.{line_lengths_of_text}
use Rattle.lrc_program.specs.Served.{IsServedWithoutScript, IsServedScriptRead}

-- what was asked for
abbrev pub whole_source_most : ℕ
whole_source_most = script_law_most_bytes + 1

-- a list of which that many items are a script's text has no more
whole_source_is_text : (xs : List ℕ) (s : Plan) → IsLawful s → take whole_source_most xs ≡ text s → xs ≡ text s
whole_source_is_text xs s lawful same =
    let few : length xs ≤ whole_source_most = omega (arith, ap length same, length-take whole_source_most xs, line_lengths_of_text s lawful) in
    sym (take_all whole_source_most xs few) ∙ same

-- a script was read
pub whole_source_read : (source : Option (List ℕ)) (bytes : List ℕ) (s : Plan)
    → IfSome (option_map (take whole_source_most) source) (λ xs. bytes ≡ xs) → IsLawful s → bytes ≡ text s → IsServedScriptRead source s
whole_source_read None bytes s had lawful same = record { lawful = lawful; text_is = tt }
whole_source_read (Some xs) bytes s had lawful same =
    record { lawful = lawful; text_is = whole_source_is_text xs s lawful (sym had ∙ same) }

-- none was
pub whole_source_none_read : (source : Option (List ℕ)) (bytes : List ℕ)
    → IfSome (option_map (take whole_source_most) source) (λ xs. bytes ≡ xs)
    → ((s : Plan) → IsLawful s → bytes ≢ text s) → IsServedWithoutScript source
whole_source_none_read None bytes had none = tt
whole_source_none_read (Some xs) bytes had none =
    λ s lawful same.
    let few : length xs ≤ whole_source_most = omega (arith, ap length same, line_lengths_of_text s lawful) in
    none s lawful (had ∙ take_all whole_source_most xs few ∙ same)
