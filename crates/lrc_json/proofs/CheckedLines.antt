-- The lines of what was found of a trace, put after each other.
use Rattle.std.proofs.Common.{◌≡◌, ℕ, List, ◌++◌, None, append_assoc, length, refl, ◌∙◌}
use Rattle.std.specs.String.{string_bytes}
use Rattle.lrc_check.specs.declared.checked.Rules.{Rules}
use Rattle.lrc_check.specs.declared.checking_traces.JudgedTrace.{JudgedTrace}
use Rattle.lrc_check.specs.declared.told_events.ToldEvents.{ToldEvents}
use Rattle.lrc_json.specs.CheckedJson.{IsCheckedJson, IsLieLine, json_checked_end, json_first_race, json_races, json_unprotected_lines}
use Rattle.lrc_json.specs.PutTogether.{AreLinesPut, HasMembers, IsLinePut, json_line}
use Rattle.lrc_json.specs.declared.members.Members.{Members as Object}
use Rattle.lrc_json.specs.declared.output.JsonLines.{JsonLines}
use Rattle.lrc_json.proofs.PutLines.{line_put}

-- the lines as they were, and after each part was put
pub record ArePartsPut (t : ToldEvents) (rules : Rules) (judged : JudgedTrace) (old new : JsonLines) (x : Object) : Type 0 where
  pub with_races : JsonLines
  pub with_first : JsonLines
  pub with_lie : JsonLines
  pub with_words : JsonLines
  pub races : AreLinesPut old with_races (json_races judged judged.races.races.items)
  pub first : AreLinesPut with_races with_first (json_first_race t judged.found.race judged.race (length judged.racing.items))
  pub lie : with_lie.fault ≡ None → (bytes : List ℕ) × IsLieLine t judged.found.verdict bytes × AreLinesPut with_first with_lie bytes
  pub words : AreLinesPut with_lie with_words (json_unprotected_lines t judged.unprotected.items)
  pub end : HasMembers x (json_checked_end rules judged)
  pub put : IsLinePut with_words new x

five_parts : (t r f l w e : List ℕ) → ((((t ++ r) ++ f) ++ l) ++ w) ++ e ≡ t ++ (r ++ (f ++ (l ++ (w ++ e))))
five_parts t r f l w e =
    append_assoc (((t ++ r) ++ f) ++ l) w e ∙ append_assoc ((t ++ r) ++ f) l (w ++ e) ∙ append_assoc (t ++ r) f (l ++ (w ++ e))
    ∙ append_assoc t r (f ++ (l ++ (w ++ e)))

joined : (t₀ t₁ t₂ t₃ t₄ t₅ r f l w e : List ℕ) → t₁ ≡ t₀ ++ r → t₂ ≡ t₁ ++ f → t₃ ≡ t₂ ++ l → t₄ ≡ t₃ ++ w → t₅ ≡ t₄ ++ e
    → t₅ ≡ t₀ ++ (r ++ (f ++ (l ++ (w ++ e))))
joined t₀ t₁ t₂ t₃ t₄ t₅ r f l w e p₁ p₂ p₃ p₄ p₅ = rw p₅ (rw p₄ (rw p₃ (rw p₂ (rw p₁ (five_parts t₀ r f l w e)))))

-- so these are lines of what was found
pub checked_lines : (t : ToldEvents) (rules : Rules) (judged : JudgedTrace) (old new : JsonLines) (x : Object) → ArePartsPut t rules judged old new x
    → new.fault ≡ None → (bytes : List ℕ) × IsCheckedJson t rules judged bytes × AreLinesPut old new bytes
checked_lines t rules judged old new x parts none =
    let end = line_put parts.with_words new x (json_checked_end rules judged) parts.end parts.put none in
    let words = parts.words end.0 in
    let lie = parts.lie words.0 in
    let lie_put = lie.2 words.0 in
    let first = parts.first lie_put.0 in
    let races = parts.races first.0 in
    let is = joined (string_bytes old.text) (string_bytes parts.with_races.text) (string_bytes parts.with_first.text) (string_bytes parts.with_lie.text)
    (string_bytes parts.with_words.text) (string_bytes new.text) (json_races judged judged.races.races.items)
    (json_first_race t judged.found.race judged.race (length judged.racing.items)) lie.0 (json_unprotected_lines t judged.unprotected.items)
    (json_line (json_checked_end rules judged)) races.1 first.1 lie_put.1 words.1 end.1 in
    (_, record { lie_line = lie.0; lie_is = lie.1; is = refl }, λ same. (races.0, is))
