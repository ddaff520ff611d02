-- Lines of JSON that are put after each other.
use Rattle.std.proofs.Common.{◌≡◌, ℕ, List, [], ◌++◌, None, append_assoc, refl, ◌∙◌, ap}
use Rattle.std.specs.String.{string_bytes}
use Rattle.serde_json.specs.Data.{Members}
use Rattle.explore.specs.declared.outcomes.answer.Explored.{Explored}
use Rattle.lrc_json.specs.PutTogether.{AreLinesPut, AreMoreLinesPut, HasMembers, IsLinePut, json_line}
use Rattle.lrc_json.specs.declared.members.Members.{Members as Object}
use Rattle.lrc_json.specs.declared.output.JsonLines.{JsonLines}
use Rattle.lrc_json.proofs.PutLines.{line_put}
use Rattle.lrc_exploring.specs.ExploreJson.{IsExploredFront, IsHangLine, IsVerdictLines}

-- some bytes that were put, of which this is so
abbrev pub ArePutSo : (List ℕ → Type 0) → JsonLines → JsonLines → Type 0
ArePutSo P old new = new.fault ≡ None → (bytes : List ℕ) × P bytes × AreLinesPut old new bytes

lines_joined : (old mid new : JsonLines) (a b : List ℕ) → AreLinesPut old mid a → AreLinesPut mid new b → AreLinesPut old new (a ++ b)
lines_joined old mid new a b first then none =
    let last = then none in
    let before = first last.0 in
    (before.0, last.1 ∙ ap (λ bytes. bytes ++ b) before.1 ∙ append_assoc (string_bytes old.text) a b)

-- the lines of a verdict and those of a hang
pub explored_front : (explored : Explored) (old mid new : JsonLines) → ArePutSo (IsVerdictLines explored.verdict) old mid
    → ArePutSo (IsHangLine explored.hanging) mid new → ArePutSo (IsExploredFront explored) old new
explored_front explored old mid new verdict hang none =
    let last = hang none in
    let put = last.2 none in
    let first = verdict put.0 in
    (first.0 ++ last.0, (first.0, last.0, first.1, last.1, refl), lines_joined old mid new first.0 last.0 first.2 last.2)

-- some lines more
pub more_lines : (P : List ℕ → Type 0) (old mid new : JsonLines) → ArePutSo P old mid → AreMoreLinesPut mid new
    → new.fault ≡ None → (front lines : List ℕ) × P front × AreLinesPut old new (front ++ lines)
more_lines P old mid new front more none =
    let last = more none in
    let before = front last.1 in
    (before.0, last.0, before.1, lines_joined old mid new before.0 last.0 before.2 (λ same. (last.1, last.2)))

-- a line of an object more
pub with_line : (old mid new : JsonLines) (x : Object) (ms : Members) (front : List ℕ) → AreLinesPut old mid front → HasMembers x ms → IsLinePut mid new x
    → AreLinesPut old new (front ++ json_line ms)
with_line old mid new x ms front put has is = lines_joined old mid new front (json_line ms) put (λ none. line_put mid new x ms has is none)

-- what was put first is all the text
pub text_from_nothing : (old new : JsonLines) (bytes : List ℕ) → string_bytes old.text ≡ [] → AreLinesPut old new bytes → new.fault ≡ None
    → string_bytes new.text ≡ bytes
text_from_nothing old new bytes none put is = (put is).1 ∙ ap (λ before. before ++ bytes) none

-- the lines so far, and the line of the end
pub front_and_end : (P : List ℕ → Type 0) (old mid new : JsonLines) (x : Object) (ms : Members) → string_bytes old.text ≡ [] → ArePutSo P old mid
    → HasMembers x ms → IsLinePut mid new x → new.fault ≡ None → (front : List ℕ) × P front × (string_bytes new.text ≡ front ++ json_line ms)
front_and_end P old mid new x ms none front has is end =
    let last = line_put mid new x ms has is end in
    let before = front last.0 in
    (before.0, before.1, text_from_nothing old new (before.0 ++ json_line ms) none (with_line old mid new x ms before.0 before.2 has is) end)

-- the lines so far, some more, and the line of the end
pub more_and_end : (P : List ℕ → Type 0) (old front_put more_put new : JsonLines) (x : Object) (ms : Members) → string_bytes old.text ≡ []
    → ArePutSo P old front_put → AreMoreLinesPut front_put more_put → HasMembers x ms → IsLinePut more_put new x → new.fault ≡ None
    → (front lines : List ℕ) × P front × (string_bytes new.text ≡ (front ++ lines) ++ json_line ms)
more_and_end P old front_put more_put new x ms none front more has is end =
    let last = line_put more_put new x ms has is end in
    let told = more_lines P old front_put more_put front more last.0 in (
      told.0,
      told.1,
      told.2,
      text_from_nothing old new ((told.0 ++ told.1) ++ json_line ms) none
          (with_line old more_put new x ms (told.0 ++ told.1) told.3 has is) end,
    )

-- the same, with a line before the last one
pub more_and_ends : (P : List ℕ → Type 0) (old front_put more_put rules_put new : JsonLines) (x y : Object) (ms ns : Members)
    → string_bytes old.text ≡ [] → ArePutSo P old front_put → AreMoreLinesPut front_put more_put → HasMembers x ms → IsLinePut more_put rules_put x
    → HasMembers y ns → IsLinePut rules_put new y → new.fault ≡ None
    → (front lines : List ℕ) × P front × (string_bytes new.text ≡ ((front ++ lines) ++ json_line ms) ++ json_line ns)
more_and_ends P old front_put more_put rules_put new x y ms ns none front more has is so it end =
    let last = line_put rules_put new y ns so it end in
    let before = line_put more_put rules_put x ms has is last.0 in
    let told = more_lines P old front_put more_put front more before.0 in
    let with_rules = with_line old more_put rules_put x ms (told.0 ++ told.1) told.3 has is in (
      told.0,
      told.1,
      told.2,
      text_from_nothing old new (((told.0 ++ told.1) ++ json_line ms) ++ json_line ns) none
          (with_line old rules_put new y ns ((told.0 ++ told.1) ++ json_line ms) with_rules so it) end,
    )
