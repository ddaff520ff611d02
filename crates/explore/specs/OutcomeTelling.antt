-- Which replies outcomes tell, by a detail, and which of them states keep.
use Rattle.std.specs.Prelude.{ℕ, ◌≡◌, ◌+◌, ◌<◌, ◌==◌, Bool, true, false, cond, leb, not, Option, Some, List, [], ◌∷◌, ◌++◌, length, slice_get, slice_index_or}
use Rattle.journal.specs.declared.event.Event.{Event}
use Rattle.journal.specs.declared.event.Kind.{Kind}
use Rattle.journal.specs.declared.event.Kind.TheVariants.{Load}
use Rattle.lrc_script.specs.Plan.{Plan}
use Rattle.conformance.specs.Follows.{calls_of}
use Rattle.explore.specs.declared.prefixes.script_call.ScriptCall.{ScriptCall}
use Rattle.explore.specs.declared.prefixes.script_call.ScriptCall.TheVariants.{Adds}
use Rattle.explore.specs.declared.outcomes.telling.Detail.{Detail}
use Rattle.explore.specs.declared.outcomes.telling.Detail.TheVariants as detail
use Rattle.explore.specs.declared.outcomes.telling.OutcomeTelling.{OutcomeTelling}
use Rattle.explore.specs.Prefixes.ScriptCalls.{script_calls_of_section, script_calls_shown_by, last_reply_of_script_calls}

-- what outcomes of a script tell, by their detail
abbrev pub outcome_telling_of_script : Plan → Detail → OutcomeTelling
outcome_telling_of_script s d = record { detail = d; shown = length s.shown }

-- how many words p shows at the end: its last steps load them
abbrev pub outcome_telling_words : OutcomeTelling → ℕ → ℕ
outcome_telling_words t p = cond (p == 0) t.shown 0

-- whether a step adds to the reply before it
abbrev pub is_sum_for_outcome_telling : Option ScriptCall → Bool
is_sum_for_outcome_telling (Some (Adds a v)) = true
is_sum_for_outcome_telling _ = false

-- whether the reply of the step at place n is told: if it is one of so many last ones, if no `add` asks for it, always
abbrev pub is_told_by_outcome_telling : Detail → ℕ → List ScriptCall → ℕ → Bool
is_told_by_outcome_telling detail.Words words steps n = leb (length steps) (n + words)
is_told_by_outcome_telling detail.Loads words steps n = not (is_sum_for_outcome_telling (slice_get steps (n + 1)))
is_told_by_outcome_telling detail.All words steps n = true

-- a reply, if it is told
abbrev pub outcome_telling_reply : Bool → Kind → List ℕ
outcome_telling_reply true (Load a v) = v ∷ []
outcome_telling_reply _ _ = []

-- of these calls of p, the first of which is the step at place n, the replies that are told
abbrev pub outcome_telling_replies : OutcomeTelling → ℕ → List ScriptCall → ℕ → List Kind → List ℕ
outcome_telling_replies t p steps n [] = []
outcome_telling_replies t p steps n (k ∷ calls) =
    outcome_telling_reply (is_told_by_outcome_telling t.detail (outcome_telling_words t p) steps n) k ++ outcome_telling_replies t p steps (n + 1) calls

-- the reply that was given last, if the next step adds to it
abbrev pub outcome_telling_pending : Option ScriptCall → ℕ → List ℕ
outcome_telling_pending step reply = cond (is_sum_for_outcome_telling step) (reply ∷ []) []

-- what is kept of p's replies after these calls: those that are told, and one for the next step
abbrev pub outcome_telling_kept : OutcomeTelling → ℕ → List ScriptCall → List Kind → List ℕ
outcome_telling_kept t p steps calls =
    outcome_telling_replies t p steps 0 calls ++ outcome_telling_pending (slice_get steps (length calls)) (last_reply_of_script_calls calls)

-- all that p calls
abbrev pub outcome_telling_steps : Plan → ℕ → List ScriptCall
outcome_telling_steps s p = script_calls_of_section (slice_index_or s.sections p []) (script_calls_shown_by s p)

-- of each of n processors there is this
pub record AreOutcomeTellingRows (n : ℕ) (row : ℕ → List ℕ) (rows : List (List ℕ)) : Type 0 where
  pub long : length rows ≡ n
  pub each : (p : ℕ) → p < n → slice_get rows p ≡ Some (row p)

-- of each processor, the replies that are told
abbrev pub AreOutcomeTellingReplies : Plan → OutcomeTelling → List Event → List (List ℕ) → Type 0
AreOutcomeTellingReplies s t g rows = AreOutcomeTellingRows s.processors (λ p. outcome_telling_replies t p (outcome_telling_steps s p) 0 (calls_of g p)) rows

-- of each processor, those that are kept
abbrev pub AreOutcomeTellingKept : Plan → OutcomeTelling → List Event → List (List ℕ) → Type 0
AreOutcomeTellingKept s t g rows = AreOutcomeTellingRows s.processors (λ p. outcome_telling_kept t p (outcome_telling_steps s p) (calls_of g p)) rows
