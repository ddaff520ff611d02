-- What is asked of the event that a judge of a history reads next.
use Rattle.std.proofs.Common.{◌≡◌, ℕ, Bool, Option, [], ◌∷◌, ◌++◌, List, length, take, subst, sym, ap, ◌∙◌, arith}
use Rattle.std.proofs.Math.Seq.{take-append_seam}
use Rattle.journal.specs.declared.event.Event.{Event}
use Rattle.judge.specs.LaxWellFormed.{MayFollowOrLax}
use Rattle.judge.specs.JudgedSizes.{judged_sizes_of}
use Rattle.judge.specs.FrontTells.{FrontTellsHistory}
use Rattle.judge.specs.Owed.{IsOwedRacy}
use Rattle.lrc_check.specs.declared.trace_judge.TraceJudge.{TraceJudge}
use Rattle.lrc_check.specs.CheckVerdicts.{IsCheckVerdictRace}
use Rattle.lrc_check.specs.Faithful.{IsFaithfulAndCounted}
use Rattle.lrc_check.specs.TraceJudge.{ComesNextToJudge, ComesNextToKeep, ComesNextToRead, IsTraceJudgeOf}

-- as many events as the front tells
pub judged_next_count : (j : List Event) (x : TraceJudge) (n : ℕ) → IsTraceJudgeOf j x → n ≡ x.front.place → length j ≡ n
judged_next_count j x n judged is = sym (is ∙ judged.front.place)

-- what stands before the last event
pub judged_next_front : (j : List Event) (e : Event) (place : ℕ) → length j ≡ place → take place (j ++ e ∷ []) ≡ j
judged_next_front j e place is = ap (λ n. take n (j ++ e ∷ [])) (sym is) ∙ take-append_seam j (e ∷ [])

-- by what the front says, the event may follow
pub judged_next_follows : (j : List Event) (e : Event) (x : TraceJudge) → IsTraceJudgeOf j x
    → ((h : List Event) → FrontTellsHistory h x.front → MayFollowOrLax x.lax (judged_sizes_of x.front.sizes) h e)
    → MayFollowOrLax x.lax (judged_sizes_of x.sizes) j e
judged_next_follows j e x judged may = subst (λ t. MayFollowOrLax x.lax (judged_sizes_of t) j e) judged.front_sizes (may j judged.front)

-- what is asked of the event to judge it
pub judged_next_asked : {j : List Event} {e : Event} {place : ℕ} {x : TraceJudge} {racy : Bool} → ComesNextToRead j x
    → length j ≡ place → MayFollowOrLax x.lax (judged_sizes_of x.sizes) j e → IsOwedRacy j e racy
    → ComesNextToJudge j e place racy x
judged_next_asked next place may racy = record {
  judged = next.judged;
  follows = may;
  place_is = place;
  racy_is = racy;
}

-- the event is kept
pub judged_next_kept : {j : List Event} {place : ℕ} {x : TraceJudge} {race : Option (ℕ × ℕ)} → (e : Event) → ComesNextToRead j x
    → length j ≡ place → IsFaithfulAndCounted x.model x.lax (judged_sizes_of x.sizes) (j ++ e ∷ [])
    → IsCheckVerdictRace (j ++ e ∷ []) race → ComesNextToKeep j e place race x
judged_next_kept {j} {place} {x} e next place_is accepted race = record {
  judged = next.judged;
  few = (let few = next.few in omega arith);
  place_is = place_is;
  accepted = accepted;
  race_is = race;
}
