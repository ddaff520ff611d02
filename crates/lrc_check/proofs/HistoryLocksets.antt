-- What finds words without a lock beside a judge, and when words are told.
use Rattle.std.proofs.Common.{◌≡◌, ℕ, Bool, true, false, List, [], ◌∷◌, ◌++◌, Option, Some, not, refl, subst, sym, ap, ◌∙◌, cond, IsTrue, length}
use Rattle.std.specs.Prelude.{None, IfSome, MatchOption, ◌&&◌, is_some}
use Rattle.std.proofs.lemmas.Option.{none-some}
use Rattle.std.proofs.Math.Seq.{take-append_seam}
use Rattle.journal.specs.declared.event.Event.{Event}
use Rattle.journal.specs.Sizes.{Sizes}
use Rattle.journal.proofs.Order.EventPlacesAndCounts.{event_place_at_end}
use Rattle.judge.specs.declared.locksets.lockset_finder.LocksetWords.{LocksetWords}
use Rattle.judge.specs.declared.locksets.lockset_finder.Unprotected.{Unprotected}
use Rattle.judge.specs.JudgedSizes.{judged_sizes_of}
use Rattle.judge.specs.LaxWellFormed.{MayFollowOrLax}
use Rattle.judge.specs.Miscounted.{IsEventInSizes}
use Rattle.lrc_check.specs.declared.checked.Checked.{Checked}
use Rattle.lrc_check.specs.declared.checked.TraceVerdict.{TraceVerdict}
use Rattle.lrc_check.specs.declared.checked.TraceVerdict.TheVariants as verdict
use Rattle.lrc_check.specs.declared.trace_judge.TraceJudge.{TraceJudge}
use Rattle.lrc_check.specs.CheckVerdicts.{IsCheckVerdictRace}
use Rattle.lrc_check.specs.HistoryJudge.{HasEndedEarly}
use Rattle.lrc_check.specs.TraceJudge.{IsTraceJudgeOf}
use Rattle.lrc_check.specs.Unprotected.{AreUnprotectedTold, may_unprotected_be_sought, unprotected_looked_for}
use Rattle.lrc_check.proofs.Accepting.{accepted_each_event}
use Rattle.lrc_check.proofs.JudgedRaces.{judged_race_stays}
use Rattle.lrc_check.proofs.LyingTraces.{lying_may_within}

-- the numbers of an event that was judged are within the sizes
pub history_locksets_within : (j : List Event) (e : Event) (y : TraceJudge) → IsTraceJudgeOf (j ++ e ∷ []) y → IsEventInSizes (judged_sizes_of y.sizes) e
history_locksets_within j e y judged =
    lying_may_within y.lax (judged_sizes_of y.sizes) j e
    (subst (λ xs. MayFollowOrLax y.lax (judged_sizes_of y.sizes) xs e) (take-append_seam j (e ∷ []))
    (accepted_each_event y.lax (judged_sizes_of y.sizes) (j ++ e ∷ []) judged.faithful.well_formed (length j) e (event_place_at_end j e)))

-- if there is no race, there was none
pub history_locksets_unraced : (j : List Event) (e : Event) (before after : Option (ℕ × ℕ)) → IsCheckVerdictRace j before
    → IsCheckVerdictRace (j ++ e ∷ []) after → after ≡ None → before ≡ None
history_locksets_unraced j e None after was is none = refl
history_locksets_unraced j e (Some r) after was is none =
    let free = subst (IsCheckVerdictRace (j ++ e ∷ [])) none is in
    absurd (free r.0 r.1 (judged_race_stays j e (Some r) refl was).race)

-- what is there
pub history_locksets_if_some : {A : Type 0} (P : Type 0) (Q : A → Type 0) (o : Option A) → MatchOption o P Q → IfSome o Q
history_locksets_if_some P Q None has = tt
history_locksets_if_some P Q (Some x) has = has

-- words are looked for
pub record AreHistoryLocksetsSought (asked : Option LocksetWords) (x : Checked) (w : LocksetWords) : Type 0 where
  pub asked_for : asked ≡ Some w
  pub unraced : x.race ≡ None
  pub sought : IsTrue (may_unprotected_be_sought x.verdict)

history_locksets_no_race : (race : Option (ℕ × ℕ)) → is_some race ≡ false → race ≡ None
history_locksets_no_race None none = refl
history_locksets_no_race (Some r) none = absurd cc

pub history_locksets_sought : (asked : Option LocksetWords) (x : Checked) (w : LocksetWords) → unprotected_looked_for asked x ≡ Some w
    → AreHistoryLocksetsSought asked x w
history_locksets_sought asked x w is = go (is_some x.race) (may_unprotected_be_sought x.verdict) refl refl is
  where
    go : (a b : Bool) → is_some x.race ≡ a → may_unprotected_be_sought x.verdict ≡ b → cond (not a && b) asked None ≡ Some w
        → AreHistoryLocksetsSought asked x w
    go true b race may given = absurd (none-some w given)
    go false true race may given = record { asked_for = given; unraced = history_locksets_no_race x.race race; sought = may }
    go false false race may given = absurd (none-some w given)

-- nothing is looked for in what isn't faithful
pub history_locksets_unsought : (asked : Option LocksetWords) (x : Checked) → may_unprotected_be_sought x.verdict ≡ false
    → unprotected_looked_for asked x ≡ None
history_locksets_unsought asked x isnt =
    ap (λ b. cond (not (is_some x.race) && b) asked None) isnt ∙ go (is_some x.race)
  where
    go : (a : Bool) → cond (not a && false) asked None ≡ None
    go true = refl
    go false = refl

-- nor if judging ended early
pub history_locksets_early : (v : TraceVerdict) → HasEndedEarly v → may_unprotected_be_sought v ≡ false
history_locksets_early (verdict.Faithful traffic unjudged) never = absurd never
history_locksets_early _ early = refl

-- then nothing is told
pub history_locksets_untold : (asked : Option LocksetWords) (x : Checked) (s : Sizes) (j : List Event) (found : List Unprotected)
    → may_unprotected_be_sought x.verdict ≡ false → found ≡ [] → AreUnprotectedTold (unprotected_looked_for asked x) s j found
history_locksets_untold asked x s j found isnt none =
    subst (λ o. AreUnprotectedTold o s j found) (sym (history_locksets_unsought asked x isnt)) none
