-- A processor's timestamp over its open block, and a block behind others' events.
use Rattle.std.proofs.Common.{◌≡◌, ℕ, List, [], ◌∷◌, ◌++◌, length, false, subst, append_assoc, append-nil}
use Rattle.journal.specs.declared.event.Event.{Event}
use Rattle.journal.specs.Events.{EventAt, event_closes}
use Rattle.journal.specs.Times.{IsTimeOf}
use Rattle.journal.proofs.OwnBlocks.{IsBlock}
use Rattle.base.proofs.SlicesAndCounts.{slice_push_induction}
use Rattle.journal.proofs.Order.EventPlacesAndCounts.{event_place_longer, event_place_at_end}
use Rattle.journal.proofs.Order.BlockPasts.{block_pasts_front, block_pasts_last}
use Rattle.journal.proofs.Times.PushedTimes.{pushed_time_own_quiet}

-- a block that closes nothing leaves its processor's timestamp
pub block_time : (j block : List Event) (p : ℕ) (t : ℕ → ℕ) → IsBlock p block
    → ((k : ℕ) (e : Event) → EventAt block k e → event_closes e.kind ≡ false) → IsTimeOf j p t → IsTimeOf (j ++ block) p t
block_time j block p t is inner time =
    slice_push_induction
    (λ es. IsBlock p es → ((k : ℕ) (e : Event) → EventAt es k e → event_closes e.kind ≡ false) → IsTimeOf (j ++ es) p t)
    (λ x y. rw append-nil time) step block is inner
  where
    step : (es : List Event) (e : Event)
        → (IsBlock p es → ((k : ℕ) (f : Event) → EventAt es k f → event_closes f.kind ≡ false) → IsTimeOf (j ++ es) p t)
        → IsBlock p (es ++ e ∷ []) → ((k : ℕ) (f : Event) → EventAt (es ++ e ∷ []) k f → event_closes f.kind ≡ false)
        → IsTimeOf (j ++ (es ++ e ∷ [])) p t
    step es e ih block_is quiet =
        let last = block_pasts_last p es e block_is in
        let old = ih (block_pasts_front p es (e ∷ []) block_is) (λ k f at. quiet k f (event_place_longer es (e ∷ []) k f at)) in
        let P : ℕ → Type 0 = λ q. IsTimeOf (j ++ es) q t → IsTimeOf ((j ++ es) ++ e ∷ []) q t in
        rw append_assoc at (subst P last.0 (pushed_time_own_quiet (j ++ es) e t last.1 (quiet (length es) e (event_place_at_end es e))) old)
