-- A walk from the least processor of a circle, each time to the one that is waited for.
use Rattle.std.proofs.Common.{◌≡◌, ◌∙◌, ◌<◌, ℕ, List, [], ◌∷◌, ◌++◌, Some, slice_get, ap, sym, subst, refl, arith}
use Rattle.std.proofs.lemmas.List.{append_assoc}
use Rattle.std.proofs.lemmas.Option.{same_Some, slice_get_within}
use Rattle.base.proofs.SlicesAndCounts.{slice_get-append_left}
use Rattle.causes.specs.declared.waits_at_end.Wait.{Wait}
use Rattle.causes.specs.WaitingCircles.{AreWaitingRound, IsWaitingCircle, waits_for}

-- it went along this path and is at this processor now: each circle goes on from there, and what goes on from there is one
pub record IsWaitingWalk (waits : List Wait) (least : ℕ) (path : List ℕ) (at : ℕ) : Type 0 where
  pub begins : slice_get (path ++ at ∷ []) 0 ≡ Some least
  pub on : (ps : List ℕ) → AreWaitingRound waits least (at ∷ ps) → AreWaitingRound waits least (path ++ at ∷ ps)
  pub all : (c : List ℕ) → IsWaitingCircle waits least c
      → (ps : List ℕ) × (c ≡ path ++ at ∷ ps) × AreWaitingRound waits least (at ∷ ps)

-- at the start
pub waiting_walk_start : (waits : List Wait) (least : ℕ) → IsWaitingWalk waits least [] least
waiting_walk_start waits least = record { begins = refl; on = λ ps round. round; all = all }
  where
    all : (c : List ℕ) → IsWaitingCircle waits least c → (ps : List ℕ) × (c ≡ least ∷ ps) × AreWaitingRound waits least (least ∷ ps)
    all [] is = absurd is.round
    all (p ∷ ps) is =
        let same : p ≡ least = same_Some p least is.begins in
        (ps, ap (λ q. q ∷ ps) same, subst (λ q. AreWaitingRound waits least (q ∷ ps)) same is.round)

-- a step to the next one
pub waiting_walk_next : (waits : List Wait) (least : ℕ) (path : List ℕ) (at next : ℕ) → IsWaitingWalk waits least path at
    → waits_for waits at ≡ Some next → least < next → IsWaitingWalk waits least (path ++ at ∷ []) next
waiting_walk_next waits least path at next walk for above = record { begins = begins; on = on; all = all }
  where
    begins : slice_get ((path ++ at ∷ []) ++ next ∷ []) 0 ≡ Some least
    begins = slice_get-append_left (path ++ at ∷ []) (next ∷ []) 0 (slice_get_within (path ++ at ∷ []) 0 least walk.begins) ∙ walk.begins

    on : (ps : List ℕ) → AreWaitingRound waits least (next ∷ ps) → AreWaitingRound waits least ((path ++ at ∷ []) ++ next ∷ ps)
    on ps round =
        subst (AreWaitingRound waits least) (sym (append_assoc path (at ∷ []) (next ∷ ps))) (walk.on (next ∷ ps) (for, above, round))

    step : (c ps : List ℕ) → c ≡ path ++ at ∷ ps → AreWaitingRound waits least (at ∷ ps)
        → (qs : List ℕ) × (c ≡ (path ++ at ∷ []) ++ next ∷ qs) × AreWaitingRound waits least (next ∷ qs)
    step c [] is round =
        let same : least ≡ next = same_Some least next (sym round ∙ for) in
        absurd (omega (arith, same, above))
    step c (q ∷ qs) is round =
        let same : q ≡ next = same_Some q next (sym round.0 ∙ for) in (
          qs,
          is ∙ ap (λ m. path ++ at ∷ m ∷ qs) same ∙ sym (append_assoc path (at ∷ []) (next ∷ qs)),
          subst (λ m. AreWaitingRound waits least (m ∷ qs)) same round.2,
        )

    all : (c : List ℕ) → IsWaitingCircle waits least c
        → (qs : List ℕ) × (c ≡ (path ++ at ∷ []) ++ next ∷ qs) × AreWaitingRound waits least (next ∷ qs)
    all c is = let it = walk.all c is in step c it.0 it.1 it.2
