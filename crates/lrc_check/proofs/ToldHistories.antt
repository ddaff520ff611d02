-- What of a history is told, by what was found of it.
use Rattle.std.proofs.Common.{◌≡◌, ◌∙◌, ℕ, ◌≤◌, suc, Bool, false, List, ◌++◌, length, take, sym, ap, subst, take-take, true≢false, arith}
use Rattle.std.proofs.lemmas.List.{length-take-le, take_all}
use Rattle.journal.specs.declared.event.Event.{Event}
use Rattle.journal.specs.Sizes.{Sizes}
use Rattle.judge.specs.declared.models.MemoryModel.{MemoryModel}
use Rattle.lrc_check.specs.declared.checked.Checked.{Checked}
use Rattle.lrc_check.specs.declared.checked.Lie.{Lie}
use Rattle.lrc_check.specs.declared.checked.Rules.{Rules}
use Rattle.lrc_check.specs.declared.checked.TraceVerdict.{TraceVerdict}
use Rattle.lrc_check.specs.declared.checked.TraceVerdict.TheVariants as verdict
use Rattle.lrc_check.specs.CheckVerdicts.{CheckVerdictEndsAsAsked, IsTrueCheckVerdict, IsCheckVerdictOf, IsCheckVerdictWhole, IsCheckVerdictLie, check_verdict_lie_place}
use Rattle.lrc_check.specs.Faithful.{IsFaithfulAndCounted}
use Rattle.lrc_check.specs.ToldTraces.{IsToldTraceUpToLie, is_told_trace_a_lie}

-- the lie that ends the first n events is the history's first one
told_events_up_to_lie : (m : MemoryModel) (lax : Bool) (s : Sizes) (j : List Event) (n : ℕ) (x : Lie) → n ≤ length j
    → IsCheckVerdictLie m lax s (take n j) x → IsToldTraceUpToLie (is_told_trace_a_lie (verdict.Lie x)) m lax s j (take n j)
told_events_up_to_lie m lax s j n x le lie = (
  check_verdict_lie_place x,
  record {
    within = omega (arith, last);
    before = subst (IsFaithfulAndCounted m lax s) (take-take (check_verdict_lie_place x) n j (omega (arith, last))) lie.first.before;
    never = λ es faithful. lie.first.never es (subst (λ xs. IsFaithfulAndCounted m lax s (xs ++ es)) (sym up_to) faithful);
  },
  ap (λ k. take k j) (sym last),
)
  where
    last : suc (check_verdict_lie_place x) ≡ n
    last = lie.last ∙ length-take-le n j le

    up_to : take (suc (check_verdict_lie_place x)) (take n j) ≡ take (suc (check_verdict_lie_place x)) j
    up_to = take-take (suc (check_verdict_lie_place x)) n j (omega (arith, last))

-- the events that were judged are those that are told
pub told_events_of_checked : (r : Rules) (s : Sizes) (j : List Event) (x : Checked) → r.ends_at_race ≡ false → IsTrueCheckVerdict r s j x
    → IsToldTraceUpToLie (is_told_trace_a_lie x.verdict) r.model r.lax s j (take x.count j)
told_events_of_checked r s j x goes_on is = told x.verdict is.verdict is.whole is.ends
  where
    told : (v : TraceVerdict) → IsCheckVerdictOf r.model r.lax s (take x.count j) x.race v → IsCheckVerdictWhole j x.count v
        → CheckVerdictEndsAsAsked r.ends_at_race v → IsToldTraceUpToLie (is_told_trace_a_lie v) r.model r.lax s j (take x.count j)
    told (verdict.Faithful traffic unjudged) its whole ends =
        let all = take_all x.count j (omega (arith, whole)) in
        (subst (IsFaithfulAndCounted r.model r.lax s) all its.0, all)
    told (verdict.Lie y) its whole ends = told_events_up_to_lie r.model r.lax s j x.count y is.within its.0
    told verdict.Racy its whole ends = absurd (true≢false (sym ends ∙ goes_on))
