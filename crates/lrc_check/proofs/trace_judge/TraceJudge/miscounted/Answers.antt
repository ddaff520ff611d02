use Rattle.std.proofs.Common.{◌≡◌, ℕ, Bool, false, List, Option, Some, subst}
use Rattle.std.specs.Prelude.{None, IfSome, MatchOption}
use Rattle.journal.specs.declared.event.Event.{Event}
use Rattle.judge.specs.declared.miscounted.Miscounted.{Miscounted}
use Rattle.judge.specs.declared.models.MemoryModel.{MemoryModel}
use Rattle.judge.specs.declared.models.MemoryModel.TheVariants.{LazyRelease}
use Rattle.judge.specs.declared.sizes.Sizes.{Sizes}
use Rattle.judge.specs.Miscounted.{IsNotMiscounted, Miscounts}
use Rattle.judge.specs.JudgedSizes.{judged_sizes_of}
use Rattle.lrc_check.specs.TraceJudge.{TraceJudgeHasCounts}
use Rattle.lrc_check.proofs.trace_judge.TraceJudge.miscounted.Goals as goal

-- what is due, where counts are judged
told : (m : MemoryModel) (lax : Bool) (s t : Sizes) (j : List Event) (e : Event) (place : ℕ) (r : Option Miscounted)
    → m ≡ LazyRelease → lax ≡ false → t ≡ s
    → MatchOption r (IsNotMiscounted (judged_sizes_of t) j e) (Miscounts (judged_sizes_of t) j e) → IfSome r (λ x. x.place ≡ place)
    → MatchOption r (m ≡ LazyRelease → lax ≡ false → IsNotMiscounted (judged_sizes_of s) j e)
    (λ x. (m ≡ LazyRelease) × (lax ≡ false) × (x.place ≡ place) × Miscounts (judged_sizes_of s) j e x)
told m lax s t j e place None lazy strict same counts at =
    λ lazy' strict'. subst (λ x. IsNotMiscounted (judged_sizes_of x) j e) same counts
told m lax s t j e place (Some x) lazy strict same counts at =
    (lazy, strict, at, subst (λ y. Miscounts (judged_sizes_of y) j e x) same counts)

pub returns-in-Some : goal.returns-in-Some
returns-in-Some c = λ j judged.
    let x = c.args.self.now in
    let g = subst (TraceJudgeHasCounts x.model x.lax x.sizes j) c.in-Some.is judged.counts in
    told x.model x.lax x.sizes c.in-Some.counts.stored.sizes j c.args.event c.args.place c.miscount.result g.0 g.1 g.2
    (c.miscount.ensures.verdict j g.3) c.miscount.ensures.place
