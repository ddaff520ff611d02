use Rattle.std.proofs.Common.{Some, refl}
use Rattle.std.specs.Prelude.{None}
use Rattle.std.proofs.lemmas.Bool.{false≢true}
use Rattle.journal.specs.declared.event.Kind.TheVariants.{Ask, Release}
use Rattle.judge.specs.declared.why.Why.TheVariants.{AsksWhatItHolds, NotHeld}
use Rattle.judge.specs.JudgedSizes.{judged_sizes_of}
use Rattle.judge.proofs.Verdicts.{verdict_asks_free, verdict_asks_held, verdict_by_kind, calls, verdict_quiet_kind, verdict_releases_free, verdict_releases_held}
use Rattle.judge.proofs.frontier.Frontier.not_free.Goals as goal

pub returns-then-holds : goal.returns-then-holds
returns-then-holds c = λ j tells turn lax idle.
    let s = judged_sizes_of c.args.self.now.sizes in
    let e = c.args.event in
    verdict_by_kind lax s j e (Ask c.in-Ask.lock) (Some AsksWhatItHolds) c.in-Ask.is turn
    (λ now. verdict_asks_held lax s j e.processor c.in-Ask.lock now ((c.if-holds.ensures j tells).0 refl))

pub returns-else-holds : goal.returns-else-holds
returns-else-holds c = λ j tells turn lax idle.
    let s = judged_sizes_of c.args.self.now.sizes in
    let e = c.args.event in
    verdict_by_kind lax s j e (Ask c.in-Ask.lock) None c.in-Ask.is turn
    (λ now. verdict_asks_free lax s j e.processor c.in-Ask.lock now
    (λ holds. false≢true ((c.if-holds.ensures j tells).1 holds)))

pub returns-then-holds-2 : goal.returns-then-holds-2
returns-then-holds-2 c = λ j tells turn lax idle.
    let s = judged_sizes_of c.args.self.now.sizes in
    let e = c.args.event in
    verdict_by_kind lax s j e (Release c.in-Release.lock) None c.in-Release.is turn
    (λ now. verdict_releases_held lax s j e.processor c.in-Release.lock now ((c.if-holds-2.ensures j tells).0 refl))

pub returns-else-holds-2 : goal.returns-else-holds-2
returns-else-holds-2 c = λ j tells turn lax idle.
    let s = judged_sizes_of c.args.self.now.sizes in
    let e = c.args.event in
    verdict_by_kind lax s j e (Release c.in-Release.lock) (Some NotHeld) c.in-Release.is turn
    (λ now. verdict_releases_free lax s j e.processor c.in-Release.lock now
    (λ holds. false≢true ((c.if-holds-2.ensures j tells).1 holds)))

pub returns-in_default : goal.returns-in_default
returns-in_default c = λ j tells turn lax idle.
    let e = c.args.event in
    calls lax (judged_sizes_of c.args.self.now.sizes) j e turn c.in_default.not-Ask c.in_default.not-Release
    (verdict_quiet_kind e.kind c.in_default.not-Acquire c.in_default.not-Depart c.in_default.not-Await)
