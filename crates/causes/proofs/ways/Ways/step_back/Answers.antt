use Rattle.std.proofs.Common.{◌≡◌, ◌≤◌, ℕ, List, Option, Some, MatchOption, slice_index_or, subst, refl, arith}
use Rattle.std.specs.Prelude.{None}
use Rattle.std.proofs.lemmas.Option.{slice_get-get_or}
use Rattle.journal.specs.declared.event.Event.{Event}
use Rattle.journal.specs.declared.event.Kind.TheVariants.{Load}
use Rattle.journal.specs.DidEvent.{event}
use Rattle.journal.specs.HappensBeforeEdges.{Edge}
use Rattle.journal.specs.Pasts.{UpTo}
use Rattle.journal.proofs.Order.EventPlacesAndCounts.{event_place_does}
use Rattle.causes.specs.Edges.{EdgeFromOther}
use Rattle.causes.specs.News.{IsNews}
use Rattle.causes.specs.Paths.{IsPathEntry}
use Rattle.causes.proofs.ReachedPaths.{reached_path_none_enters, reached_path_from}
use Rattle.causes.proofs.ways.Ways.step_back.Goals as goal

-- the first event that is reached is entered, or it is the one that reaches it
entered : (j : List Event) (q i k : ℕ) (o : Option ℕ) → IsPathEntry j i q k
    → MatchOption o ((n : ℕ) → IsNews j n k → ¬ UpTo j n i) (λ n. EdgeFromOther j n k × UpTo j n i)
    → MatchOption o (k ≡ i) (λ n. Edge j n k × UpTo j n i)
entered j q i k None first none = reached_path_none_enters j q i k first none
entered j q i k (Some n) first enters = (enters.0.edge, enters.1)

pub returns : goal.returns
returns c =
    let events = c.args.events.now in
    let i = c.args.from in
    let k = c.args.to in
    let e : Event = slice_index_or events k (event 0 (Load 0 0)) in
    let does = event_place_does events k e.processor e (slice_get-get_or events k (event 0 (Load 0 0)) c.requires.to) refl in
    let m = c.in_ok-first.first in
    let first = c.in_ok-first.ensures in
    let up : m ≤ k = (reached_path_from events e.processor i m k e.kind first does).1 c.requires.reached in
    let end = c.if-first-to.false in
    let is : m ≡ k = omega arith in
    entered events e.processor i k c.entrance.result (subst (IsPathEntry events i e.processor) is first)
    c.entrance.ensures
