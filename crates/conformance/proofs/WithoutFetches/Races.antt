-- A history's races stay without its fetches.
use Rattle.std.proofs.Common.{ℕ, ◌≡◌, ◌<◌, List, false, Some, refl, ap}
use Rattle.std.specs.Prelude.{not}
use Rattle.std.proofs.lemmas.Option.{none-some}
use Rattle.journal.specs.declared.event.Event.{Event}
use Rattle.journal.specs.declared.event.Kind.{Kind}
use Rattle.journal.specs.declared.event.Kind.TheVariants.{Fetch}
use Rattle.journal.specs.Events.{event_address}
use Rattle.journal.specs.Races.{Race}
use Rattle.conformance.specs.Follows.{is_fetch}
use Rattle.conformance.proofs.Projections.Embeds.{embeds_rising}
use Rattle.conformance.proofs.Projections.Order.{projection_order_before}
use Rattle.conformance.proofs.WithoutFetches.HistoryWithoutFetches.{IsWithoutFetchesOf, is_no_fetch}
use Rattle.conformance.proofs.WithoutFetches.WellFormed.{well_formed_without_fetches_keeps}

-- what has an address is no fetch
pub race_access_is_no_fetch : (k : Kind) (a : ℕ) → event_address k ≡ Some a → is_fetch k ≡ false
race_access_is_no_fetch (Fetch w n r d) a at = absurd (none-some a at)
race_access_is_no_fetch _ a at = refl

-- a race of the whole is one without its fetches
pub race_without_fetches : (g h : List Event) (x : IsWithoutFetchesOf g h) (i k : ℕ) → Race h i k → (m n : ℕ) × Race g m n
race_without_fetches g h x i k r =
    let c = r.conflict in
    let first = x.embeds.back i r.first r.first_at (ap not (race_access_is_no_fetch r.first.kind c.address c.first)) in
    let second = x.embeds.back k r.second r.second_at (ap not (race_access_is_no_fetch r.second.kind c.address c.second)) in
    let before : x.embeds.place first.0 < x.embeds.place second.0 = rw (first.1, second.1) r.before in (
      first.0,
      second.0,
      record {
        before = embeds_rising g h x.embeds first.0 second.0 before;
        first = r.first;
        second = r.second;
        first_at = first.2;
        second_at = second.2;
        apart = r.apart;
        conflict = c;
        unordered = λ b. r.unordered (rw (first.1, second.1) at (projection_order_before is_no_fetch well_formed_without_fetches_keeps g h x b));
      },
    )
