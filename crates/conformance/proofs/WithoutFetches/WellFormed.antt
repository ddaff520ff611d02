-- Without its fetches a well formed history is well formed, and what may follow it may follow the whole.
use Rattle.std.proofs.Common.{List, refl}
use Rattle.journal.specs.declared.event.Event.{Event}
use Rattle.journal.specs.declared.event.Kind.TheVariants.{Fetch}
use Rattle.journal.specs.Sizes.{Sizes}
use Rattle.journal.specs.WellFormed.{WellFormedNext, WellFormed}
use Rattle.conformance.proofs.Projections.WellFormed.{KeepsSynchronization, well_formed_projection_follow_in_whole, well_formed_projection}
use Rattle.conformance.proofs.WithoutFetches.HistoryWithoutFetches.{IsWithoutFetchesOf, is_no_fetch, without_fetches, without_fetches_of}

-- no fetch synchronizes
pub well_formed_without_fetches_keeps : KeepsSynchronization is_no_fetch
well_formed_without_fetches_keeps (Fetch w n r d) is = is
well_formed_without_fetches_keeps _ is = refl

pub well_formed_without_fetches : (s : Sizes) (g h : List Event) → IsWithoutFetchesOf g h → WellFormed s h → WellFormed s g
well_formed_without_fetches s = well_formed_projection s is_no_fetch well_formed_without_fetches_keeps

pub well_formed_without_fetches_follow : (s : Sizes) (h : List Event) (e : Event) → WellFormed s h → WellFormedNext s (without_fetches h) e
    → WellFormedNext s h e
well_formed_without_fetches_follow s h e well may =
    let x = without_fetches_of h in
    well_formed_projection_follow_in_whole s is_no_fetch well_formed_without_fetches_keeps (without_fetches h) h well x.embeds e x.whole may
