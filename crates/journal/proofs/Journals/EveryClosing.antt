-- Calls that close an interval.
use Rattle.std.proofs.Common.{◌≡◌, true, refl}
use Rattle.journal.specs.declared.closing_and_awaited.Closing.{Closing}
use Rattle.journal.specs.declared.closing_and_awaited.Closing.TheVariants.{Ask, Release, Arrive, Set, Watch}
use Rattle.journal.specs.ClosingKinds.{closing_kind}
use Rattle.journal.specs.Events.{event_closes}

-- each does
pub every_closing_closes : (c : Closing) → event_closes (closing_kind c) ≡ true
every_closing_closes (Ask l) = refl
every_closing_closes (Release l) = refl
every_closing_closes Arrive = refl
every_closing_closes (Set f) = refl
every_closing_closes (Watch f) = refl
