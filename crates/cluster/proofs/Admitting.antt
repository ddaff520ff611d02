-- What a processor that is admitted to a call may make.
use Rattle.std.proofs.Common.{ℕ, ◌≡◌, ◌<◌, true, true≢false, not, nat_le, None, sym}
use Rattle.std.proofs.lemmas.Bool.{leb-false, not-false}
use Rattle.journal.specs.declared.event.Kind.{Kind}
use Rattle.journal.specs.declared.event.Kind.TheVariants.{Ask, Release, Arrive, Set, Watch}
use Rattle.journal.specs.Events.{event_closes}
use Rattle.cluster.specs.Copies.Local.{Local}
use Rattle.cluster.specs.ProcessorRefusals.{processor_refusal_is_waiting, processor_refusal_has_lock, processor_refusal_of_flag, processor_refusal_of_closing}
use Rattle.cluster.specs.ClosingCalls.{MayCloseByCall}
use Rattle.cluster.proofs.MayAccessAndFetch.{may_access_due_none, may_access_unawaited}

admitted_flag_free : (m : Local) (f : ℕ) → processor_refusal_of_flag m f ≡ None → (f < m.sizes.flags) × (m.awaits ≡ None)
admitted_flag_free m f none =
    let a = may_access_due_none (nat_le m.sizes.flags f) _ _ none in
    let b = may_access_due_none (processor_refusal_is_waiting m) _ _ a.1 in
    (leb-false m.sizes.flags f a.0, may_access_unawaited m.awaits b.0)

-- who is admitted to close its interval by this event
pub admitted_may_make : (m : Local) (k : Kind) → event_closes k ≡ true → processor_refusal_of_closing m k ≡ None → MayCloseByCall m k
admitted_may_make m (Ask l) closes none =
    let a = may_access_due_none (nat_le m.sizes.locks l) _ _ none in
    let b = may_access_due_none (processor_refusal_is_waiting m) _ _ a.1 in
    let c = may_access_due_none (processor_refusal_has_lock m l) _ _ b.1 in
    record { closes = closes; in_range = leb-false m.sizes.locks l a.0; idle = may_access_unawaited m.awaits b.0; held = c.0 }
admitted_may_make m (Release l) closes none =
    let a = may_access_due_none (nat_le m.sizes.locks l) _ _ none in
    let b = may_access_due_none (processor_refusal_is_waiting m) _ _ a.1 in
    let c = may_access_due_none (not (processor_refusal_has_lock m l)) _ _ b.1 in
    record {
      closes = closes;
      in_range = leb-false m.sizes.locks l a.0;
      idle = may_access_unawaited m.awaits b.0;
      held = not-false (processor_refusal_has_lock m l) c.0;
    }
admitted_may_make m Arrive closes none =
    let a = may_access_due_none (processor_refusal_is_waiting m) _ _ none in
    record { closes = closes; in_range = tt; idle = may_access_unawaited m.awaits a.0; held = tt }
admitted_may_make m (Set f) closes none =
    let a = admitted_flag_free m f none in record { closes = closes; in_range = a.0; idle = a.1; held = tt }
admitted_may_make m (Watch f) closes none =
    let a = admitted_flag_free m f none in record { closes = closes; in_range = a.0; idle = a.1; held = tt }
admitted_may_make m _ closes none = absurd (true≢false (sym closes))
