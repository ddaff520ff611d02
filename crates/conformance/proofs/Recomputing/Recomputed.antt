-- A history that follows a script, recomputed.
use Rattle.std.proofs.Common.{ℕ, ◌≡◌, List, [], Option, Some, None, map, cond, length, replicate, slice_get, refl, subst}
use Rattle.std.specs.Prelude.{◌==◌}
use Rattle.std.proofs.lemmas.List.{length-replicate}
use Rattle.journal.specs.declared.event.Event.{Event}
use Rattle.journal.specs.declared.event.Kind.{Kind}
use Rattle.journal.specs.declared.event.Kind.TheVariants.{Load, Store}
use Rattle.journal.specs.DidEvent.{event}
use Rattle.journal.specs.Sizes.{Sizes}
use Rattle.journal.specs.Sizes.{addresses as addresses_of}
use Rattle.journal.specs.EventsInRange.{EventAddressInRange, EventAddressesInRange}
use Rattle.journal.specs.WellFormed.{WellFormedKindInRange, WellFormed}
use Rattle.journal.specs.Races.{RaceFree}
use Rattle.journal.proofs.Flat.FlatBeforeRace.{flat_race_free}
use Rattle.lrc_script.specs.declared.script.Instruction.{Instruction}
use Rattle.lrc_script.specs.Plan.{Plan}
use Rattle.lrc_script.specs.Lawful.{plan_addresses}
use Rattle.conformance.specs.Follows.{plan_sizes, calls_of, Follows}
use Rattle.conformance.specs.RecomputedLaws.{RecomputedLaw, RaceFreeRecomputedLaw}
use Rattle.conformance.proofs.Like.Order.{like_order_race}
use Rattle.conformance.proofs.Like.WellFormed.{like_well_formed}
use Rattle.conformance.proofs.Script.ScriptSteps.{ScriptStep, AreScriptSteps, plain_script_steps}
use Rattle.conformance.proofs.Script.ScriptSteps.ScriptStep.{plain}
use Rattle.conformance.proofs.Script.SectionSteps.{section_steps_whole, section_steps, section_steps_told}
use Rattle.conformance.proofs.WithoutFetches.HistoryWithoutFetches.{without_fetches, without_fetches_of}
use Rattle.conformance.proofs.WithoutFetches.Races.{race_without_fetches}
use Rattle.conformance.proofs.WithoutFetches.Runs.{run_without_fetches_has_none, run_without_fetches}
use Rattle.conformance.proofs.Recomputing.Redoing.{DueToRedo, CallsDueToRedo, redo}

-- what p has to call: what its section says, or where it has none, what it called
abbrev recomputed_steps_at : Option (List Instruction) → List ℕ → List Kind → List ScriptStep
recomputed_steps_at None shown kinds = map plain kinds
recomputed_steps_at (Some section) shown kinds = section_steps_whole section shown

abbrev recomputed_due : Plan → List Event → ℕ → DueToRedo
recomputed_due s h p =
    record { steps = recomputed_steps_at (slice_get s.sections p) (cond (p == 0) s.shown []) (calls_of h p); reply = 0 }

recomputed_calls_due : (s : Plan) (h : List Event) → Follows s h → CallsDueToRedo h (recomputed_due s h)
recomputed_calls_due s h follows p = (0, by_section (slice_get s.sections p) refl)
  where
    shown : List ℕ
    shown = cond (p == 0) s.shown []

    by_section : (o : Option (List Instruction)) → slice_get s.sections p ≡ o
        → AreScriptSteps 0 (recomputed_steps_at o shown (calls_of h p)) (calls_of h p)
    by_section None at = plain_script_steps 0 (calls_of h p)
    by_section (Some section) at = section_steps section shown (calls_of h p) 0 (follows p section at)

-- who calls what is due follows the script
recomputed_calls_follow : (s : Plan) (h g : List Event)
    → ((p : ℕ) → AreScriptSteps 0 (recomputed_due s h p).steps (calls_of g p)) → Follows s g
recomputed_calls_follow s h g calls p section at =
    let shown : List ℕ = cond (p == 0) s.shown [] in
    let P : Option (List Instruction) → Type 0 = λ o. AreScriptSteps 0 (recomputed_steps_at o shown (calls_of h p)) (calls_of g p) in
    section_steps_told section shown (calls_of g p) 0 (subst P at (calls p))

recomputed_address_inside : (s : Sizes) (k : Kind) → WellFormedKindInRange s k → EventAddressInRange (addresses_of s) k
recomputed_address_inside s (Load a v) h = h
recomputed_address_inside s (Store a v) h = h
recomputed_address_inside s _ h = tt

recomputed_addresses_inside : (s : Plan) (h : List Event) → WellFormed (plan_sizes s) h
    → EventAddressesInRange (length {A = ℕ} (replicate (plan_addresses s) 0)) h
recomputed_addresses_inside s h well i e at =
    rw length-replicate (recomputed_address_inside (plan_sizes s) e.kind (well i e at).in_range)

-- each history that follows a script can be recomputed
pub recomputed_law : RecomputedLaw
recomputed_law s h well follows =
    let again = redo h (replicate (plan_addresses s) 0) (recomputed_due s h) (recomputed_addresses_inside s h well) (recomputed_calls_due s h follows) in (
      again.events,
      record {
        like = again.like;
        flat = record {
          well_formed = like_well_formed (plan_sizes s) h again.events again.like well;
          follows = recomputed_calls_follow s h again.events again.calls;
          replays = again.replays;
        };
        races = λ i k. like_order_race h again.events i k again.like;
      },
    )

-- a script that never races on one flat memory never races
pub recomputed_race_free_law : RaceFreeRecomputedLaw
recomputed_race_free_law s h well explained follows never =
    (free, flat_race_free (plan_addresses s) h (λ i p a v does. (well i (event p (Load a v)) does).in_range) explained free)
  where
    free : RaceFree h
    free i k race =
        let again = recomputed_law s h well follows in
        let apart = without_fetches_of again.0 in
        let other = race_without_fetches (without_fetches again.0) again.0 apart i k ((again.1.races i k).0 race) in
        never (without_fetches again.0) (run_without_fetches s again.0 again.1.flat) (run_without_fetches_has_none again.0) other.0 other.1 other.2
