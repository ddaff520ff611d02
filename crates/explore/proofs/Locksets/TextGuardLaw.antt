-- Two accesses that may both come next are in one phase, and neither was made before the other; so on a guarded word their
-- processors would hold one lock.
-- A processor that waits for nothing has arrived as often as it has departed, and each one has arrived as often as any has
-- departed. So two that wait for nothing have departed equally often.
use Rattle.std.proofs.Common.{ℕ, ◌≡◌, ◌≢◌, ◌<◌, ◌≤◌, ◌⊎◌, inl, inr, IsTrue, false, List, [], ◌∷◌, length, Some, slice_get, refl, sym, ap, subst, ◌∙◌, arith}
use Rattle.std.specs.Global.{Vec}
use Rattle.std.proofs.lemmas.Option.{none-some}
use Rattle.journal.specs.declared.event.Event.{Event}
use Rattle.journal.specs.declared.event.Kind.{Kind}
use Rattle.journal.specs.declared.event.Kind.TheVariants as kind
use Rattle.journal.specs.DidEvent.{did, event}
use Rattle.journal.specs.Events.{event_address, event_count, event_arrives, event_departs, event_stores}
use Rattle.journal.specs.Races.{Conflict}
use Rattle.journal.specs.WellFormed.{WellFormedAllows, WellFormedAnswer, Holds}
use Rattle.journal.proofs.Order.EventPlacesAndCounts.{event_count-append}
use Rattle.journal.proofs.Times.TimesOfPlaces.{time_of_places_one_event}
use Rattle.journal.proofs.Journals.ArrivalBalance.{arrivals_balanced}
use Rattle.journal.proofs.Journals.HoldingReleases.{holding_release_alone}
use Rattle.lrc_script.specs.declared.script.Instruction.{Instruction}
use Rattle.lrc_script.specs.Plan.{Plan}
use Rattle.conformance.specs.Follows.{calls_of, plan_sizes}
use Rattle.explore.specs.declared.prefixes.script_call.ScriptCall.{ScriptCall}
use Rattle.explore.specs.TextGuards.{GuardedTextLaw, IsTextGuardedAccessAt, IsGuardedByText, text_guard_held_at, text_guard_departures_at, text_guarded_step_stores}
use Rattle.explore.specs.TextGuards.AreApartByText.{locked, before, after}
use Rattle.explore.specs.Machines.{AreLawfulMachineSteps}
use Rattle.explore.specs.Prefixes.FlatBeginnings.{IsFlatBeginning}
use Rattle.explore.specs.Prefixes.ScriptCalls.{last_reply_of_script_calls, script_calls_of_section, script_calls_shown_by}
use Rattle.explore.specs.Prefixes.PrefixLaws.{PrefixCanGoOn}
use Rattle.explore.proofs.MachineSteps.{machine_step_some_at}
use Rattle.explore.proofs.PrefixRuns.Beginnings.{prefix_beginning_next}
use Rattle.explore.proofs.PrefixRuns.SectionCalls.{AreFirstSectionCalls, section_calls_are_first}
use Rattle.explore.proofs.PrefixRuns.Neighbours.NoNeighbours.{no_neighbours_law}
use Rattle.explore.proofs.Locksets.FlagsFirst.{flags_first_made}
use Rattle.explore.proofs.Locksets.Calls.{lockset_calls_induction, lockset_calls_step_address, lockset_calls_step_store, lockset_calls_departed, lockset_calls_first_depart, lockset_calls_first_hold, lockset_calls_holding}

text_guard_law_departure : (k : Kind) → IsTrue (event_departs k) → k ≡ kind.Depart
text_guard_law_departure kind.Depart h = refl
text_guard_law_departure _ h = absurd cc

-- each processor has arrived as often as any has departed
text_guard_law_all_arrived : (s : Plan) (g : List Event) → IsFlatBeginning s g → (q p : ℕ) → p < s.processors
    → event_count event_departs g q ≤ event_count event_arrives g p
text_guard_law_all_arrived s =
    lockset_calls_induction s (λ g. (q p : ℕ) → p < s.processors → event_count event_departs g q ≤ event_count event_arrives g p)
    (λ q p within. omega arith) step
  where
    step : (g : List Event) (r : ℕ) (k : Kind) → IsFlatBeginning s g → PrefixCanGoOn s g r k
        → ((q p : ℕ) → p < s.processors → event_count event_departs g q ≤ event_count event_arrives g p)
        → (q p : ℕ) → p < s.processors → event_count event_departs (did g r k) q ≤ event_count event_arrives (did g r k) p
    step g r k begins next ih q p within =
        let old = ih q p within in
        let departs_more = event_count-append event_departs g (event r k ∷ []) q in
        let arrives_more = event_count-append event_arrives g (event r k ∷ []) p in
        elim (time_of_places_one_event event_departs (event r k) q) [
          | inl none ↦ omega arith
          | inr one ↦
              (let allowed = subst (WellFormedAllows (plan_sizes s) g r) (text_guard_law_departure k one.1) next.may_follow.allowed in
              let enough = allowed.2 p within in
              let same = ap (λ n. event_count event_departs g n) one.0 in
              let counts = one.2 in
              omega (arith, enough, same, counts))
        ]

-- after these no access comes at once
text_guard_law_not_waiting : (c a : Kind) (w : ℕ) → event_address a ≡ Some w → WellFormedAnswer c a → c ≢ kind.Arrive
text_guard_law_not_waiting kind.Arrive a w at answers is = absurd (none-some w (sym (ap event_address answers) ∙ at))
text_guard_law_not_waiting _ a w at answers is = absurd cc

-- what the text says of an access of p that may come next
record IsTextGuardLawAccess (s : Plan) (rows : List (Vec ScriptCall)) (g : List Event) (p w : ℕ) (a : Kind) : Type 0 where
  step : ScriptCall
  access : IsTextGuardedAccessAt rows p (length (calls_of g p)) w step
  stores : text_guarded_step_stores step ≡ event_stores a
  within : p < s.processors
  arrived : text_guard_departures_at access.row.items (length (calls_of g p)) ≡ event_count event_arrives g p
  departed : text_guard_departures_at access.row.items (length (calls_of g p)) ≡ event_count event_departs g p
  holds : (l : ℕ) → IsTrue (text_guard_held_at access.row.items (length (calls_of g p)) l) → Holds g p l

module _ (s : Plan) (rows : List (Vec ScriptCall)) (steps : AreLawfulMachineSteps s rows) (g : List Event) (p w : ℕ) (a : Kind)
    (begins : IsFlatBeginning s g) (next : PrefixCanGoOn s g p a) (at : event_address a ≡ Some w) where
  text_guard_law_inside : p < s.processors
  text_guard_law_inside = next.may_follow.processor

  text_guard_law_section : (x : List Instruction) × (slice_get s.sections p ≡ Some x)
  text_guard_law_section = let one = steps.lawful.but_uneven.one_each in machine_step_some_at s.sections p (omega arith)

  text_guard_law_row : (x : Vec ScriptCall) × (slice_get rows p ≡ Some x)
  text_guard_law_row = let one = steps.lawful.but_uneven.one_each in let long = steps.are.long in machine_step_some_at rows p (omega arith)

  text_guard_law_row_says : text_guard_law_row.0.items ≡ script_calls_of_section text_guard_law_section.0 (script_calls_shown_by s p)
  text_guard_law_row_says = steps.are.each p text_guard_law_section.0 text_guard_law_row.0 text_guard_law_section.1 text_guard_law_row.1

  first : AreFirstSectionCalls 0 text_guard_law_row.0.items (calls_of g p)
  first = subst (λ x. AreFirstSectionCalls 0 x (calls_of g p)) (sym text_guard_law_row_says)
      ((section_calls_are_first text_guard_law_section.0 (script_calls_shown_by s p) (calls_of g p)).0 (begins.begins p text_guard_law_section.0 text_guard_law_section.1))

  text_guard_law_departs_often : text_guard_departures_at text_guard_law_row.0.items (length (calls_of g p)) ≡ event_count event_departs g p
  text_guard_law_departs_often = sym (lockset_calls_first_depart 0 text_guard_law_row.0.items (calls_of g p) first) ∙ sym (lockset_calls_departed s g begins p)

  text_guard_law_arrivals_balance : event_count event_arrives g p ≡ event_count event_departs g p
  text_guard_law_arrivals_balance = (arrivals_balanced (plan_sizes s) g p begins.well_formed).going
      (λ i last. text_guard_law_not_waiting kind.Arrive a w at (next.may_follow.answers i kind.Arrive last) refl)

  text_guard_law_access_next : IsTextGuardLawAccess s rows g p w a
  text_guard_law_access_next =
      let called = next.calls.next text_guard_law_section.0 text_guard_law_section.1 in
      record {
        step = called.step;
        access = record {
          row = text_guard_law_row.0;
          row_at = text_guard_law_row.1;
          at = subst (λ x. slice_get x (length (calls_of g p)) ≡ Some called.step) (sym text_guard_law_row_says) called.at;
          address = lockset_calls_step_address (last_reply_of_script_calls (calls_of g p)) called.step a called.is ∙ at;
        };
        stores = lockset_calls_step_store (last_reply_of_script_calls (calls_of g p)) called.step a called.is;
        within = text_guard_law_inside;
        arrived = text_guard_law_departs_often ∙ sym text_guard_law_arrivals_balance;
        departed = text_guard_law_departs_often;
        holds = λ l held. (lockset_calls_holding s g begins p l).1 (lockset_calls_first_hold l 0 false text_guard_law_row.0.items (calls_of g p) first ∙ held);
      }

-- no two processors may access a guarded word next, one of them storing
pub text_guard_law_no_conflict : (s : Plan) (rows : List (Vec ScriptCall)) → AreLawfulMachineSteps s rows → (g : List Event) (p q : ℕ)
    (a b : Kind) → IsFlatBeginning s (did g p a) → IsFlatBeginning s (did g q b) → p ≢ q
    → (c : Conflict (event p a) (event q b)) → ¬ IsGuardedByText rows c.address
text_guard_law_no_conflict s rows steps g p q a b one other apart c guarded =
    let first = (prefix_beginning_next s g p a).0 one in
    let second = (prefix_beginning_next s g q b).0 other in
    let x = text_guard_law_access_next s rows steps g p c.address a first.0 first.1 c.first in
    let y = text_guard_law_access_next s rows steps g q c.address b second.0 second.1 c.second in
    let up = text_guard_law_all_arrived s g first.0 q p x.within in
    let down = text_guard_law_all_arrived s g first.0 p q y.within in
    let here = x.arrived in
    let there = y.arrived in
    let gone = x.departed in
    let left = y.departed in
    let same : text_guard_departures_at x.access.row.items (length (calls_of g p)) ≡ text_guard_departures_at y.access.row.items (length (calls_of g q))
    = omega arith in
    let stores : IsTrue (text_guarded_step_stores x.step) ⊎ IsTrue (text_guarded_step_stores y.step) = elim c.stores [
      | inl is ↦ inl (x.stores ∙ is)
      | inr is ↦ inr (y.stores ∙ is)
    ] in
    elim (guarded p q (length (calls_of g p)) (length (calls_of g q)) x.step y.step x.access y.access apart stores same) [
      | locked common ↦
          apart (holding_release_alone (plan_sizes s) g first.0.well_formed p q common.lock (x.holds common.lock common.first)
          (y.holds common.lock common.second))
      | before comes ↦
          (let made = flags_first_made s rows steps g first.0 p (length (calls_of g p)) comes (omega arith) in omega (arith, made))
      | after comes ↦
          (let made = flags_first_made s rows steps g first.0 q (length (calls_of g q)) comes (omega arith) in omega (arith, made))
    ]

pub text_guard_law : GuardedTextLaw
text_guard_law s rows steps all =
    no_neighbours_law s (λ g p q a b one other apart c. text_guard_law_no_conflict s rows steps g p q a b one other apart c (all c.address))
