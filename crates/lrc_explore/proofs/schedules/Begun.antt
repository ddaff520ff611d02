-- What begins a script that doesn't race on one flat memory.
-- Up to its first race an explained history replays, so that without its fetches the part before the race begins the script on
-- one flat memory. The access that races, with the reply that it has there, makes that longer, and races there too.
use Rattle.std.proofs.Common.{ℕ, zero, suc, ◌≡◌, ◌<◌, List, [], ◌∷◌, ◌++◌, false, Some, map, length, take, drop, replicate, slice_get, refl, sym, ap, subst, ◌∙◌, take-append-drop, arith}
use Rattle.std.specs.Prelude.{not}
use Rattle.std.proofs.lemmas.Bool.{cond-true}
use Rattle.std.proofs.lemmas.List.{map-append, length-replicate}
use Rattle.std.proofs.lemmas.List.Elements.{filter-append}
use Rattle.std.proofs.lemmas.Option.{slice_get-get_or}
use Rattle.base.proofs.LastWritten.{length-written}
use Rattle.base.proofs.SlicesAndCounts.{slice_take-suc_at}
use Rattle.journal.specs.declared.event.Event.{Event}
use Rattle.journal.specs.declared.event.Kind.{Kind}
use Rattle.journal.specs.declared.event.Kind.TheVariants.{Load}
use Rattle.journal.specs.DidEvent.{did, event}
use Rattle.journal.specs.ReplayMemory.{replay_memory_write, memory_after, AnswersReplayMemory, Replays}
use Rattle.journal.specs.ExplainedAnswers.{Explained}
use Rattle.journal.specs.Races.{Race, RaceFree}
use Rattle.journal.specs.WellFormed.{WellFormedKindInRange, Does, WellFormedNext, WellFormed}
use Rattle.journal.proofs.Flat.FlatBeforeRace.{flat_race_free, flat_before_race_up_to}
use Rattle.journal.proofs.Journals.WellFormedStays.{well_formed_stays_push, well_formed_stays_take}
use Rattle.lrc_script.specs.declared.script.Instruction.{Instruction}
use Rattle.lrc_script.specs.Plan.{Plan}
use Rattle.lrc_script.specs.Lawful.{plan_addresses}
use Rattle.conformance.specs.ScriptBegins.{BeginsScript, BeginsSection}
use Rattle.conformance.specs.Follows.{plan_sizes, calls_of, is_fetch}
use Rattle.conformance.specs.Like.{like_without_value, event_like_without_value, SameButValues}
use Rattle.conformance.proofs.FollowedCalls.{followed_calls-own}
use Rattle.conformance.proofs.WithoutFetches.HistoryWithoutFetches.{without_fetches, without_fetches_of}
use Rattle.conformance.proofs.WithoutFetches.Races.{race_access_is_no_fetch, race_without_fetches}
use Rattle.conformance.proofs.WithoutFetches.Runs.{run_calls_without_fetches, run_without_fetches_has_none, run_replays_without_fetches}
use Rattle.conformance.proofs.WithoutFetches.WellFormed.{well_formed_without_fetches}
use Rattle.conformance.proofs.Like.Order.{like_order_race}
use Rattle.conformance.proofs.Like.WellFormed.{like_well_formed}
use Rattle.conformance.proofs.Recomputing.EventReplays.{event_replays_fetch_like}
use Rattle.explore.specs.Prefixes.FlatBeginnings.{IsFlatBeginning, AreFlatBeginningsRaceFree}
use Rattle.explore.specs.Prefixes.ScriptCalls.{IsScriptCallNext, last_reply_of_script_calls, script_calls_of_section, script_calls_shown_by}
use Rattle.explore.proofs.PrefixRuns.Beginnings.{prefix_beginning_next, prefix_beginning_script_front}
use Rattle.explore.proofs.PrefixRuns.SectionCalls.{section_calls_push}
use Rattle.explore.proofs.PrefixRuns.Neighbours.LastRace.{last_race_of_front}
use Rattle.explore.proofs.PrefixRuns.Neighbours.Replies.{neighbour_replied_call, neighbour_replied_step}
use Rattle.lrc_explore.specs.Schedules.ExploredLaws.{ExploredScheduleBegunLaw}

-- what replays and begins the script does so on one flat memory, its fetches aside
pub schedule_begun_flat_part : (s : Plan) (h : List Event) → WellFormed (plan_sizes s) h → BeginsScript s h
    → Replays (replicate (plan_addresses s) 0) h → IsFlatBeginning s (without_fetches h)
schedule_begun_flat_part s h well begins replays =
    record {
      well_formed = well_formed_without_fetches (plan_sizes s) (without_fetches h) h (without_fetches_of h) well;
      begins = λ p section at.
          subst (BeginsSection section (script_calls_shown_by s p)) (sym (run_calls_without_fetches p h)) (begins p section at);
      replays = run_replays_without_fetches h (replicate (plan_addresses s) 0) replays;
      no_fetch = run_without_fetches_has_none h;
    }

-- a call at the end stays there
pub schedule_begun_fetchless_push : (h : List Event) (p : ℕ) (k : Kind) → is_fetch k ≡ false
    → without_fetches (did h p k) ≡ did (without_fetches h) p k
schedule_begun_fetchless_push h p k call =
    filter-append (λ (e : Event). not (is_fetch e.kind)) h (event p k ∷ [])
    ∙ ap (λ es. without_fetches h ++ es) (cond-true (not (is_fetch k)) (event p k ∷ []) [] (ap not call))

-- the call with the word of this memory is the same but for its value
schedule_begun_replied_like : (memory : List ℕ) (k : Kind) → like_without_value k ≡ like_without_value (neighbour_replied_call memory k)
schedule_begun_replied_like memory (Load a v) = refl
schedule_begun_replied_like memory _ = refl

schedule_begun_like_push : (g : List Event) (p : ℕ) (k l : Kind) → like_without_value k ≡ like_without_value l → SameButValues (did g p k) (did g p l)
schedule_begun_like_push g p k l same =
    map-append event_like_without_value g (event p k ∷ []) ∙ ap (λ x. map event_like_without_value g ++ event p x ∷ []) same
    ∙ sym (map-append event_like_without_value g (event p l ∷ []))

-- and it answers its word
schedule_begun_word_replied : (s : Plan) (memory : List ℕ) (k : Kind) → length memory ≡ plan_addresses s → WellFormedKindInRange (plan_sizes s) k
    → AnswersReplayMemory memory (neighbour_replied_call memory k)
schedule_begun_word_replied s memory (Load a v) long inside = slice_get-get_or memory a 0 (subst (λ n. a < n) (sym long) inside)
schedule_begun_word_replied s memory _ long inside = tt

-- a call after what replays makes its flat part longer, with the reply that it has there
module _ (s : Plan) (h : List Event) (p : ℕ) (k : Kind) (replays : Replays (replicate (plan_addresses s) 0) h)
    (well : WellFormed (plan_sizes s) (did h p k)) (begins : BeginsScript s (did h p k)) (call : is_fetch k ≡ false) where
  abbrev pub memory : List ℕ
  memory = memory_after (replicate (plan_addresses s) 0) (without_fetches h)

  long : length memory ≡ plan_addresses s
  long = length-written (λ (e : Event). replay_memory_write e.kind) (replicate (plan_addresses s) 0) (without_fetches h)
      ∙ length-replicate (plan_addresses s) 0

  before : IsFlatBeginning s (without_fetches h)
  before =
      schedule_begun_flat_part s h ((well_formed_stays_push (plan_sizes s) h (event p k)).0 well).0 (prefix_beginning_script_front s h (event p k ∷ []) begins) replays

  may : WellFormedNext (plan_sizes s) (without_fetches h) (event p (neighbour_replied_call memory k))
  may =
      let there = well_formed_without_fetches (plan_sizes s) (without_fetches (did h p k)) (did h p k) (without_fetches_of (did h p k)) well in
      let here = subst (WellFormed (plan_sizes s)) (schedule_begun_fetchless_push h p k call) there in
      let like = schedule_begun_like_push (without_fetches h) p k (neighbour_replied_call memory k) (schedule_begun_replied_like memory k) in
      let same = like_well_formed (plan_sizes s) (did (without_fetches h) p k) (did (without_fetches h) p (neighbour_replied_call memory k)) like here in
      ((well_formed_stays_push (plan_sizes s) (without_fetches h) (event p (neighbour_replied_call memory k))).0 same).1

  schedule_begun_called : (section : List Instruction) → slice_get s.sections p ≡ Some section
      → IsScriptCallNext (script_calls_of_section section (script_calls_shown_by s p)) (calls_of (without_fetches h) p) (neighbour_replied_call memory k)
  schedule_begun_called section at =
      let own = subst (BeginsSection section (script_calls_shown_by s p)) (followed_calls-own h p k call) (begins p section at) in
      let is = ((section_calls_push section (script_calls_shown_by s p) (calls_of h p) k).0 own).1 in
      subst (λ calls. IsScriptCallNext (script_calls_of_section section (script_calls_shown_by s p)) calls (neighbour_replied_call memory k)) (sym (run_calls_without_fetches p h))
      (record { step = is.step; at = is.at; is = neighbour_replied_step (last_reply_of_script_calls (calls_of h p)) is.step k memory is.is })

  pub schedule_begun_call_replied : is_fetch (neighbour_replied_call memory k) ≡ false
  schedule_begun_call_replied = sym (event_replays_fetch_like k (neighbour_replied_call memory k) (schedule_begun_replied_like memory k)) ∙ call

  pub schedule_begun_longer : IsFlatBeginning s (did (without_fetches h) p (neighbour_replied_call memory k))
  schedule_begun_longer =
      (prefix_beginning_next s (without_fetches h) p (neighbour_replied_call memory k)).1 (
        before,
        record {
          may_follow = may;
          calls = record { call = schedule_begun_call_replied; next = schedule_begun_called };
          answers = schedule_begun_word_replied s memory k long ((well_formed_stays_push (plan_sizes s) h (event p k)).0 well).1.in_range;
        },
      )

-- a history of a script of which no flat beginning races
module _ (s : Plan) (free : AreFlatBeginningsRaceFree s) (h : List Event) (well : WellFormed (plan_sizes s) h)
    (explained : Explained h) (begins : BeginsScript s h) where
  schedule_begun_in_range : (i p a v : ℕ) → Does h i p (Load a v) → a < plan_addresses s
  schedule_begun_in_range i p a v does = (well i (event p (Load a v)) does).in_range

  -- no race is the first
  schedule_begun_race_at : (m k : ℕ) → Race h m k → ((i n : ℕ) → n < k → ¬ Race h i n) → ⊥
  schedule_begun_race_at m k race none = free (without_fetches now) (subst (IsFlatBeginning s) (sym pushed) flat) again.0 again.1 again.2
    where
      p : ℕ
      p = race.second.processor

      c : Kind
      c = race.second.kind

      replays : Replays (replicate (plan_addresses s) 0) (take k h)
      replays = flat_before_race_up_to (plan_addresses s) h k schedule_begun_in_range explained none

      front : take (suc k) h ≡ did (take k h) p c
      front = slice_take-suc_at h k race.second race.second_at

      well_now : WellFormed (plan_sizes s) (did (take k h) p c)
      well_now = subst (WellFormed (plan_sizes s)) front (well_formed_stays_take (plan_sizes s) h (suc k) well)

      begins_now : BeginsScript s (did (take k h) p c)
      begins_now =
          subst (BeginsScript s) front
          (prefix_beginning_script_front s (take (suc k) h) (drop (suc k) h)
          (subst (BeginsScript s) (sym (take-append-drop (suc k) h)) begins))

      call : is_fetch c ≡ false
      call = race_access_is_no_fetch c race.conflict.address race.conflict.second

      reply : Kind
      reply = neighbour_replied_call (memory s (take k h) p c replays well_now begins_now call) c

      now : List Event
      now = did (take k h) p reply

      flat : IsFlatBeginning s (did (without_fetches (take k h)) p reply)
      flat = schedule_begun_longer s (take k h) p c replays well_now begins_now call

      pushed : without_fetches now ≡ did (without_fetches (take k h)) p reply
      pushed = schedule_begun_fetchless_push (take k h) p reply (schedule_begun_call_replied s (take k h) p c replays well_now begins_now call)

      race_now : Race now m k
      race_now =
          let like = schedule_begun_like_push (take k h) p c reply
          (schedule_begun_replied_like (memory s (take k h) p c replays well_now begins_now call) c) in
          (like_order_race (did (take k h) p c) now m k like).0
          (subst (λ es. Race es m k) front (last_race_of_front h m k race))

      again : (i n : ℕ) × Race (without_fetches now) i n
      again = race_without_fetches (without_fetches now) now (without_fetches_of now) m k race_now

  schedule_begun_no_race : (n m k : ℕ) → k < n → ¬ Race h m k
  schedule_begun_no_race zero m k less race = absurd (omega (arith, less))
  schedule_begun_no_race (suc n) m k less race = schedule_begun_race_at m k race (λ i j before. schedule_begun_no_race n i j (omega (arith, less, before)))

  pub race_free : RaceFree h
  race_free m k race = schedule_begun_no_race (suc k) m k (omega arith) race

  pub schedule_begun_replays_whole : Replays (replicate (plan_addresses s) 0) h
  schedule_begun_replays_whole = flat_race_free (plan_addresses s) h schedule_begun_in_range explained race_free

pub schedule_begun_law : ExploredScheduleBegunLaw
schedule_begun_law s h free well explained begins =
    (race_free s free h well explained begins, schedule_begun_replays_whole s free h well explained begins)
