-- The barrier under one more event.
use Rattle.std.proofs.Common.{◌≡◌, ◌≢◌, ℕ, zero, suc, ◌+◌, ◌<◌, ◌≤◌, ◌⊎◌, inl, inr, List, [], ◌∷◌, length, replicate, true, false, Some, slice_get, slice_set, slice_index, slice_index_or, subst, sym, refl, ap, ◌∙◌, arith}
use Rattle.std.specs.List.{list_all}
use Rattle.std.proofs.lemmas.Bool.{true≢false}
use Rattle.std.proofs.lemmas.Option.{none-some, slice_get_within, same_Some}
use Rattle.std.proofs.lemmas.List.{length-replicate}
use Rattle.journal.specs.declared.event.Event.{Event}
use Rattle.journal.specs.declared.event.Kind.{Kind}
use Rattle.journal.specs.declared.event.Kind.TheVariants.{Arrive, Depart}
use Rattle.journal.specs.Sizes.{Sizes}
use Rattle.journal.specs.Events.{EventAt, event_count, event_arrives, event_departs}
use Rattle.journal.specs.WellFormed.{LastIs, WellFormedAllows, WellFormed}
use Rattle.journal.specs.AwaitedNext.{AwaitsNothingNext}
use Rattle.journal.specs.Pasts.{InPast, InPastOfSome}
use Rattle.journal.specs.Brings.{Brings, BringsFromSomeArrival}
use Rattle.base.proofs.SliceSets.{slice_get-replicate_found}
use Rattle.journal.proofs.Order.EventPlacesAndCounts.{event_count-inside}
use Rattle.journal.proofs.Times.KeptTimes.{kept_time_of_arrivals, kept_time_arrival_joins}
use Rattle.journal.proofs.Journals.WellFormedStays.{well_formed_stays_last_or_none, well_formed_stays_last_unique}
use Rattle.journal.proofs.Journals.ArrivalBalance.{arrivals_balanced}
use Rattle.vtime.specs.TicksAndJoins.{join}
use Rattle.barrier.specs.BarrierEpisodes.{BarrierEpisodes, is_here_for_barrier_episode, barrier_episode_full, barrier_episode_with_one_more, completed_barrier_episode, barrier_episode_departed}
use Rattle.barrier.specs.declared.barrier.Stage.{Stage}
use Rattle.barrier.specs.declared.barrier.Stage.TheVariants.{Away, Here, Free}
use Rattle.journal.specs.DidEvent.{event, did}
use Rattle.book.specs.BookStamps.{EachStampedAt, IsBookStamp}
use Rattle.book.specs.BookBarrier.{IsAtBookBarrierStage, IsBookBarrier}
use Rattle.book.proofs.Parts.Each.{each_set, each_kept, each_item_at, each_is_at}
use Rattle.book.proofs.Parts.LastEvents.{last_event_count, last_event_count_others, last_event_count_kept}
use Rattle.book.proofs.Parts.Stamps.{stamp_none, stamp_join}
use Rattle.book.proofs.Parts.PostedMail.{posted_mail_other_kind}

-- who is at a stage stays there while it is counted alike
pub barrier_stage_same : (h g : List Event) (n p : ℕ) (x : Stage) → event_count event_arrives g p ≡ event_count event_arrives h p
    → event_count event_departs g p ≡ event_count event_departs h p → IsAtBookBarrierStage h n p x → IsAtBookBarrierStage g n p x
barrier_stage_same h g n p Away a d x = (a ∙ x.0, d ∙ x.1)
barrier_stage_same h g n p Here a d x = (a ∙ x.0, d ∙ x.1)
barrier_stage_same h g n p Free a d x = (a ∙ x.0, ap (λ m. m + 1) d ∙ x.1)

barrier_stage_others : (h : List Event) (p : ℕ) (k : Kind) (n q : ℕ) (x : Stage) → q ≢ p → IsAtBookBarrierStage h n q x
    → IsAtBookBarrierStage (did h p k) n q x
barrier_stage_others h p k n q x isnt at =
    barrier_stage_same h (did h p k) n q x (last_event_count_others event_arrives h p k q isnt) (last_event_count_others event_departs h p k q isnt) at

-- each has arrived at least as often as episodes are complete, and departed at most so often
pub barrier_stage_arrived : (h : List Event) (n p : ℕ) (x : Stage) → IsAtBookBarrierStage h n p x → n ≤ event_count event_arrives h p
barrier_stage_arrived h n p Away x = let e = x.0 in omega arith
barrier_stage_arrived h n p Here x = let e = x.0 in omega arith
barrier_stage_arrived h n p Free x = let e = x.0 in omega arith

-- who has arrived as often as it has departed is away
pub barrier_stage_away : (h : List Event) (n p : ℕ) (x : Stage) → event_count event_arrives h p ≡ event_count event_departs h p
    → IsAtBookBarrierStage h n p x → Away ≡ x
barrier_stage_away h n p Away e x = refl
barrier_stage_away h n p Here e x = let a = x.0 in let d = x.1 in absurd (omega arith)
barrier_stage_away h n p Free e x = let a = x.0 in let d = x.1 in absurd (omega arith)

-- who has arrived once more, in a complete episode, is free
pub barrier_stage_free : (h : List Event) (n p : ℕ) (x : Stage) → event_count event_arrives h p ≡ event_count event_departs h p + 1
    → event_count event_departs h p + 1 ≤ n → IsAtBookBarrierStage h n p x → Free ≡ x
barrier_stage_free h n p Free e le x = refl
barrier_stage_free h n p Here e le x = let a = x.0 in let d = x.1 in absurd (omega arith)
barrier_stage_free h n p Away e le x = let a = x.0 in let d = x.1 in absurd (omega arith)

-- an idle processor has departed as often as it has arrived
pub barrier_stage_idle_counts : (s : Sizes) (h : List Event) (p : ℕ) → WellFormed s h → AwaitsNothingNext h p
    → event_count event_arrives h p ≡ event_count event_departs h p
barrier_stage_idle_counts s h p well idle = (arrivals_balanced s h p well).going (λ i last. absurd (cc (idle i Arrive last)))

barrier_stage_arrive_is : (k : Kind) → (k ≡ Arrive) ⊎ (k ≢ Arrive)
barrier_stage_arrive_is Arrive = inl refl
barrier_stage_arrive_is _ = inr (λ e. absurd cc)

-- who has arrived once more waits
pub waits_at_barrier_stage : (s : Sizes) (h : List Event) (p : ℕ) → WellFormed s h
    → event_count event_arrives h p ≡ event_count event_departs h p + 1 → (i : ℕ) × LastIs h p i Arrive
waits_at_barrier_stage s h p well more = elim (well_formed_stays_last_or_none h p) [
  | inl x ↦ elim (barrier_stage_arrive_is x.1) [
    | inl is ↦ (x.0, subst (λ k. LastIs h p x.0 k) is x.2)
    | inr isnt ↦ none (λ i last. isnt ((well_formed_stays_last_unique h p x.0 i x.1 Arrive x.2 last).1))
  ]
  | inr no_event ↦ none (λ i last. no_event i (event p Arrive) last.does refl)
]
  where
    none : ((i : ℕ) → ¬ LastIs h p i Arrive) → (i : ℕ) × LastIs h p i Arrive
    none never = let same = (arrivals_balanced s h p well).going never in absurd (omega arith)

-- what is no arrival and no departure leaves the barrier
pub barrier_stage_kept : (s : Sizes) (h : List Event) (p : ℕ) (k : Kind) (b : BarrierEpisodes) → event_arrives k ≡ false
    → event_departs k ≡ false → IsBookBarrier s h b → IsBookBarrier s (did h p k) b
barrier_stage_kept s h p k b arrive depart x = record {
  complete = x.complete;
  stages = each_kept s.processors (IsAtBookBarrierStage h x.complete) (IsAtBookBarrierStage (did h p k) x.complete) b.stages x.stages
      (λ q st at is. barrier_stage_same h (did h p k) x.complete q st (last_event_count_kept event_arrives h p k q arrive)
      (last_event_count_kept event_departs h p k q depart) is);
  lacks = (x.lacks.0, x.lacks.1, last_event_count_kept event_arrives h p k x.lacks.0 arrive ∙ x.lacks.2);
  gathered = record {
    long = x.gathered.long;
    is = kept_time_of_arrivals h (event p k ∷ []) x.complete (slice_index b.gathered)
        (posted_mail_other_kind p k Arrive (λ e. true≢false (sym (ap (λ a. event_arrives a) e) ∙ arrive))) x.gathered.is;
  };
}

-- a departure leaves its processor away
pub barrier_stage_departed : (s : Sizes) (h : List Event) (p : ℕ) (b : BarrierEpisodes) → WellFormed s h → WellFormedAllows s h p Depart
    → p < s.processors → IsBookBarrier s h b → IsBookBarrier s (did h p Depart) (barrier_episode_departed b p)
barrier_stage_departed s h p b well allowed lt x = record {
  complete = x.complete;
  stages = each_set s.processors (IsAtBookBarrierStage h x.complete) (IsAtBookBarrierStage (did h p Depart) x.complete)
      b.stages p Away x.stages (λ q st isnt at is. barrier_stage_others h p Depart x.complete q st isnt is)
      (own_arrive, own_depart);
  lacks = (x.lacks.0, x.lacks.1, last_event_count_kept event_arrives h p Depart x.lacks.0 refl ∙ x.lacks.2);
  gathered = record {
    long = x.gathered.long;
    is = kept_time_of_arrivals h (event p Depart ∷ []) x.complete (slice_index b.gathered)
        (posted_mail_other_kind p Depart Arrive (λ e. absurd cc)) x.gathered.is;
  };
}
  where
    more : event_count event_arrives h p ≡ event_count event_departs h p + 1
    more = (arrivals_balanced s h p well).waiting allowed.0 allowed.1

    most : event_count event_departs h p + 1 ≤ x.complete
    most = let one = allowed.2 x.lacks.0 x.lacks.1 in let e = x.lacks.2 in omega arith

    least : x.complete ≤ event_count event_arrives h p
    least = let item = each_item_at s.processors (IsAtBookBarrierStage h x.complete) b.stages p Away x.stages lt in
        barrier_stage_arrived h x.complete p (slice_index_or b.stages p Away)
        (x.stages.each p (slice_index_or b.stages p Away) item)

    own_arrive : event_count event_arrives (did h p Depart) p ≡ x.complete
    own_arrive = let same = last_event_count_kept event_arrives h p Depart p refl in let a = more in let c = most in let d =
        least in omega arith

    own_depart : event_count event_departs (did h p Depart) p ≡ x.complete
    own_depart = let one : event_count event_departs (did h p Depart) p ≡ event_count event_departs h p + 1 =
        last_event_count event_departs h p Depart in let a = more in let c = most in let d = least in omega arith

pub all_barrier_stages_here : (xs : List Stage) → list_all is_here_for_barrier_episode xs ≡ true → (k : ℕ) (x : Stage) → slice_get xs k ≡ Some x → Here ≡ x
all_barrier_stages_here [] all k x at = absurd (none-some x at)
all_barrier_stages_here (Here ∷ xs) all zero x at = same_Some Here x at
all_barrier_stages_here (Here ∷ xs) all (suc k) x at = all_barrier_stages_here xs all k x at
all_barrier_stages_here (Away ∷ xs) all k x at = absurd (true≢false (sym all))
all_barrier_stages_here (Free ∷ xs) all k x at = absurd (true≢false (sym all))

barrier_stages_not_here : (xs : List Stage) → list_all is_here_for_barrier_episode xs ≡ false
    → (k : ℕ) × (x : Stage) × (slice_get xs k ≡ Some x) × (Here ≢ x)
barrier_stages_not_here [] all = absurd (true≢false all)
barrier_stages_not_here (Here ∷ xs) all = let r = barrier_stages_not_here xs all in (suc r.0, r.1, r.2, r.3)
barrier_stages_not_here (Away ∷ xs) all = (0, Away, refl, λ e. absurd cc)
barrier_stages_not_here (Free ∷ xs) all = (0, Free, refl, λ e. absurd cc)

barrier_stage_lacks : (h : List Event) (n p : ℕ) (x : Stage) → Here ≢ x → IsAtBookBarrierStage h n p x → event_count event_arrives h p ≡ n
barrier_stage_lacks h n p Away isnt x = x.0
barrier_stage_lacks h n p Here isnt x = absurd (isnt refl)
barrier_stage_lacks h n p Free isnt x = x.0

-- the open episode gathers the arrival
pub barrier_stage_gathers_arrival : (s : Sizes) (h : List Event) (p n : ℕ) (t u : List ℕ) → event_count event_arrives h p ≡ n
    → IsBookStamp s.processors h (InPastOfSome h (BringsFromSomeArrival h n)) t
    → IsBookStamp s.processors (did h p Arrive) (InPast (did h p Arrive) p) u
    → IsBookStamp s.processors (did h p Arrive) (InPastOfSome (did h p Arrive) (BringsFromSomeArrival (did h p Arrive) n)) (join t u)
barrier_stage_gathers_arrival s h p n t u is x y =
    subst (λ m. IsBookStamp s.processors h (InPastOfSome h (BringsFromSomeArrival h m)) t
    → IsBookStamp s.processors (did h p Arrive) (InPastOfSome (did h p Arrive) (BringsFromSomeArrival (did h p Arrive) m)) (join t u))
    is
    (λ z. stamp_join s.processors (did h p Arrive)
    (InPastOfSome (did h p Arrive) (BringsFromSomeArrival (did h p Arrive) (event_count event_arrives h p))) t u z.long y.long
    (kept_time_arrival_joins h (event p Arrive) (slice_index t) (slice_index u) refl z.is y.is)) x

-- an event's processor is within the sizes
barrier_stage_within_sizes : (s : Sizes) (h : List Event) (q i : ℕ) (k : Kind) → WellFormed s h → EventAt h i (event q k)
    → q < s.processors
barrier_stage_within_sizes s h q i k well at = (well i (event q k) at).processor

-- an idle processor arrives
module _ (s : Sizes) (h : List Event) (p : ℕ) (b : BarrierEpisodes) (well : WellFormed s h) (idle : AwaitsNothingNext h p)
    (lt : p < s.processors) (x : IsBookBarrier s h b) where
  -- all stages then, before the episode is looked at
  pub arrived_barrier_stages : (event_count event_arrives h p ≡ x.complete)
      × EachStampedAt s.processors (IsAtBookBarrierStage (did h p Arrive) x.complete) (slice_set b.stages p Here)
  arrived_barrier_stages = (
    here.0,
    each_set s.processors (IsAtBookBarrierStage h x.complete) (IsAtBookBarrierStage (did h p Arrive) x.complete)
        b.stages p Here x.stages (λ q st isnt at is. barrier_stage_others h p Arrive x.complete q st isnt is)
        (own_arrive, own_depart),
  )
    where
      here : IsAtBookBarrierStage h x.complete p Away
      here =
          let item = each_is_at s.processors (IsAtBookBarrierStage h x.complete) b.stages p Away x.stages lt in
          subst (λ st. IsAtBookBarrierStage h x.complete p st)
          (sym (barrier_stage_away h x.complete p (slice_index_or b.stages p Away) (barrier_stage_idle_counts s h p well idle) item)) item

      own_arrive : event_count event_arrives (did h p Arrive) p ≡ x.complete + 1
      own_arrive =
          let one : event_count event_arrives (did h p Arrive) p ≡ event_count event_arrives h p + 1 =
          last_event_count event_arrives h p Arrive in
          let e = here.0 in
          omega arith

      own_depart : event_count event_departs (did h p Arrive) p ≡ x.complete
      own_depart = last_event_count_kept event_departs h p Arrive p refl ∙ here.1

  -- when all are here, each is
  pub arrived_barrier_stages_here : list_all is_here_for_barrier_episode (slice_set b.stages p Here) ≡ true → (q : ℕ) → q < s.processors
      → IsAtBookBarrierStage (did h p Arrive) x.complete q Here
  arrived_barrier_stages_here full q less =
      let all = arrived_barrier_stages.1 in
      let item = each_item_at s.processors (IsAtBookBarrierStage (did h p Arrive) x.complete) (slice_set b.stages p Here)
      q Away all less in
      subst (λ st. IsAtBookBarrierStage (did h p Arrive) x.complete q st)
      (sym (all_barrier_stages_here (slice_set b.stages p Here) full q (slice_index_or (slice_set b.stages p Here) q Away) item))
      (all.each q (slice_index_or (slice_set b.stages p Here) q Away) item)

  module _ (u : List ℕ) (time : IsBookStamp s.processors (did h p Arrive) (InPast (did h p Arrive) p) u) where
    -- when not all are here, the episode stays open
    pub barrier_stage_waits : barrier_episode_full (barrier_episode_with_one_more b p u) ≡ false → (y : IsBookBarrier s (did h p Arrive) (barrier_episode_with_one_more b p u))
        × ((q : ℕ) → q < s.processors → y.complete ≤ event_count event_arrives h q) × (event_count event_arrives h p ≡ y.complete)
    barrier_stage_waits open_still = (
      record {
        complete = x.complete;
        stages = all.1;
        lacks = (
          r.0,
          subst (λ m. r.0 < m) all.1.long (slice_get_within (slice_set b.stages p Here) r.0 r.1 r.2),
          barrier_stage_lacks (did h p Arrive) x.complete r.0 r.1 r.3 (all.1.each r.0 r.1 r.2),
        );
        gathered = barrier_stage_gathers_arrival s h p x.complete b.gathered u all.0 x.gathered time;
      },
      λ q less. barrier_stage_arrived h x.complete q (slice_index_or b.stages q Away)
          (each_is_at s.processors (IsAtBookBarrierStage h x.complete) b.stages q Away x.stages less),
      all.0,
    )
      where
        all : (event_count event_arrives h p ≡ x.complete)
            × EachStampedAt s.processors (IsAtBookBarrierStage (did h p Arrive) x.complete) (slice_set b.stages p Here)
        all = arrived_barrier_stages

        r : (k : ℕ) × (st : Stage) × (slice_get (slice_set b.stages p Here) k ≡ Some st) × (Here ≢ st)
        r = barrier_stages_not_here (slice_set b.stages p Here) open_still

    module _ (next : WellFormed s (did h p Arrive)) (full : barrier_episode_full (barrier_episode_with_one_more b p u) ≡ true) where
      -- when all are here, all are free, and nobody has arrived at the next episode
      pub barrier_stage_completes : IsBookBarrier s (did h p Arrive) (completed_barrier_episode true (barrier_episode_with_one_more b p u))
      barrier_stage_completes = record {
        complete = x.complete + 1;
        stages = subst (λ n. EachStampedAt n (IsAtBookBarrierStage (did h p Arrive) (x.complete + 1))
            (replicate (length (slice_set b.stages p Here)) Free)) long
            (record { long = length-replicate {A = Stage} (length (slice_set b.stages p Here)) Free; each = each });
        lacks = (p, lt, (arrived_barrier_stages_here full p lt).0);
        gathered = subst (λ n. IsBookStamp s.processors (did h p Arrive)
            (InPastOfSome (did h p Arrive) (BringsFromSomeArrival (did h p Arrive) (x.complete + 1))) (replicate n 0)) (sym long)
            (stamp_none s.processors (did h p Arrive)
            (InPastOfSome (did h p Arrive) (BringsFromSomeArrival (did h p Arrive) (x.complete + 1)))
            (λ i some. nobody some.0 some.1));
      }
        where
          long : length (slice_set b.stages p Here) ≡ s.processors
          long = arrived_barrier_stages.1.long

          each : (q : ℕ) (st : Stage) → slice_get (replicate (length (slice_set b.stages p Here)) Free) q ≡ Some st
              → IsAtBookBarrierStage (did h p Arrive) (x.complete + 1) q st
          each q st at =
              let within = slice_get_within (replicate (length (slice_set b.stages p Here)) Free) q st at in
              let same = length-replicate {A = Stage} (length (slice_set b.stages p Here)) Free in
              let all = long in
              let counts = arrived_barrier_stages_here full q (omega arith) in
              subst (λ y. IsAtBookBarrierStage (did h p Arrive) (x.complete + 1) q y)
              (slice_get-replicate_found (length (slice_set b.stages p Here)) Free st q at)
              (counts.0, ap (λ m. m + 1) counts.1)

          nobody : (i : ℕ) → ¬ BringsFromSomeArrival (did h p Arrive) (x.complete + 1) i
          nobody i some =
              let less = barrier_stage_within_sizes s (did h p Arrive) some.0 i Arrive next some.1.does in
              let front = event_count-inside event_arrives (did h p Arrive) i some.0 Arrive some.1.does refl in
              let number = some.1.number in
              let counts = (arrived_barrier_stages_here full some.0 less).0 in
              absurd (omega arith)

      -- then each is allowed to depart, with the join of all arrivals
      pub barrier_stage_lets_all : (q : ℕ) → q < s.processors → WellFormedAllows s (did h p Arrive) q Depart
          × IsBookStamp s.processors (did h p Arrive) (Brings (did h p Arrive) q Depart) (join b.gathered u)
      barrier_stage_lets_all q less = (
        (
          waits.0,
          waits.1,
          λ r below. (let one = (arrived_barrier_stages_here full r below).0 in let d = (arrived_barrier_stages_here full q less).1 in omega arith),
        ),
        brings,
      )
        where
          waits : (i : ℕ) × LastIs (did h p Arrive) q i Arrive
          waits =
              let counts = arrived_barrier_stages_here full q less in
              let a = counts.0 in
              let d = counts.1 in
              waits_at_barrier_stage s (did h p Arrive) q next (omega arith)

          brings : IsBookStamp s.processors (did h p Arrive) (Brings (did h p Arrive) q Depart) (join b.gathered u)
          brings = subst (λ n. IsBookStamp s.processors (did h p Arrive)
              (InPastOfSome (did h p Arrive) (BringsFromSomeArrival (did h p Arrive) n)) (join b.gathered u))
              (sym (arrived_barrier_stages_here full q less).1)
              (barrier_stage_gathers_arrival s h p x.complete b.gathered u arrived_barrier_stages.0 x.gathered time)
