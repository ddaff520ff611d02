-- The barrier's episodes: each is complete when all processors have arrived.
use Rattle.std.specs.Prelude.{ℕ, ◌≡◌, Bool, true, false, List, [], ◌∷◌, ◌++◌, length, replicate, slice_set, count_by}
use Rattle.std.specs.List.{list_all, fold}
use Rattle.vtime.specs.TicksAndJoins.{join}
use Rattle.barrier.specs.declared.barrier.Stage.{Stage}
use Rattle.barrier.specs.declared.barrier.Stage.TheVariants.{Away, Here, Free}

-- where each processor is, the join of the open episode's arrivals so far, and that of the last
-- complete episode's
pub record BarrierEpisodes : Type 0 where
  pub stages : List Stage
  pub gathered : List ℕ
  pub last : List ℕ

-- n processors, none of which has arrived
abbrev pub unmet_barrier_episodes : ℕ → BarrierEpisodes
unmet_barrier_episodes n = record { stages = replicate n Away; gathered = replicate n 0; last = replicate n 0 }

abbrev pub is_here_for_barrier_episode : Stage → Bool
is_here_for_barrier_episode Here = true
is_here_for_barrier_episode _ = false

-- all have arrived for the open episode
abbrev pub barrier_episode_full : BarrierEpisodes → Bool
barrier_episode_full b = list_all is_here_for_barrier_episode b.stages

-- a full episode is complete: all may depart, and the next one opens
abbrev pub completed_barrier_episode : Bool → BarrierEpisodes → BarrierEpisodes
completed_barrier_episode false b = b
completed_barrier_episode true b = record {
  stages = replicate (length b.stages) Free;
  gathered = replicate (length b.stages) 0;
  last = b.gathered;
}

-- p is here, at this time
abbrev pub barrier_episode_with_one_more : BarrierEpisodes → ℕ → List ℕ → BarrierEpisodes
barrier_episode_with_one_more b p time = record b { stages = slice_set b.stages p Here; gathered = join b.gathered time }

-- the barrier after p arrived at this time
abbrev pub barrier_episode_arrived : BarrierEpisodes → ℕ → List ℕ → BarrierEpisodes
barrier_episode_arrived b p time = completed_barrier_episode (barrier_episode_full (barrier_episode_with_one_more b p time)) (barrier_episode_with_one_more b p time)

-- the barrier after p departed
abbrev pub barrier_episode_departed : BarrierEpisodes → ℕ → BarrierEpisodes
barrier_episode_departed b p = record b { stages = slice_set b.stages p Away }

-- the greatest entries by place of these times of n processors
abbrev pub joins_for_barrier_episode : ℕ → List (List ℕ) → List ℕ
joins_for_barrier_episode n times = fold join (replicate n 0) times

-- the open episode's arrivals so far came at these times
pub record HasGatheredForBarrierEpisode (b : BarrierEpisodes) (times : List (List ℕ)) : Type 0 where
  pub joined_are : b.gathered ≡ joins_for_barrier_episode (length b.stages) times
  pub count_is : count_by is_here_for_barrier_episode b.stages ≡ length times

-- an arrival at this time completes the episode, with the join of all its arrivals, or is gathered
abbrev pub GathersForBarrierEpisode : Bool → BarrierEpisodes → List ℕ → List (List ℕ) → Type 0
GathersForBarrierEpisode true new time times =
    (new.last ≡ joins_for_barrier_episode (length new.stages) (times ++ time ∷ [])) × HasGatheredForBarrierEpisode new []
GathersForBarrierEpisode false new time times = HasGatheredForBarrierEpisode new (times ++ time ∷ [])
