-- An episode is full exactly where as many are here as there are processors.
use Rattle.std.proofs.Common.{ℕ, Bool, ◌≡◌, ◌+◌, ◌↔◌, true, cond, nat_eq, inl, inr, Some, List, [], ◌∷◌, ◌++◌, length, set, drop, replicate, count_by, slice_get, refl, sym, ap, ◌∙◌, arith}
use Rattle.std.specs.List.{list_all, refill}
use Rattle.std.proofs.lemmas.Bool.{false≢true, cases_Bool, both_ways, eq-eqb, ne_eqb}
use Rattle.std.proofs.lemmas.List.{length-set, length_push, take_at}
use Rattle.std.proofs.lemmas.List.Sums.{sum_by-cons, sum_by-set, count_by-le-length, fold_push}
use Rattle.std.proofs.lemmas.Option.{get_or_from_slice_get, slice_get_within}
use Rattle.barrier.specs.declared.barrier.Stage.{Stage}
use Rattle.barrier.specs.declared.barrier.Stage.TheVariants.{Away, Here, Free}
use Rattle.vtime.specs.TicksAndJoins.{join}
use Rattle.barrier.specs.BarrierEpisodes.{BarrierEpisodes, is_here_for_barrier_episode, barrier_episode_with_one_more, barrier_episode_departed, joins_for_barrier_episode, HasGatheredForBarrierEpisode}

-- one, or none
abbrev one_arrival : Stage → ℕ
one_arrival stage = cond (is_here_for_barrier_episode stage) 1 0

pub last_arrivals_all_counted : (stages : List Stage) → list_all is_here_for_barrier_episode stages ≡ true → count_by is_here_for_barrier_episode stages ≡ length stages
last_arrivals_all_counted [] all = refl
last_arrivals_all_counted (Here ∷ stages) all =
    let rest = last_arrivals_all_counted stages all in let e = sum_by-cons one_arrival Here stages in omega arith
last_arrivals_all_counted (Away ∷ stages) all = absurd (false≢true all)
last_arrivals_all_counted (Free ∷ stages) all = absurd (false≢true all)

pub last_arrivals_counted_all : (stages : List Stage) → count_by is_here_for_barrier_episode stages ≡ length stages → list_all is_here_for_barrier_episode stages ≡ true
last_arrivals_counted_all [] full = refl
last_arrivals_counted_all (Here ∷ stages) full = last_arrivals_counted_all stages (let e = sum_by-cons one_arrival Here stages in omega arith)
last_arrivals_counted_all (Away ∷ stages) full =
    let most = count_by-le-length is_here_for_barrier_episode stages in let e = sum_by-cons one_arrival Away stages in absurd (omega arith)
last_arrivals_counted_all (Free ∷ stages) full =
    let most = count_by-le-length is_here_for_barrier_episode stages in let e = sum_by-cons one_arrival Free stages in absurd (omega arith)

-- the arrival of one who was away is the last exactly where all others are here
pub last_arrival : (stages : List Stage) (p : ℕ) → slice_get stages p ≡ Some Away
    → (list_all is_here_for_barrier_episode (set stages p Here) ≡ true) ↔ (count_by is_here_for_barrier_episode stages + 1 ≡ length stages)
last_arrival stages p away =
    let within = slice_get_within stages p Away away in
    let more = sum_by-set one_arrival stages p Here Here within in
    let was = ap one_arrival (get_or_from_slice_get stages p Away Here away) in
    let long = length-set stages p Here in (
      λ all. let full = last_arrivals_all_counted (set stages p Here) all in
          omega arith,
      λ count. last_arrivals_counted_all (set stages p Here) (omega arith),
    )

-- the test of the count is the test of all, once p is here
pub last_arrival_test : (stages : List Stage) (p n m : ℕ) → slice_get stages p ≡ Some Away
    → n ≡ count_by is_here_for_barrier_episode stages → m ≡ length stages
    → nat_eq (n + 1) m ≡ list_all is_here_for_barrier_episode (set stages p Here)
last_arrival_test stages p n m away count long =
    let law = last_arrival stages p away in
    elim (cases_Bool (list_all is_here_for_barrier_episode (set stages p Here))) [
      | inl all ↦ let full = law.0 all in eq-eqb (n + 1) m (omega arith) ∙ sym all
      | inr some ↦ ne_eqb (n + 1) m (λ same. both_ways _ some (law.1 (omega arith))) ∙ sym some
    ]

-- a slice that is written back with another stage of p
pub arrival_written_back : (p : ℕ) (stage : Stage) (stages read old : List Stage) → read ≡ stages → stages ≡ old
    → refill (length stages) stages (set read p stage) ≡ set old p stage
arrival_written_back p stage stages read old same is =
    take_at (set read p stage) (drop (length (set read p stage)) stages) (length stages)
    (length-set read p stage ∙ ap (λ (ss : List Stage). length ss) same)
    ∙ ap (λ (ss : List Stage). set ss p stage) (same ∙ is)

-- whether one who was away comes last, by the test of what is read once it is here
pub last_arrival_by_slice : (old stages read now : List Stage) (p : ℕ) (full : Bool) → slice_get old p ≡ Some Away → read ≡ stages
    → stages ≡ old → now ≡ refill (length stages) stages (set read p Here) → full ≡ list_all is_here_for_barrier_episode now
    → (full ≡ true) ↔ (count_by is_here_for_barrier_episode old + 1 ≡ length old)
last_arrival_by_slice old stages read now p full away same is written test =
    let law = last_arrival old p away in
    let all = test
    ∙ ap (λ (ss : List Stage). list_all is_here_for_barrier_episode ss) (written ∙ arrival_written_back p Here stages read old same is) in
    (λ e. law.0 (sym all ∙ e), λ e. all ∙ law.1 e)

-- an arrival is gathered
pub last_arrival_gathered : (b : BarrierEpisodes) (p : ℕ) (time : List ℕ) (times : List (List ℕ)) → slice_get b.stages p ≡ Some Away
    → HasGatheredForBarrierEpisode b times → HasGatheredForBarrierEpisode (barrier_episode_with_one_more b p time) (times ++ time ∷ [])
last_arrival_gathered b p time times away has =
    let within = slice_get_within b.stages p Away away in
    let more = sum_by-set one_arrival b.stages p Here Here within in
    let was = ap one_arrival (get_or_from_slice_get b.stages p Away Here away) in
    let long = length-set b.stages p Here in
    let n = length b.stages in
    record {
      joined_are =
          ap (λ (t : List ℕ). join t time) has.joined_are ∙ sym (fold_push join (replicate n 0) times time)
          ∙ ap (λ (m : ℕ). joins_for_barrier_episode m (times ++ time ∷ [])) (sym long);
      count_is = let count = has.count_is in let one = length_push times time in omega arith;
    }

-- a departure gathers nothing
pub last_arrivals_after_departure : (b : BarrierEpisodes) (p : ℕ) (times : List (List ℕ)) → slice_get b.stages p ≡ Some Free
    → HasGatheredForBarrierEpisode b times → HasGatheredForBarrierEpisode (barrier_episode_departed b p) times
last_arrivals_after_departure b p times free has =
    let within = slice_get_within b.stages p Free free in
    let more = sum_by-set one_arrival b.stages p Away Away within in
    let was = ap one_arrival (get_or_from_slice_get b.stages p Free Away free) in
    let long = length-set b.stages p Away in
    record {
      joined_are = has.joined_are ∙ ap (λ (m : ℕ). joins_for_barrier_episode m times) (sym long);
      count_is = let count = has.count_is in omega arith;
    }
