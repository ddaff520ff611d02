-- One cut after another: what is left of what is left.
use Rattle.std.proofs.Common.{◌≡◌, ℕ, ◌+◌, ◌<◌, ◌≤◌, inl, inr, ◌↔◌, List, [], ◌∷◌, ◌++◌, length, take, Some, slice_get, subst, sym, ap, ◌∙◌, append_assoc, arith}
use Rattle.std.proofs.Math.Seq.{take-append-add}
use Rattle.std.proofs.lemmas.List.{take-append-le}
use Rattle.journal.specs.declared.event.Event.{Event}
use Rattle.journal.specs.declared.event.Kind.TheVariants.{Load, Arrive}
use Rattle.journal.specs.DidEvent.{event}
use Rattle.journal.specs.Sizes.{Sizes, addresses}
use Rattle.journal.specs.Events.{event_count, event_arrives}
use Rattle.journal.specs.WellFormed.{WellFormed}
use Rattle.journal.specs.Races.{RaceFree}
use Rattle.journal.specs.ReplayMemory.{memory_after, Replays}
use Rattle.journal.specs.Base.{Base, no_base}
use Rattle.journal.specs.RacesFromBase.{RaceFreeFromBase}
use Rattle.journal.specs.EpisodeBases.{EndsBaseEpisode, IsEpisodeBaseAfter, IsEpisodeBaseOf}
use Rattle.base.proofs.SlicesAndCounts.{slice_append_cases}
use Rattle.journal.proofs.Order.EventPlacesAndCounts.{event_place_inside, event_place_longer, event_place_behind, event_count-append}
use Rattle.journal.proofs.Journals.WellFormedStays.{well_formed_stays_front, well_formed_stays_push}
use Rattle.journal.proofs.FromBase.CutBeforeLeft.{CutBeforeLeftCase, cut_before_left_case, cut_before_left_counts, cut_before_left_even, cut_before_left_present, cut_before_left}
use Rattle.journal.proofs.FromBase.BaseAppend.{base_append_memory, base_append}
use Rattle.journal.proofs.FromBase.RacesAcrossCut.{race_across_cut_none, race_across_cut_free}

-- a history replays exactly where what was cut off does, and what is left from the memory after it
pub cut_again_replays : (start : List ℕ) (c j : List Event)
    → Replays start (c ++ j) ↔ (Replays start c × Replays (memory_after start c) j)
cut_again_replays start c j = ((λ cut_again_all_arrived. (front cut_again_all_arrived, left cut_again_all_arrived)), (λ both. back both.0 both.1))
  where
    word : (ws vs : List ℕ) (a v : ℕ) → ws ≡ vs → slice_get ws a ≡ Some v → slice_get vs a ≡ Some v
    word ws vs a v is h = ap (λ (xs : List ℕ). slice_get xs a) (sym is) ∙ h

    within : (i : ℕ) → i < length c → memory_after start (take i (c ++ j)) ≡ memory_after start (take i c)
    within i lt = ap (memory_after start) (take-append-le i c j (omega arith))

    behind : (i : ℕ)
        → memory_after start (take (length c + i) (c ++ j)) ≡ memory_after (memory_after start c) (take i j)
    behind i = ap (memory_after start) (take-append-add c j i) ∙ base_append_memory start c (take i j)

    front : Replays start (c ++ j) → Replays start c
    front cut_again_all_arrived i p a v does =
        word (memory_after start (take i (c ++ j))) (memory_after start (take i c)) a v
        (within i (event_place_inside c i (event p (Load a v)) does))
        (cut_again_all_arrived i p a v (event_place_longer c j i (event p (Load a v)) does))

    left : Replays start (c ++ j) → Replays (memory_after start c) j
    left cut_again_all_arrived i p a v does =
        word (memory_after start (take (length c + i) (c ++ j))) (memory_after (memory_after start c) (take i j)) a v
        (behind i) (cut_again_all_arrived (length c + i) p a v (event_place_behind c j i (event p (Load a v)) does))

    back : Replays start c → Replays (memory_after start c) j → Replays start (c ++ j)
    back cut rest i p a v does = elim (slice_append_cases c j i (event p (Load a v)) does) [
      | inl old ↦ word (memory_after start (take i c)) (memory_after start (take i (c ++ j))) a v
          (sym (within i old.0)) (cut i p a v old.1)
      | inr new ↦ word (memory_after (memory_after start c) (take new.0 j)) (memory_after start (take i (c ++ j))) a v
          (sym (ap (λ n. memory_after start (take n (c ++ j))) new.1 ∙ behind new.0)) (rest new.0 p a v new.2)
    ]

-- what follows what was cut off, d, is cut off in turn
module _ (s : Sizes) (c d : List Event) (b after : Base) (well : WellFormed s (c ++ d))
    (base : IsEpisodeBaseOf s.processors (addresses s) c b) (ends : EndsBaseEpisode s.processors d) (free : RaceFreeFromBase b d)
    (kept : IsEpisodeBaseAfter b d after) where
  cut_again_well_formed : WellFormed s c
  cut_again_well_formed = well_formed_stays_front s c d well

  cut_again_base_sort : CutBeforeLeftCase s.processors b c
  cut_again_base_sort = cut_before_left_case s c b cut_again_well_formed base

  cut_again_within : ends.by < s.processors
  cut_again_within =
      ((well_formed_stays_push s (c ++ ends.front) (event ends.by Arrive)).0 (subst (WellFormed s) (ap
      (λ (xs : List Event). c ++ xs) ends.arrives
      ∙ sym (append_assoc c ends.front (event ends.by Arrive ∷ [])))
      well)).1.processor

  cut_again_all_arrived : (q : ℕ) → q < s.processors → event_count event_arrives (c ++ d) ends.by ≤ event_count event_arrives (c ++ d) q
  cut_again_all_arrived q within =
      let n = cut_before_left_counts s.processors b c cut_again_base_sort in
      let x = event_count-append event_arrives c d ends.by in
      let y = event_count-append event_arrives c d q in
      let le = ends.all q within in
      omega (arith, (n.1 q within).0, (n.1 ends.by cut_again_within).0)

  cut_again_race_free : RaceFree (c ++ d)
  cut_again_race_free =
      let e = cut_before_left_even s.processors c d b cut_again_base_sort (cut_before_left_present s c d well) in
      (race_across_cut_free b c d e.0 e.1 (race_across_cut_none c d (cut_before_left s c d b well cut_again_base_sort) base.race_free)).1 free

  -- and what is kept after it is what the two leave
  pub cut_again_base_after : IsEpisodeBaseOf s.processors (addresses s) (c ++ d) after
  cut_again_base_after = record {
    after = base_append (no_base (addresses s)) b after c d base.after kept;
    ends =
        inr (record {
          front = c ++ ends.front;
          by = ends.by;
          arrives = ap (λ (xs : List Event). c ++ xs) ends.arrives
              ∙ sym (append_assoc c ends.front (event ends.by Arrive ∷ []));
          all = cut_again_all_arrived;
        });
    race_free = cut_again_race_free;
  }
