-- Where a journal is cut, event by event.
use Rattle.std.proofs.Common.{◌≡◌, ℕ, ◌+◌, ◌<◌, ◌≤◌, inl, inr, ◌↔◌, List, [], ◌∷◌, ◌++◌, Option, Some, None, MatchOption, IsTrue, length, take, slice_index, cond, ◌==◌, ◌&&◌, subst, subst₂, sym, refl, ap, ◌∙◌, length-append, arith}
use Rattle.std.proofs.lemmas.Bool.{cases_lt}
use Rattle.std.proofs.lemmas.List.{take-append-le, length-take-le}
use Rattle.std.proofs.Math.Seq.{take-length}
use Rattle.journal.specs.declared.event.Event.{Event}
use Rattle.journal.specs.declared.event.Kind.{Kind}
use Rattle.journal.specs.declared.event.Kind.TheVariants.{Arrive}
use Rattle.journal.specs.DidEvent.{event}
use Rattle.journal.specs.Events.{EventAt, event_count, event_arrives}
use Rattle.journal.specs.declared.episodes.Episodes.{Episodes}
use Rattle.journal.specs.EpisodeBases.{EndsBaseEpisode, IsEpisodeBaseFront, NoEpisodeBaseFront}
use Rattle.journal.specs.CutEpisodes.{AreCutEpisodes}
use Rattle.journal.proofs.Order.EventPlacesAndCounts.{event_place_same, event_place_at_end, event_place_inside}
use Rattle.journal.proofs.Passes.NextClocks.{next_clocks_front}
use Rattle.journal.proofs.Passes.NextRaces.{next_race_count}

cut_place_arrival : (k : Kind) → IsTrue (event_arrives k) → k ≡ Arrive
cut_place_arrival Arrive h = refl
cut_place_arrival _ h = absurd cc

-- a journal ends an episode exactly where its last event is an arrival, and every processor has arrived as often
pub cut_place_push : (processors : ℕ) (xs : List Event) (e : Event)
    → EndsBaseEpisode processors (xs ++ e ∷ [])
    ↔ (IsTrue (event_arrives e.kind)
    × ((q : ℕ) → q < processors
    → event_count event_arrives (xs ++ e ∷ []) e.processor ≤ event_count event_arrives (xs ++ e ∷ []) q))
cut_place_push processors xs e = (there, back)
  where
    there : EndsBaseEpisode processors (xs ++ e ∷ [])
        → IsTrue (event_arrives e.kind)
        × ((q : ℕ) → q < processors
        → event_count event_arrives (xs ++ e ∷ []) e.processor ≤ event_count event_arrives (xs ++ e ∷ []) q)
    there x =
        let long = length-append xs (e ∷ []) in
        let long_front = length-append x.front (event x.by Arrive ∷ []) in
        let same = ap (λ (ys : List Event). length ys) x.arrives in
        let at : length x.front ≡ length xs = omega arith in
        let is : e ≡ event x.by Arrive =
        event_place_same (xs ++ e ∷ []) (length xs) e (event x.by Arrive) (event_place_at_end xs e) (subst
        (λ n. EventAt (xs ++ e ∷ []) n (event x.by Arrive)) at (subst
        (λ (ys : List Event). EventAt ys (length x.front) (event x.by Arrive)) (sym x.arrives)
        (event_place_at_end x.front (event x.by Arrive))))
        in
        let by : e.processor ≡ x.by = ap (λ (y : Event). y.processor) is in (
          ap (λ (y : Event). event_arrives y.kind) is,
          λ q h. subst
              (λ p. event_count event_arrives (xs ++ e ∷ []) p ≤ event_count event_arrives (xs ++ e ∷ []) q) (sym by) (x.all q h),
        )

    back : IsTrue (event_arrives e.kind)
        × ((q : ℕ) → q < processors
        → event_count event_arrives (xs ++ e ∷ []) e.processor ≤ event_count event_arrives (xs ++ e ∷ []) q)
        → EndsBaseEpisode processors (xs ++ e ∷ [])
    back x =
        record {
          front = xs;
          by = e.processor;
          arrives = ap (λ k. xs ++ event e.processor k ∷ []) (cut_place_arrival e.kind x.0);
          all = x.1;
        }

module _ (processors : ℕ) (xs : List Event) (e : Event) where
  cut_place_front : (n : ℕ) → n ≤ length xs → take n (xs ++ e ∷ []) ≡ take n xs
  cut_place_front n le = take-append-le n xs (e ∷ []) le

  cut_place_whole : take (length xs + 1) (xs ++ e ∷ []) ≡ xs ++ e ∷ []
  cut_place_whole = ap (λ n. take n (xs ++ e ∷ [])) (sym (length-append xs (e ∷ []))) ∙ take-length (xs ++ e ∷ [])

  -- where the journal with one more event ends an episode, it is cut whole
  pub cut_place_now : EndsBaseEpisode processors (xs ++ e ∷ []) → IsEpisodeBaseFront processors (xs ++ e ∷ []) (length xs + 1)
  cut_place_now ends = record {
    within = (let long = length-append xs (e ∷ []) in omega arith);
    ends = subst (EndsBaseEpisode processors) (sym cut_place_whole) ends;
    last = λ m le x. (let long = length-append xs (e ∷ []) in omega arith);
  }

  -- and else it is cut as before
  pub cut_place_later : (o : Option ℕ) → ¬ EndsBaseEpisode processors (xs ++ e ∷ [])
      → MatchOption o (NoEpisodeBaseFront processors xs) (IsEpisodeBaseFront processors xs)
      → MatchOption o (NoEpisodeBaseFront processors (xs ++ e ∷ [])) (IsEpisodeBaseFront processors (xs ++ e ∷ []))
  cut_place_later o isnt h = go o h
    where
      at_end : (n : ℕ) → length xs < n → n ≤ length (xs ++ e ∷ []) → ¬ EndsBaseEpisode processors (take n (xs ++ e ∷ []))
      at_end n lt le ends =
          (let long = length-append xs (e ∷ []) in let is : n ≡ length xs + 1 = omega arith in
          isnt (subst (EndsBaseEpisode processors) (ap (λ m. take m (xs ++ e ∷ [])) is ∙ cut_place_whole) ends))

      go : (o' : Option ℕ) → MatchOption o' (NoEpisodeBaseFront processors xs) (IsEpisodeBaseFront processors xs)
          → MatchOption o' (NoEpisodeBaseFront processors (xs ++ e ∷ [])) (IsEpisodeBaseFront processors (xs ++ e ∷ []))
      go None none =
          λ n le ends. elim (cases_lt (length xs) n) [
            | inl lt ↦ at_end n lt le ends
            | inr old ↦ none n old (subst (EndsBaseEpisode processors) (cut_place_front n old) ends)
          ]
      go (Some n) cut = record {
        within = (let long = length-append xs (e ∷ []) in let within = cut.within in omega arith);
        ends = subst (EndsBaseEpisode processors) (sym (cut_place_front n cut.within)) cut.ends;
        last =
            λ m le ends. elim (cases_lt (length xs) m) [
              | inl lt ↦ absurd (at_end m lt le ends)
              | inr old ↦ cut.last m old (subst (EndsBaseEpisode processors) (cut_place_front m old) ends)
            ];
      }

-- the event e at the next place is counted
module _ (processors : ℕ) (events : List Event) (place : ℕ) (e : Event) (at : EventAt events place e) (x : Episodes)
    (new : List ℕ)
    (counts : (q : ℕ) → slice_index new q
    ≡ slice_index x.arrivals q + cond ((e.processor == q) && event_arrives e.kind) 1 0)
    (are : AreCutEpisodes processors (take place events) x) where
  cut_place_next : take (place + 1) events ≡ take place events ++ e ∷ []
  cut_place_next = next_clocks_front events place e at

  cut_place_counted : (q : ℕ) → slice_index new q ≡ event_count event_arrives (take (place + 1) events) q
  cut_place_counted q =
      let old = are.arrivals q in
      let step = next_race_count event_arrives events place q e at in
      let now = counts q in
      omega arith

  cut_place_pushed : (q : ℕ) → slice_index new q ≡ event_count event_arrives (take place events ++ e ∷ []) q
  cut_place_pushed q = cut_place_counted q ∙ ap (λ (xs : List Event). event_count event_arrives xs q) cut_place_next

  -- it is the last arrival of an episode
  abbrev IsCutPlaceLast : Type 0
  IsCutPlaceLast =
      IsTrue (event_arrives e.kind) × ((q : ℕ) → q < processors → slice_index new e.processor ≤ slice_index new q)

  cut_place_last_ends : IsCutPlaceLast → EndsBaseEpisode processors (take place events ++ e ∷ [])
  cut_place_last_ends last =
      (cut_place_push processors (take place events) e).1
      (last.0, λ q h. subst₂ (λ (m n : ℕ). m ≤ n) (cut_place_pushed e.processor) (cut_place_pushed q) (last.1 q h))

  cut_place_from_end : EndsBaseEpisode processors (take place events ++ e ∷ []) → IsCutPlaceLast
  cut_place_from_end ends =
      let is = (cut_place_push processors (take place events) e).0 ends in
      (is.0, λ q h. subst₂ (λ (m n : ℕ). m ≤ n) (sym (cut_place_pushed e.processor)) (sym (cut_place_pushed q)) (is.1 q h))

  pub cut_place_ends : IsCutPlaceLast
      → AreCutEpisodes processors (take (place + 1) events) (record { arrivals = new; last = Some (place + 1) })
  cut_place_ends last =
      let lt = event_place_inside events place e at in
      let long : length (take place events) ≡ place = length-take-le place events (omega arith) in
      record {
        arrivals = cut_place_counted;
        last =
            subst₂ (λ (xs : List Event) (n : ℕ). IsEpisodeBaseFront processors xs n) (sym cut_place_next) (ap (λ n. n + 1) long)
            (cut_place_now processors (take place events) e (cut_place_last_ends last));
      }

  pub cut_place_lasts : ¬ IsCutPlaceLast → AreCutEpisodes processors (take (place + 1) events) (record x { arrivals = new })
  cut_place_lasts isnt = record {
    arrivals = cut_place_counted;
    last =
        subst (λ (xs : List Event). MatchOption x.last (NoEpisodeBaseFront processors xs) (λ n. IsEpisodeBaseFront processors xs n)) (sym cut_place_next)
        (cut_place_later processors (take place events) e x.last (λ ends. isnt (cut_place_from_end ends)) are.last);
  }
