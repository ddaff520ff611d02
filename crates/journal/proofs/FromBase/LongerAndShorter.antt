-- A journal's order and its first race, read from a base, are those of every journal that begins with it.
use Rattle.std.proofs.Common.{ℕ, ◌+◌, ◌<◌, ◌≤◌, inl, inr, List, ◌++◌, length, take, drop, subst, sym, ap, ◌∙◌, take-take, take-append-drop, length-append, lt_trans, arith}
use Rattle.std.proofs.lemmas.Bool.{cases_lt}
use Rattle.std.proofs.lemmas.List.{take-append-le}
use Rattle.journal.specs.declared.event.Event.{Event}
use Rattle.journal.specs.Events.{event_arrives, event_departs}
use Rattle.journal.specs.Base.{Base, base_arrivals_cut}
use Rattle.journal.specs.HappensBeforeFromBase.{HappensBeforeLinkFromBase, HappensBeforeEdgeFromBase, HappensBeforeFromBase}
use Rattle.journal.specs.HappensBeforeFromBase.HappensBeforeLinkFromBase.{same, lets, meets}
use Rattle.journal.specs.HappensBeforeFromBase.HappensBeforeFromBase.{edge, on}
use Rattle.journal.specs.RacesFromBase.{RaceFromBase, IsFirstRaceFromBase}
use Rattle.journal.specs.EpisodeBases.{EndsBaseEpisode, IsEpisodeBaseFront}
use Rattle.journal.specs.CutEpisodes.{IsRaceOfCutEpisodes}
use Rattle.journal.proofs.Order.EventPlacesAndCounts.{event_place_inside, event_place_longer, event_place_shorter, event_count-front}

module _ (b : Base) (j es : List Event) where
  longer_link_from_base : (i k : ℕ) (e f : Event) → i ≤ length j → k ≤ length j → HappensBeforeLinkFromBase b j i k e f
      → HappensBeforeLinkFromBase b (j ++ es) i k e f
  longer_link_from_base i k e f hi hk (same s) = same s
  longer_link_from_base i k e f hi hk (lets l) = lets l
  longer_link_from_base i k e f hi hk (meets m) =
      meets (record {
        arrives = m.arrives;
        departs = m.departs;
        episode = ap (λ n. n + base_arrivals_cut b) (event_count-front event_arrives j es i e.processor hi) ∙ m.episode
            ∙ sym (event_count-front event_departs j es k f.processor hk);
      })

  shorter_link_from_base : (i k : ℕ) (e f : Event) → i ≤ length j → k ≤ length j → HappensBeforeLinkFromBase b (j ++ es) i k e f
      → HappensBeforeLinkFromBase b j i k e f
  shorter_link_from_base i k e f hi hk (same s) = same s
  shorter_link_from_base i k e f hi hk (lets l) = lets l
  shorter_link_from_base i k e f hi hk (meets m) =
      meets (record {
        arrives = m.arrives;
        departs = m.departs;
        episode = sym (ap (λ n. n + base_arrivals_cut b) (event_count-front event_arrives j es i e.processor hi)) ∙ m.episode
            ∙ event_count-front event_departs j es k f.processor hk;
      })

  longer_edge_from_base : {i k : ℕ} → HappensBeforeEdgeFromBase b j i k → HappensBeforeEdgeFromBase b (j ++ es) i k
  longer_edge_from_base {i} {k} e =
      let x = event_place_inside j i e.from e.from_at in
      let y = event_place_inside j k e.to e.to_at in
      record {
        before = e.before;
        from = e.from;
        to = e.to;
        from_at = event_place_longer j es i e.from e.from_at;
        to_at = event_place_longer j es k e.to e.to_at;
        link = longer_link_from_base i k e.from e.to (omega arith) (omega arith) e.link;
      }

  shorter_edge_from_base : {i k : ℕ} → k < length j → HappensBeforeEdgeFromBase b (j ++ es) i k → HappensBeforeEdgeFromBase b j i k
  shorter_edge_from_base {i} {k} h e =
      let lt = e.before in
      let hi : i < length j = omega arith in
      record {
        before = e.before;
        from = e.from;
        to = e.to;
        from_at = event_place_shorter j es i e.from hi e.from_at;
        to_at = event_place_shorter j es k e.to h e.to_at;
        link = shorter_link_from_base i k e.from e.to (omega arith) (omega arith) e.link;
      }

  longer_before_from_base : {i k : ℕ} → HappensBeforeFromBase b j i k → HappensBeforeFromBase b (j ++ es) i k
  longer_before_from_base (edge e) = edge (longer_edge_from_base e)
  longer_before_from_base (on h e) = on (longer_before_from_base h) (longer_edge_from_base e)

  shorter_before_from_base : {i k : ℕ} → k < length j → HappensBeforeFromBase b (j ++ es) i k → HappensBeforeFromBase b j i k
  shorter_before_from_base lt (edge e) = edge (shorter_edge_from_base lt e)
  shorter_before_from_base lt (on h e) =
      let before = e.before in on (shorter_before_from_base (lt_trans e.before lt) h) (shorter_edge_from_base lt e)

  longer_race_from_base : (i k : ℕ) → RaceFromBase b j i k → RaceFromBase b (j ++ es) i k
  longer_race_from_base i k r = record {
    before = r.before;
    first = r.first;
    second = r.second;
    first_at = event_place_longer j es i r.first r.first_at;
    second_at = event_place_longer j es k r.second r.second_at;
    apart = r.apart;
    conflict = r.conflict;
    unordered = λ h. r.unordered (shorter_before_from_base (event_place_inside j k r.second r.second_at) h);
  }

  shorter_race_from_base : (i k : ℕ) → k < length j → RaceFromBase b (j ++ es) i k → RaceFromBase b j i k
  shorter_race_from_base i k lt r =
      let before = r.before in
      record {
        before = r.before;
        first = r.first;
        second = r.second;
        first_at = event_place_shorter j es i r.first (omega arith) r.first_at;
        second_at = event_place_shorter j es k r.second lt r.second_at;
        apart = r.apart;
        conflict = r.conflict;
        unordered = λ h. r.unordered (longer_before_from_base h);
      }

  -- the first race stays the first one
  pub longer_first_race_from_base : (i k : ℕ) → IsFirstRaceFromBase b j i k → IsFirstRaceFromBase b (j ++ es) i k
  longer_first_race_from_base i k first =
      let lt = event_place_inside j k first.race.second first.race.second_at in
      record {
        race = longer_race_from_base i k first.race;
        least_second =
            λ m n r. elim (cases_lt n (length j)) [
              | inl old ↦ first.least_second m n (shorter_race_from_base m n old r)
              | inr new ↦ omega arith
            ];
        least_first = λ m r. first.least_first m (shorter_race_from_base m k lt r);
      }

-- a part's first race stays one with more events
pub longer_part_race : (processors : ℕ) (b : Base) (j es : List Event) (i k : ℕ) → IsRaceOfCutEpisodes processors b j i k
    → IsRaceOfCutEpisodes processors b (j ++ es) i k
longer_part_race processors b j es i k r =
    let same = sym (take-append-le r.count j es r.within) in
    record {
      count = r.count;
      within = (let long = length-append j es in let le = r.within in omega arith);
      ends = subst (EndsBaseEpisode processors) same r.ends;
      first = subst (λ (xs : List Event). IsFirstRaceFromBase b xs i k) same r.first;
    }

-- and it is that of the part that a cut takes
pub longer_race_of_cut_part : (processors : ℕ) (b : Base) (j : List Event) (n i k : ℕ) → IsEpisodeBaseFront processors j n
    → IsRaceOfCutEpisodes processors b j i k → IsFirstRaceFromBase b (take n j) i k
longer_race_of_cut_part processors b j n i k cut r =
    let le : r.count ≤ n = cut.last r.count r.within r.ends in
    let more : List Event = drop r.count (take n j) in
    subst (λ (xs : List Event). IsFirstRaceFromBase b xs i k)
    (ap (λ (xs : List Event). xs ++ more) (sym (take-take r.count n j le)) ∙ take-append-drop r.count (take n j))
    (longer_first_race_from_base b (take r.count j) more i k r.first)
