-- What is kept after one list of events and then another: the memory, who holds which lock, which flags are set,
-- and the costs.
use Rattle.std.proofs.Common.{◌≡◌, ℕ, ◌+◌, inl, inr, ◌↔◌, List, [], ◌++◌, length, sym, refl, ap, ◌∙◌, length-append, add_assoc, arith}
use Rattle.std.proofs.lemmas.List.Sums.{sum_by-append}
use Rattle.std.proofs.lemmas.Option.{none-some}
use Rattle.journal.specs.declared.event.Event.{Event}
use Rattle.journal.specs.declared.event.Kind.TheVariants.{Acquire, Release, Set}
use Rattle.base.specs.InOrderOnce.{Has}
use Rattle.journal.specs.DidEvent.{event}
use Rattle.journal.specs.WellFormed.{Does, Holds}
use Rattle.journal.specs.ReplayMemory.{replay_memory_write, memory_after}
use Rattle.journal.specs.Traffic.{traffic_messages_of, traffic_records_of, traffic_words_fetched}
use Rattle.journal.specs.Base.{Base, no_base}
use Rattle.journal.specs.WellFormedFromBase.{HoldsFromBase, IsSetFromBase}
use Rattle.journal.specs.EpisodeBases.{IsEpisodeBaseAfter}
use Rattle.base.proofs.SlicesAndCounts.{slice_append_cases}
use Rattle.base.proofs.LastWritten.{written-append}
use Rattle.journal.proofs.Order.EventPlacesAndCounts.{event_place_longer, event_place_behind}

-- without a base, who holds a lock and which flags are set is what the events say
pub base_append_holds_uncut : (size : ℕ) (j : List Event) (p l : ℕ) → Holds j p l ↔ HoldsFromBase (no_base size) j p l
base_append_holds_uncut size j p l =
    ((λ h. inl h), (λ h. elim h [ inl holds ↦ holds | inr still ↦ absurd (none-some (p, l) still.held.1) ]))

pub base_append_set_uncut : (size : ℕ) (j : List Event) (f : ℕ) → ((k q : ℕ) × Does j k q (Set f)) ↔ IsSetFromBase (no_base size) j f
base_append_set_uncut size j f = ((λ set. inr set), (λ h. elim h [ inl has ↦ absurd (none-some f has.1) | inr set ↦ set ]))

-- the memory after one list and then another
pub base_append_memory : (start : List ℕ) (c j : List Event)
    → memory_after start (c ++ j) ≡ memory_after (memory_after start c) j
base_append_memory start c j = written-append (λ (e : Event). replay_memory_write e.kind) start c j

-- from a base the events c lead to another one, and j goes on from there
module _ (b after : Base) (c j : List Event) where
  module _ (p l : ℕ) (kept : Has after.holders (p, l) ↔ HoldsFromBase b c p l) where
    pub base_append_holds : HoldsFromBase b (c ++ j) p l → HoldsFromBase after j p l
    base_append_holds (inr still) =
        inr (record {
          held = kept.1 (inr (record {
            held = still.held;
            keeps = λ k does. still.keeps k (event_place_longer c j k (event p (Release l)) does);
          }));
          keeps = λ k does. still.keeps (length c + k) (event_place_behind c j k (event p (Release l)) does);
        })
    base_append_holds (inl h) = elim (slice_append_cases c j h.place (event p (Acquire l)) h.acquires) [
      | inl cut ↦ inr (record {
        held =
            kept.1 (inl (record {
              place = h.place;
              acquires = cut.1;
              keeps = λ k lt does. h.keeps k lt (event_place_longer c j k (event p (Release l)) does);
            }));
        keeps = λ k does. h.keeps (length c + k) (omega (arith, cut.0)) (event_place_behind c j k (event p (Release l)) does);
      })
      | inr left ↦ inl (record {
        place = left.0;
        acquires = left.2;
        keeps = λ k lt does. h.keeps (length c + k) (omega (arith, left.1))
            (event_place_behind c j k (event p (Release l)) does);
      })
    ]

    base_append_holds_on : HoldsFromBase b c p l → ((k : ℕ) → ¬ Does j k p (Release l)) → HoldsFromBase b (c ++ j) p l
    base_append_holds_on (inl h) none = inl (record {
      place = h.place;
      acquires = event_place_longer c j h.place (event p (Acquire l)) h.acquires;
      keeps =
          λ k lt does. elim (slice_append_cases c j k (event p (Release l)) does)
          [ inl cut ↦ h.keeps k lt cut.1 | inr left ↦ none left.0 left.2 ];
    })
    base_append_holds_on (inr still) none =
        inr (record {
          held = still.held;
          keeps = λ k does. elim (slice_append_cases c j k (event p (Release l)) does)
              [ inl cut ↦ still.keeps k cut.1 | inr left ↦ none left.0 left.2 ];
        })

    pub base_append_both_holds : HoldsFromBase after j p l → HoldsFromBase b (c ++ j) p l
    base_append_both_holds (inl h) = inl (record {
      place = length c + h.place;
      acquires = event_place_behind c j h.place (event p (Acquire l)) h.acquires;
      keeps =
          λ k lt does. elim (slice_append_cases c j k (event p (Release l)) does)
          [ inl cut ↦ omega (arith, cut.0) | inr left ↦ h.keeps left.0 (omega (arith, left.1)) left.2 ];
    })
    base_append_both_holds (inr still) = base_append_holds_on (kept.0 still.held) still.keeps

  module _ (f : ℕ) (kept : Has after.flags f ↔ IsSetFromBase b c f) where
    pub base_append_set : IsSetFromBase b (c ++ j) f → IsSetFromBase after j f
    base_append_set (inl has) = inl (kept.1 (inl has))
    base_append_set (inr set) =
        elim (slice_append_cases c j set.0 (event set.1 (Set f)) set.2)
        [ inl cut ↦ inl (kept.1 (inr (set.0, set.1, cut.1))) | inr left ↦ inr (left.0, set.1, left.2) ]

    pub base_append_both_set : IsSetFromBase after j f → IsSetFromBase b (c ++ j) f
    base_append_both_set (inr left) = inr (length c + left.0, left.1, event_place_behind c j left.0 (event left.1 (Set f)) left.2)
    base_append_both_set (inl has) =
        elim (kept.0 has) [
          | inl before ↦ inl before
          | inr set ↦ inr (set.0, set.1, event_place_longer c j set.0 (event set.1 (Set f)) set.2)
        ]

-- nothing leaves what is kept
pub base_append_nothing : (b : Base) → IsEpisodeBaseAfter b [] b
base_append_nothing b = record {
  cut = omega arith;
  memory = refl;
  holders =
      λ p l. (
        (λ has. inr (record { held = has; keeps = λ k does. none-some (event p (Release l)) does })),
        (λ h. elim
            h [ inl holds ↦ absurd (none-some (event p (Acquire l)) holds.acquires) | inr still ↦ still.held ]),
      );
  flags =
      λ f. (
        (λ has. inl has),
        (λ h. elim h [ inl has ↦ has | inr set ↦ absurd (none-some (event set.1 (Set f)) set.2) ]),
      );
  messages_are = omega arith;
  records_are = omega arith;
  words_are = omega arith;
}

-- and what is kept after one list is where the next one begins
pub base_append : (b after last : Base) (c j : List Event) → IsEpisodeBaseAfter b c after → IsEpisodeBaseAfter after j last
    → IsEpisodeBaseAfter b (c ++ j) last
base_append b after last c j x y = record {
  cut =
      y.cut ∙ ap (λ n. n + length j) x.cut ∙ add_assoc b.cut (length c) (length j)
      ∙ ap (λ n. b.cut + n) (sym (length-append c j));
  memory = y.memory ∙ ap (λ (ws : List ℕ). memory_after ws j) x.memory ∙ sym (base_append_memory b.memory c j);
  holders =
      λ p l. (
        (λ has. base_append_both_holds b after c j p l (x.holders p l) ((y.holders p l).0 has)),
        (λ h. (y.holders p l).1 (base_append_holds b after c j p l (x.holders p l) h)),
      );
  flags =
      λ f. (
        (λ has. base_append_both_set b after c j f (x.flags f) ((y.flags f).0 has)),
        (λ h. (y.flags f).1 (base_append_set b after c j f (x.flags f) h)),
      );
  messages_are =
      (let old = x.messages_are in let more = y.messages_are in
      omega (arith, sum_by-append (λ (e : Event). traffic_messages_of e.kind) c j));
  records_are =
      (let old = x.records_are in let more = y.records_are in
      omega (arith, sum_by-append (λ (e : Event). traffic_records_of e.kind) c j));
  words_are =
      (let old = x.words_are in let more = y.words_are in
      omega (arith, sum_by-append (λ (e : Event). traffic_words_fetched e.kind) c j));
}
