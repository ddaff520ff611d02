-- Words that race, as a history goes on.
use Rattle.std.proofs.Common.{◌≡◌, ◌≢◌, ℕ, suc, zero, ◌<◌, ◌||◌, if◌then◌else◌, not, inl, inr, Bool, true, false, true≢false, nat_eq, List, [], ◌∷◌, ◌++◌, Some, length, map, slice_get, subst, sym, refl, ap, ◌∙◌, arith, length-append}
use Rattle.std.specs.Prelude.{None}
use Rattle.std.specs.List.{list_any}
use Rattle.std.proofs.lemmas.Bool.{cases_lt, eq-eqb, eqb-true}
use Rattle.std.proofs.lemmas.Option.{same_Some, none-some, slice_get_within}
use Rattle.base.proofs.SlicesAndCounts.{slice_get-append_left, slice_get-last, slice_push_cases}
use Rattle.base.specs.InOrderOnce.{Has, InOrder}
use Rattle.journal.specs.declared.event.Event.{Event}
use Rattle.journal.specs.Events.{EventAt, event_address}
use Rattle.journal.specs.Races.{Race}
use Rattle.journal.proofs.Order.EventPlacesAndCounts.{event_place_at_end, event_place_inside, event_place_longer, event_place_same}
use Rattle.judge.specs.NearestRaces.{IsNearestRaceTo}
use Rattle.judge.proofs.NearestRaceSteps.{race_for_nearest_longer, race_for_nearest_shorter}
use Rattle.lrc_check.specs.declared.racing_words.RacingWord.{RacingWord}
use Rattle.indexmap.specs.IndexSet.{insert_key}
use Rattle.lrc_check.specs.declared.racing_words.RacingWords.{RacingWords}
use Rattle.lrc_check.specs.RacingWords.{AreRacingWords, IsFirstRaceOfWord, IsRacingWordTold, IsRacingWordsOf, RacesNext}

-- the second access of a race is of its address
racing_words_address : (j : List Event) (i k a : ℕ) (e : Event) (r : Race j i k) → EventAt j k e → event_address e.kind ≡ Some a
    → r.conflict.address ≡ a
racing_words_address j i k a e r at is =
    let same = event_place_same j k r.second e r.second_at at in
    same_Some r.conflict.address a (sym r.conflict.second ∙ (ap (λ (f : Event). event_address f.kind) same ∙ is))

-- a race of more events that ends where one of these ends is of its address
racing_words_same_address : (j es : List Event) (i m k : ℕ) (r : Race j i k) (s : Race (j ++ es) m k) → s.conflict.address ≡ r.conflict.address
racing_words_same_address j es i m k r s =
    racing_words_address (j ++ es) m k r.conflict.address r.second s (event_place_longer j es k r.second r.second_at) r.conflict.second

-- a race ends before the history does
racing_words_inside : (j : List Event) (i k : ℕ) → Race j i k → k < length j
racing_words_inside j i k r = event_place_inside j k r.second r.second_at

-- the first race of a word stays
racing_words_first_longer : (j : List Event) (e : Event) (a i k : ℕ) → IsFirstRaceOfWord j a i k → IsFirstRaceOfWord (j ++ e ∷ []) a i k
racing_words_first_longer j e a i k x =
    let lt = racing_words_inside j i k x.race in
    record {
      race = race_for_nearest_longer j (e ∷ []) i k x.race;
      address = racing_words_same_address j (e ∷ []) i i k x.race (race_for_nearest_longer j (e ∷ []) i k x.race) ∙ x.address;
      least_second = λ m n r is. elim (cases_lt n (length j)) [
        | inl before ↦ (let old = race_for_nearest_shorter j (e ∷ []) m n before r in
            x.least_second m n old (sym (racing_words_same_address j (e ∷ []) m m n old r) ∙ is))
        | inr le ↦ omega arith
      ];
      greatest_first = λ m r. x.greatest_first m (race_for_nearest_shorter j (e ∷ []) m k lt r);
    }

-- all races have their word told, if those that end with the last event have
racing_words_all : (j : List Event) (e : Event) (found : List RacingWord) → ((i k : ℕ) (r : Race j i k) → IsRacingWordTold found r.conflict.address)
    → ((i : ℕ) (r : Race (j ++ e ∷ []) i (length j)) → IsRacingWordTold found r.conflict.address)
    → (i k : ℕ) (r : Race (j ++ e ∷ []) i k) → IsRacingWordTold found r.conflict.address
racing_words_all j e found before last i k r = elim (cases_lt k (length j)) [
  | inl lt ↦ (let old = race_for_nearest_shorter j (e ∷ []) i k lt r in
      subst (IsRacingWordTold found) (sym (racing_words_same_address j (e ∷ []) i i k old r)) (before i k old))
  | inr le ↦ (let inside = racing_words_inside (j ++ e ∷ []) i k r in
      let long = length-append j (e ∷ []) in
      let at : length j ≡ k = omega arith in
      subst (λ n. (s : Race (j ++ e ∷ []) i n) → IsRacingWordTold found s.conflict.address) at (last i) r)
]

-- no race ends with the event, or its word is told: the words stay
pub racing_words_same : (j : List Event) (e : Event) (found : List RacingWord) → AreRacingWords j found
    → ((i : ℕ) (r : Race (j ++ e ∷ []) i (length j)) → IsRacingWordTold found r.conflict.address)
    → AreRacingWords (j ++ e ∷ []) found
racing_words_same j e found x last = record {
  each = λ w has. racing_words_first_longer j e w.address w.first w.second (x.each w has);
  all = racing_words_all j e found x.all last;
  order = x.order;
}

-- with which no other races
pub racing_words_none : (j : List Event) (e : Event) (found : List RacingWord) → AreRacingWords j found → IsNearestRaceTo j e None
    → AreRacingWords (j ++ e ∷ []) found
racing_words_none j e found x none = racing_words_same j e found x (λ i r. absurd (none i r))

-- whose word is told
pub racing_words_told : (j : List Event) (e : Event) (found : List RacingWord) (word : RacingWord) → AreRacingWords j found
    → RacesNext j e word → IsRacingWordTold found word.address → AreRacingWords (j ++ e ∷ []) found
racing_words_told j e found word x next told = racing_words_same j e found x (λ i r.
    subst (IsRacingWordTold found) (sym (racing_words_address (j ++ e ∷ []) i (length j) word.address e r (event_place_at_end j e) next.address)) told)

-- an event that accesses nothing races with nothing
pub racing_words_no_access : (j : List Event) (e : Event) (i : ℕ) → event_address e.kind ≡ None → IsNearestRaceTo j e (Some i) → ⊥
racing_words_no_access j e i none near =
    let r = near.0 in
    let same = event_place_same (j ++ e ∷ []) (length j) r.second e r.second_at (event_place_at_end j e) in
    none-some r.conflict.address (sym none ∙ (sym (ap (λ (f : Event). event_address f.kind) same) ∙ r.conflict.second))

-- ---- one word more

-- a word that is told stays so
racing_words_told_longer : (found : List RacingWord) (word : RacingWord) (a : ℕ) → IsRacingWordTold found a → IsRacingWordTold (found ++ word ∷ []) a
racing_words_told_longer found word a x = record {
  word = x.word;
  has = (
    x.has.0,
    slice_get-append_left found (word ∷ []) x.has.0 (slice_get_within found x.has.0 x.word x.has.1) ∙ x.has.1,
  );
  address = x.address;
}

-- the last one is told
racing_words_told_last : (found : List RacingWord) (word : RacingWord) → IsRacingWordTold (found ++ word ∷ []) word.address
racing_words_told_last found word = record { word = word; has = (length found, slice_get-last found word); address = refl }

-- the first race of a word that had none
racing_words_first_new : (j : List Event) (e : Event) (found : List RacingWord) (word : RacingWord) → AreRacingWords j found → RacesNext j e word
    → ((x : RacingWord) → Has found x → x.address ≢ word.address)
    → IsFirstRaceOfWord (j ++ e ∷ []) word.address word.first (length j)
racing_words_first_new j e found word x next none = record {
  race = next.nearest.0;
  address = racing_words_address (j ++ e ∷ []) word.first (length j) word.address e next.nearest.0 (event_place_at_end j e) next.address;
  least_second = λ m n r is. elim (cases_lt n (length j)) [
    | inl lt ↦ (let old = race_for_nearest_shorter j (e ∷ []) m n lt r in
        let told = x.all m n old in
        absurd (none told.word told.has (told.address ∙ (sym (racing_words_same_address j (e ∷ []) m m n old r) ∙ is))))
    | inr le ↦ le
  ];
  greatest_first = next.nearest.1;
}

-- the words are told in order, the new one last
racing_words_order : (j : List Event) (found : List RacingWord) (word : RacingWord) → AreRacingWords j found → word.second ≡ length j
    → InOrder (λ (x y : RacingWord). x.second < y.second) (found ++ word ∷ [])
racing_words_order j found word x place m n a b lt at_a at_b = elim (slice_push_cases found word n b at_b) [
  | inl old ↦ elim (slice_push_cases found word m a at_a) [
    | inl first ↦ x.order m n a b lt first.1 old.1
    | inr last ↦ absurd (omega (arith, old.0, last.0))
  ]
  | inr new ↦ elim (slice_push_cases found word m a at_a) [
    | inl first ↦ (let inside = racing_words_inside j a.first a.second (x.each a (m, first.1)).race in
        let same : length j ≡ b.second = sym place ∙ ap (λ (w : RacingWord). w.second) new.1 in
        omega (arith, inside, same))
    | inr last ↦ absurd (omega (arith, new.0, last.0))
  ]
]

-- the event races, and its word had no race
pub racing_words_new : (j : List Event) (e : Event) (found : List RacingWord) (word : RacingWord) → AreRacingWords j found → RacesNext j e word
    → ((x : RacingWord) → Has found x → x.address ≢ word.address) → AreRacingWords (j ++ e ∷ []) (found ++ word ∷ [])
racing_words_new j e found word x next none = record {
  each = λ w has. elim (slice_push_cases found word has.0 w has.1) [
    | inl old ↦ racing_words_first_longer j e w.address w.first w.second (x.each w (has.0, old.1))
    | inr new ↦ subst (λ (z : RacingWord). IsFirstRaceOfWord (j ++ e ∷ []) z.address z.first z.second) new.1
        (subst (IsFirstRaceOfWord (j ++ e ∷ []) word.address word.first) (sym next.place)
        (racing_words_first_new j e found word x next none))
  ];
  all = racing_words_all j e (found ++ word ∷ []) (λ i k r. racing_words_told_longer found word r.conflict.address (x.all i k r))
      (λ i r. subst (IsRacingWordTold (found ++ word ∷ []))
      (sym (racing_words_address (j ++ e ∷ []) i (length j) word.address e r (event_place_at_end j e) next.address))
      (racing_words_told_last found word));
  order = racing_words_order j found word x next.place;
}

-- ---- the set of their addresses

-- an address that is among these is that of a word
pub racing_words_among : (found : List RacingWord) (a : ℕ) → list_any (nat_eq a) (map (λ (w : RacingWord). w.address) found) ≡ true
    → IsRacingWordTold found a
racing_words_among [] a is = absurd (true≢false (sym is))
racing_words_among (w ∷ found) a is = go (nat_eq a w.address) refl (racing_words_among found a)
  where
    go : (b : Bool) → nat_eq a w.address ≡ b
        → (list_any (nat_eq a) (map (λ (v : RacingWord). v.address) found) ≡ true → IsRacingWordTold found a) → IsRacingWordTold (w ∷ found) a
    go true same rest = record { word = w; has = (0, refl); address = sym (eqb-true a w.address same) }
    go false other rest =
        let told = rest (sym (ap (λ b. b || list_any (nat_eq a) (map (λ (v : RacingWord). v.address) found)) other) ∙ is) in
        record { word = told.word; has = (suc told.has.0, told.has.1); address = told.address }

-- and one that isn't is that of none
pub racing_words_not_among : (found : List RacingWord) (a : ℕ) → list_any (nat_eq a) (map (λ (w : RacingWord). w.address) found) ≡ false
    → (x : RacingWord) → Has found x → x.address ≢ a
racing_words_not_among [] a isnt x has same = none-some x has.1
racing_words_not_among (w ∷ found) a isnt x has same =
    go (nat_eq a w.address) refl (λ rest k at. racing_words_not_among found a rest x (k, at) same) has.0 has.1
  where
    go : (b : Bool) → nat_eq a w.address ≡ b
        → (list_any (nat_eq a) (map (λ (v : RacingWord). v.address) found) ≡ false → (k : ℕ) → slice_get found k ≡ Some x → ⊥)
        → (k : ℕ) → slice_get (w ∷ found) k ≡ Some x → ⊥
    go true is rest k at = true≢false (sym (ap (λ b. b || list_any (nat_eq a) (map (λ (v : RacingWord). v.address) found)) is) ∙ isnt)
    go false other rest zero at = true≢false (sym (eq-eqb a w.address (sym same ∙ sym (ap (λ (v : RacingWord). v.address) (same_Some w x at)))) ∙ other)
    go false other rest (suc k) at =
        rest (sym (ap (λ b. b || list_any (nat_eq a) (map (λ (v : RacingWord). v.address) found)) other) ∙ isnt) k at

racing_words_not : (a b : Bool) → not a ≡ b → a ≡ not b
racing_words_not true b is = ap not is
racing_words_not false b is = ap not is

-- with one word more
racing_words_addresses_push : (found : List RacingWord) (word : RacingWord) → map (λ (w : RacingWord). w.address) (found ++ word ∷ [])
    ≡ map (λ (w : RacingWord). w.address) found ++ word.address ∷ []
racing_words_addresses_push [] word = refl
racing_words_addresses_push (w ∷ found) word = ap (λ (xs : List ℕ). w.address ∷ xs) (racing_words_addresses_push found word)

-- a word is kept that wasn't told
pub racing_words_kept_new : (j : List Event) (e : Event) (x y : RacingWords) (word : RacingWord) (b : Bool) → IsRacingWordsOf j x
    → RacesNext j e word → b ≡ not (list_any (nat_eq word.address) x.told.keys) → b ≡ true
    → y.told.keys ≡ insert_key nat_eq x.told.keys word.address → y.words.items ≡ x.words.items ++ word ∷ [] → IsRacingWordsOf (j ++ e ∷ []) y
racing_words_kept_new j e x y word b is next added yes_is keys items =
    let none : list_any (nat_eq word.address) x.told.keys ≡ false = racing_words_not (list_any (nat_eq word.address) x.told.keys) true (sym added ∙ yes_is) in
    record {
      tells = subst (AreRacingWords (j ++ e ∷ [])) (sym items) (racing_words_new j e x.words.items word is.tells next
          (racing_words_not_among x.words.items word.address (sym (ap (λ ks. list_any (nat_eq word.address) ks) is.told) ∙ none)));
      told = keys ∙ ap (λ c. if c then x.told.keys else x.told.keys ++ word.address ∷ []) none
          ∙ ap (λ ks. ks ++ word.address ∷ []) is.told ∙ sym (racing_words_addresses_push x.words.items word)
          ∙ ap (λ ws. map (λ (w : RacingWord). w.address) ws) (sym items);
    }

-- and one that was told isn't kept again
pub racing_words_kept_old : (j : List Event) (e : Event) (x y : RacingWords) (word : RacingWord) (b : Bool) → IsRacingWordsOf j x
    → RacesNext j e word → b ≡ not (list_any (nat_eq word.address) x.told.keys) → b ≡ false
    → y.told.keys ≡ insert_key nat_eq x.told.keys word.address → y.words.items ≡ x.words.items → IsRacingWordsOf (j ++ e ∷ []) y
racing_words_kept_old j e x y word b is next added no_is keys items =
    let some : list_any (nat_eq word.address) x.told.keys ≡ true = racing_words_not (list_any (nat_eq word.address) x.told.keys) false (sym added ∙ no_is) in
    record {
      tells = subst (AreRacingWords (j ++ e ∷ [])) (sym items) (racing_words_told j e x.words.items word is.tells next
          (racing_words_among x.words.items word.address (sym (ap (λ ks. list_any (nat_eq word.address) ks) is.told) ∙ some)));
      told = keys ∙ ap (λ c. if c then x.told.keys else x.told.keys ++ word.address ∷ []) some
          ∙ is.told ∙ ap (λ ws. map (λ (w : RacingWord). w.address) ws) (sym items);
    }

-- the words stay if the event races with nothing
pub racing_words_kept_none : (j : List Event) (e : Event) (x : RacingWords) → IsRacingWordsOf j x → IsNearestRaceTo j e None
    → IsRacingWordsOf (j ++ e ∷ []) x
racing_words_kept_none j e x is none = record { tells = racing_words_none j e x.words.items is.tells none; told = is.told }
