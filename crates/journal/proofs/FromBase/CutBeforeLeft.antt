-- All that was cut off happens before all that is left.
use Rattle.std.proofs.Common.{◌≡◌, ◌≢◌, ℕ, zero, suc, ◌+◌, ◌-◌, ◌<◌, ◌≤◌, ◌⊎◌, inl, inr, List, [], ◌∷◌, ◌++◌, length, take, get_or, Bool, refl, sym, ap, subst, ◌∙◌, length-append, arith}
use Rattle.std.proofs.Math.Seq.{take-append-add}
use Rattle.std.proofs.lemmas.Bool.{cases_eq, cases_lt, cases_order}
use Rattle.std.proofs.lemmas.Option.{none-some, same_Some, slice_get-get_or}
use Rattle.journal.specs.declared.event.Event.{Event}
use Rattle.journal.specs.declared.event.Kind.{Kind}
use Rattle.journal.specs.declared.event.Kind.TheVariants.{Arrive, Depart}
use Rattle.journal.specs.DidEvent.{event}
use Rattle.journal.specs.Sizes.{Sizes, addresses}
use Rattle.journal.specs.Events.{EventAt, event_count, event_arrives, event_departs}
use Rattle.journal.specs.HappensBeforeEdges.{HappensBefore, HappensBeforeEdgesMeet}
use Rattle.journal.specs.HappensBeforeEdges.Link.{same, meets}
use Rattle.journal.specs.HappensBeforeEdges.HappensBefore.{edge, on}
use Rattle.journal.specs.WellFormed.{LastIs, WellFormed}
use Rattle.journal.specs.Base.{Base, base_arrivals_cut}
use Rattle.journal.specs.WellFormedFromBase.{IsAwayFromBase}
use Rattle.journal.specs.EpisodeBases.{IsEpisodeBaseOf}
use Rattle.base.proofs.SlicesAndCounts.{slice_get-take_within, slice_get-from_take}
use Rattle.journal.proofs.Order.EventPlacesAndCounts.{event_place_inside, event_place_longer, event_place_behind, event_count-past, event_count-inside, event_count-front, EventPlaceNumberedAt, event_place_numbered}
use Rattle.journal.proofs.Order.HappensBefore.{happens_before_transitive}
use Rattle.journal.proofs.Journals.WellFormedStays.{well_formed_stays_front, well_formed_stays_last_longer}
use Rattle.journal.proofs.FromBase.OrderOfLeft.{IsEvenOrderOfLeft, order_of_left_count}
use Rattle.journal.proofs.FromBase.EpisodeCounts.{AreEpisodeCounts, episode_counts_at_end}

-- nothing was cut off, or an episode's end
pub data CutBeforeLeftCase (processors : ℕ) (b : Base) (c : List Event) : Type 0 where
  none : c ≡ [] → base_arrivals_cut b ≡ 0 → b.cut ≡ 0 → CutBeforeLeftCase processors b c
  some : (n : ℕ) → base_arrivals_cut b ≡ 1 → b.cut ≢ 0 → AreEpisodeCounts processors c n → CutBeforeLeftCase processors b c

pub cut_before_left_case : (s : Sizes) (c : List Event) (b : Base) → WellFormed s c → IsEpisodeBaseOf s.processors (addresses s) c b
    → CutBeforeLeftCase s.processors b c
cut_before_left_case s c b well base = elim base.ends [
  | inl is ↦
      (let cut : b.cut ≡ 0 = base.after.cut ∙ ap (λ (xs : List Event). 0 + length xs) is in none is (omega arith) cut)
  | inr x ↦
      (let long = ap (λ (xs : List Event). length xs) x.arrives ∙ length-append x.front (event x.by Arrive ∷ []) in
      let cut = base.after.cut in
      let some_cut : b.cut ≢ 0 = omega arith in
      some (event_count event_arrives c x.by) (omega arith) some_cut (episode_counts_at_end s c well x))
]

-- how often each processor has arrived and departed in what was cut off
pub cut_before_left_counts : (processors : ℕ) (b : Base) (c : List Event) → CutBeforeLeftCase processors b c
    → (n : ℕ) × ((q : ℕ) → q < processors → (event_count event_arrives c q ≡ n) × (event_count event_departs c q + base_arrivals_cut b ≡ n))
cut_before_left_counts processors b c (none is arrived_is cut) = (
  0,
  λ q h. (
    ap (λ (xs : List Event). event_count event_arrives xs q) is,
    let x = ap
        (λ (xs : List Event). event_count event_departs xs q) is in
        omega arith,
  ),
)
cut_before_left_counts processors b c (some n arrived_is cut x) =
    (n, λ q h. (x.arrivals q h, let y = x.departures q h in omega arith))

-- so whoever did what is left has done so alike
pub cut_before_left_even : (processors : ℕ) (c j : List Event) (b : Base) → CutBeforeLeftCase processors b c
    → ((m : ℕ) (e : Event) → EventAt j m e → e.processor < processors) → (n : ℕ) × IsEvenOrderOfLeft b c j n
cut_before_left_even processors c j b cut_before_left_case present =
    let x = cut_before_left_counts processors b c cut_before_left_case in (
      x.0,
      record {
        arrivals = λ m e at. (x.1 e.processor (present m e at)).0;
        departures = λ m e at. (x.1 e.processor (present m e at)).1;
      },
    )

-- the events of a well formed journal are by its processors
pub cut_before_left_present : (s : Sizes) (c j : List Event) → WellFormed s (c ++ j) → (m : ℕ) (e : Event) → EventAt j m e
    → e.processor < s.processors
cut_before_left_present s c j well m e at = (well (length c + m) e (event_place_behind c j m e at)).processor

-- who has done nothing counts nothing
pub cut_before_left_count_away : (is : Kind → Bool) (j : List Event) (q : ℕ) → IsAwayFromBase j q → event_count is j q ≡ 0
cut_before_left_count_away is j q away =
    elim (cases_lt 0 (event_count is j q)) [
      | inl lt ↦
          (let n = event_place_numbered is j q 0 lt in absurd (away n.place (event q n.kind) n.does refl))
      | inr le ↦ omega arith
    ]

-- a processor's first event up to one of its events
pub record CutBeforeLeftFirst (j : List Event) (q k : ℕ) : Type 0 where
  pub place : ℕ
  pub first : Event
  pub at : EventAt j place first
  pub mine : first.processor ≡ q
  pub up_to : place ≤ k
  pub away : (m : ℕ) (e : Event) → m < place → EventAt j m e → e.processor ≢ q

cut_before_left_first_later : (x : Event) (xs : List Event) (q k : ℕ) → x.processor ≢ q → CutBeforeLeftFirst xs q k → CutBeforeLeftFirst (x ∷ xs) q (suc k)
cut_before_left_first_later x xs q k isnt r =
    record {
      place = suc r.place;
      first = r.first;
      at = r.at;
      mine = r.mine;
      up_to = (let up = r.up_to in omega arith);
      away = behind;
    }
  where
    behind : (m : ℕ) (f : Event) → m < suc r.place → EventAt (x ∷ xs) m f → f.processor ≢ q
    behind zero f lt h = λ same. isnt (ap (λ (y : Event). y.processor) (same_Some x f h) ∙ same)
    behind (suc m) f lt h = r.away m f (omega arith) h

pub cut_before_left_first : (j : List Event) (q k : ℕ) (e : Event) → EventAt j k e → e.processor ≡ q → CutBeforeLeftFirst j q k
cut_before_left_first [] q k e at mine = absurd (none-some e at)
cut_before_left_first (x ∷ xs) q zero e at mine =
    record {
      place = 0;
      first = x;
      at = refl;
      mine = ap (λ (y : Event). y.processor) (same_Some x e at) ∙ mine;
      up_to = omega arith;
      away = λ m f lt. absurd (omega arith);
    }
cut_before_left_first (x ∷ xs) q (suc k) e at mine = elim (cases_eq x.processor q) [
  | inl is ↦ record
      { place = 0; first = x; at = refl; mine = is; up_to = omega arith; away = λ m f lt. absurd (omega arith) }
  | inr isnt ↦ cut_before_left_first_later x xs q k isnt (cut_before_left_first xs q k e at mine)
]

-- p's last arrival where an episode ends, and its number
pub record LastBeforeLeft (c : List Event) (p n : ℕ) : Type 0 where
  pub place : ℕ
  pub last : LastIs c p place Arrive
  pub number : event_count event_arrives (take place c) p + 1 ≡ n

pub last_before_left : (processors : ℕ) (c : List Event) (p n : ℕ) → p < processors → AreEpisodeCounts processors c n
    → LastBeforeLeft c p n
last_before_left processors c p n within x =
    record { place = last.0; last = last.1; number = is (cases_order at.place last.0) }
  where
    last : (i : ℕ) × LastIs c p i Arrive
    last = x.last p within

    up : event_count event_arrives (take last.0 c) p < event_count event_arrives c p
    up = event_count-inside event_arrives c last.0 p Arrive last.1.does refl

    arrivals : event_count event_arrives c p ≡ n
    arrivals = x.arrivals p within

    at : EventPlaceNumberedAt event_arrives c p (n - 1)
    at = event_place_numbered event_arrives c p (n - 1) (omega (arith, up, arrivals))

    is : (at.place ≡ last.0) ⊎ ((at.place < last.0) ⊎ (last.0 < at.place))
        → event_count event_arrives (take last.0 c) p + 1 ≡ n
    is (inl same_place) =
        let number = at.number in let same = ap (λ m. event_count event_arrives (take m c) p) same_place in
        omega (arith, up, arrivals)
    is (inr (inl lt)) =
        let number = at.number in
        let past = event_count-past event_arrives c at.place last.0 p at.kind at.does at.counts lt in
        omega (arith, up, arrivals)
    is (inr (inr gt)) = absurd (last.1.last at.place (event p at.kind) gt at.does refl)

-- what stands up to a place happens before what a later edge reaches
module _ (s : Sizes) (c j : List Event) (b : Base) (well : WellFormed s (c ++ j)) where
  -- the first that a processor does behind an episode's end is to depart from it
  pub cut_before_left_first_departs : (n q k : ℕ) (r : CutBeforeLeftFirst j q k) → AreEpisodeCounts s.processors c n → r.first.kind ≡ Depart
  cut_before_left_first_departs n q k r x =
      let may = well (length c + r.place) r.first (event_place_behind c j r.place r.first r.at) in
      let within : q < s.processors = let lt = may.processor in let mine = r.mine in omega arith in
      let last = x.last q within in
      let away : IsAwayFromBase (take r.place j) q =
      λ m f at. r.away m f (slice_get-take_within j r.place m f at) (slice_get-from_take j r.place m f at) in
      let here : LastIs (take (length c + r.place) (c ++ j)) r.first.processor last.0 Arrive =
      subst (λ p. LastIs (take (length c + r.place) (c ++ j)) p last.0 Arrive) (sym r.mine) (subst
      (λ (xs : List Event). LastIs xs q last.0 Arrive) (sym (take-append-add c j r.place))
      (well_formed_stays_last_longer c (take r.place j) q last.0 Arrive away last.1))
      in
      may.answers last.0 Arrive here

  cut_before_left_meets_last : (n p q k : ℕ) (r : CutBeforeLeftFirst j q k) → AreEpisodeCounts s.processors c n → p < s.processors → (l : LastBeforeLeft c p n)
      → HappensBefore (c ++ j) l.place (length c + r.place)
  cut_before_left_meets_last n p q k r x within l =
      let departs = cut_before_left_first_departs n q k r x in
      let in_c = event_place_inside c l.place (event p Arrive) l.last.does in
      let front = event_count-front event_arrives c j l.place p (omega arith) in
      let number = l.number in
      let left = order_of_left_count event_departs c j r.place r.first.processor in
      let away =
      cut_before_left_count_away event_departs (take r.place j) q
      (λ y f at. r.away y f (slice_get-take_within j r.place y f at) (slice_get-from_take j r.place y f at))
      in
      let may = well (length c + r.place) r.first (event_place_behind c j r.place r.first r.at) in
      let gone = x.departures r.first.processor may.processor in
      let none = ap (λ y. event_count event_departs (take r.place j) y) r.mine in
      let meeting : HappensBeforeEdgesMeet (c ++ j) l.place (length c + r.place) (event p Arrive) r.first =
      record { arrives = refl; departs = departs; episode = omega arith } in
      edge (record {
        before = omega arith;
        from = event p Arrive;
        to = r.first;
        from_at = event_place_longer c j l.place (event p Arrive) l.last.does;
        to_at = event_place_behind c j r.place r.first r.at;
        link = meets meeting;
      })

  pub cut_before_left : CutBeforeLeftCase s.processors b c → (i k : ℕ) → i < length c → k < length j
      → HappensBefore (c ++ j) i (length c + k)
  cut_before_left (none is arrived_is cut) i k lt in_j =
      absurd (let long = ap (λ (xs : List Event). length xs) is in omega arith)
  cut_before_left (some n arrived_is cut x) i k lt in_j = finish (cases_order r.place k)
    where
      e : Event
      e = get_or c i (event 0 Arrive)

      at : EventAt c i e
      at = slice_get-get_or c i (event 0 Arrive) lt

      f : Event
      f = get_or j k (event 0 Arrive)

      to : EventAt j k f
      to = slice_get-get_or j k (event 0 Arrive) in_j

      r : CutBeforeLeftFirst j f.processor k
      r = cut_before_left_first j f.processor k f to refl

      within : e.processor < s.processors
      within = (well_formed_stays_front s c j well i e at).processor

      l : LastBeforeLeft c e.processor n
      l = last_before_left s.processors c e.processor n within x

      met : HappensBefore (c ++ j) l.place (length c + r.place)
      met = cut_before_left_meets_last n e.processor f.processor k r x within l

      to_arrival : (i ≡ l.place) ⊎ ((i < l.place) ⊎ (l.place < i)) → HappensBefore (c ++ j) i (length c + r.place)
      to_arrival (inl is) = subst (λ m. HappensBefore (c ++ j) m (length c + r.place)) (sym is) met
      to_arrival (inr (inl before)) =
          happens_before_transitive (c ++ j) (edge (record {
            before = before;
            from = e;
            to = event e.processor Arrive;
            from_at = event_place_longer c j i e at;
            to_at = event_place_longer c j l.place (event e.processor Arrive) l.last.does;
            link = same refl;
          }))
          met
      to_arrival (inr (inr after)) = absurd (l.last.last i e after at refl)

      first : HappensBefore (c ++ j) i (length c + r.place)
      first = to_arrival (cases_order i l.place)

      finish : (r.place ≡ k) ⊎ ((r.place < k) ⊎ (k < r.place)) → HappensBefore (c ++ j) i (length c + k)
      finish (inl is) = subst (λ m. HappensBefore (c ++ j) i (length c + m)) is first
      finish (inr (inl before)) =
          on first (record {
            before = omega arith;
            from = r.first;
            to = f;
            from_at =
                event_place_behind c j r.place r.first r.at;
            to_at = event_place_behind c j k f to;
            link = same r.mine;
          })
      finish (inr (inr after)) = absurd (let up = r.up_to in omega arith)
