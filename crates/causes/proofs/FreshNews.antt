-- What each event brings its processor news of.
use Rattle.std.proofs.Common.{◌≡◌, ◌≢◌, ℕ, ◌+◌, ◌<◌, ◌≤◌, ◌⊎◌, ◌↔◌, ◌==◌, Bool, false, IsTrue, inl, inr, List, [], ◌∷◌, ◌++◌, Some, length, take, drop, slice_index, slice_index_or, subst, sym, refl, ap, ◌∙◌, take-append-drop, take-take, arith}
use Rattle.std.specs.List.{Contains}
use Rattle.std.specs.List.Sorted.{IsNonDecreasing, IsPermutation, IsStrictlyIncreasing}
use Rattle.std.proofs.lemmas.Bool.{cases_eq, cases_lt, eq-eqb, ne_eqb}
use Rattle.std.proofs.lemmas.List.{length-take-le}
use Rattle.std.proofs.lemmas.List.Kept.{AllPairs-from_increasing}
use Rattle.std.proofs.lemmas.List.Sorted.{Contains-permutation, IsPermutation-sym}
use Rattle.std.proofs.lemmas.Map.Keys.{IsDistinct-from_apart, IsDistinct-IsPermutation, IsStrictlyIncreasing-from_distinct}
use Rattle.std.proofs.lemmas.Option.{same_Some, slice_get-get_or, slice_get_within}
use Rattle.base.specs.InOrderOnce.{Has, InOrder, IsOnce}
use Rattle.base.proofs.SlicesAndCounts.{slice_push_cases, slice_get-append_left, slice_get-last, slice_get-take}
use Rattle.journal.specs.declared.event.Event.{Event}
use Rattle.journal.specs.declared.event.Kind.{Kind}
use Rattle.journal.specs.declared.event.Kind.TheVariants.{Acquire, Depart, Await}
use Rattle.journal.specs.DidEvent.{event}
use Rattle.journal.specs.Events.{EventAt, event_count, event_interval_at, event_arrives, event_closes, event_departs}
use Rattle.journal.specs.EventsInRange.{EventProcessorsInRange}
use Rattle.journal.specs.HappensBeforeEdges.{HappensBefore}
use Rattle.journal.specs.HappensBeforeEdges.HappensBefore.{edge}
use Rattle.journal.specs.Pasts.{InPast}
use Rattle.journal.specs.Times.{ClosesAt}
use Rattle.journal.proofs.Order.HappensBefore.{happens_before_longer, happens_before_shorter}
use Rattle.journal.proofs.Order.EventPlacesAndCounts.{event_place_same, event_place_does, event_place_does_same}
use Rattle.causes.specs.declared.step.Step.{Step}
use Rattle.causes.specs.Edges.{EdgeFromOther, EdgeLetsOn}
use Rattle.causes.specs.declared.index.Turn.{Turn}
use Rattle.causes.specs.Index.{IsIndexedClosing}
use Rattle.causes.specs.News.{AreNewsRising, IsNewsOfStep, IsNews, NewsCutsAround}
use Rattle.causes.proofs.LookedUpIndex.{HasLookedUpTurn, looked_up_closing_same}
use Rattle.causes.proofs.EdgeLeadsOn.{leads, edge_leads_led}

-- what lets another processor on closes an interval
fresh_news_lets_closes : (a : Kind) (n : ℕ) (b : Kind) (m : ℕ) → EdgeLetsOn a n b m → IsTrue (event_closes a)
fresh_news_lets_closes a n (Acquire l) m is = subst (λ k. IsTrue (event_closes k)) (sym is) refl
fresh_news_lets_closes a n (Await f) m is = subst (λ k. IsTrue (event_closes k)) (sym is) refl
fresh_news_lets_closes a n Depart m is = subst (λ k. IsTrue (event_closes k)) (sym is.0) refl
fresh_news_lets_closes a n _ m is = absurd is

-- what happens before a place of a journal's front does so in the front, and the other way round
pub fresh_news_in_front : (j : List Event) (n i m : ℕ) → n ≤ length j → m < n → HappensBefore j i m → HappensBefore (take n j) i m
fresh_news_in_front j n i m le lt h =
    let long : length (take n j) ≡ n = length-take-le n j le in
    happens_before_shorter (take n j) (drop n j) (omega arith)
    (subst (λ xs. HappensBefore xs i m) (sym (take-append-drop n j)) h)

pub fresh_news_from_front : (j : List Event) (n i m : ℕ) → HappensBefore (take n j) i m → HappensBefore j i m
fresh_news_from_front j n i m h =
    subst (λ xs. HappensBefore xs i m) (take-append-drop n j) (happens_before_longer (take n j) (drop n j) h)

pub fresh_news_number_in_front : (j : List Event) (n q i : ℕ) → i ≤ n → event_interval_at (take n j) q i ≡ event_interval_at j q i
fresh_news_number_in_front j n q i le = ap (λ (xs : List Event). event_count event_closes xs q) (take-take i n j le)

-- what the step brings news of is news
pub fresh_news_of_step_is : (j : List Event) (x : Step) (q i : ℕ) → NewsCutsAround j x → IsNewsOfStep j x q i → IsNews j i x.place
fresh_news_of_step_is j x q i step new = record { leads = new.leads; first = first }
  where
    before : i < x.place
    before = new.leads.edge.before

    within : x.place < length j
    within = slice_get_within j x.place step.event step.at

    first : (m : ℕ) (f : Event) → m < x.place → EventAt j m f → f.processor ≡ new.leads.edge.to.processor
        → ¬ HappensBefore j i m
    first m f lt at mine h =
        let lt_i = before in
        let inside = within in
        let same = event_place_same j x.place new.leads.edge.to step.event new.leads.edge.to_at step.at in
        let past : InPast (take x.place j) step.event.processor i =
        record {
          own = m;
          event = f;
          at = slice_get-take j x.place m lt ∙ at;
          mine = mine ∙ ap (λ (y : Event). y.processor) same;
          reaches = inr (fresh_news_in_front j x.place i m (omega arith) lt h);
        } in
        let from = new.leads.edge.from in
        let by = event_place_same j i from (event q new.closes.kind) new.leads.edge.from_at new.closes.does in
        let mine : from.processor ≡ q = ap (λ (y : Event). y.processor) by in
        let apart : from.processor ≢ step.event.processor =
        λ is. new.leads.apart (is ∙ sym (ap (λ (y : Event). y.processor) same)) in
        let known = (step.before.covers i from (slice_get-take j x.place i before ∙ new.leads.edge.from_at) apart).0 past in
        let late = subst (λ r. slice_index x.before.items r ≤ i) (sym mine) new.late in
        absurd (omega arith)

-- what is news is what the step brings of its processor, of which there are n
pub record IsFreshNewsOfSome (j : List Event) (x : Step) (n i : ℕ) : Type 0 where
  pub by : ℕ
  pub low : by < n
  pub new : IsNewsOfStep j x by i

pub fresh_news_is_of_step : (j : List Event) (x : Step) (n i : ℕ) → EventProcessorsInRange n j → NewsCutsAround j x → IsNews j i x.place
    → IsFreshNewsOfSome j x n i
fresh_news_is_of_step j x n i low step news = record {
  by = from.processor;
  low = low i from news.leads.edge.from_at;
  new = record { closes = closes; leads = news.leads; late = late; known = known };
}
  where
    from : Event
    from = news.leads.edge.from

    k : ℕ
    k = x.place

    before : i < k
    before = news.leads.edge.before

    within : k < length j
    within = slice_get_within j k step.event step.at

    closes : ClosesAt j from.processor i
    closes =
        let to = edge_leads_led j i k from step.event news.leads.edge.from_at step.at news.leads in
        record {
          kind = from.kind;
          does = event_place_does j i from.processor from news.leads.edge.from_at refl;
          closes = fresh_news_lets_closes from.kind _ step.event.kind _ to.1;
        }

    unheard : ¬ InPast (take k j) step.event.processor i
    unheard past =
        let same = event_place_same j k news.leads.edge.to step.event news.leads.edge.to_at step.at in
        let mine : past.event.processor ≡ news.leads.edge.to.processor =
        past.mine ∙ sym (ap (λ (y : Event). y.processor) same) in
        let there : EventAt j past.own past.event = front_at past.own past.event past.at in
        let lt : past.own < k = front_lt past.own past.event past.at in
        elim past.reaches [
          | inl is ↦
              (let one = event_place_same j i from past.event news.leads.edge.from_at (subst (λ m. EventAt j m past.event) (sym is) there) in
              news.leads.apart (ap (λ (y : Event). y.processor) one ∙ mine))
          | inr h ↦ news.first past.own past.event lt there mine (fresh_news_from_front j k i past.own h)
        ]
      where
        front_lt : (m : ℕ) (f : Event) → EventAt (take k j) m f → m < k
        front_lt m f at =
            let lt = slice_get_within (take k j) m f at in
            let inside = within in
            let long = length-take-le k j (omega arith) in
            omega arith

        front_at : (m : ℕ) (f : Event) → EventAt (take k j) m f → EventAt j m f
        front_at m f at = sym (slice_get-take j k m (front_lt m f at)) ∙ at

    other : from.processor ≢ step.event.processor
    other is =
        let same = event_place_same j k news.leads.edge.to step.event news.leads.edge.to_at step.at in
        news.leads.apart (is ∙ sym (ap (λ (y : Event). y.processor) same))

    late : slice_index x.before.items from.processor ≤ i
    late = elim (cases_lt i (slice_index x.before.items from.processor)) [
      | inl lt ↦
          absurd (unheard ((step.before.covers i from (slice_get-take j k i before ∙ news.leads.edge.from_at) other).1 lt))
      | inr ge ↦ ge
    ]

    known : i < slice_index x.after.items from.processor
    known =
        let lt_i = before in
        let inside = within in
        let past : InPast (take (k + 1) j) step.event.processor i =
        record {
          own = k;
          event = step.event;
          at = slice_get-take j (k + 1) k (omega arith) ∙ step.at;
          mine = refl;
          reaches = inr (fresh_news_in_front j (k + 1) i k (omega arith) (omega arith) (edge news.leads.edge));
        } in
        (step.after.covers i from (slice_get-take j (k + 1) i (omega arith) ∙ news.leads.edge.from_at) other).0 past

-- at place p, q closes its interval n, which is known after the step's event and wasn't before it
pub record IsFreshNewsClosing (j : List Event) (x : Step) (q n p : ℕ) : Type 0 where
  pub closing : IsIndexedClosing j q n p
  pub late : slice_index x.before.items q ≤ p
  pub known : p < slice_index x.after.items q

-- the places so far: those that were there, and q's news of intervals below n
abbrev pub HasFreshNewsBelow : List Event → Step → ℕ → ℕ → List ℕ → List ℕ → Type 0
HasFreshNewsBelow j x q n old places =
    (i : ℕ) → Has places i ↔ (Has old i ⊎ (IsNewsOfStep j x q i × (event_interval_at j q i < n)))

-- no place of them stands twice, if none did and none was a closing of q's
abbrev pub IsFreshNewsOnceIf : List Event → ℕ → List ℕ → List ℕ → Type 0
IsFreshNewsOnceIf j q old places = IsOnce old → ((i : ℕ) → Has old i → ¬ ClosesAt j q i) → IsOnce places

fresh_news_has_older : (xs : List ℕ) (y i : ℕ) → Has xs i → Has (xs ++ y ∷ []) i
fresh_news_has_older xs y i at = (at.0, slice_get-append_left xs (y ∷ []) at.0 (slice_get_within xs at.0 i at.1) ∙ at.1)

-- q's closing of interval n is news
pub fresh_news_below_next : {j : List Event} {x : Step} {q n p : ℕ} (old places : List ℕ) → IsFreshNewsClosing j x q n p
    → EdgeFromOther j p x.place → HasFreshNewsBelow j x q n old places → HasFreshNewsBelow j x q (n + 1) old (places ++ p ∷ [])
fresh_news_below_next {j} {x} {q} {n} {p} old places closed leads was i = (there, back)
  where
    here : IsIndexedClosing j q n p
    here = closed.closing

    there : Has (places ++ p ∷ []) i → Has old i ⊎ (IsNewsOfStep j x q i × (event_interval_at j q i < n + 1))
    there at = elim (slice_push_cases places p at.0 i at.1) [
      | inl older ↦ elim ((was i).0 (at.0, older.1)) [
        | inl first ↦ inl first
        | inr new ↦ (let lt = new.1 in inr (new.0, omega arith))
      ]
      | inr last ↦
          (let number = here.number in
          let new : IsNewsOfStep j x q p × (event_interval_at j q p < n + 1) =
          (record { closes = here.closes; leads = leads; late = closed.late; known = closed.known }, omega arith) in
          inr (subst (λ m. IsNewsOfStep j x q m × (event_interval_at j q m < n + 1)) last.1 new))
    ]

    back : (Has old i ⊎ (IsNewsOfStep j x q i × (event_interval_at j q i < n + 1))) → Has (places ++ p ∷ []) i
    back s = elim s [
      | inl first ↦ fresh_news_has_older places p i ((was i).1 (inl first))
      | inr new ↦ elim (cases_eq (event_interval_at j q i) n) [
        | inl is ↦
            (let same = looked_up_closing_same j q n p i here (record { closes = new.0.closes; number = is }) in
            (length places, slice_get-last places p ∙ ap (λ m. Some m) same))
        | inr isnt ↦ (let lt = new.1 in fresh_news_has_older places p i ((was i).1 (inr (new.0, omega arith))))
      ]
    ]

-- or isn't
pub fresh_news_below_others : {j : List Event} {x : Step} {q n p : ℕ} (old places : List ℕ) → IsFreshNewsClosing j x q n p
    → ¬ EdgeFromOther j p x.place → HasFreshNewsBelow j x q n old places → HasFreshNewsBelow j x q (n + 1) old places
fresh_news_below_others {j} {x} {q} {n} {p} old places closed away was i = (there, back)
  where
    there : Has places i → Has old i ⊎ (IsNewsOfStep j x q i × (event_interval_at j q i < n + 1))
    there at = elim ((was i).0 at) [
      | inl first ↦ inl first
      | inr new ↦ (let lt = new.1 in inr (new.0, omega arith))
    ]

    back : (Has old i ⊎ (IsNewsOfStep j x q i × (event_interval_at j q i < n + 1))) → Has places i
    back s = elim s [
      | inl first ↦ (was i).1 (inl first)
      | inr new ↦ elim (cases_eq (event_interval_at j q i) n) [
        | inl is ↦
            (let same = looked_up_closing_same j q n i p (record { closes = new.0.closes; number = is }) closed.closing in
            absurd (away (subst (λ m. EdgeFromOther j m x.place) same new.0.leads)))
        | inr isnt ↦ (let lt = new.1 in (was i).1 (inr (new.0, omega arith)))
      ]
    ]

-- past the last interval that is news, these are all of q's
pub fresh_news_below_all : (j : List Event) (x : Step) (q n : ℕ) (old places : List ℕ)
    → ((i : ℕ) → IsNewsOfStep j x q i → event_interval_at j q i < n)
    → HasFreshNewsBelow j x q n old places → (i : ℕ) → Has places i ↔ (Has old i ⊎ IsNewsOfStep j x q i)
fresh_news_below_all j x q n old places few was i = (
  (λ at. elim ((was i).0 at) [ inl first ↦ inl first | inr new ↦ inr new.0 ]),
  λ s. elim s [
    | inl first ↦ (was i).1 (inl first)
    | inr new ↦ (was i).1 (inr (new, few i new))
  ],
)

-- before the first interval that is news, there are none of q's
pub fresh_news_below_none : (j : List Event) (x : Step) (q n : ℕ) (old : List ℕ)
    → ((i : ℕ) → IsNewsOfStep j x q i → n ≤ event_interval_at j q i) → HasFreshNewsBelow j x q n old old
fresh_news_below_none j x q n old late i = (
  (λ at. inl at),
  λ s. elim s [
    | inl first ↦ first
    | inr new ↦ (let above = late i new.0 in let below = new.1 in absurd (omega arith))
  ],
)

-- a place more that isn't among them
fresh_news_once_next : (xs : List ℕ) (y : ℕ) → IsOnce xs → ¬ Has xs y → IsOnce (xs ++ y ∷ [])
fresh_news_once_next xs y once away m n a b lt at to is = elim (slice_push_cases xs y n b to) [
  | inl last ↦ elim (slice_push_cases xs y m a at) [
    | inl first ↦ once m n a b lt first.1 last.1 is
    | inr new ↦ (let inside = slice_get_within xs n b last.1 in absurd (omega (arith, new.0)))
  ]
  | inr last ↦ elim (slice_push_cases xs y m a at) [
    | inl first ↦ away (m, first.1 ∙ ap (λ z. Some z) (is ∙ sym last.1))
    | inr new ↦ absurd (omega (arith, new.0, last.0))
  ]
]

pub fresh_news_once_push : {j : List Event} {x : Step} {q n p : ℕ} (old places : List ℕ) → IsFreshNewsClosing j x q n p
    → HasFreshNewsBelow j x q n old places → IsFreshNewsOnceIf j q old places → IsFreshNewsOnceIf j q old (places ++ p ∷ [])
fresh_news_once_push {j} {x} {q} {n} {p} old places closed was once first apart =
    fresh_news_once_next places p (once first apart) (λ at. elim ((was p).0 at) [
      | inl there ↦ apart p there closed.closing.closes
      | inr new ↦ (let number = closed.closing.number in let lt = new.1 in absurd (omega arith))
    ])

-- the places so far: the news of the first n processors, none twice
pub record AreFreshNewsBelow (j : List Event) (x : Step) (n : ℕ) (places : List ℕ) : Type 0 where
  pub has : (i : ℕ) → Has places i ↔ ((q : ℕ) × (q < n) × IsNewsOfStep j x q i)
  pub once : IsOnce places

-- and of one more
pub fresh_news_next_processor : (j : List Event) (x : Step) (n : ℕ) (old new : List ℕ) → AreFreshNewsBelow j x n old
    → ((i : ℕ) → Has new i ↔ (Has old i ⊎ IsNewsOfStep j x n i)) → IsFreshNewsOnceIf j n old new → AreFreshNewsBelow j x (n + 1) new
fresh_news_next_processor j x n old new was has once = record { has = λ i. (there i, back i); once = once was.once apart }
  where
    apart : (i : ℕ) → Has old i → ¬ ClosesAt j n i
    apart i at closes =
        let o = (was.has i).0 at in
        let lt = o.1 in
        let same = (event_place_does_same j i o.0 n o.2.closes.kind closes.kind o.2.closes.does closes.does).0 in
        absurd (omega arith)

    there : (i : ℕ) → Has new i → (q : ℕ) × (q < n + 1) × IsNewsOfStep j x q i
    there i at = elim ((has i).0 at) [
      | inl older ↦ (let o = (was.has i).0 older in let lt = o.1 in (o.0, omega arith, o.2))
      | inr now ↦ (n, omega arith, now)
    ]

    back : (i : ℕ) → ((q : ℕ) × (q < n + 1) × IsNewsOfStep j x q i) → Has new i
    back i s = elim (cases_eq s.0 n) [
      | inl is ↦ (has i).1 (inr (subst (λ q. IsNewsOfStep j x q i) is s.2))
      | inr isnt ↦ (let lt = s.1 in (has i).1 (inl ((was.has i).1 (s.0, omega arith, s.2))))
    ]

fresh_news_has_contains : (xs : List ℕ) (x : ℕ) → Has xs x → Contains xs x
fresh_news_has_contains xs x at =
    let lt = slice_get_within xs at.0 x at.1 in
    (at.0, lt, same_Some (slice_index_or xs at.0 x) x (sym (slice_get-get_or xs at.0 x lt) ∙ at.1))

fresh_news_contains_has : (xs : List ℕ) (x : ℕ) → Contains xs x → Has xs x
fresh_news_contains_has xs x at = (at.0, slice_get-get_or xs at.0 x at.1 ∙ ap (λ y. Some y) at.2)

-- in another order the same places stand in the list
fresh_news_has_moved : (xs ys : List ℕ) (x : ℕ) → IsPermutation xs ys → Has xs x → Has ys x
fresh_news_has_moved xs ys x moved at = fresh_news_contains_has ys x (Contains-permutation xs ys x moved (fresh_news_has_contains xs x at))

fresh_news_in_order : (xs : List ℕ) → IsStrictlyIncreasing xs → InOrder (λ i m. i < m) xs
fresh_news_in_order xs rises m n a b lt at to =
    let inside = slice_get_within xs n b to in
    let first = same_Some (slice_index_or xs m 0) a (sym (slice_get-get_or xs m 0 (omega arith)) ∙ at) in
    let last = same_Some (slice_index_or xs n 0) b (sym (slice_get-get_or xs n 0 inside) ∙ to) in
    let pair = AllPairs-from_increasing xs rises m n 0 lt inside in
    omega arith

fresh_news_flips : (a b : ℕ) → (a == b) ≡ (b == a)
fresh_news_flips a b = elim (cases_eq a b) [
  | inl is ↦ eq-eqb a b is ∙ sym (eq-eqb b a (sym is))
  | inr isnt ↦ ne_eqb a b isnt ∙ sym (ne_eqb b a (λ is. isnt (sym is)))
]

-- those of all processors, sorted, are the news
pub fresh_news_sorted_all : {j : List Event} {x : Step} {n : ℕ} {places : List ℕ} (sorted : List ℕ)
    → EventProcessorsInRange n j → NewsCutsAround j x → AreFreshNewsBelow j x n places → IsPermutation places sorted
    → IsNonDecreasing sorted → AreNewsRising j x.place sorted
fresh_news_sorted_all {j} {x} {n} {places} sorted low step are moved up = record { has = λ i. (there i, back i); order = order }
  where
    there : (i : ℕ) → Has sorted i → IsNews j i x.place
    there i at =
        let o = (are.has i).0 (fresh_news_has_moved sorted places i (IsPermutation-sym places sorted moved) at) in
        fresh_news_of_step_is j x o.0 i step o.2

    back : (i : ℕ) → IsNews j i x.place → Has sorted i
    back i news =
        let new = fresh_news_is_of_step j x n i low step news in
        fresh_news_has_moved places sorted i moved ((are.has i).1 (new.by, new.low, new.new))

    apart : (m n d : ℕ) → m < n → n < length places → (slice_index_or places m d == slice_index_or places n d) ≡ false
    apart m n d lt inside =
        ne_eqb (slice_index_or places m d) (slice_index_or places n d)
        (are.once m n (slice_index_or places m d) (slice_index_or places n d) lt
        (slice_get-get_or places m d (omega arith)) (slice_get-get_or places n d inside))

    order : InOrder (λ i m. i < m) sorted
    order =
        fresh_news_in_order sorted
        (IsStrictlyIncreasing-from_distinct sorted up
        (IsDistinct-IsPermutation (λ (a b : ℕ). a == b) fresh_news_flips places sorted moved (IsDistinct-from_apart (λ (a b : ℕ). a == b) places apart)))

-- whether an edge leads on, by the turns of both events
pub fresh_news_leads_by_turns : {j : List Event} {i k : ℕ} {e f : Event} {s t : Turn} (b : Bool) → HasLookedUpTurn j i e s → HasLookedUpTurn j k f t
    → i < k → e.processor ≢ f.processor → (IsTrue b ↔ EdgeLetsOn e.kind s.arrived f.kind t.departed)
    → IsTrue b ↔ EdgeFromOther j i k
fresh_news_leads_by_turns {j} {i} {k} {e} {f} {s} {t} b one two lt apart tells = (there, back)
  where
    there : IsTrue b → EdgeFromOther j i k
    there so =
        leads j i k e f lt one.at two.at (
          apart,
          subst (λ n. EdgeLetsOn e.kind n f.kind (event_count event_departs (take k j) f.processor)) one.turn.arrived
              (subst (λ m. EdgeLetsOn e.kind s.arrived f.kind m) two.turn.departed (tells.0 so)),
        )

    back : EdgeFromOther j i k → IsTrue b
    back x =
        tells.1
        (subst (λ n. EdgeLetsOn e.kind n f.kind t.departed) (sym one.turn.arrived)
        (subst (λ m. EdgeLetsOn e.kind (event_count event_arrives (take i j) e.processor) f.kind m) (sym two.turn.departed)
        (edge_leads_led j i k e f one.at two.at x).1))
