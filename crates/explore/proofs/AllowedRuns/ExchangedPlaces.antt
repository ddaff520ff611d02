-- Two neighbours without a link, in either order: happens-before is the same, but for their two places. So is what loads answer.
use Rattle.std.proofs.Common.{ℕ, zero, suc, ◌≡◌, ◌≢◌, ◌+◌, ◌<◌, ◌⊎◌, inl, inr, Bool, cond, ◌==◌, List, [], ◌∷◌, ◌++◌, Some, length, take, slice_get, refl, sym, ap, subst, ◌∙◌, arith}
use Rattle.std.proofs.lemmas.Bool.{cases_eq, cases_lt, cond-true, cond-false, eq-eqb, ne_eqb}
use Rattle.std.proofs.lemmas.List.{take-append-le}
use Rattle.std.proofs.lemmas.Option.{same_Some}
use Rattle.std.proofs.Math.Seq.{take-append-add, take-append_seam}
use Rattle.base.proofs.SlicesAndCounts.{slice_append_cases, slice_get-append_left, slice_get-append_right}
use Rattle.journal.specs.declared.event.Event.{Event}
use Rattle.journal.specs.declared.event.Kind.{Kind}
use Rattle.journal.specs.declared.event.Kind.TheVariants.{Load, Store}
use Rattle.journal.specs.DidEvent.{event}
use Rattle.journal.specs.Events.{EventAt, event_count, event_arrives, event_departs}
use Rattle.journal.specs.ExplainedAnswers.{Explained}
use Rattle.journal.specs.HappensBeforeEdges.{Edge, HappensBefore, Link}
use Rattle.journal.specs.HappensBeforeEdges.HappensBefore.{edge, on}
use Rattle.journal.specs.HappensBeforeEdges.Link.{same, lets, meets}
use Rattle.journal.proofs.Order.EventPlacesAndCounts.{event_count-append}
use Rattle.journal.proofs.Times.TimesOfPlaces.{time_of_places_one_event}

-- place k, if the places n and n + 1 are exchanged
abbrev pub exchanged_place : ℕ → ℕ → ℕ
exchanged_place n k = cond (k == n) (n + 1) (cond (k == n + 1) n k)

pub exchanged_place_first : (n : ℕ) → exchanged_place n n ≡ n + 1
exchanged_place_first n = cond-true (n == n) (n + 1) (cond (n == n + 1) n n) (eq-eqb n n refl)

pub exchanged_place_second : (n : ℕ) → exchanged_place n (n + 1) ≡ n
exchanged_place_second n =
    cond-false (n + 1 == n) (n + 1) (cond (n + 1 == n + 1) n (n + 1)) (ne_eqb (n + 1) n (λ is. absurd (omega arith)))
    ∙ cond-true (n + 1 == n + 1) n (n + 1) (eq-eqb (n + 1) (n + 1) refl)

pub exchanged_place_other : (n k : ℕ) → k ≢ n → k ≢ n + 1 → exchanged_place n k ≡ k
exchanged_place_other n k one two =
    cond-false (k == n) (n + 1) (cond (k == n + 1) n k) (ne_eqb k n one) ∙ cond-false (k == n + 1) n k (ne_eqb k (n + 1) two)

-- a place is one of the two, or none
exchanged_place_cases : (n k : ℕ) → (k ≡ n) ⊎ ((k ≡ n + 1) ⊎ ((k ≢ n) × (k ≢ n + 1)))
exchanged_place_cases n k = elim (cases_eq k n) [
  | inl is ↦ inl is
  | inr one ↦ inr (elim (cases_eq k (n + 1)) [ inl is ↦ inl is | inr two ↦ inr (one, two) ])
]

pub exchanged_place_back : (n k : ℕ) → exchanged_place n (exchanged_place n k) ≡ k
exchanged_place_back n k = elim (exchanged_place_cases n k) [
  | inl is ↦ ap (λ m. exchanged_place n (exchanged_place n m)) is ∙ ap (exchanged_place n) (exchanged_place_first n) ∙ exchanged_place_second n ∙ sym is
  | inr more ↦ elim more [
    | inl is ↦ ap (λ m. exchanged_place n (exchanged_place n m)) is ∙ ap (exchanged_place n) (exchanged_place_second n) ∙ exchanged_place_first n ∙ sym is
    | inr others ↦
        ap (exchanged_place n) (exchanged_place_other n k others.0 others.1) ∙ exchanged_place_other n k others.0 others.1
  ]
]

-- what stood before still does, but for the two
exchanged_place_less : (n i k : ℕ) → i < k → ((i ≡ n) → (k ≡ n + 1) → ⊥) → exchanged_place n i < exchanged_place n k
exchanged_place_less n i k lt apart = elim (exchanged_place_cases n i) [
  | inl first ↦ elim (exchanged_place_cases n k) [
    | inl is ↦ absurd (omega arith)
    | inr more ↦ elim more [
      | inl second ↦ absurd (apart first second)
      | inr others ↦
          (let one = ap (exchanged_place n) first ∙ exchanged_place_first n in
          let two = exchanged_place_other n k others.0 others.1 in
          let isnt = others.1 in
          elim (cases_lt k (n + 2)) [ inl near ↦ absurd (isnt (omega arith)) | inr far ↦ omega arith ])
    ]
  ]
  | inr more ↦ elim more [
    | inl second ↦
        (let one = ap (exchanged_place n) second ∙ exchanged_place_second n in
        let two = exchanged_place_other n k (λ is. absurd (omega arith)) (λ is. absurd (omega arith)) in
        omega arith)
    | inr others ↦
        (let one = exchanged_place_other n i others.0 others.1 in
        elim (exchanged_place_cases n k) [
          | inl is ↦ (let two = ap (exchanged_place n) is ∙ exchanged_place_first n in omega arith)
          | inr rest ↦ elim rest [
            | inl is ↦
                (let two = ap (exchanged_place n) is ∙ exchanged_place_second n in
                let isnt = others.0 in
                elim (cases_lt i n) [ inl before ↦ omega arith | inr past ↦ absurd (isnt (omega arith)) ])
            | inr far ↦ (let two = exchanged_place_other n k far.0 far.1 in omega arith)
          ]
        ])
  ]
]

-- the events x and e behind a, and in the other order
module _ (a b : List Event) (x e : Event) (apart : x.processor ≢ e.processor) where
  abbrev exchanged_places_old : List Event
  exchanged_places_old = a ++ x ∷ e ∷ b

  abbrev exchanged_places_new : List Event
  exchanged_places_new = a ++ e ∷ x ∷ b

  exchanged_place_behind : (m : ℕ) (f : Event) → slice_get (x ∷ e ∷ b) m ≡ Some f → EventAt exchanged_places_new (exchanged_place (length a) (length a + m)) f
  exchanged_place_behind zero f at =
      subst (λ k. EventAt exchanged_places_new k f)
      (sym (ap (exchanged_place (length a)) (let zero_more : length a + 0 ≡ length a = omega arith in zero_more) ∙ exchanged_place_first (length a)))
      (slice_get-append_right a (e ∷ x ∷ b) 1 ∙ at)
  exchanged_place_behind (suc zero) f at =
      subst (λ k. EventAt exchanged_places_new k f)
      (sym (ap (exchanged_place (length a)) (let one_more : length a + suc zero ≡ length a + 1 = omega arith in one_more) ∙ exchanged_place_second (length a)))
      (let here = slice_get-append_right a (e ∷ x ∷ b) 0 in
      let zero_more : length a + 0 ≡ length a = omega arith in
      subst (λ k. EventAt exchanged_places_new k f) zero_more (here ∙ at))
  exchanged_place_behind (suc (suc m)) f at =
      subst (λ k. EventAt exchanged_places_new k f)
      (sym (exchanged_place_other (length a) (length a + suc (suc m)) (λ is. absurd (omega arith)) (λ is. absurd (omega arith))))
      (slice_get-append_right a (e ∷ x ∷ b) (suc (suc m)) ∙ at)

  -- each event stands at the exchanged place
  pub exchanged_place_has_event : (k : ℕ) (f : Event) → EventAt exchanged_places_old k f → EventAt exchanged_places_new (exchanged_place (length a) k) f
  exchanged_place_has_event k f at = elim (slice_append_cases a (x ∷ e ∷ b) k f at) [
    | inl before ↦
        (let lt = before.0 in
        subst (λ m. EventAt exchanged_places_new m f) (sym (exchanged_place_other (length a) k (λ is. absurd (omega arith)) (λ is. absurd (omega arith))))
        (slice_get-append_left a (e ∷ x ∷ b) k before.0 ∙ before.1))
    | inr behind ↦
        subst (λ m. EventAt exchanged_places_new (exchanged_place (length a) m) f) (sym behind.1) (exchanged_place_behind behind.0 f behind.2)
  ]

  -- of an event's processor as much stands before it
  exchanged_place_others : (is : Kind → Bool) (f : Event) (p : ℕ) → f.processor ≢ p → event_count is (a ++ f ∷ []) p ≡ event_count is a p
  exchanged_place_others is f p isnt =
      let sum = event_count-append is a (f ∷ []) p in
      let none : event_count is (f ∷ []) p ≡ 0 = elim (time_of_places_one_event is f p) [
        | inl zero_more ↦ zero_more
        | inr one ↦ absurd (isnt one.0)
      ] in
      omega arith

  exchanged_place_two : (is : Kind → Bool) (p : ℕ) (more : List Event) → event_count is (a ++ e ∷ x ∷ more) p ≡ event_count is (a ++ x ∷ e ∷ more) p
  exchanged_place_two is p more =
      let one = event_count-append is a (e ∷ x ∷ more) p in
      let two = event_count-append is a (x ∷ e ∷ more) p in
      let three = event_count-append is (e ∷ []) (x ∷ more) p in
      let four = event_count-append is (x ∷ []) more p in
      let five = event_count-append is (x ∷ []) (e ∷ more) p in
      let six = event_count-append is (e ∷ []) more p in
      omega arith

  exchanged_place_count_behind : (is : Kind → Bool) (m : ℕ) (f : Event) → slice_get (x ∷ e ∷ b) m ≡ Some f
      → event_count is (take (exchanged_place (length a) (length a + m)) exchanged_places_new) f.processor
      ≡ event_count is (take (length a + m) exchanged_places_old) f.processor
  exchanged_place_count_behind is zero f at =
      let zero_more : length a + 0 ≡ length a = omega arith in
      let own : x ≡ f = same_Some x f at in
      let other : e.processor ≢ f.processor = λ same_as. apart (ap (λ (y : Event). y.processor) own ∙ sym same_as) in
      ap (λ k. event_count is (take k exchanged_places_new) f.processor) (ap (exchanged_place (length a)) zero_more ∙ exchanged_place_first (length a))
      ∙ ap (λ es. event_count is es f.processor) (take-append-add a (e ∷ x ∷ b) 1)
      ∙ exchanged_place_others is e f.processor other
      ∙ sym (ap (λ es. event_count is es f.processor) (ap (λ k. take k exchanged_places_old) zero_more ∙ take-append_seam a (x ∷ e ∷ b)))
  exchanged_place_count_behind is (suc zero) f at =
      let one_more : length a + suc zero ≡ length a + 1 = omega arith in
      let own : e ≡ f = same_Some e f at in
      let other : x.processor ≢ f.processor = λ same_as. apart (same_as ∙ sym (ap (λ (y : Event). y.processor) own)) in
      ap (λ k. event_count is (take k exchanged_places_new) f.processor) (ap (exchanged_place (length a)) one_more ∙ exchanged_place_second (length a))
      ∙ ap (λ es. event_count is es f.processor) (take-append_seam a (e ∷ x ∷ b))
      ∙ sym (ap (λ es. event_count is es f.processor) (ap (λ k. take k exchanged_places_old) one_more ∙ take-append-add a (x ∷ e ∷ b) 1)
      ∙ exchanged_place_others is x f.processor other)
  exchanged_place_count_behind is (suc (suc m)) f at =
      ap (λ k. event_count is (take k exchanged_places_new) f.processor)
      (exchanged_place_other (length a) (length a + suc (suc m)) (λ is_first. absurd (omega arith)) (λ is_second. absurd (omega arith)))
      ∙ ap (λ es. event_count is es f.processor) (take-append-add a (e ∷ x ∷ b) (suc (suc m)))
      ∙ exchanged_place_two is f.processor (take m b)
      ∙ sym (ap (λ es. event_count is es f.processor) (take-append-add a (x ∷ e ∷ b) (suc (suc m))))

  exchanged_place_count : (is : Kind → Bool) (k : ℕ) (f : Event) → EventAt exchanged_places_old k f
      → event_count is (take (exchanged_place (length a) k) exchanged_places_new) f.processor ≡ event_count is (take k exchanged_places_old) f.processor
  exchanged_place_count is k f at = elim (slice_append_cases a (x ∷ e ∷ b) k f at) [
    | inl before ↦
        (let lt = before.0 in
        ap (λ m. event_count is (take m exchanged_places_new) f.processor)
        (exchanged_place_other (length a) k (λ is_first. absurd (omega arith)) (λ is_second. absurd (omega arith)))
        ∙ ap (λ es. event_count is es f.processor)
        (take-append-le k a (e ∷ x ∷ b) (omega arith) ∙ sym (take-append-le k a (x ∷ e ∷ b) (omega arith))))
    | inr behind ↦
        subst (λ m. event_count is (take (exchanged_place (length a) m) exchanged_places_new) f.processor ≡ event_count is (take m exchanged_places_old) f.processor)
        (sym behind.1) (exchanged_place_count_behind is behind.0 f behind.2)
  ]

  exchanged_place_link : (i k : ℕ) (f g : Event) → EventAt exchanged_places_old i f → EventAt exchanged_places_old k g → Link exchanged_places_old i k f g
      → Link exchanged_places_new (exchanged_place (length a) i) (exchanged_place (length a) k) f g
  exchanged_place_link i k f g at_f at_g (same is) = same is
  exchanged_place_link i k f g at_f at_g (lets is) = lets is
  exchanged_place_link i k f g at_f at_g (meets m) = meets (record {
    arrives = m.arrives;
    departs = m.departs;
    episode = exchanged_place_count event_arrives i f at_f ∙ m.episode ∙ sym (exchanged_place_count event_departs k g at_g);
  })

  -- no link leads from x to e
  module _ (unlinked : Link exchanged_places_old (length a) (length a + 1) x e → ⊥) where
    exchanged_place_at_first : (f : Event) → EventAt exchanged_places_old (length a) f → f ≡ x
    exchanged_place_at_first f at =
        let zero_more : length a + 0 ≡ length a = omega arith in
        let here : EventAt exchanged_places_old (length a) x = subst (λ k. EventAt exchanged_places_old k x) zero_more (slice_get-append_right a (x ∷ e ∷ b) 0) in
        same_Some f x (sym at ∙ here)

    exchanged_place_at_second : (f : Event) → EventAt exchanged_places_old (length a + 1) f → f ≡ e
    exchanged_place_at_second f at = same_Some f e (sym at ∙ slice_get-append_right a (x ∷ e ∷ b) 1)

    exchanged_place_unlinked : (i k : ℕ) → Edge exchanged_places_old i k → i ≡ length a → k ≡ length a + 1 → ⊥
    exchanged_place_unlinked i k d first second =
        let from = exchanged_place_at_first d.from (subst (λ n. EventAt exchanged_places_old n d.from) first d.from_at) in
        let to = exchanged_place_at_second d.to (subst (λ n. EventAt exchanged_places_old n d.to) second d.to_at) in
        unlinked
        (subst (λ f. Link exchanged_places_old (length a) (length a + 1) f e) from
        (subst (λ f. Link exchanged_places_old (length a) (length a + 1) d.from f) to
        (subst (λ n. Link exchanged_places_old (length a) n d.from d.to) second (subst (λ n. Link exchanged_places_old n k d.from d.to) first d.link))))

    exchanged_place_edge : (i k : ℕ) → Edge exchanged_places_old i k → Edge exchanged_places_new (exchanged_place (length a) i) (exchanged_place (length a) k)
    exchanged_place_edge i k d = record {
      before = exchanged_place_less (length a) i k d.before (exchanged_place_unlinked i k d);
      from = d.from;
      to = d.to;
      from_at = exchanged_place_has_event i d.from d.from_at;
      to_at = exchanged_place_has_event k d.to d.to_at;
      link = exchanged_place_link i k d.from d.to d.from_at d.to_at d.link;
    }

    pub exchanged_place_happens_before : {i k : ℕ} → HappensBefore exchanged_places_old i k → HappensBefore exchanged_places_new (exchanged_place (length a) i) (exchanged_place (length a) k)
    exchanged_place_happens_before {i} {k} (edge d) = edge (exchanged_place_edge i k d)
    exchanged_place_happens_before {i} {k} (on {m = m} way d) = on (exchanged_place_happens_before way) (exchanged_place_edge m k d)

-- what loads answer in the one order, they may answer in the other
pub exchanged_place_explained : (a b : List Event) (x e : Event) → x.processor ≢ e.processor
    → (Link (a ++ x ∷ e ∷ b) (length a) (length a + 1) x e → ⊥) → (Link (a ++ e ∷ x ∷ b) (length a) (length a + 1) e x → ⊥)
    → Explained (a ++ x ∷ e ∷ b) → Explained (a ++ e ∷ x ∷ b)
exchanged_place_explained a b x e apart one two explained k p w v does =
    elim (explained (exchanged_place (length a) k) p w v (there k (event p (Load w v)) does)) [
      | inl none ↦
          inl (none.0, λ i q u stores before. none.1 (exchanged_place (length a) i) q u (there i (event q (Store w u)) stores) (before_there before))
      | inr l ↦ inr (record {
        place = exchanged_place (length a) l.place;
        by = l.by;
        stores = here l.place (event l.by (Store w v)) l.stores;
        before = subst (λ m. HappensBefore (a ++ e ∷ x ∷ b) (exchanged_place (length a) l.place) m) (exchanged_place_back (length a) k) (before_here l.before);
        latest = λ i q u stores before then.
            l.latest (exchanged_place (length a) i) q u (there i (event q (Store w u)) stores) (before_there before)
            (subst (λ m. HappensBefore (a ++ x ∷ e ∷ b) m (exchanged_place (length a) i)) (exchanged_place_back (length a) l.place) (before_there then));
      })
    ]
  where
    back : e.processor ≢ x.processor
    back is = apart (sym is)

    there : (i : ℕ) (f : Event) → EventAt (a ++ e ∷ x ∷ b) i f → EventAt (a ++ x ∷ e ∷ b) (exchanged_place (length a) i) f
    there i f at = exchanged_place_has_event a b e x back i f at

    here : (i : ℕ) (f : Event) → EventAt (a ++ x ∷ e ∷ b) i f → EventAt (a ++ e ∷ x ∷ b) (exchanged_place (length a) i) f
    here i f at = exchanged_place_has_event a b x e apart i f at

    before_there : {i m : ℕ} → HappensBefore (a ++ e ∷ x ∷ b) i m → HappensBefore (a ++ x ∷ e ∷ b) (exchanged_place (length a) i) (exchanged_place (length a) m)
    before_there way = exchanged_place_happens_before a b e x back two way

    before_here : {i m : ℕ} → HappensBefore (a ++ x ∷ e ∷ b) i m → HappensBefore (a ++ e ∷ x ∷ b) (exchanged_place (length a) i) (exchanged_place (length a) m)
    before_here way = exchanged_place_happens_before a b x e apart one way
