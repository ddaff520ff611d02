-- The line at a lock under one more event.
use Rattle.std.proofs.Common.{◌≡◌, ◌≢◌, ℕ, zero, suc, ◌<◌, ◌⊎◌, inl, inr, List, [], ◌∷◌, ◌++◌, length, Some, slice_get, subst, sym, refl, ap, ◌∙◌, arith}
use Rattle.std.proofs.lemmas.Bool.{cases_eq}
use Rattle.std.proofs.lemmas.List.{length_push}
use Rattle.std.proofs.lemmas.Option.{same_Some, none-some, slice_get_within}
use Rattle.journal.specs.declared.event.Event.{Event}
use Rattle.journal.specs.declared.event.Kind.{Kind}
use Rattle.journal.specs.declared.event.Kind.TheVariants.{Ask, Acquire, Release}
use Rattle.base.specs.InOrderOnce.{Has}
use Rattle.journal.specs.WellFormed.{LastIs, Holds, WellFormedGrant}
use Rattle.journal.specs.AwaitedNext.{AwaitsNothingNext}
use Rattle.base.proofs.SlicesAndCounts.{slice_push_cases, slice_get-append_left, slice_get-last}
use Rattle.journal.proofs.Order.EventPlacesAndCounts.{event_place_inside}
use Rattle.journal.proofs.Journals.WellFormedStays.{well_formed_stays_last_cases, well_formed_stays_last_unique, well_formed_stays_holds_cases, well_formed_stays_holds_now}
use Rattle.journal.specs.DidEvent.{event, did}
use Rattle.book.specs.BookLockLines.{IsBookLockLine}
use Rattle.book.proofs.Parts.LastEvents.{last_event_others, last_event_own, last_event_leaves_holder, last_event_held_before}

-- p's last event is no ask of the lock
abbrev pub NoAskInLockLine : List Event → ℕ → ℕ → Type 0
NoAskInLockLine h p l = (i : ℕ) → ¬ LastIs h p i (Ask l)

pub lock_line_idle_no_ask : (h : List Event) (p l : ℕ) → AwaitsNothingNext h p → NoAskInLockLine h p l
lock_line_idle_no_ask h p l idle i last = absurd (cc (idle i (Ask l) last))

-- nobody else waits or holds: who is neither is not in the line
pub not_in_lock_line : (h : List Event) (p l : ℕ) (xs : List ℕ) → NoAskInLockLine h p l → ¬ Holds h p l → IsBookLockLine h l xs → ¬ Has xs p
not_in_lock_line h p l xs none free x has = elim (x.asks has.0 p has.1) [ inl a ↦ none a.0 a.1 | inr b ↦ free b.1 ]

-- p's event k is none of the lock, for which p doesn't wait
pub record LeavesLockLine (h : List Event) (p : ℕ) (k : Kind) (l : ℕ) : Type 0 where
  pub ask : k ≢ Ask l
  pub acquire : k ≢ Acquire l
  pub release : k ≢ Release l
  pub none : NoAskInLockLine h p l

-- the lines of other locks stay
pub lock_line_kept : {h : List Event} {p : ℕ} {k : Kind} {l : ℕ} {xs : List ℕ} → LeavesLockLine h p k l → IsBookLockLine h l xs
    → IsBookLockLine (did h p k) l xs
lock_line_kept {h} {p} {k} {l} {xs} leaves x = record {
  each = λ q i last. x.each q i (old q i last);
  first = λ q held. x.first q (last_event_held_before h p k q l leaves.acquire held);
  asks = λ m q at. elim (x.asks m q at) [
    | inl a ↦ inl (a.0, last_event_others h p k q a.0 (Ask l) (apart q a.0 a.1) a.1)
    | inr b ↦ inr (b.0, last_event_leaves_holder h p k q l leaves.release b.1)
  ];
  order = λ m n q r i j lt at to one two. x.order m n q r i j lt at to (old q i one) (old r j two);
}
  where
    old : (q i : ℕ) → LastIs (did h p k) q i (Ask l) → LastIs h q i (Ask l)
    old q i last = elim (well_formed_stays_last_cases h (event p k) q i (Ask l) last) [ inl own ↦ absurd (leaves.ask (sym own.2)) | inr o ↦ o.1 ]

    apart : (q i : ℕ) → LastIs h q i (Ask l) → q ≢ p
    apart q i last is = let P : ℕ → Type 0 = λ r. LastIs h r i (Ask l) in leaves.none i (subst P is last)

-- who asks comes last
pub lock_line_asked : (h : List Event) (p l : ℕ) (xs : List ℕ) → NoAskInLockLine h p l → ¬ Holds h p l → IsBookLockLine h l xs
    → IsBookLockLine (did h p (Ask l)) l (xs ++ p ∷ [])
lock_line_asked h p l xs none free x = record { each = each; first = first; asks = asks; order = order }
  where
    absent : ¬ Has xs p
    absent = not_in_lock_line h p l xs none free x

    apart : (m q : ℕ) → slice_get xs m ≡ Some q → q ≢ p
    apart m q at is = let P : ℕ → Type 0 = λ r. slice_get xs m ≡ Some r in absent (m, subst P is at)

    longer : (m q : ℕ) → slice_get xs m ≡ Some q → slice_get (xs ++ p ∷ []) m ≡ Some q
    longer m q at = slice_get-append_left xs (p ∷ []) m (slice_get_within xs m q at) ∙ at

    old : (q i : ℕ) → q ≢ p → LastIs (did h p (Ask l)) q i (Ask l) → LastIs h q i (Ask l)
    old q i isnt last =
        elim (well_formed_stays_last_cases h (event p (Ask l)) q i (Ask l) last) [ inl own ↦ absurd (isnt (sym own.0)) | inr o ↦ o.1 ]

    each : (q i : ℕ) → LastIs (did h p (Ask l)) q i (Ask l) → Has (xs ++ p ∷ []) q
    each q i last = elim (well_formed_stays_last_cases h (event p (Ask l)) q i (Ask l) last) [
      | inl own ↦ (length xs, slice_get-last xs p ∙ ap (λ (r : ℕ). Some r) own.0)
      | inr o ↦ (let has = x.each q i o.1 in (has.0, longer has.0 q has.1))
    ]

    first : (q : ℕ) → Holds (did h p (Ask l)) q l → slice_get (xs ++ p ∷ []) 0 ≡ Some q
    first q held = longer 0 q (x.first q (last_event_held_before h p (Ask l) q l (λ e. absurd cc) held))

    asks : (m q : ℕ) → slice_get (xs ++ p ∷ []) m ≡ Some q
        → ((i : ℕ) × LastIs (did h p (Ask l)) q i (Ask l)) ⊎ ((m ≡ 0) × Holds (did h p (Ask l)) q l)
    asks m q at = elim (slice_push_cases xs p m q at) [
      | inl o ↦ elim (x.asks m q o.1) [
        | inl a ↦ inl (a.0, last_event_others h p (Ask l) q a.0 (Ask l) (apart m q o.1) a.1)
        | inr b ↦ inr (b.0, last_event_leaves_holder h p (Ask l) q l (λ e. absurd cc) b.1)
      ]
      | inr n ↦ inl (
        length h,
        let P : ℕ → Type 0 = λ r. LastIs (did h p (Ask l)) r (length h) (Ask l) in
            subst P n.1 (last_event_own h p (Ask l)),
      )
    ]

    order : (m n q r i j : ℕ) → m < n → slice_get (xs ++ p ∷ []) m ≡ Some q → slice_get (xs ++ p ∷ []) n ≡ Some r
        → LastIs (did h p (Ask l)) q i (Ask l) → LastIs (did h p (Ask l)) r j (Ask l) → i < j
    order m n q r i j lt at to one two = elim (slice_push_cases xs p m q at) [
      | inl a ↦ elim (slice_push_cases xs p n r to) [
        | inl b ↦ x.order m n q r i j lt a.1 b.1 (old q i (apart m q a.1) one) (old r j (apart n r b.1) two)
        | inr b ↦ (
            let within = event_place_inside h i (record { processor = q; kind = Ask l }) (old q i (apart m q a.1) one).does in
            let P : ℕ → Type 0 = λ z. LastIs (did h p (Ask l)) z j (Ask l) in
            let last = (well_formed_stays_last_unique (did h p (Ask l)) p j (length h) (Ask l) (Ask l) (subst P (sym b.1) two)
            (last_event_own h p (Ask l))).0 in
            omega arith)
      ]
      | inr a ↦ (let within = slice_get_within (xs ++ p ∷ []) n r to in let e = length_push xs p in
          absurd (omega (arith, a.0)))
    ]

-- whose holder releases it, goes on with the next
pub lock_line_released : (h : List Event) (p l : ℕ) (xs : List ℕ) → NoAskInLockLine h p l → Holds h p l → IsBookLockLine h l (p ∷ xs)
    → IsBookLockLine (did h p (Release l)) l xs
lock_line_released h p l xs none held x = record {
  each = λ q i last. (let o = old q i last in shift q i o.0 o.1 (x.each q i o.1));
  first = λ q holds. absurd (nobody q holds);
  asks = λ m q at. elim (x.asks (suc m) q at) [
    | inl a ↦ inl (a.0, last_event_others h p (Release l) q a.0 (Ask l) (apart q a.0 a.1) a.1)
    | inr b ↦ absurd (omega (arith, b.0))
  ];
  order = λ m n q r i j lt at to one two. x.order (suc m) (suc n) q r i j (omega arith) at to (old q i one).1
      (old r j two).1;
}
  where
    apart : (q i : ℕ) → LastIs h q i (Ask l) → q ≢ p
    apart q i last is = let P : ℕ → Type 0 = λ r. LastIs h r i (Ask l) in none i (subst P is last)

    old : (q i : ℕ) → LastIs (did h p (Release l)) q i (Ask l) → (q ≢ p) × LastIs h q i (Ask l)
    old q i last = elim (well_formed_stays_last_cases h (event p (Release l)) q i (Ask l) last) [
      | inl own ↦ absurd (cc (own.2))
      | inr o ↦ (λ e. o.0 (sym e), o.1)
    ]

    behind : (m q : ℕ) → q ≢ p → slice_get (p ∷ xs) m ≡ Some q → Has xs q
    behind zero q isnt at = absurd (isnt (sym (same_Some p q at)))
    behind (suc m) q isnt at = (m, at)

    shift : (q i : ℕ) → q ≢ p → LastIs h q i (Ask l) → Has (p ∷ xs) q → Has xs q
    shift q i isnt last has = behind has.0 q isnt has.1

    nobody : (q : ℕ) → ¬ Holds (did h p (Release l)) q l
    nobody q holds = elim (well_formed_stays_holds_cases h (event p (Release l)) q l holds) [
      | inl o ↦ o.1 (ap (λ (r : ℕ). event r (Release l)) (same_Some p q (x.first q o.0)))
      | inr n ↦ absurd (cc (ap (λ e. e.kind) n))
    ]

-- who may acquire the lock is first in its line
pub first_in_lock_line_allowed : (h : List Event) (p l i : ℕ) (xs : List ℕ) → LastIs h p i (Ask l) → WellFormedGrant h i l
    → IsBookLockLine h l xs → slice_get xs 0 ≡ Some p
first_in_lock_line_allowed h p l i xs last may x = go xs x (x.each p i last)
  where
    later : (ys : List ℕ) (y m : ℕ) → IsBookLockLine h l (y ∷ ys) → slice_get (y ∷ ys) (suc m) ≡ Some p → ⊥
    later ys y m line at = elim (line.asks 0 y refl) [
      | inl a ↦ may.first a.0 y (line.order 0 (suc m) y p a.0 i (omega arith) refl at a.1 last) a.1
      | inr b ↦ may.free y b.1
    ]

    go : (ys : List ℕ) → IsBookLockLine h l ys → Has ys p → slice_get ys 0 ≡ Some p
    go [] line has = absurd (none-some p has.1)
    go (y ∷ ys) line has = place has.0 has.1
      where
        place : (m : ℕ) → slice_get (y ∷ ys) m ≡ Some p → slice_get (y ∷ ys) 0 ≡ Some p
        place zero at = at
        place (suc m) at = absurd (later ys y m line at)

-- who asked first may acquire a lock that nobody holds
pub allowed_first_in_lock_line : (h : List Event) (p l : ℕ) (xs : List ℕ) → ((q : ℕ) → ¬ Holds h q l) → slice_get xs 0 ≡ Some p
    → IsBookLockLine h l xs → (i : ℕ) × LastIs h p i (Ask l) × WellFormedGrant h i l
allowed_first_in_lock_line h p l xs free at x = elim (x.asks 0 p at) [
  | inl a ↦ (a.0, a.1, record { free = free; first = λ k q lt last. before a.0 a.1 k q lt last (x.each q k last) })
  | inr b ↦ absurd (free p b.1)
]
  where
    before : (i : ℕ) → LastIs h p i (Ask l) → (k q : ℕ) → k < i → LastIs h q k (Ask l) → Has xs q → ⊥
    before i mine k q lt last has = place has.0 has.1
      where
        place : (m : ℕ) → slice_get xs m ≡ Some q → ⊥
        place zero there = (let is = same_Some q p (sym there ∙ at) in
            let P : ℕ → Type 0 = λ r. LastIs h r k (Ask l) in let same =
            (well_formed_stays_last_unique h p k i (Ask l) (Ask l) (subst P is last) mine).0 in omega arith)
        place (suc m) there = (let later = x.order 0 (suc m) p q i k (omega arith) at there mine last in omega arith)

-- an acquire leaves the line
pub lock_line_taken : (h : List Event) (p l i : ℕ) (xs : List ℕ) → LastIs h p i (Ask l) → WellFormedGrant h i l
    → IsBookLockLine h l xs → IsBookLockLine (did h p (Acquire l)) l xs
lock_line_taken h p l i xs last may x = record {
  each = λ q m ask. x.each q m (old q m ask).1;
  first = λ q holds. elim (well_formed_stays_holds_cases h (event p (Acquire l)) q l holds) [
    | inl o ↦ absurd (may.free q o.0)
    | inr n ↦ here ∙ ap (λ (e : Event). Some e.processor) n
  ];
  asks = asks;
  order = λ m n q r a b lt at to one two. x.order m n q r a b lt at to (old q a one).1 (old r b two).1;
}
  where
    here : slice_get xs 0 ≡ Some p
    here = first_in_lock_line_allowed h p l i xs last may x

    old : (q m : ℕ) → LastIs (did h p (Acquire l)) q m (Ask l) → (q ≢ p) × LastIs h q m (Ask l)
    old q m ask = elim (well_formed_stays_last_cases h (event p (Acquire l)) q m (Ask l) ask) [
      | inl own ↦ absurd (cc (own.2))
      | inr o ↦ (λ e. o.0 (sym e), o.1)
    ]

    head : (m : ℕ) → slice_get xs m ≡ Some p → m ≡ 0
    head zero at = refl
    head (suc m) at = (let lt = x.order 0 (suc m) p p i i (omega arith) here at last last in absurd (omega arith))

    asks : (m q : ℕ) → slice_get xs m ≡ Some q
        → ((a : ℕ) × LastIs (did h p (Acquire l)) q a (Ask l)) ⊎ ((m ≡ 0) × Holds (did h p (Acquire l)) q l)
    asks m q at = elim (cases_eq q p) [
      | inl is ↦ (
          let P : ℕ → Type 0 = λ r. slice_get xs m ≡ Some r in
          let Q : ℕ → Type 0 = λ r. Holds (did h p (Acquire l)) r l in
          inr (head m (subst P is at), subst Q (sym is) (well_formed_stays_holds_now h p l)))
      | inr isnt ↦ elim (x.asks m q at)
          [ inl a ↦ inl (a.0, last_event_others h p (Acquire l) q a.0 (Ask l) isnt a.1) | inr b ↦ absurd (may.free q b.1) ]
    ]
