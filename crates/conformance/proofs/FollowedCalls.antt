-- The kinds of events, fetches aside: of lists put together, and of one event more.
use Rattle.std.proofs.Common.{ℕ, suc, ◌≡◌, ◌≢◌, List, [], ◌∷◌, ◌++◌, Bool, true, false, filter, map, refl, ap, ◌∙◌, append-nil}
use Rattle.std.specs.Prelude.{not, ◌==◌}
use Rattle.std.proofs.lemmas.Bool.{cond-true, cond-false, eq-eqb, ne_eqb}
use Rattle.std.proofs.lemmas.List.{map-append}
use Rattle.std.proofs.lemmas.List.Elements.{filter-append}
use Rattle.journal.specs.declared.event.Event.{Event}
use Rattle.journal.specs.declared.event.Kind.{Kind}
use Rattle.journal.specs.DidEvent.{event, did}
use Rattle.journal.specs.Events.{EventAt, events_of}
use Rattle.conformance.specs.Follows.{is_fetch, call_kinds, calls_of}

-- the kinds of two lists are those of the first and those of the second
pub followed_call_kinds-append : (xs ys : List Event) → call_kinds (xs ++ ys) ≡ call_kinds xs ++ call_kinds ys
followed_call_kinds-append xs ys =
    ap (filter (λ k. not (is_fetch k))) (map-append (λ (e : Event). e.kind) xs ys)
    ∙ filter-append (λ k. not (is_fetch k)) (map (λ (e : Event). e.kind) xs) (map (λ (e : Event). e.kind) ys)

-- one event that is no fetch has its kind
pub followed_call_kinds-one : (e : Event) → is_fetch e.kind ≡ false → call_kinds (e ∷ []) ≡ e.kind ∷ []
followed_call_kinds-one e is = cond-true (not (is_fetch e.kind)) (e.kind ∷ []) [] (ap not is)

-- and a fetch none
pub followed_call_kinds-fetch : (e : Event) → is_fetch e.kind ≡ true → call_kinds (e ∷ []) ≡ []
followed_call_kinds-fetch e is = cond-false (not (is_fetch e.kind)) (e.kind ∷ []) [] (ap not is)

pub followed_calls_part-append : (xs ys : List Event) (p : ℕ) → events_of (xs ++ ys) p ≡ events_of xs p ++ events_of ys p
followed_calls_part-append xs ys p = filter-append (λ (e : Event). e.processor == p) xs ys

-- what p calls in two lists is what it calls in the first, and then in the second
pub followed_calls-append : (xs ys : List Event) (p : ℕ) → calls_of (xs ++ ys) p ≡ calls_of xs p ++ calls_of ys p
followed_calls-append xs ys p = ap call_kinds (followed_calls_part-append xs ys p) ∙ followed_call_kinds-append (events_of xs p) (events_of ys p)

-- one call is its processor's
pub followed_calls_one : (p : ℕ) (k : Kind) → is_fetch k ≡ false → calls_of (event p k ∷ []) p ≡ k ∷ []
followed_calls_one p k is =
    let mine : events_of (event p k ∷ []) p ≡ event p k ∷ [] = cond-true (p == p) (event p k ∷ []) [] (eq-eqb p p refl) in
    ap call_kinds mine ∙ followed_call_kinds-one (event p k) is

-- and no other's
pub followed_calls_one-others : (p q : ℕ) (k : Kind) → p ≢ q → calls_of (event p k ∷ []) q ≡ []
followed_calls_one-others p q k apart =
    let none : events_of (event p k ∷ []) q ≡ [] = cond-false (p == q) (event p k ∷ []) [] (ne_eqb p q apart) in
    ap call_kinds none

-- a fetch is no call
pub followed_calls_one-fetch : (p q : ℕ) (k : Kind) → is_fetch k ≡ true → calls_of (event p k ∷ []) q ≡ []
followed_calls_one-fetch p q k is = cases (p == q) refl
  where
    cases : (b : Bool) → (p == q) ≡ b → calls_of (event p k ∷ []) q ≡ []
    cases true e = ap call_kinds (cond-true (p == q) (event p k ∷ []) [] e) ∙ followed_call_kinds-fetch (event p k) is
    cases false e = ap call_kinds (cond-false (p == q) (event p k ∷ []) [] e)

-- what p calls, where its own call comes last
pub followed_calls-own : (h : List Event) (p : ℕ) (k : Kind) → is_fetch k ≡ false
    → calls_of (did h p k) p ≡ calls_of h p ++ k ∷ []
followed_calls-own h p k is = followed_calls-append h (event p k ∷ []) p ∙ ap (λ ks. calls_of h p ++ ks) (followed_calls_one p k is)

-- where another's call does
pub followed_calls-others : (h : List Event) (p q : ℕ) (k : Kind) → p ≢ q → calls_of (did h p k) q ≡ calls_of h q
followed_calls-others h p q k apart =
    followed_calls-append h (event p k ∷ []) q ∙ ap (λ ks. calls_of h q ++ ks) (followed_calls_one-others p q k apart)
    ∙ append-nil (calls_of h q)

-- the same, where it comes first
pub followed_calls_first : (p : ℕ) (k : Kind) (es : List Event) → is_fetch k ≡ false
    → calls_of (event p k ∷ es) p ≡ k ∷ calls_of es p
followed_calls_first p k es is =
    followed_calls-append (event p k ∷ []) es p ∙ ap (λ ks. ks ++ calls_of es p) (followed_calls_one p k is)

pub followed_calls_first-fetch : (p q : ℕ) (k : Kind) (es : List Event) → is_fetch k ≡ true
    → calls_of (event p k ∷ es) q ≡ calls_of es q
followed_calls_first-fetch p q k es is =
    followed_calls-append (event p k ∷ []) es q ∙ ap (λ ks. ks ++ calls_of es q) (followed_calls_one-fetch p q k is)

pub followed_calls_first-other : (p q : ℕ) (k : Kind) (es : List Event) → p ≢ q → calls_of (event p k ∷ es) q ≡ calls_of es q
followed_calls_first-other p q k es apart =
    followed_calls-append (event p k ∷ []) es q ∙ ap (λ ks. ks ++ calls_of es q) (followed_calls_one-others p q k apart)

-- who has none of these events calls nothing
pub followed_calls_of_others : (q : ℕ) (es : List Event) → ((k : ℕ) (e : Event) → EventAt es k e → e.processor ≢ q) → calls_of es q ≡ []
followed_calls_of_others q [] away = refl
followed_calls_of_others q (e ∷ es) away =
    followed_calls_first-other e.processor q e.kind es (away 0 e refl) ∙ followed_calls_of_others q es (λ k f at. away (suc k) f at)
