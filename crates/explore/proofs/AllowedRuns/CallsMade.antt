-- What a processor has called, after one event more.
use Rattle.std.proofs.Common.{ℕ, ◌≡◌, ◌≢◌, inl, inr, ◌==◌, List, [], ◌∷◌, ◌++◌, count_by, length, refl, ap, subst, length-append, arith}
use Rattle.std.proofs.lemmas.Bool.{cases_eq, eq-eqb, ne_eqb}
use Rattle.base.proofs.SlicesAndCounts.{slice_count_by-append, slice_push_induction}
use Rattle.journal.specs.declared.event.Event.{Event}
use Rattle.journal.specs.declared.event.Kind.{Kind}
use Rattle.journal.proofs.Order.EventPlacesAndCounts.{event_place_at_end, event_place_longer}
use Rattle.conformance.specs.FlatRuns.{FlatRunHasNoFetch}
use Rattle.conformance.specs.Follows.{calls_of}
use Rattle.conformance.proofs.FollowedCalls.{followed_calls-own, followed_calls-others}

-- a processor's events are its calls, if nothing is fetched
pub calls_made_counted : (g : List Event) (p : ℕ) → FlatRunHasNoFetch g
    → count_by (λ (e : Event). e.processor == p) g ≡ length (calls_of g p)
calls_made_counted g p = slice_push_induction (λ (h : List Event). FlatRunHasNoFetch h
    → count_by (λ (e : Event). e.processor == p) h ≡ length (calls_of h p)) (λ none. refl) step g
  where
    one : (e : Event) → e.processor ≡ p → count_by (λ (x : Event). x.processor == p) (e ∷ []) ≡ 1
    one e is = let own = eq-eqb e.processor p is in rw own refl

    nothing : (e : Event) → e.processor ≢ p → count_by (λ (x : Event). x.processor == p) (e ∷ []) ≡ 0
    nothing e isnt = let others = ne_eqb e.processor p isnt in rw others refl

    step : (h : List Event) (e : Event)
        → (FlatRunHasNoFetch h → count_by (λ (x : Event). x.processor == p) h ≡ length (calls_of h p))
        → FlatRunHasNoFetch (h ++ e ∷ [])
        → count_by (λ (x : Event). x.processor == p) (h ++ e ∷ []) ≡ length (calls_of (h ++ e ∷ []) p)
    step h e old none =
        let before = old (λ i f at. none i f (event_place_longer h (e ∷ []) i f at)) in
        let call = none (length h) e (event_place_at_end h e) in
        let sum = slice_count_by-append (λ (x : Event). x.processor == p) h (e ∷ []) in
        elim (cases_eq e.processor p) [
          | inl is ↦
              (let mine = one e is in
              let own : calls_of (h ++ e ∷ []) p ≡ calls_of h p ++ e.kind ∷ [] =
              subst (λ q. calls_of (h ++ e ∷ []) q ≡ calls_of h q ++ e.kind ∷ []) is (followed_calls-own h e.processor e.kind call) in
              let long = ap (λ (ks : List Kind). length ks) own in
              let both = length-append (calls_of h p) (e.kind ∷ []) in
              omega arith)
          | inr isnt ↦
              (let mine = nothing e isnt in
              let others = ap (λ (ks : List Kind). length ks) (followed_calls-others h e.processor p e.kind isnt) in
              omega arith)
        ]
