-- What is kept after one more event.
use Rattle.std.proofs.Common.{◌≡◌, ◌≢◌, ℕ, suc, ◌+◌, inl, inr, ◌↔◌, List, [], ◌∷◌, ◌++◌, take, Bool, true, false, cond, Some, ◌==◌, ◌&&◌, not, subst, subst₂, sym, refl, ap, ap₂, ◌∙◌, length, arith}
use Rattle.std.specs.List.{list_any}
use Rattle.std.proofs.lemmas.Bool.{cases_Bool, eq-eqb, eqb-true, and_parts, and_from, or_cases}
use Rattle.std.proofs.lemmas.Option.{none-some, slice_get_within}
use Rattle.journal.specs.declared.event.Event.{Event}
use Rattle.journal.specs.declared.event.Kind.{Kind}
use Rattle.journal.specs.declared.event.Kind.TheVariants.{Acquire, Release, Set}
use Rattle.journal.specs.declared.base_state.KeptBaseState.{KeptBaseState}
use Rattle.base.specs.InOrderOnce.{Has}
use Rattle.journal.specs.DidEvent.{event}
use Rattle.journal.specs.Events.{EventAt}
use Rattle.journal.specs.Base.{Base}
use Rattle.journal.specs.WellFormedFromBase.{HoldsFromBase, IsSetFromBase}
use Rattle.journal.specs.EpisodeBases.{IsEpisodeBaseAfter}
use Rattle.journal.specs.KeptBaseState.{base_of_kept_state, AreKeptBaseStateCosts, kept_base_state_released, kept_state_holders_after, kept_state_flags_after, IsKeptBaseStateAfter}
use Rattle.base.proofs.SlicesAndCounts.{slice_push_cases, slice_get-append_left, slice_get-last}
use Rattle.base.proofs.FilteredInOrder.{filtered_in_order_has}
use Rattle.base.proofs.LastWritten.{length-written}
use Rattle.journal.specs.ReplayMemory.{replay_memory_write}
use Rattle.journal.proofs.FromBase.BaseAppend.{base_append}
use Rattle.journal.proofs.Passes.NextClocks.{next_clocks_front}

-- of one event there is one place
kept_step_alone : (e f : Event) (n : ℕ) → EventAt (e ∷ []) n f → (n ≡ 0) × (e ≡ f)
kept_step_alone e f n at = elim (slice_push_cases [] e n f at) [ inl old ↦ absurd (none-some f old.1) | inr new ↦ new ]

kept_step_alone_kind : (q p n : ℕ) (a k : Kind) → EventAt (event q a ∷ []) n (event p k) → (q ≡ p) × (a ≡ k)
kept_step_alone_kind q p n a k at =
    let is = (kept_step_alone (event q a) (event p k) n at).1 in
    (ap (λ (x : Event). x.processor) is, ap (λ (x : Event). x.kind) is)

kept_step_has_left : {A : Type 0} (xs : List A) (y x : A) → Has xs x → Has (xs ++ y ∷ []) x
kept_step_has_left xs y x has = (has.0, slice_get-append_left xs (y ∷ []) has.0 (slice_get_within xs has.0 x has.1) ∙ has.1)

-- an event that neither acquires nor releases leaves the holders
kept_step_held_same : (b : Base) (q p l : ℕ) (k : Kind) → ((m : ℕ) → k ≢ Acquire m) → ((m : ℕ) → k ≢ Release m)
    → Has b.holders (p, l) ↔ HoldsFromBase b (event q k ∷ []) p l
kept_step_held_same b q p l k no_acquire no_release = (
  (λ has. inr (record { held = has; keeps = λ n does. no_release l (kept_step_alone_kind q p n k (Release l) does).1 })),
  (λ h. elim h [
    | inl holds ↦ absurd (no_acquire l (kept_step_alone_kind q p holds.place k (Acquire l) holds.acquires).1)
    | inr still ↦ still.held
  ]),
)

kept_step_held_acquired : (b : Base) (q m p l : ℕ)
    → Has (b.holders ++ (q, m) ∷ []) (p, l) ↔ HoldsFromBase b (event q (Acquire m) ∷ []) p l
kept_step_held_acquired b q m p l = (there, back)
  where
    there : Has (b.holders ++ (q, m) ∷ []) (p, l) → HoldsFromBase b (event q (Acquire m) ∷ []) p l
    there has = elim (slice_push_cases b.holders (q, m) has.0 (p, l) has.1) [
      | inl old ↦ inr (record {
        held = (has.0, old.1);
        keeps = λ n does. absurd (let is = (kept_step_alone_kind q p n (Acquire m) (Release l) does).1 in cc);
      })
      | inr new ↦ (let mine : q ≡ p = ap (λ (x : ℕ × ℕ). x.0) new.1 in
          let same : m ≡ l = ap (λ (x : ℕ × ℕ). x.1) new.1 in
          inl (record {
            place = 0;
            acquires = subst₂ (λ (x y : ℕ). EventAt (event q (Acquire m) ∷ []) 0 (event x (Acquire y))) mine same
                refl;
            keeps = λ n lt does.
                (let at = (kept_step_alone (event q (Acquire m)) (event p (Release l)) n does).0 in omega arith);
          }))
    ]

    back : HoldsFromBase b (event q (Acquire m) ∷ []) p l → Has (b.holders ++ (q, m) ∷ []) (p, l)
    back (inl holds) =
        let is = kept_step_alone_kind q p holds.place (Acquire m) (Acquire l) holds.acquires in
        let same : m ≡ l = let kinds = is.1 in cc in
        (length b.holders, slice_get-last b.holders (q, m) ∙ ap₂ (λ (x y : ℕ). Some (x, y)) is.0 same)
    back (inr still) = kept_step_has_left b.holders (q, m) (p, l) still.held

kept_step_held_released : (b : Base) (q m p l : ℕ)
    → Has (kept_base_state_released b.holders q m) (p, l) ↔ HoldsFromBase b (event q (Release m) ∷ []) p l
kept_step_held_released b q m p l = (there, back)
  where
    test : ℕ × ℕ → Bool
    test h = not ((h.0 == q) && (h.1 == m))

    filtered : Has (kept_base_state_released b.holders q m) (p, l) ↔ (Has b.holders (p, l) × (test (p, l) ≡ true))
    filtered = filtered_in_order_has (λ (h : ℕ × ℕ). not ((h.0 == q) && (h.1 == m))) b.holders (p, l)

    not_both : (p == q) && (l == m) ≡ true → test (p, l) ≡ true → ⊥
    not_both both is = let x = ap (λ y. not y) both in cc

    there : Has (kept_base_state_released b.holders q m) (p, l) → HoldsFromBase b (event q (Release m) ∷ []) p l
    there has =
        let x = filtered.0 has in
        inr (record {
          held = x.0;
          keeps = λ n does. (let is = kept_step_alone_kind q p n (Release m) (Release l) does in
              let kinds = is.1 in let same : l ≡ m = cc in
              not_both (and_from (p == q) (l == m) (eq-eqb p q (sym is.0)) (eq-eqb l m same))
              x.1);
        })

    back : HoldsFromBase b (event q (Release m) ∷ []) p l → Has (kept_base_state_released b.holders q m) (p, l)
    back (inl holds) =
        absurd (let kinds = (kept_step_alone_kind q p holds.place (Release m) (Acquire l) holds.acquires).1 in cc)
    back (inr still) = elim (cases_Bool ((p == q) && (l == m))) [
      | inl both ↦ (let x = and_parts (p == q) (l == m) both in
          absurd (still.keeps 0 (subst₂ (λ (y z : ℕ). EventAt (event q (Release m) ∷ []) 0 (event y (Release z)))
          (sym (eqb-true p q x.0)) (sym (eqb-true l m x.1)) refl)))
      | inr apart ↦ filtered.1 (still.held, ap (λ y. not y) apart)
    ]

kept_step_held : (b : Base) (q p l : ℕ) (k : Kind)
    → Has (kept_state_holders_after b.holders q k) (p, l) ↔ HoldsFromBase b (event q k ∷ []) p l
kept_step_held b q p l (Acquire m) = kept_step_held_acquired b q m p l
kept_step_held b q p l (Release m) = kept_step_held_released b q m p l
kept_step_held b q p l k = kept_step_held_same b q p l k (λ m h. cc) (λ m h. cc)

-- a flag that is found is there
kept_step_any_has : (flags : List ℕ) (f : ℕ) → list_any (λ g. g == f) flags ≡ true → Has flags f
kept_step_any_has [] f h = absurd cc
kept_step_any_has (g ∷ flags) f h =
    elim (or_cases (g == f) (list_any (λ x. x == f) flags) h) [
      | inl is ↦ (0, ap Some (eqb-true g f is))
      | inr later ↦ (let has = kept_step_any_has flags f later in (suc has.0, has.1))
    ]

kept_step_set_flag : (b : Base) (q f g : ℕ) (found : Bool) → list_any (λ x. x == f) b.flags ≡ found
    → Has (cond found b.flags (b.flags ++ f ∷ [])) g ↔ IsSetFromBase b (event q (Set f) ∷ []) g
kept_step_set_flag b q f g true is = (
  (λ has. inl has),
  (λ h. elim h [
    | inl has ↦ has
    | inr set ↦ (let kinds = (kept_step_alone_kind q set.1 set.0 (Set f) (Set g) set.2).1 in let same : f ≡ g = cc in
        subst (Has b.flags) same (kept_step_any_has b.flags f is))
  ]),
)
kept_step_set_flag b q f g false is = (
  (λ has. elim (slice_push_cases b.flags f has.0 g has.1)
      [ inl old ↦ inl (has.0, old.1) | inr new ↦ inr (0, q, ap (λ x. Some (event q (Set x))) new.1) ]),
  (λ h. elim h [
    | inl has ↦ kept_step_has_left b.flags f g has
    | inr set ↦ (let kinds = (kept_step_alone_kind q set.1 set.0 (Set f) (Set g) set.2).1 in let same : f ≡ g = cc in
        (length b.flags, slice_get-last b.flags f ∙ ap Some same))
  ]),
)

kept_step_set : (b : Base) (q g : ℕ) (k : Kind) → Has (kept_state_flags_after b.flags k) g ↔ IsSetFromBase b (event q k ∷ []) g
kept_step_set b q g (Set f) = kept_step_set_flag b q f g (list_any (λ x. x == f) b.flags) refl
kept_step_set b q g k = (
  (λ has. inl has),
  (λ h. elim h
      [ inl has ↦ has | inr set ↦ absurd (let kinds = (kept_step_alone_kind q set.1 set.0 k (Set g) set.2).1 in cc) ]),
)

-- so what is kept after one more event is what the definition says
pub kept_step : (old new : KeptBaseState) (e : Event) → IsKeptBaseStateAfter old e new
    → IsEpisodeBaseAfter (base_of_kept_state old) (e ∷ []) (base_of_kept_state new)
kept_step old new e x = record {
  cut = x.cut;
  memory = x.memory;
  holders =
      λ p l. (let step = kept_step_held (base_of_kept_state old) e.processor p l e.kind in (
        (λ has. step.0 (subst (λ hs. Has hs (p, l)) x.holders has)),
        (λ h. subst (λ hs. Has hs (p, l)) (sym x.holders) (step.1 h)),
      ));
  flags =
      λ f. (let step = kept_step_set (base_of_kept_state old) e.processor f e.kind in (
        (λ has. step.0 (subst (λ fs. Has fs f) x.flags has)),
        (λ h. subst (λ fs. Has fs f) (sym x.flags) (step.1 h)),
      ));
  messages_are = (let is = x.messages_are in omega arith);
  records_are = (let is = x.records_are in omega arith);
  words_are = (let is = x.words_are in omega arith);
}

-- after the first events, this is kept
pub record IsKeptAfterSteps (start : KeptBaseState) (events : List Event) (n : ℕ) (now : KeptBaseState) : Type 0 where
  pub after : IsEpisodeBaseAfter (base_of_kept_state start) (take n events) (base_of_kept_state now)
  pub spent : AreKeptBaseStateCosts now.cut now.spent

-- and the memory is as long
pub kept_step_long : (start : KeptBaseState) (events : List Event) (n : ℕ) (now : KeptBaseState) → IsKeptAfterSteps start events n now
    → length now.memory.items ≡ length start.memory.items
kept_step_long start events n now x =
    ap (λ (ws : List ℕ). length ws) x.after.memory
    ∙ length-written (λ (e : Event). replay_memory_write e.kind) start.memory.items (take n events)

pub kept_step_next : {start : KeptBaseState} {events : List Event} {n : ℕ} {old new : KeptBaseState} {e : Event} → EventAt events n e
    → IsKeptAfterSteps start events n old → IsKeptBaseStateAfter old e new → AreKeptBaseStateCosts new.cut new.spent
    → IsKeptAfterSteps start events (n + 1) new
kept_step_next {start} {events} {n} {old} {new} {e} at so after spent = record {
  after =
      subst (λ (xs : List Event). IsEpisodeBaseAfter (base_of_kept_state start) xs (base_of_kept_state new)) (sym (next_clocks_front events n e at))
      (base_append (base_of_kept_state start) (base_of_kept_state old) (base_of_kept_state new) (take n events) (e ∷ []) so.after
      (kept_step old new e after));
  spent = spent;
}
