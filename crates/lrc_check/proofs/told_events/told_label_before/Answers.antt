use Rattle.std.proofs.Common.{◌≡◌, ◌==◌, ℕ, zero, suc, ◌<◌, Bool, true, false, cond, List, [], ◌∷◌, Some, length, slice_get, slice_index_or, take, subst, sym, refl, ap, ◌∙◌, add-one}
use Rattle.std.specs.Prelude.{None, find}
use Rattle.std.proofs.lemmas.Bool.{eq-eqb, ne_eqb}
use Rattle.std.proofs.lemmas.List.{take_all}
use Rattle.std.proofs.lemmas.Option.{none-some, same_Some, slice_get-get_or}
use Rattle.lrc_check.specs.declared.told_events.KnownEvent.{KnownEvent}
use Rattle.lrc_check.specs.ToldLines.{told_known_label, told_known_event}
use Rattle.lrc_check.proofs.told_events.told_label_before.Goals as goal

-- what passes is found
found_first : {A : Type 0} (p : A → Bool) (x : A) (xs : List A) (b : Bool) → p x ≡ b → find p (x ∷ xs) ≡ cond b (Some x) (find p xs)
found_first p x xs b is = ap (λ c. cond c (Some x) (find p xs)) is

-- the first one that passes, behind those that don't
found_at : {A : Type 0} (p : A → Bool) (xs : List A) (i : ℕ) (y : A) → find p (take i xs) ≡ None → slice_get xs i ≡ Some y → p y ≡ true
    → find p xs ≡ Some y
found_at p [] i y none at is = absurd (none-some y at)
found_at p (x ∷ xs) zero y none at is =
    let same = same_Some x y at in
    found_first p x xs true (ap p same ∙ is) ∙ ap (λ z. Some z) same
found_at {A} p (x ∷ xs) (suc i) y none at is = go (p x) refl (λ rest. found_at p xs i y rest at is)
  where
    go : (b : Bool) → p x ≡ b → (find p (take i xs) ≡ None → find p xs ≡ Some y) → find p (x ∷ xs) ≡ Some y
    go true h on = absurd (none-some x (sym none ∙ found_first p x (take i xs) true h))
    go false h on = found_first p x xs false h ∙ on (sym (found_first p x (take i xs) false h) ∙ none)

-- one more that doesn't
none_more : {A : Type 0} (p : A → Bool) (xs : List A) (i : ℕ) (y : A) → find p (take i xs) ≡ None → slice_get xs i ≡ Some y → p y ≡ false
    → find p (take (suc i) xs) ≡ None
none_more p [] i y none at isnt = absurd (none-some y at)
none_more p (x ∷ xs) zero y none at isnt = found_first p x [] false (ap p (same_Some x y at) ∙ isnt)
none_more p (x ∷ xs) (suc i) y none at isnt = go (p x) refl (λ rest. none_more p xs i y rest at isnt)
  where
    go : (b : Bool) → p x ≡ b → (find p (take i xs) ≡ None → find p (take (suc i) xs) ≡ None) → find p (take (suc (suc i)) (x ∷ xs)) ≡ None
    go true h on = absurd (none-some x (sym none ∙ found_first p x (take i xs) true h))
    go false h on = found_first p x (take (suc i) xs) false h ∙ on (sym (found_first p x (take i xs) false h) ∙ none)

-- the item of the loop stands there
item_at : (known : List KnownEvent) (i : ℕ) (x : KnownEvent) → i < length known → x ≡ slice_index_or known i x → slice_get known i ≡ Some x
item_at known i x lt is = slice_get-get_or known i x lt ∙ ap (λ z. Some z) (sym is)

pub returns-then-event-place : goal.returns-then-event-place
returns-then-event-place c =
    let p : KnownEvent → Bool = λ x. x.place == c.args.place in
    let found = found_at p c.args.known.now c.loop-event.event-index c.event-item.result c.loop-event.invariant
    (item_at c.args.known.now c.loop-event.event-index c.event-item.result c.loop-event-test.true c.event-item.is)
    (eq-eqb c.event-item.result.place c.args.place c.if-event-place.true) in
    c.deref.ensures.value ∙ sym (ap told_known_label found)

pub returns : goal.returns
returns c =
    let over = c.loop-event-test.false in
    sym (ap told_known_label
    (subst (λ xs. told_known_event xs c.args.place ≡ None) (take_all c.loop-event.event-index c.args.known.now over) c.loop-event.invariant))

pub loop-event-preserved : goal.loop-event-preserved
loop-event-preserved c =
    let p : KnownEvent → Bool = λ x. x.place == c.args.place in
    subst (λ n. told_known_event (take n c.args.known.now) c.args.place ≡ None) (sym (add-one c.loop-event.event-index))
    (none_more p c.args.known.now c.loop-event.event-index c.event-item.result c.loop-event.invariant
    (item_at c.args.known.now c.loop-event.event-index c.event-item.result c.loop-event-test.true c.event-item.is)
    (ne_eqb c.event-item.result.place c.args.place c.if-event-place.false))
