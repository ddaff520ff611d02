-- What a history says of one processor.
use Rattle.std.proofs.Common.{◌≡◌, ◌≢◌, ◌↔◌, ℕ, ◌+◌, ◌<◌, ◌≤◌, inl, inr, List, [], ◌∷◌, ◌++◌, length, false, Option, Some, None, slice_get, subst, sym, refl, ap, ◌∙◌, arith, append_assoc, append-nil}
use Rattle.std.proofs.lemmas.Option.{none-some}
use Rattle.journal.specs.declared.event.Event.{Event}
use Rattle.journal.specs.declared.event.Kind.{Kind}
use Rattle.journal.specs.Events.{EventAt, event_closes}
use Rattle.journal.specs.IntervalContents.{open_interval_contents}
use Rattle.journal.specs.WellFormed.{LastIs, Holds}
use Rattle.journal.specs.AwaitedNext.{awaited_next}
use Rattle.base.proofs.SlicesAndCounts.{slice_push_induction}
use Rattle.journal.proofs.Order.EventPlacesAndCounts.{event_place_at_end, event_place_longer}
use Rattle.journal.proofs.Journals.WellFormedStays.{well_formed_stays_last_unique, well_formed_stays_holds_now, well_formed_stays_holds_longer, well_formed_stays_holds_cases}
use Rattle.journal.proofs.Intervals.OpenIntervals.{open_interval_inner}
use Rattle.book.specs.BookStamps.{IsAwaitedByBookStamps}
use Rattle.book.proofs.Parts.Each.{each_item_at}
use Rattle.test_memory.specs.Histories.Telling.{Telling, IsTelling}
use Rattle.test_memory.specs.Histories.Reading.{IsHeldAfter}

-- no event of the history from place n on is p's
abbrev pub NoneFrom : List Event → ℕ → ℕ → Type 0
NoneFrom h p n = (m : ℕ) (e : Event) → n ≤ m → EventAt h m e → e.processor ≢ p

-- who did this last waits for what comes next after it
pub awaited_last : (h : List Event) (p n : ℕ) (e : Event) → NoneFrom h p (n + 1) → EventAt h n e → e.processor ≡ p
    → IsAwaitedByBookStamps h p (awaited_next e.kind)
awaited_last h p n e none at mine =
    record {
      last = λ i a last. ap awaited_next (well_formed_stays_last_unique h p n i e.kind a now last).1;
      some = λ k is. (n, e.kind, now);
    }
  where
    now : LastIs h p n e.kind
    now = record {
      does = at ∙ ap (λ (q : ℕ). Some (record e { processor = q })) mine;
      last = λ m f lt. none m f (omega arith);
    }

-- who did nothing waits for nothing
pub awaited_never : (h : List Event) (p : ℕ) → NoneFrom h p 0 → IsAwaitedByBookStamps h p None
awaited_never h p none =
    record {
      last = λ i a last. absurd (none i (record { processor = p; kind = a }) (omega arith) last.does refl);
      some = λ k is. absurd (none-some k is);
    }

-- what p waits for is one thing
pub awaited_same : (h : List Event) (p : ℕ) (v w : Option Kind) → IsAwaitedByBookStamps h p v → IsAwaitedByBookStamps h p w → v ≡ w
awaited_same h p None None x y = refl
awaited_same h p None (Some k) x y = let s = y.some k refl in x.last s.0 s.1 s.2 ∙ sym (y.last s.0 s.1 s.2)
awaited_same h p (Some k) w x y = let s = x.some k refl in x.last s.0 s.1 s.2 ∙ sym (y.last s.0 s.1 s.2)

-- the events of p's open interval, with an inner block of p's behind them
pub since_block : (h block : List Event) (p : ℕ)
    → ((k : ℕ) (e : Event) → EventAt block k e → (e.processor ≡ p) × (event_closes e.kind ≡ false))
    → open_interval_contents (h ++ block) p ≡ open_interval_contents h p ++ block
since_block h block p =
    slice_push_induction
    (λ es. ((k : ℕ) (e : Event) → EventAt es k e → (e.processor ≡ p) × (event_closes e.kind ≡ false))
    → open_interval_contents (h ++ es) p ≡ open_interval_contents h p ++ es) (λ inner. rw (append-nil h, append-nil (open_interval_contents h p))) step block
  where
    step : (es : List Event) (e : Event)
        → (((k : ℕ) (f : Event) → EventAt es k f → (f.processor ≡ p) × (event_closes f.kind ≡ false))
        → open_interval_contents (h ++ es) p ≡ open_interval_contents h p ++ es)
        → ((k : ℕ) (f : Event) → EventAt (es ++ e ∷ []) k f → (f.processor ≡ p) × (event_closes f.kind ≡ false))
        → open_interval_contents (h ++ (es ++ e ∷ [])) p ≡ open_interval_contents h p ++ (es ++ e ∷ [])
    step es e ih inner =
        let mine = inner (length es) e (event_place_at_end es e) in
        let old = ih (λ k f at. inner k f (event_place_longer es (e ∷ []) k f at)) in
        ap (λ (xs : List Event). open_interval_contents xs p) (sym (append_assoc h es (e ∷ [])))
        ∙ open_interval_inner (h ++ es) e p mine.0 mine.1
        ∙ ap (λ (xs : List Event). xs ++ e ∷ []) old
        ∙ append_assoc (open_interval_contents h p) es (e ∷ [])

-- who holds the lock after one more event
pub held_next : (h : List Event) (p l : ℕ) (e : Event) (held : Type 0) → held ↔ Holds h p l
    → IsHeldAfter held e p l ↔ Holds (h ++ e ∷ []) p l
held_next h p l e held is = (there, back)
  where
    there : IsHeldAfter held e p l → Holds (h ++ e ∷ []) p l
    there (inl acquires) = subst (λ f. Holds (h ++ f ∷ []) p l) (sym acquires) (well_formed_stays_holds_now h p l)
    there (inr kept) = well_formed_stays_holds_longer h e p l kept.1 (is.0 kept.0)

    back : Holds (h ++ e ∷ []) p l → IsHeldAfter held e p l
    back now = elim (well_formed_stays_holds_cases h e p l now) [ inl old ↦ inr (is.1 old.0, old.1) | inr new ↦ inl new ]

-- what the book says that p waits for
pub awaits_now : (t : Telling) (h : List Event) (p : ℕ) (w : Option Kind) → IsTelling t → h ≡ t.history
    → p < t.sizes.processors → IsAwaitedByBookStamps h p w → slice_get t.book.awaits p ≡ Some w
awaits_now t h p w telling same less is =
    let told = telling.told.awaits in
    let at = each_item_at t.sizes.processors (IsAwaitedByBookStamps t.history) t.book.awaits p None told less in
    at ∙ ap (λ x. Some x) (awaited_same t.history p _ w (told.each p _ at) (subst (λ es. IsAwaitedByBookStamps es p w) same is))
