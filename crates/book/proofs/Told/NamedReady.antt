-- Whom one more event lets go on.
use Rattle.std.proofs.Common.{◌≡◌, ◌≢◌, ℕ, ◌+◌, ◌<◌, ◌≤◌, ◌⊎◌, inl, inr, List, [], ◌∷◌, ◌++◌, length, true, false, Bool, cond, Option, Some, None, IsTrue, slice_get, subst, sym, refl, ap, ◌∙◌, append_assoc, append-nil, arith}
use Rattle.std.proofs.lemmas.Bool.{cases_eq, cases_lt, true≢false}
use Rattle.std.proofs.lemmas.Option.{none-some, same_Some, slice_get_within}
use Rattle.base.proofs.SlicesAndCounts.{slice_push_cases, slice_push_induction}
use Rattle.journal.specs.declared.event.Event.{Event}
use Rattle.journal.specs.declared.event.Kind.{Kind}
use Rattle.journal.specs.declared.event.Kind.TheVariants.{Acquire, Release, Arrive, Depart, Set, Watch, Await}
use Rattle.journal.specs.Sizes.{Sizes}
use Rattle.journal.specs.Events.{event_count, event_arrives, event_departs, event_closes, event_takes}
use Rattle.journal.specs.WellFormed.{WellFormedKindInRange, LastIs, WellFormedAllows, WellFormedNext, WellFormed, Ready}
use Rattle.journal.specs.AwaitedNext.{awaited_next}
use Rattle.journal.specs.Deadlocks.{IsDeadlock}
use Rattle.journal.specs.DidEvent.{event, did}
use Rattle.journal.proofs.Order.EventPlacesAndCounts.{event_place_longer, event_place_at_end}
use Rattle.journal.proofs.Journals.WellFormedStays.{well_formed_stays_push, well_formed_stays_last_cases}
use Rattle.journal.proofs.Journals.MayGoOn.{may_go_on_waiting_for}
use Rattle.journal.proofs.Journals.ArrivalBalance.{arrivals_balanced}
use Rattle.lockq.specs.LockQueues.{lock_queue_at, lock_queue_unheld, lock_queue_line}
use Rattle.book.specs.BookLockLines.{HasBookLockLine}
use Rattle.book.specs.BookStamps.{IsAwaitedByBookStamps}
use Rattle.book.specs.BookState.{BookState}
use Rattle.book.specs.Messages.{message_has_come}
use Rattle.book.specs.RepresentedHistory.{Represents}
use Rattle.book.specs.AllowedCalls.{IsBlockOfAllowedCalls}
use Rattle.book.specs.BookWaits.{IsBookWaitDone, IsNamedByBookWaits, LetsBookWaitEnd}
use Rattle.book.proofs.Parts.Each.{each_is_at, each_item_at}
use Rattle.book.proofs.Parts.LastEvents.{last_event_count, last_event_count_others, last_event_own}
use Rattle.book.proofs.Parts.LockLines.{first_in_lock_line_allowed}
use Rattle.book.proofs.Parts.PostedMail.{IsNewsForPostedMail, posted_mail_news_cases, posted_mail_allowed_back}
use Rattle.book.proofs.Told.TakingMessages.{taking_message_come}

-- p waits for what has not come
pub record BookWaitsInVain (b : BookState) (p : ℕ) : Type 0 where
  pub kind : Kind
  pub waits : slice_get b.awaits p ≡ Some (Some kind)
  pub come : message_has_come b.flags b.transit p kind ≡ false

-- an event of the first kind may let another processor do the second
abbrev pub MakesNamedReady : Kind → Kind → Type 0
MakesNamedReady k (Await f) = k ≡ Set f
MakesNamedReady k a = IsNewsForPostedMail k a

quiet_makes_none_named_ready : (k a : Kind) → IsTrue (event_takes a) → MakesNamedReady k a → event_closes k ≡ false → ⊥
quiet_makes_none_named_ready k (Acquire l) takes is none = true≢false (sym (ap event_closes is) ∙ none)
quiet_makes_none_named_ready k Depart takes is none = true≢false (sym (ap event_closes is) ∙ none)
quiet_makes_none_named_ready k (Await f) takes is none = true≢false (sym (ap event_closes is) ∙ none)
quiet_makes_none_named_ready k _ takes is none = absurd cc

-- what q may do after p's event, it could do before, or the event lets it
named_newly_ready : {s : Sizes} {h : List Event} {p : ℕ} {k : Kind} → WellFormedNext s h (event p k) → (q : ℕ) → q ≢ p → (a : Kind)
    → IsTrue (event_takes a) → WellFormedAllows s (did h p k) q a → MakesNamedReady k a ⊎ WellFormedAllows s h q a
named_newly_ready {s} {h} {p} {k} may q isnt (Acquire l) takes allowed = elim (posted_mail_news_cases k (Acquire l))
    [ inl news ↦ inl news | inr none ↦ inr (posted_mail_allowed_back s h p k may q isnt (Acquire l) tt none allowed) ]
named_newly_ready {s} {h} {p} {k} may q isnt Depart takes allowed = elim (posted_mail_news_cases k Depart)
    [ inl news ↦ inl news | inr none ↦ inr (posted_mail_allowed_back s h p k may q isnt Depart tt none allowed) ]
named_newly_ready {s} {h} {p} {k} may q isnt (Await f) takes (i, m, r, last, set) =
    elim (slice_push_cases h (event p k) m (event r (Set f)) set)
    [ inl old ↦ inr (i, m, r, before, old.1) | inr new ↦ inl (ap (λ (e : Event). e.kind) new.1) ]
  where
    before : LastIs h q i (Watch f)
    before =
        elim (well_formed_stays_last_cases h (event p k) q i (Watch f) last) [ inl own ↦ absurd (isnt (sym own.0)) | inr o ↦ o.1 ]
named_newly_ready may q isnt _ takes allowed = absurd cc

-- what q may do after p's block, it could do before
named_ready_before_block : {s : Sizes} {p q : ℕ} → (h block : List Event) (a : Kind) → q ≢ p → IsTrue (event_takes a)
    → IsBlockOfAllowedCalls s p block → WellFormed s (h ++ block) → WellFormedAllows s (h ++ block) q a → WellFormedAllows s h q a
named_ready_before_block {s} {p} {q} h block a isnt takes =
    slice_push_induction
    (λ (es : List Event). IsBlockOfAllowedCalls s p es → WellFormed s (h ++ es) → WellFormedAllows s (h ++ es) q a → WellFormedAllows s h q a) start step
    block
  where
    start : IsBlockOfAllowedCalls s p [] → WellFormed s (h ++ []) → WellFormedAllows s (h ++ []) q a → WellFormedAllows s h q a
    start inner well allowed = rw append-nil at allowed

    step : (es : List Event) (e : Event)
        → (IsBlockOfAllowedCalls s p es → WellFormed s (h ++ es) → WellFormedAllows s (h ++ es) q a → WellFormedAllows s h q a)
        → IsBlockOfAllowedCalls s p (es ++ e ∷ []) → WellFormed s (h ++ (es ++ e ∷ [])) → WellFormedAllows s (h ++ (es ++ e ∷ [])) q a
        → WellFormedAllows s h q a
    step es e ih inner well allowed =
        let own = inner (length es) e (event_place_at_end es e) in
        let same : (event p e.kind) ≡ e = ap (λ (r : ℕ). event r e.kind) (sym own.mine) in
        let longer = append_assoc h es (e ∷ []) in
        let both = (well_formed_stays_push s (h ++ es) e).0 (subst (WellFormed s) (sym longer) well) in
        let now = subst (λ (f : Event). WellFormedAllows s ((h ++ es) ++ f ∷ []) q a) (sym same)
        (subst (λ (xs : List Event). WellFormedAllows s xs q a) (sym longer) allowed) in
        elim (named_newly_ready {k = e.kind} (subst (WellFormedNext s (h ++ es)) (sym same) both.1) q isnt a takes now) [
          | inl brings ↦ absurd (quiet_makes_none_named_ready e.kind a takes brings own.closes)
          | inr old ↦ ih (λ k f at. inner k f (event_place_longer es (e ∷ []) k f at)) both.0 old
        ]

-- of a book that is told
module _ (s : Sizes) (h : List Event) (b : BookState) (told : Represents s h b) where
  -- who may take something waits for it
  pub named_ready_waits_taking : (q : ℕ) (k : Kind) → IsTrue (event_takes k) → WellFormedAllows s h q k
      → (q < s.processors) × (slice_get b.awaits q ≡ Some (Some k))
  named_ready_waits_taking q k takes allowed =
      let w = may_go_on_waiting_for s h q k takes allowed in
      let lt = (told.well_formed w.place (event q w.call) w.last.does).processor in
      let at = each_item_at s.processors (IsAwaitedByBookStamps h) b.awaits q None told.awaits lt in
      let is = (each_is_at s.processors (IsAwaitedByBookStamps h) b.awaits q None told.awaits lt).last w.place w.call w.last in
      (lt, at ∙ ap (λ (o : Option Kind). Some o) (is ∙ w.awaits))

  -- for whom what it waits for has come is ready
  pub named_come_is_ready : (q : ℕ) (k : Kind) → IsBookWaitDone b k q → Ready s h q
  named_come_is_ready q k x = (taking_message_come s h b q told k x.waits).0 x.come

  -- and for who is ready it has come
  pub named_ready_has_come : (q : ℕ) (r : Ready s h q) → IsBookWaitDone b r.0 q
  named_ready_has_come q r =
      let waits = (named_ready_waits_taking q r.0 r.1 r.2).1 in
      record { waits = waits; come = (taking_message_come s h b q told r.0 waits).1 r }

  -- where each waits in vain, there is a deadlock
  pub named_none_ready_deadlock : ((p : ℕ) → p < length b.awaits → BookWaitsInVain b p) → IsDeadlock s h
  named_none_ready_deadlock all = record { waits = waits; not_ready = not_ready }
    where
      vain : (p : ℕ) → p < s.processors → BookWaitsInVain b p
      vain p lt = all p (subst (λ (n : ℕ). p < n) (sym told.awaits.long) lt)

      waits : (p : ℕ) → p < s.processors
          → (i : ℕ) × (a : Kind) × (c : Kind) × LastIs h p i a × (awaited_next a ≡ Some c)
      waits p lt =
          let v = vain p lt in
          let w = told.awaits.each p (Some v.kind) v.waits in
          let last = w.some v.kind refl in
          (last.0, last.1, v.kind, last.2, sym (w.last last.0 last.1 last.2))

      not_ready : (p : ℕ) → ¬ Ready s h p
      not_ready p ready =
          let come = named_ready_has_come p ready in
          let v = vain p (named_ready_waits_taking p ready.0 ready.1 ready.2).0 in
          let same = same_Some ready.0 v.kind (same_Some (Some ready.0) (Some v.kind) (sym come.waits ∙ v.waits)) in
          true≢false (sym (subst (λ (k : Kind). message_has_come b.flags b.transit p k ≡ true) same come.come) ∙ v.come)

  -- and in a deadlock each waits in vain
  pub named_ready_none_by_deadlock : IsDeadlock s h → (p : ℕ) → p < length b.awaits → BookWaitsInVain b p
  named_ready_none_by_deadlock dead p less =
      let lt = subst (λ (n : ℕ). p < n) told.awaits.long less in
      let d = dead.waits p lt in
      let at = each_item_at s.processors (IsAwaitedByBookStamps h) b.awaits p None told.awaits lt in
      let is = (each_is_at s.processors (IsAwaitedByBookStamps h) b.awaits p None told.awaits lt).last d.0 d.1 d.3 in
      let waits = at ∙ ap (λ (o : Option Kind). Some o) (is ∙ d.4) in
      record {
        kind = d.2;
        waits = waits;
        come = never (message_has_come b.flags b.transit p d.2)
            (λ e. dead.not_ready p ((taking_message_come s h b p told d.2 waits).0 e));
      }
    where
      never : (x : Bool) → ¬ (x ≡ true) → x ≡ false
      never true isnt = absurd (isnt refl)
      never false isnt = refl

  -- who may acquire a lock holds it in the book
  pub named_ready_granted_holds : (q l : ℕ) → l < s.locks → WellFormedAllows s h q (Acquire l) → (lock_queue_at b.locks l).holder ≡ Some q
  named_ready_granted_holds q l lt (i, last, granted) =
      let is : HasBookLockLine s.processors h l (lock_queue_at b.locks l) =
      each_is_at s.locks (HasBookLockLine s.processors h) b.locks.locks l (lock_queue_unheld b.locks.processors) told.locks lt in
      first (lock_queue_at b.locks l).holder (lock_queue_at b.locks l).queue refl is.held
      (first_in_lock_line_allowed h q l i (lock_queue_line (lock_queue_at b.locks l)) last granted is.line_is)
    where
      first : (o : Option ℕ) (queue : List ℕ) → (lock_queue_at b.locks l).holder ≡ o
          → ((lock_queue_at b.locks l).holder ≡ None → queue ≡ [])
          → slice_get (lock_queue_line (record { holder = o; queue = queue; time = [] })) 0 ≡ Some q
          → (lock_queue_at b.locks l).holder ≡ Some q
      first None queue is held at =
          absurd (none-some q (subst (λ (xs : List ℕ). slice_get xs 0 ≡ Some q) (held is) at))
      first (Some r) queue is held at = is ∙ at

  -- whom the book names is one for whom what it waits for has come
  pub named_ready : (p : ℕ) (k : Kind) (q : ℕ) → IsNamedByBookWaits b p k q → Ready s h q
  named_ready p (Release l) q named = named_come_is_ready q (Acquire l) named.2
  named_ready p Arrive q named = named_come_is_ready q Depart named.2
  named_ready p (Set f) q named = named_come_is_ready q (Await f) named.1
  named_ready p _ q named = absurd named

-- whom the book names is one of its processors
pub named_ready_within : (b : BookState) (p : ℕ) (k : Kind) (q : ℕ) → IsNamedByBookWaits b p k q → q < length b.awaits
named_ready_within b p (Release l) q named = slice_get_within b.awaits q _ named.2.waits
named_ready_within b p Arrive q named = slice_get_within b.awaits q _ named.2.waits
named_ready_within b p (Set f) q named = slice_get_within b.awaits q _ named.1.waits
named_ready_within b p _ q named = absurd named

-- p's block and event let q go on
module _ (s : Sizes) (h block : List Event) (b : BookState) (p : ℕ) (k : Kind) (q : ℕ)
    (told : Represents s (did (h ++ block) p k) b) (inner : IsBlockOfAllowedCalls s p block) (lets : LetsBookWaitEnd s h block p k q) where
  named_ready_followed : WellFormed s (h ++ block) × WellFormedNext s (h ++ block) (event p k)
  named_ready_followed = (well_formed_stays_push s (h ++ block) (event p k)).0 told.well_formed

  named_never_ready : (a : Kind) → IsTrue (event_takes a) → ¬ WellFormedAllows s (h ++ block) q a
  named_never_ready a takes allowed = lets.before (a, takes, named_ready_before_block h block a lets.other takes inner named_ready_followed.0 allowed)

  -- where q may depart since p has arrived, p may depart, too
  named_both_ready_to_depart : k ≡ Arrive → WellFormedAllows s (did (h ++ block) p k) q Depart → WellFormedAllows s (did (h ++ block) p k) p Depart
  named_both_ready_to_depart is (i, last, all) = elim (cases_lt (departs q) (departs p)) [
    | inl more ↦ absurd (named_never_ready Depart refl (i, before, λ r lt. early more r (all r lt)))
    | inr le ↦ (length (h ++ block), arrived, λ r lt. (let one = all r lt in omega arith))
  ]
    where
      departs : ℕ → ℕ
      departs r = event_count event_departs (did (h ++ block) p k) r

      arrived : LastIs (did (h ++ block) p k) p (length (h ++ block)) Arrive
      arrived = let P : Kind → Type 0 = λ a. LastIs (did (h ++ block) p k) p (length (h ++ block)) a in
          subst P is (last_event_own (h ++ block) p k)

      before : LastIs (h ++ block) q i Arrive
      before = elim (well_formed_stays_last_cases (h ++ block) (event p k) q i Arrive last)
          [ inl own ↦ absurd (lets.other (sym own.0)) | inr old ↦ old.1 ]

      early : event_count event_departs (did (h ++ block) p k) q < event_count event_departs (did (h ++ block) p k) p → (r : ℕ)
          → event_count event_departs (did (h ++ block) p k) q + 1 ≤ event_count event_arrives (did (h ++ block) p k) r
          → event_count event_departs (h ++ block) q + 1 ≤ event_count event_arrives (h ++ block) r
      early more r one =
          let own = last_event_count_others event_departs (h ++ block) p k q lets.other in
          elim (cases_eq r p) [
            | inl same ↦ (
                let balance = (arrivals_balanced s (did (h ++ block) p k) p told.well_formed).waiting (length (h ++ block)) arrived in
                let did_one = last_event_count event_arrives (h ++ block) p k in
                let one_is = ap (λ (c : Bool). cond {A = ℕ} c 1 0) (ap event_arrives is) in
                let P : ℕ → Type 0 = λ x. event_count event_departs (h ++ block) q + 1 ≤ event_count event_arrives (h ++ block) x in
                subst P (sym same) (omega arith))
            | inr apart ↦ (let others = last_event_count_others event_arrives (h ++ block) p k r apart in omega arith)
          ]

  -- so the book names it
  pub named_ready_if_let : IsNamedByBookWaits b p k q
  named_ready_if_let =
      let r = lets.after in
      elim (named_newly_ready named_ready_followed.1 q lets.other r.0 r.1 r.2) [
        | inl brings ↦ by_kind r.0 r.1 r.2 brings
        | inr old ↦ absurd (named_never_ready r.0 r.1 old)
      ]
    where
      by_kind : (a : Kind) (takes : IsTrue (event_takes a)) (allowed : WellFormedAllows s (did (h ++ block) p k) q a) → MakesNamedReady k a
          → IsNamedByBookWaits b p k q
      by_kind (Acquire l) takes allowed is =
          let range : l < s.locks = subst (λ (x : Kind). WellFormedKindInRange s x) is named_ready_followed.1.in_range in
          subst (λ (x : Kind). IsNamedByBookWaits b p x q) (sym is) (
            named_ready_granted_holds s (did (h ++ block) p k) b told q l range allowed,
            lets.few,
            named_ready_has_come s (did (h ++ block) p k) b told q (Acquire l, takes, allowed),
          )
      by_kind Depart takes allowed is =
          subst (λ (x : Kind). IsNamedByBookWaits b p x q) (sym is) (
            (named_ready_has_come s (did (h ++ block) p k) b told p (Depart, refl, named_both_ready_to_depart is allowed)).come,
            lets.few,
            named_ready_has_come s (did (h ++ block) p k) b told q (Depart, takes, allowed),
          )
      by_kind (Await f) takes allowed is =
          subst (λ (x : Kind). IsNamedByBookWaits b p x q) (sym is)
          (lets.few, named_ready_has_come s (did (h ++ block) p k) b told q (Await f, takes, allowed))
      by_kind _ takes allowed is = absurd cc
