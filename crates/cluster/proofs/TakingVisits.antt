-- A call that takes what the processor waits for.
use Rattle.std.proofs.Common.{ℕ, ◌≡◌, ◌≢◌, ◌⊎◌, ◌↔◌, ◌+◌, ◌≤◌, true, true≢false, Option, Some, None, Result, Ok, Err, IfOk, OnErr, List, [], ◌∷◌, ◌++◌, length, slice_get, slice_index, refl, sym, ap, subst, ◌∙◌, append-nil}
use Rattle.std.proofs.lemmas.Bool.{eq-eqb}
use Rattle.std.proofs.lemmas.Option.{none-some}
use Rattle.std.proofs.lemmas.List.Elements.{filter-append}
use Rattle.journal.specs.declared.event.Event.{Event}
use Rattle.journal.specs.declared.event.Kind.{Kind}
use Rattle.journal.specs.declared.event.Kind.TheVariants.{Load, Fetch}
use Rattle.journal.specs.DidEvent.{event, did}
use Rattle.journal.specs.Events.{event_takes, events_of}
use Rattle.journal.specs.MissingIntervals.{AreMissingIntervalsOfNotices, MissingIntervalsInOrder}
use Rattle.journal.specs.WellFormed.{Ready}
use Rattle.journal.specs.Sizes.{Sizes}
use Rattle.base.specs.Limits.{most_events}
use Rattle.turn.specs.declared.chair.ChairToken.{ChairToken}
use Rattle.transit.specs.Letters.{Letter, letter}
use Rattle.transit.specs.declared.message.Message.{Message}
use Rattle.vtime.specs.TicksAndJoins.{join}
use Rattle.interval.specs.KeptClosings.{kept_closings_between}
use Rattle.interval.specs.SentIntervals.{SentRecord}
use Rattle.book.specs.Messages.{message_for}
use Rattle.book.specs.AllowedCalls.{AllowsSomeTakeCall}
use Rattle.book.specs.BookLaws.{IsBookLawMessage}
use Rattle.book.specs.PageNews.{news_of_page}
use Rattle.book.specs.BookState.{BookState, book_state_time_of}
use Rattle.book.specs.RepresentedHistory.{Represents}
use Rattle.book.specs.Transitions.{transition_taken, TransitionTakes}
use Rattle.book.specs.declared.refused.Refused.{Refused}
use Rattle.book.specs.declared.refused.Refused.TheVariants.{NotYet, JournalFull, NoMemory}
use Rattle.book.specs.Refusals.{IsFullRefusal}
use Rattle.book.proofs.Told.WholeLaws.{whole_take_law, whole_message_law, whole_news_law, whole_news_order_law}
use Rattle.cluster.specs.Copies.PageReplica.{PageReplica}
use Rattle.cluster.specs.Copies.Local.{Local, calls}
use Rattle.cluster.specs.Copies.Sound.{IsSound, sound_most_seen}
use Rattle.cluster.specs.Copies.AfterNews.{AreAfterNews, AreSameCopiesAfterNews, CopiesMayLackNews, found_after_news, taken_after_news, locks_held_after_news}
use Rattle.cluster.proofs.copies.WholeCalls.{whole_call_took_message, whole_call_waits_to_take}
use Rattle.cluster.proofs.copies.WaitingToLearn.{waiting_may_learn}
use Rattle.cluster.specs.declared.keeper.View.{View}
use Rattle.cluster.specs.ProcessorCalls.{IsProcessorCall}
use Rattle.cluster.specs.Entering.{FindsOnEntering, IsEnteringCallOf, entered}
use Rattle.cluster.specs.ProcessorRefusals.{processor_refusal_of_flush}
use Rattle.cluster.specs.TakingCalls.{IsTakingCallLate, IsTakingCallDone, HasRoomForTakingCall, taking_call_added}
use Rattle.cluster.proofs.FoundBook.{found_book_sound, found_book_awaits, found_book_time}
use Rattle.cluster.proofs.HandingVisits.{handing_visit_had_room}
use Rattle.cluster.proofs.FaithfulHistory.{faithful_history_told_few}
use Rattle.cluster.proofs.LeavingCalls.{leaving_call_of_nothing, leaving_call_of_event_alone}
use Rattle.cluster.proofs.Visiting.{Visit, visiting_processor_on, visit_left_as}
use Rattle.cluster.proofs.EndedCalls.{ended_call_entered_sound, ended_call_not_spent, ended_call_now_is, ended_call_done, ended_call_inside, ended_call_unchanged, ended_call_seen}

taking_visit_no_load : (k : Kind) → event_takes k ≡ true → (a v : ℕ) → k ≢ Load a v
taking_visit_no_load k taking_visit_takes a v is = true≢false (sym taking_visit_takes ∙ ap event_takes is)

taking_visit_no_fetch : (k : Kind) → event_takes k ≡ true → (w n r d : ℕ) → k ≢ Fetch w n r d
taking_visit_no_fetch k taking_visit_takes w n r d is = true≢false (sym taking_visit_takes ∙ ap event_takes is)

-- what one processor awaits is one thing
taking_visit_same_kind : (o : Option (Option Kind)) (j k : Kind) → o ≡ Some (Some j) → o ≡ Some (Some k) → j ≡ k
taking_visit_same_kind o j k a b = let taking_visit_same : ◌≡◌ {A = Option (Option Kind)} (Some (Some j)) (Some (Some k)) = sym a ∙ b in cc taking_visit_same

module _ (m : Local) (taking_visit_was_sound : IsSound m) (b : BookState) (k : Kind) (waits : m.awaits ≡ Some k) where
  taking_visit_takes : event_takes k ≡ true
  taking_visit_takes = whole_call_waits_to_take m taking_visit_was_sound k waits

  taking_visit_awaited_here : (f : FindsOnEntering m b) → slice_get b.awaits m.number ≡ Some (Some k)
  taking_visit_awaited_here f = found_book_awaits m taking_visit_was_sound b f ∙ ap (λ (w : Option Kind). Some w) waits

  -- p may take
  pub taking_visit_may_take : FindsOnEntering m b → AllowsSomeTakeCall b m.number
  taking_visit_may_take f = record {
    kind = k;
    take = record {
      by = record { sizes = m.sizes; history = m.seen ++ f.rest; told = f.kept.told };
      waits = taking_visit_awaited_here f;
    };
  }

  -- what it takes is what has come for this
  pub taking_visit_takes_what_came : (x : Letter) (new : BookState) → FindsOnEntering m b → TransitionTakes b m.number x new
      → (message_for b m.number k ≡ Some x) × (new ≡ transition_taken b m.number k x)
  taking_visit_takes_what_came x new f t =
      let taking_visit_same = taking_visit_same_kind (slice_get b.awaits m.number) t.kind k t.awaits (taking_visit_awaited_here f) in (
        subst (λ j. message_for b m.number j ≡ Some x) taking_visit_same t.message,
        subst (λ j. new ≡ transition_taken b m.number j x) taking_visit_same t.after,
      )

  module _ (x : Letter) (come : message_for b m.number k ≡ Some x) where
    -- it is a call of p
    pub taking_visit_is_call : length b.journal.events + 1 ≤ most_events
        → IsEnteringCallOf m b (event m.number k ∷ []) (transition_taken b m.number k x)
    taking_visit_is_call fits =
        leaving_call_of_event_alone m taking_visit_was_sound b k (transition_taken b m.number k x) (taking_visit_no_load k taking_visit_takes) (taking_visit_no_fetch k taking_visit_takes)
        fits refl refl refl (λ f.
        whole_take_law m.sizes (m.seen ++ f.rest) b m.number k x f.kept.told (taking_visit_awaited_here f) come)

    module _ (f : FindsOnEntering m b) where
      pub taking_visit_what_came : IsBookLawMessage m.sizes (m.seen ++ f.rest) b m.number k x
      taking_visit_what_came = whole_message_law m.sizes (m.seen ++ f.rest) b m.number k x f.kept.told (taking_visit_awaited_here f) come

      abbrev IsNewsOfTakingVisit : ℕ → List ℕ → List SentRecord → Type 0
      IsNewsOfTakingVisit n t sent =
          AreMissingIntervalsOfNotices m.sizes (m.seen ++ f.rest) m.number n (slice_index t) (slice_index (join t x.time))
          (news_of_page n sent)

      -- what it brings of each page is news
      pub taking_visit_news : (n : ℕ) → AreMissingIntervalsOfNotices m.sizes (m.seen ++ f.rest) m.number n (slice_index m.time)
          (slice_index (join m.time x.time)) (news_of_page n x.notices)
      taking_visit_news n =
          let time = found_book_time m taking_visit_was_sound b f in
          let brought = whole_news_law m.sizes (m.seen ++ f.rest) b m.number n k x.time f.kept.told taking_visit_was_sound.mine taking_visit_what_came.time in
          let P : List ℕ → Type 0 = λ t. IsNewsOfTakingVisit n t (kept_closings_between b.closed t x.time) in
          rw (taking_visit_what_came.notices, time) (subst P time brought)

      module _ (copies : List PageReplica) (after : AreAfterNews m.copies x.notices copies) where
        -- the processor is as it has to be
        pub taking_visit_took_sound : length (did (m.seen ++ f.rest) m.number k) ≤ sound_most_seen → (cut : ℕ)
            → IsSound (taken_after_news (entered m f.rest cut) k x.time copies)
        taking_visit_took_sound few cut =
            whole_call_took_message (entered m f.rest cut) (ended_call_entered_sound m b taking_visit_was_sound f cut) k waits b f.kept.told
            (found_book_awaits m taking_visit_was_sound b f) (found_book_time m taking_visit_was_sound b f) x come copies few after

        -- and has taken
        pub taking_visit_taken : (cut : ℕ) → IsTakingCallDone (entered m f.rest cut) (taken_after_news (entered m f.rest cut) k x.time copies)
        taking_visit_taken cut = record {
          kind = k;
          waits = waits;
          allowed = taking_visit_what_came.allowed;
          time = x.time;
          stamp = taking_visit_what_came.time;
          sent = x.notices;
          news = taking_visit_news;
          told = after;
          after = refl;
        }

-- the taking is one call more
taking_visit_calls : (m : Local) (k : Kind) (u : List ℕ) (copies : List PageReplica) → m.block ≡ []
    → calls (taken_after_news m k u copies) ≡ calls m ++ event m.number k ∷ []
taking_visit_calls m k u copies none =
    rw (none, append-nil, filter-append, eq-eqb m.number m.number refl)
    (ap (λ (xs : List Event). xs ++ event m.number k ∷ []) (sym (append-nil (events_of m.seen m.number))))

module _ (m : Local) (taking_visit_was_sound : IsSound m) (b : BookState) (k : Kind) (waits : m.awaits ≡ Some k) (f : FindsOnEntering m b) where
  -- whatever the book answers, it is a call of p
  pub taking_visit_call_answered : (r : Result Message Refused) (new : BookState) → IfOk r (λ x. TransitionTakes b m.number (letter x) new)
      → OnErr r (new ≡ b) → (◌≢◌ {A = Result Message Refused} r (Err NotYet)
      → IsFullRefusal (length b.journal.events + 1) r) → (es : List Event) × IsEnteringCallOf m b es new
  taking_visit_call_answered (Ok x) new ok err full =
      let t = taking_visit_takes_what_came m taking_visit_was_sound b k waits (letter x) new f ok in
      let fits = handing_visit_had_room x (length b.journal.events + 1) (full (λ h. absurd (cc h))) in
      (event m.number k ∷ [], rw (t.1) (taking_visit_is_call m taking_visit_was_sound b k waits (letter x) t.0 fits))
  taking_visit_call_answered (Err e) new ok err full = ([], rw err (leaving_call_of_nothing m b))

-- a take that the book refused
pub taking_visit_refused : {m : Local} {b : BookState} {after : ChairToken BookState View} {done : Local → Local → Type 0}
    {added : List Event} (v : Visit m b b after) (cs : List PageReplica) (alike : AreSameCopiesAfterNews m.copies cs) (e : Refused)
    → ((s : Sizes) (h : List Event) → Represents s h b
    → ◌≡◌ {A = Result Message Refused} (Err e) (Err NotYet) ↔ (¬ Ready s h m.number))
    → (◌≡◌ {A = Result Message Refused} (Err e) (Err NotYet) → cs ≡ m.copies)
    → (◌≢◌ {A = Result Message Refused} (Err e) (Err NotYet)
    → IsFullRefusal {A = Message} (length b.journal.events + 1) (Err e))
    → (e ≡ NotYet) ⊎ (e ≡ JournalFull) ⊎ (e ≡ NoMemory)
    → IsProcessorCall (processor_refusal_of_flush m) 1 IsTakingCallLate done added m (ended_call_unchanged v cs alike) (Some e)
taking_visit_refused {m} {b} v cs alike e absent early full why =
    ended_call_inside v cs alike e (ended_call_not_spent v) why (
      (λ is. late.0 (ap (λ (x : Refused). Err x) is)),
      λ so. (let is = late.1 so in cc is),
    ) (λ is. early (ap (λ (x : Refused). Err x) is)) (λ in_time. let both = full (λ is. in_time (late.0 is)) in (
      (λ is. both.0 (ap (λ (x : Refused). Err x) is)),
      λ more. (let is = both.1 more in cc is),
    ))
  where
    late : ◌≡◌ {A = Result Message Refused} (Err e) (Err NotYet) ↔ IsTakingCallLate (ended_call_unchanged v cs alike)
    late = rw (ended_call_seen v cs alike) (absent m.sizes (m.seen ++ v.finds.rest) v.finds.kept.told)

-- a visit that took what p waits for
pub record TakingVisit (m : Local) (b : BookState) (k : Kind) (x : Letter) (after : ChairToken BookState View) : Type 0 where
  pub waits : m.awaits ≡ Some k
  pub come : message_for b m.number k ≡ Some x
  pub fits : length b.journal.events + 1 ≤ most_events
  pub visit : Visit m b (transition_taken b m.number k x) after

-- as the book answered
pub taking_visit_made : {A : Type 0} {m : Local} {b new : BookState} {k : Kind} {x : Letter} {after : ChairToken BookState View}
    (a : A) → m.awaits ≡ Some k → Visit m b new after → TransitionTakes b m.number x new
    → (◌≢◌ {A = Result A Refused} (Ok a) (Err NotYet) → IsFullRefusal (length b.journal.events + 1) (Ok a))
    → TakingVisit m b k x after
taking_visit_made {m = m} {b} {new} {k} {x} a waits visit ok full =
    let t = taking_visit_takes_what_came m visit.sound b k waits x new visit.finds ok in
    record {
      waits = waits;
      come = t.0;
      fits = handing_visit_had_room a (length b.journal.events + 1) (full (λ h. absurd (cc h)));
      visit = visit_left_as visit t.1;
    }

module _ {m : Local} {b : BookState} {k : Kind} {x : Letter} {after : ChairToken BookState View} (t : TakingVisit m b k x after) where
  abbrev taking_visit_was_sound : IsSound m
  taking_visit_was_sound = t.visit.sound

  abbrev f : FindsOnEntering m b
  f = t.visit.finds

  taking_visit_brings : IsBookLawMessage m.sizes (m.seen ++ f.rest) b m.number k x
  taking_visit_brings = taking_visit_what_came m taking_visit_was_sound b k t.waits x t.come f

  -- the timestamp of what it takes has an entry for each processor
  pub taking_visit_time_long : length x.time ≡ length m.time
  taking_visit_time_long = taking_visit_brings.time.long ∙ sym taking_visit_was_sound.time.long

  -- what it takes may be learned by copies with room for it
  pub taking_visit_may_learn : (copies : List PageReplica) → AreSameCopiesAfterNews m.copies copies → HasRoomForTakingCall x.notices copies
      → CopiesMayLackNews copies x.notices
  taking_visit_may_learn copies alike room =
      waiting_may_learn (found_after_news m f.rest) (found_book_sound m taking_visit_was_sound b f) copies alike waiting x.notices
      (slice_index (join m.time x.time)) (taking_visit_news m taking_visit_was_sound b k t.waits x t.come f) order room
    where
      waiting : m.awaits ≢ None
      waiting none = none-some k (sym none ∙ t.waits)

      order : (n : ℕ) → MissingIntervalsInOrder (news_of_page n x.notices)
      order n =
          rw (taking_visit_brings.notices) (whole_news_order_law m.sizes (m.seen ++ f.rest) b n (book_state_time_of b m.number) x.time f.kept.told)

  module _ (cs : List PageReplica) (told : AreAfterNews m.copies x.notices cs) where
    -- the processor after it took
    abbrev taking_visit_now : Local
    taking_visit_now = record (visiting_processor_on after m) {
      copies = cs;
      time = join m.time x.time;
      held = locks_held_after_news k m.held;
      awaits = None;
    }

    abbrev then : Local
    then = entered m f.rest b.journal.base.cut

    taking_visit_call : IsEnteringCallOf m b (event m.number k ∷ []) (transition_taken b m.number k x)
    taking_visit_call = taking_visit_is_call m taking_visit_was_sound b k t.waits x t.come t.fits

    taking_visit_same : taking_visit_now ≡ taken_after_news then k x.time cs
    taking_visit_same = ended_call_now_is t.visit (event m.number k ∷ []) taking_visit_call taking_visit_now refl refl

    -- it is as it has to be
    pub taking_visit_sound : IsSound taking_visit_now
    taking_visit_sound =
        subst IsSound (sym taking_visit_same) (taking_visit_took_sound m taking_visit_was_sound b k t.waits x t.come f cs told
        (faithful_history_told_few m.sizes ((m.seen ++ f.rest) ++ event m.number k ∷ []) (transition_taken b m.number k x) (taking_visit_call.told f)
        (taking_visit_call.few f)) b.journal.base.cut)

    pub taking_visit_done : IsProcessorCall (processor_refusal_of_flush m) 1 IsTakingCallLate IsTakingCallDone (taking_call_added m.number m.awaits) m taking_visit_now None
    taking_visit_done =
        let quiet : m.block ≡ [] = taking_visit_was_sound.quiet (λ none. none-some k (sym none ∙ t.waits)) in
        ended_call_done t.visit (event m.number k ∷ []) taking_visit_call taking_visit_now refl (ended_call_not_spent t.visit) refl taking_visit_sound
        (subst (IsTakingCallDone then) (sym taking_visit_same) (taking_visit_taken m taking_visit_was_sound b k t.waits x t.come f cs told b.journal.base.cut))
        (ap calls taking_visit_same ∙ taking_visit_calls then k x.time cs quiet
        ∙ ap (λ (w : Option Kind). calls then ++ taking_call_added m.number w) (sym t.waits))
