-- A call that closes the interval.
use Rattle.std.proofs.Common.{ℕ, ◌≡◌, ◌≢◌, ◌+◌, ◌<◌, ◌≤◌, true, false, true≢false, None, Result, Ok, Err, OnOk, OnErr, List, [], ◌∷◌, ◌++◌, length, map, replicate, slice_index_or, refl, sym, ap, subst, ◌∙◌, append-nil, append_assoc, arith}
use Rattle.std.proofs.lemmas.Bool.{eq-eqb}
use Rattle.std.proofs.lemmas.List.Elements.{filter-append}
use Rattle.journal.specs.declared.event.Event.{Event}
use Rattle.journal.specs.declared.event.Kind.{Kind}
use Rattle.journal.specs.declared.event.Kind.TheVariants.{Load, Fetch, Ask, Release, Arrive, Set, Watch}
use Rattle.journal.specs.DidEvent.{event, did}
use Rattle.journal.specs.AwaitedNext.{awaited_next}
use Rattle.journal.specs.Events.{event_closes, events_of}
use Rattle.journal.specs.WellFormed.{WellFormed, Holds, WellFormedKindInRange}
use Rattle.base.specs.Limits.{most_events}
use Rattle.page.specs.PageChanges.{PageChanges}
use Rattle.book.specs.BookState.{BookState}
use Rattle.book.specs.RepresentedHistory.{Represents}
use Rattle.book.specs.BookWaits.{HasClosedBeforeBookWaits}
use Rattle.book.specs.AllowedCalls.{AllowsCallThatCloses}
use Rattle.book.specs.Transitions.{transition_closed, transition_handed_in}
use Rattle.book.specs.declared.refused.Refused.{Refused}
use Rattle.book.specs.Refusals.{IsFullRefusal}
use Rattle.book.proofs.Told.WholeLaws.{whole_ask_law, whole_release_law, whole_arrive_law, whole_set_law, whole_watch_law}
use Rattle.turn.specs.declared.chair.ChairToken.{ChairToken}
use Rattle.vtime.specs.TicksAndJoins.{tick}
use Rattle.cluster.specs.Copies.Local.{Local, calls}
use Rattle.cluster.specs.Copies.MarkedCopiesAndHarvests.{AreHarvestsOfCopies, CopiesToHarvestAreMarked}
use Rattle.cluster.specs.Copies.Sound.{IsSound, sound_most_seen}
use Rattle.cluster.specs.Copies.AfterNews.{found_after_news, handed_after_news, closed_after_news, copy_cleaned_after_news, locks_held_after_news}
use Rattle.cluster.proofs.copies.WholeCalls.{whole_call_closed_sound}
use Rattle.cluster.proofs.copies.LockMarks.{lock_mark_tells_held}
use Rattle.cluster.proofs.copies.HarvestedInterval.{harvested_interval_contents}
use Rattle.cluster.specs.declared.keeper.View.{View}
use Rattle.cluster.specs.ProcessorRefusals.{processor_refusal_of_flush}
use Rattle.cluster.specs.ProcessorCalls.{IsProcessorCall, ProcessorCallWaitsForNothing}
use Rattle.cluster.specs.ClosingCalls.{MayCloseByCall, MayHoldInClosingCall, IsClosedByCall}
use Rattle.cluster.specs.Entering.{FindsOnEntering, IsEnteringCallOf, entered}
use Rattle.cluster.proofs.FoundBook.{found_book_sound, found_book_allows_handing_in, found_book_allows_call}
use Rattle.cluster.proofs.HandingVisits.{handing_visit_had_room, handing_visit_calls}
use Rattle.cluster.proofs.FaithfulHistory.{faithful_history_told_few}
use Rattle.cluster.proofs.Visiting.{Visit, visiting_processor_on, visit_left_as}
use Rattle.cluster.proofs.EndedCalls.{ended_call_entered_sound, ended_call_not_spent, ended_call_now_is, ended_call_done}
use Rattle.cluster.proofs.LeavingCalls.{leaving_call_of_nothing, leaving_call_of_event}

module _ (m : Local) (sound : IsSound m) (b : BookState) (f : FindsOnEntering m b) where
  abbrev closing_visit_seen : List Event
  closing_visit_seen = m.seen ++ f.rest

  -- whether it holds a lock is known to the processor
  closing_visit_lacks_lock : (l : ℕ) → l < m.sizes.locks → slice_index_or m.held l false ≡ false → ¬ Holds closing_visit_seen m.number l
  closing_visit_lacks_lock l within mark holds =
      true≢false (sym ((lock_mark_tells_held (found_after_news m f.rest) l (found_book_sound m sound b f) within).1 holds) ∙ mark)

  closing_visit_has_lock : (l : ℕ) → l < m.sizes.locks → slice_index_or m.held l false ≡ true → Holds closing_visit_seen m.number l
  closing_visit_has_lock l within mark = (lock_mark_tells_held (found_after_news m f.rest) l (found_book_sound m sound b f) within).0 mark

  -- the book lets it
  pub closing_visit_may_close : (k : Kind) → MayCloseByCall m k → AllowsCallThatCloses k b m.number m.block
  closing_visit_may_close (Ask l) may =
      record { call = found_book_allows_call m sound b f may.idle; range = may.in_range; free = closing_visit_lacks_lock l may.in_range may.held }
  closing_visit_may_close (Release l) may =
      record { call = found_book_allows_call m sound b f may.idle; range = may.in_range; held = closing_visit_has_lock l may.in_range may.held }
  closing_visit_may_close (Set f') may =
      (found_book_allows_call m sound b f may.idle, (let long = f.kept.told.flags.long in let within = may.in_range in omega arith))
  closing_visit_may_close _ may = found_book_allows_call m sound b f may.idle

  -- and is told then by one event more
  pub closing_visit_told : (k : Kind) (records : List PageChanges) → MayCloseByCall m k → AreHarvestsOfCopies m.copies records
      → Represents m.sizes (did (closing_visit_seen ++ m.block) m.number k) (transition_closed k (transition_handed_in b m.block) m.number records)
  closing_visit_told k records may are = go k may.closes may.in_range may.held
    where
      told : Represents m.sizes closing_visit_seen b
      told = f.kept.told

      go : (k : Kind) → event_closes k ≡ true → WellFormedKindInRange m.sizes k → MayHoldInClosingCall m.held k
          → Represents m.sizes (did (closing_visit_seen ++ m.block) m.number k) (transition_closed k (transition_handed_in b m.block) m.number records)
      go (Ask l) closes range held =
          whole_ask_law m.sizes closing_visit_seen m.block b m.number l records told (found_book_allows_handing_in m sound b f may.idle)
          (harvested_interval_contents (found_after_news m f.rest) (found_book_sound m sound b f) records are) range (closing_visit_lacks_lock l range held)
      go (Release l) closes range held =
          whole_release_law m.sizes closing_visit_seen m.block b m.number l records told (found_book_allows_handing_in m sound b f may.idle)
          (harvested_interval_contents (found_after_news m f.rest) (found_book_sound m sound b f) records are) range (closing_visit_has_lock l range held)
      go Arrive closes range held =
          whole_arrive_law m.sizes closing_visit_seen m.block b m.number records told (found_book_allows_handing_in m sound b f may.idle)
          (harvested_interval_contents (found_after_news m f.rest) (found_book_sound m sound b f) records are)
      go (Set l) closes range held =
          whole_set_law m.sizes closing_visit_seen m.block b m.number l records told (found_book_allows_handing_in m sound b f may.idle)
          (harvested_interval_contents (found_after_news m f.rest) (found_book_sound m sound b f) records are) range
      go (Watch l) closes range held =
          whole_watch_law m.sizes closing_visit_seen m.block b m.number l records told (found_book_allows_handing_in m sound b f may.idle)
          (harvested_interval_contents (found_after_news m f.rest) (found_book_sound m sound b f) records are) range
      go _ closes range held = absurd (true≢false (sym closes))

  -- so it is one after this closing event
  pub closing_visit_has_closed : (k : Kind) (records : List PageChanges) → MayCloseByCall m k → AreHarvestsOfCopies m.copies records
      → HasClosedBeforeBookWaits (transition_closed k (transition_handed_in b m.block) m.number records) m.number k
  closing_visit_has_closed k records may are = record {
    sizes = m.sizes;
    history = closing_visit_seen ++ m.block;
    told = closing_visit_told k records may are;
    closes = may.closes;
  }

-- the copies of a sound processor are clean where there is no mark
pub closing_visit_marked_well : (m : Local) → IsSound m → CopiesToHarvestAreMarked m.copies m.stored
closing_visit_marked_well m sound = record {
  few = (let long = sound.copies.long in let few = sound.sizes.pages in omega arith);
  clean = sound.clean;
}

-- what is owing stays, and nothing is cut off
closing_visit_journal : (k : Kind) (b : BookState) (p : ℕ) (records : List PageChanges) → let new = transition_closed k b p records in
    (new.journal.room ≡ b.journal.room) × (new.journal.base.cut ≡ b.journal.base.cut)
closing_visit_journal (Ask l) b p records = (refl, refl)
closing_visit_journal (Release l) b p records = (refl, refl)
closing_visit_journal Arrive b p records = (refl, refl)
closing_visit_journal (Set f) b p records = (refl, refl)
closing_visit_journal (Watch f) b p records = (refl, refl)
closing_visit_journal _ b p records = (refl, refl)

-- the journal goes on with the event
closing_visit_events : (k : Kind) → event_closes k ≡ true → (b : BookState) (p : ℕ) (records : List PageChanges)
    → (transition_closed k b p records).journal.events ≡ b.journal.events ++ event p k ∷ []
closing_visit_events (Ask l) closes b p records = refl
closing_visit_events (Release l) closes b p records = refl
closing_visit_events Arrive closes b p records = refl
closing_visit_events (Set f) closes b p records = refl
closing_visit_events (Watch f) closes b p records = refl
closing_visit_events _ closes b p records = absurd (true≢false (sym closes))

closing_visit_no_load : (k : Kind) → event_closes k ≡ true → (a v : ℕ) → k ≢ Load a v
closing_visit_no_load k closes a v is = true≢false (sym closes ∙ ap event_closes is)

closing_visit_no_fetch : (k : Kind) → event_closes k ≡ true → (w n r d : ℕ) → k ≢ Fetch w n r d
closing_visit_no_fetch k closes w n r d is = true≢false (sym closes ∙ ap event_closes is)

module _ (m : Local) (sound : IsSound m) (b : BookState) (k : Kind) (may : MayCloseByCall m k) (records : List PageChanges)
    (are : AreHarvestsOfCopies m.copies records) where
  -- it is a call of p
  pub closing_visit_is_call : length b.journal.events + length m.block + 1 ≤ most_events
      → IsEnteringCallOf m b (m.block ++ event m.number k ∷ []) (transition_closed k (transition_handed_in b m.block) m.number records)
  closing_visit_is_call fits =
      let closing_visit_same = closing_visit_journal k (transition_handed_in b m.block) m.number records in
      leaving_call_of_event m sound b k (transition_closed k (transition_handed_in b m.block) m.number records) (closing_visit_no_load k may.closes)
      (closing_visit_no_fetch k may.closes) fits (closing_visit_events k may.closes (transition_handed_in b m.block) m.number records
      ∙ append_assoc b.journal.events m.block (event m.number k ∷ []))
      closing_visit_same.0 closing_visit_same.1 (λ f. closing_visit_told m sound b f k records may are)

  -- whatever the book answers
  pub closing_visit_call_answered : {A : Type 0} (r : Result A Refused) (block : List Event) (new : BookState) → block ≡ m.block
      → OnOk r (new ≡ transition_closed k (transition_handed_in b block) m.number records) → OnErr r (new ≡ b)
      → IsFullRefusal (length b.journal.events + length block + 1) r → (es : List Event) × IsEnteringCallOf m b es new
  closing_visit_call_answered (Ok a) block new closing_visit_same ok err full = (
    m.block ++ event m.number k ∷ [],
    rw (ok, closing_visit_same)
        (closing_visit_is_call (rw (← closing_visit_same) (handing_visit_had_room a (length b.journal.events + length block + 1) full))),
  )
  closing_visit_call_answered (Err e) block new closing_visit_same ok err full = ([], rw err (leaving_call_of_nothing m b))

-- the closing event is one call more
closing_visit_calls : (m : Local) (k : Kind) → IsSound m → calls (closed_after_news (handed_after_news m) k) ≡ calls m ++ event m.number k ∷ []
closing_visit_calls m k sound =
    rw (append-nil, filter-append, eq-eqb m.number m.number refl) (ap (λ (xs : List Event). xs ++ event m.number k
    ∷ []) (sym (append-nil (events_of (m.seen ++ m.block) m.number)) ∙ handing_visit_calls m sound))

-- a visit that closed the interval by this event
pub record Closed (m : Local) (b : BookState) (k : Kind) (records : List PageChanges)
    (after : ChairToken BookState View) : Type 0 where
  pub may : MayCloseByCall m k
  pub are : AreHarvestsOfCopies m.copies records
  pub fits : length b.journal.events + length m.block + 1 ≤ most_events
  pub visit : Visit m b (transition_closed k (transition_handed_in b m.block) m.number records) after

-- as the book answered
pub closing_visit_made : {A : Type 0} {m : Local} {b new : BookState} {k : Kind} {records : List PageChanges}
    {after : ChairToken BookState View} {block : List Event} (a : A) → MayCloseByCall m k → AreHarvestsOfCopies m.copies records
    → Visit m b new after → block ≡ m.block → new ≡ transition_closed k (transition_handed_in b block) m.number records
    → IsFullRefusal (length b.journal.events + length block + 1) (Ok a) → Closed m b k records after
closing_visit_made {b = b} {block = block} a may are v closing_visit_same ok full = record {
  may = may;
  are = are;
  fits = rw (← closing_visit_same) (handing_visit_had_room a (length b.journal.events + length block + 1) full);
  visit = visit_left_as v (rw (← closing_visit_same) ok);
}

module _ {m : Local} {b : BookState} {k : Kind} {records : List PageChanges} {after : ChairToken BookState View}
    (t : Closed m b k records after) where
  abbrev v : Visit m b (transition_closed k (transition_handed_in b m.block) m.number records) after
  v = t.visit

  -- the processor after its interval was closed
  abbrev closing_visit_now : Local
  closing_visit_now = record (visiting_processor_on after m) {
    block = [];
    copies = map copy_cleaned_after_news m.copies;
    stored = replicate 64 false;
    time = tick m.time m.number;
    held = locks_held_after_news k m.held;
    awaits = awaited_next k;
  }

  abbrev last : BookState
  last = transition_closed k (transition_handed_in b m.block) m.number records

  abbrev then : Local
  then = entered m v.finds.rest last.journal.base.cut

  abbrev closing_visit_history : List Event
  closing_visit_history = (m.seen ++ v.finds.rest) ++ (m.block ++ event m.number k ∷ [])

  closing_visit_call : IsEnteringCallOf m b (m.block ++ event m.number k ∷ []) last
  closing_visit_call = closing_visit_is_call m v.sound b k t.may records t.are t.fits

  before : IsSound then
  before = ended_call_entered_sound m b v.sound v.finds last.journal.base.cut

  closing_visit_moved : closing_visit_history ≡ did ((m.seen ++ v.finds.rest) ++ m.block) m.number k
  closing_visit_moved = sym (append_assoc (m.seen ++ v.finds.rest) m.block (event m.number k ∷ []))

  closing_visit_same : closing_visit_now ≡ closed_after_news (handed_after_news then) k
  closing_visit_same =
      ended_call_now_is v (m.block ++ event m.number k ∷ []) closing_visit_call closing_visit_now refl
      (closing_visit_journal k (transition_handed_in b m.block) m.number records).1
      ∙ ap (λ (closing_visit_seen : List Event). record (closed_after_news (handed_after_news then) k) { seen = closing_visit_seen }) closing_visit_moved

  -- it is as it has to be
  pub closing_visit_sound : IsSound closing_visit_now
  closing_visit_sound =
      let P : List Event → Type 0 = λ closing_visit_seen. WellFormed m.sizes closing_visit_seen in
      let Q : List Event → Type 0 = λ closing_visit_seen. length closing_visit_seen ≤ sound_most_seen in
      let told = closing_visit_call.told v.finds in
      subst IsSound (sym closing_visit_same) (whole_call_closed_sound then k before t.may.closes t.may.in_range (subst P closing_visit_moved told.well_formed)
      (subst Q closing_visit_moved (faithful_history_told_few m.sizes closing_visit_history last told (closing_visit_call.few v.finds))))

  pub closing_visit_done : {many : ℕ}
      → IsProcessorCall (processor_refusal_of_flush m) many ProcessorCallWaitsForNothing (IsClosedByCall k) (event m.number k ∷ []) m closing_visit_now None
  closing_visit_done =
      ended_call_done v (m.block ++ event m.number k ∷ []) closing_visit_call closing_visit_now refl (ended_call_not_spent v)
      (closing_visit_journal k (transition_handed_in b m.block) m.number records).1 closing_visit_sound closing_visit_same
      (ap calls closing_visit_same ∙ closing_visit_calls then k before)
