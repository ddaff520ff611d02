-- What a call that enters the book does to a processor, in one go.
use Rattle.std.proofs.Common.{ℕ, ◌≡◌, ◌≢◌, ◌≤◌, true, Option, Some, None, List, [], ◌∷◌, ◌++◌, EachIndex, count_by, length, slice_get, slice_index, refl, sym, ap, subst, ◌∙◌, arith}
use Rattle.std.specs.Option.{option_and_then}
use Rattle.std.proofs.lemmas.List.{length_push}
use Rattle.std.proofs.lemmas.Option.{none-some, same_Some, get_or_from_slice_get, slice_get_within}
use Rattle.journal.specs.declared.event.Kind.{Kind}
use Rattle.journal.specs.declared.event.Kind.TheVariants.{Ask, Acquire, Arrive, Depart, Watch, Await}
use Rattle.journal.specs.DidEvent.{event, did}
use Rattle.journal.specs.Events.{event_closes, event_takes}
use Rattle.journal.specs.WellFormed.{WellFormedKindInRange, WellFormed}
use Rattle.journal.specs.AwaitedNext.{awaited_next}
use Rattle.journal.specs.MissingIntervals.{MissingIntervalsInOrder, AreMissingIntervalsOfNotices}
use Rattle.journal.proofs.Journals.WellFormedStays.{well_formed_stays_front}
use Rattle.vtime.specs.TicksAndJoins.{join}
use Rattle.interval.specs.SentIntervals.{SentRecord}
use Rattle.interval.specs.KeptClosings.{kept_closings_between, is_kept_closing_of_page}
use Rattle.transit.specs.Letters.{Letter}
use Rattle.book.specs.PageNews.{news_of_page}
use Rattle.book.specs.BookState.{BookState, book_state_time_of}
use Rattle.book.specs.Messages.{message_for, sent_with_message, brought_by_message}
use Rattle.book.specs.BookLaws.{IsBookLawMessage}
use Rattle.book.specs.RepresentedHistory.{Represents}
use Rattle.book.proofs.Told.WholeLaws.{whole_take_law, whole_message_law, whole_news_law, whole_news_order_law}
use Rattle.cluster.specs.Copies.PageReplica.{PageReplica}
use Rattle.cluster.specs.Copies.Local.{Local}
use Rattle.cluster.specs.Copies.Sound.{IsSound, sound_most_seen}
use Rattle.cluster.specs.Copies.AfterNews.{handed_after_news, closed_after_news, taken_after_news, AreSameCopiesAfterNews, AreAfterNews, CopiesHaveRoomForNews, CopiesMayLackNews}
use Rattle.cluster.proofs.copies.SoundHandingIn.{sound_handing_in}
use Rattle.cluster.proofs.copies.SoundClosing.{sound_closing}
use Rattle.cluster.proofs.copies.SoundTaking.{sound_taking}
use Rattle.cluster.proofs.copies.WaitingToLearn.{waiting_may_learn}

-- the block is handed in, and then the interval closed
pub whole_call_closed_sound : (m : Local) (k : Kind) → IsSound m
    → event_closes k ≡ true
    → WellFormedKindInRange m.sizes k
    → WellFormed m.sizes (did (m.seen ++ m.block) m.number k)
    → length (did (m.seen ++ m.block) m.number k) ≤ sound_most_seen
    → IsSound (closed_after_news (handed_after_news m) k)
whole_call_closed_sound m k sound closes in_range well few =
    let e = event m.number k in
    let grows = length_push (m.seen ++ m.block) e in
    let before = well_formed_stays_front m.sizes (m.seen ++ m.block) (e ∷ []) well in
    sound_closing (handed_after_news m) k (sound_handing_in m sound before (omega arith)) refl closes in_range well few

-- what is awaited takes
pub whole_call_awaited_takes : (a k : Kind) → awaited_next a ≡ Some k → event_takes k ≡ true
whole_call_awaited_takes (Ask l) k is = ap event_takes (sym (same_Some (Acquire l) k is))
whole_call_awaited_takes Arrive k is = ap event_takes (sym (same_Some Depart k is))
whole_call_awaited_takes (Watch f) k is = ap event_takes (sym (same_Some (Await f) k is))
whole_call_awaited_takes _ k is = absurd (none-some k is)

module _ (m : Local) (sound : IsSound m) (k : Kind) (waits : m.awaits ≡ Some k) where
  -- a processor waits for what takes
  pub whole_call_waits_to_take : event_takes k ≡ true
  whole_call_waits_to_take =
      let last = sound.awaits.some k waits in
      whole_call_awaited_takes last.1 k (sym (sound.awaits.last last.0 last.1 last.2) ∙ waits)

  module _ (b : BookState) (told : Represents m.sizes m.seen b)
      (at : slice_get b.awaits m.number ≡ Some m.awaits)
      (time : book_state_time_of b m.number ≡ m.time)
      (x : Letter)
      (come : message_for b m.number k ≡ Some x)
    where
      whole_call_awaits_here : slice_get b.awaits m.number ≡ Some (Some k)
      whole_call_awaits_here = at ∙ ap (λ (w : Option Kind). Some w) waits

      -- what has come lets it go on, and says what that brings
      pub whole_call_message : IsBookLawMessage m.sizes m.seen b m.number k x
      whole_call_message = whole_message_law m.sizes m.seen b m.number k x told whole_call_awaits_here come

      abbrev IsNewsOfWholeCall : ℕ → List ℕ → List SentRecord → Type 0
      IsNewsOfWholeCall n t sent =
          AreMissingIntervalsOfNotices m.sizes m.seen m.number n (slice_index t) (slice_index (join t x.time)) (news_of_page n sent)

      -- what the message that has come says of a page is news of it
      pub whole_call_message_news : (n : ℕ)
          → AreMissingIntervalsOfNotices m.sizes m.seen m.number n (slice_index m.time) (slice_index (join m.time x.time))
          (news_of_page n x.notices)
      whole_call_message_news n =
          let brought = whole_news_law m.sizes m.seen b m.number n k x.time told sound.mine whole_call_message.time in
          let P : List ℕ → Type 0 = λ t. IsNewsOfWholeCall n t (kept_closings_between b.closed t x.time) in
          rw (whole_call_message.notices, time) (subst P time brought)

      -- in closing order
      pub whole_call_message_order : (n : ℕ) → MissingIntervalsInOrder (news_of_page n x.notices)
      whole_call_message_order n =
          let P : List SentRecord → Type 0 = λ sent. MissingIntervalsInOrder (news_of_page n sent) in
          subst P (sym whole_call_message.notices) (whole_news_order_law m.sizes m.seen b n (book_state_time_of b m.number) x.time told)

      waiting : m.awaits ≢ None
      waiting none = none-some k (sym none ∙ waits)

      -- what a take brings is the message's
      whole_call_brought : brought_by_message b m.number ≡ x.notices
      whole_call_brought =
          let kind = get_or_from_slice_get b.awaits m.number (Some k) None whole_call_awaits_here in
          ap (λ (w : Option Kind). sent_with_message (option_and_then (message_for b m.number) w)) kind ∙ ap sent_with_message come

      -- its copies may learn what the message brings, with as much room as the book counts
      pub whole_call_message_learned : (copies : List PageReplica) (counts : List ℕ) → AreSameCopiesAfterNews m.copies copies
          → CopiesHaveRoomForNews counts copies
          → length counts ≡ m.sizes.pages
          → EachIndex counts (λ n. slice_index counts n ≡ count_by (is_kept_closing_of_page n) (brought_by_message b m.number))
          → CopiesMayLackNews copies x.notices
      whole_call_message_learned copies counts same room long counted =
          let after = slice_index (join m.time x.time) in
          waiting_may_learn m sound copies same waiting x.notices after whole_call_message_news whole_call_message_order fits
        where
          fits : (n : ℕ) (c : PageReplica) → slice_get copies n ≡ Some c → count_by (is_kept_closing_of_page n) x.notices ≤ c.room
          fits n c at =
              let enough = room n c at in
              let inside = slice_get_within copies n c at in
              let all = same.all in
              let pages = sound.copies.long in
              let is = counted n (omega arith) in
              let P : List SentRecord → Type 0 = λ sent. count_by (is_kept_closing_of_page n) sent ≤ c.room in
              subst P whole_call_brought (omega arith)

      -- it takes the message that has come for it, and what that says of each page comes to its copies
      pub whole_call_took_message : (copies : List PageReplica) → length (did m.seen m.number k) ≤ sound_most_seen
          → AreAfterNews m.copies x.notices copies
          → IsSound (taken_after_news m k x.time copies)
      whole_call_took_message copies few after =
          sound_taking m k x.time x.notices copies sound waiting whole_call_waits_to_take well few whole_call_message.time whole_call_message_news after
        where
          well : WellFormed m.sizes (did m.seen m.number k)
          well = (whole_take_law m.sizes m.seen b m.number k x told whole_call_awaits_here come).well_formed
