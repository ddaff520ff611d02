-- The laws of whole transitions: the block, then the event.
use Rattle.std.proofs.Common.{◌≡◌, ◌≢◌, ℕ, ◌↔◌, Option, Some, None, slice_get, subst, List, [], ◌∷◌, ◌++◌, sym, refl, ap, ◌∙◌, append_assoc, append-nil, length}
use Rattle.std.proofs.lemmas.Bool.{true≢false}
use Rattle.std.proofs.lemmas.Option.{none-some}
use Rattle.journal.specs.declared.event.Kind.{Kind}
use Rattle.base.proofs.SlicesAndCounts.{slice_push_induction}
use Rattle.journal.specs.declared.event.Event.{Event}
use Rattle.journal.specs.declared.event.Kind.TheVariants.{Acquire, Release}
use Rattle.journal.specs.Sizes.{Sizes}
use Rattle.journal.specs.Log.{Log}
use Rattle.journal.specs.HistoryLaws.{HistoryLawSizes}
use Rattle.journal.specs.Events.{event_closes, event_takes}
use Rattle.journal.specs.WellFormed.{Holds}
use Rattle.journal.proofs.Order.EventPlacesAndCounts.{event_place_longer, event_place_at_end}
use Rattle.book.specs.BookState.{BookState}
use Rattle.book.specs.Transitions.{transition_handed_in, transition_handed_last}
use Rattle.book.specs.RepresentedHistory.{Represents}
use Rattle.book.specs.AllowedCalls.{IsBlockOfAllowedCalls, AllowsIdleBlockCall}
use Rattle.book.specs.BookLaws.{NewBookLaw, BookBlockLaw, BookLastBlockLaw, BookAskLaw, BookReleaseLaw, BookArriveLaw, BookSetLaw, BookWatchLaw, BookTakeLaw, BookCutLaw, BookMessageLaw, BookNewsLaw, BookNewsOrderLaw}
use Rattle.book.proofs.Parts.HeldHistory.{held_history_room, held_history_cut}
use Rattle.book.proofs.Parts.SentNews.{sent_news_are, sent_news_in_order}
use Rattle.book.proofs.Parts.LastEvents.{last_event_leaves_holder, last_event_held_before}
use Rattle.book.proofs.Told.Starting.{told_starting_new_book, told_starting_journal, told_starting_block}
use Rattle.book.proofs.Told.Locks.{told_lock_ask, told_lock_release}
use Rattle.book.proofs.Told.Arriving.{told_arriving}
use Rattle.book.proofs.Told.Flags.{told_flag_set, told_flag_watch}
use Rattle.book.proofs.Told.TakingMessages.{taking_message_told, taking_message_is}

-- a block of loads, stores and fetches leaves who holds a lock
pub whole_law_block_holds : (s : Sizes) (h block : List Event) (p l : ℕ) → IsBlockOfAllowedCalls s p block
    → Holds (h ++ block) p l ↔ Holds h p l
whole_law_block_holds s h block p l =
    slice_push_induction (λ es. IsBlockOfAllowedCalls s p es → Holds (h ++ es) p l ↔ Holds h p l)
    (λ inner. rw append-nil ((λ x. x), (λ x. x))) step block
  where
    step : (es : List Event) (e : Event) → (IsBlockOfAllowedCalls s p es → Holds (h ++ es) p l ↔ Holds h p l)
        → IsBlockOfAllowedCalls s p (es ++ e ∷ []) → Holds (h ++ (es ++ e ∷ [])) p l ↔ Holds h p l
    step es e ih inner =
        let old = ih (λ k f at. inner k f (event_place_longer es (e ∷ []) k f at)) in
        let x = inner (length es) e (event_place_at_end es e) in
        let release : e.kind ≢ Release l = λ is. true≢false (sym (ap (λ k. event_closes k) is) ∙ x.closes) in
        let acquire : e.kind ≢ Acquire l = λ is. true≢false (sym (ap (λ k. event_takes k) is) ∙ x.takes) in
        let pushed : Holds ((h ++ es) ++ e ∷ []) p l ↔ Holds h p l = (
          (λ y. old.0 (last_event_held_before (h ++ es) e.processor e.kind p l acquire y)),
          (λ y. last_event_leaves_holder (h ++ es) e.processor e.kind p l release (old.1 y)),
        ) in
        rw append_assoc at pushed

whole_law_block_told : (s : Sizes) (h block : List Event) (b : BookState) (p : ℕ) → Represents s h b → AllowsIdleBlockCall s b p block
    → Represents s (h ++ block) (transition_handed_in b block)
whole_law_block_told s h block b p told may = told_starting_block s h block b p told may.idle may.inner

pub whole_new_book_law : NewBookLaw
whole_new_book_law s some = told_starting_new_book s some

whole_law_nothing_told : (s : Sizes) (h : List Event) (b : BookState) → Represents s h b → Represents s (h ++ []) (transition_handed_in b [])
whole_law_nothing_told s h b told =
    subst (λ es. Represents s es (transition_handed_in b [])) (sym (append-nil h))
    (subst (λ (es : List Event). Represents s h (record b { journal = record b.journal { events = es } }))
    (sym (append-nil b.journal.events)) told)

-- who waits hands in nothing
whole_law_given_told : {s : Sizes} {h : List Event} {b : BookState} {p : ℕ} {block : List Event} → Represents s h b → (w : Option Kind)
    → slice_get b.awaits p ≡ Some w → (w ≢ None → block ≡ []) → IsBlockOfAllowedCalls s p block
    → Represents s (h ++ block) (transition_handed_in b block)
whole_law_given_told {s} {h} {b} {p} {block} told None at none inner =
    whole_law_block_told s h block b p told (record { idle = at; inner = inner })
whole_law_given_told {s} {h} {b} told (Some k) at none inner =
    subst (λ es. Represents s (h ++ es) (transition_handed_in b es)) (sym (none (λ e. none-some k (sym e))))
    (whole_law_nothing_told s h b told)

pub whole_block_law : BookBlockLaw
whole_block_law s h block b p told may = whole_law_given_told told may.waits.0 may.waits.1 may.waits.2 may.inner

pub whole_last_block_law : BookLastBlockLaw
whole_last_block_law s h block b p told may =
    let given = whole_block_law s h block b p told may in
    told_starting_journal s (h ++ block) (transition_handed_in b block) (transition_handed_last b block).journal (refl, refl)
    (held_history_room (transition_handed_in b block).journal (h ++ block) (transition_handed_last b block).journal.room given.holds) given

pub whole_ask_law : BookAskLaw
whole_ask_law s h block b p l records told may are range free =
    told_lock_ask (record { told = whole_law_block_told s h block b p told may; idle = may.idle }) l records range
    (λ held. free ((whole_law_block_holds s h block p l may.inner).0 held)) are

pub whole_release_law : BookReleaseLaw
whole_release_law s h block b p l records told may are range held =
    told_lock_release (record { told = whole_law_block_told s h block b p told may; idle = may.idle }) l records range
    ((whole_law_block_holds s h block p l may.inner).1 held) are

pub whole_arrive_law : BookArriveLaw
whole_arrive_law s h block b p records told may are =
    told_arriving s (h ++ block) (transition_handed_in b block) p (whole_law_block_told s h block b p told may) may.idle records are

pub whole_set_law : BookSetLaw
whole_set_law s h block b p f records told may are range =
    told_flag_set s (h ++ block) (transition_handed_in b block) p f records (whole_law_block_told s h block b p told may) range may.idle are

pub whole_watch_law : BookWatchLaw
whole_watch_law s h block b p f records told may are range =
    told_flag_watch s (h ++ block) (transition_handed_in b block) p f records (whole_law_block_told s h block b p told may) range may.idle are

pub whole_take_law : BookTakeLaw
whole_take_law s h b p k m told waits is = taking_message_told s h b p told k m waits is

pub whole_cut_law : BookCutLaw
whole_cut_law s h old new told was =
    let left = was.journal.left in
    let processors = ap (λ (l : Log). l.processors) left in
    let addresses_are = ap (λ (l : Log). l.addresses) left in
    let sizes : HistoryLawSizes s old.journal =
    record { processors = told.sizes.processors; addresses_are = told.sizes.addresses } in
    let holds = held_history_cut s h old.journal new.journal sizes told.well_formed told.holds was.journal in
    subst (λ (b : BookState). Represents s h b) (sym was.others)
    (told_starting_journal s h old new.journal (processors, addresses_are) holds told)

pub whole_message_law : BookMessageLaw
whole_message_law s h b p k m told waits is = taking_message_is s h b p told k m waits is

pub whole_news_law : BookNewsLaw
whole_news_law s h b p n k u told lt brings = sent_news_are n k u told lt brings

pub whole_news_order_law : BookNewsOrderLaw
whole_news_order_law s h b n old new told = sent_news_in_order s h b.closed n old new told.closed
