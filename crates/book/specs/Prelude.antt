-- The words that contracts name, passed on from one place. Declares nothing.
pub use Rattle.book.specs.BookStamps.{IsAwaitedByBookStamps}
pub use Rattle.book.specs.BookState.{BookState, book_state_time_of}
pub use Rattle.book.specs.Transitions.{TransitionTakes, transition_addressed, transition_addressed_grant, transition_barrier_left, transition_arrived, transition_asked}
pub use Rattle.book.specs.Transitions.{transition_released, transition_set, transition_watched, transition_closed, transition_closed_by, transition_departure_to, transition_departures_to}
pub use Rattle.book.specs.Transitions.{transition_flag_joined, transition_grant, transition_handed_in, transition_handed_last, transition_if_free, transition_least, transition_new_book}
pub use Rattle.book.specs.Transitions.{transition_no_closings, transition_open_interval, transition_trimmed_by}
pub use Rattle.book.specs.RepresentedHistory.{HoldsRepresentedHistory, Represents, RepresentsSomeHistory}
pub use Rattle.book.specs.PageNews.{page_news_of_notice}
pub use Rattle.book.specs.Messages.{brought_by_message, message_has_come, message_among, message_for, sent_with_message, signal_message}
pub use Rattle.book.specs.BookCut.{WasBookCut, book_cut_refusal}
pub use Rattle.book.specs.BookLaws.{AreOpenRecordsOfBookLaw, BookArriveLaw, BookAskLaw, BookCutLaw, BookBlockLaw, BookLastBlockLaw, BookMessageLaw, NewBookLaw}
pub use Rattle.book.specs.BookLaws.{BookNewsLaw, BookNewsOrderLaw, BookReleaseLaw, BookSetLaw, BookTakeLaw, BookWatchLaw}
pub use Rattle.book.specs.BookInvariant.{BookInvariant, book_invariant_state}
pub use Rattle.book.specs.Refusals.{IsFullRefusal, IsRoomRefusal}
pub use Rattle.book.specs.BookEnds.{BookEndsClosed, BookEndsHandedIn}
pub use Rattle.book.specs.AllowedCalls.{IsBlockOfAllowedCalls, IsAllowedInnerCall, IsOpenForAllowedCall, IsSignalledForAllowedCall, AllowsAskCall, AllowsNoticesOfCall, AllowsClosingCall, AllowsFlushCall, AllowsBlockCall}
pub use Rattle.book.specs.AllowedCalls.{AllowsIdleBlockCall, IsProcessorOfAllowedCall, AllowsReleaseCall, AllowsSignalOfCall, AllowsTakeCall, AllowsSomeTakeCall, AllowsTrimOfCall, AllowsCallThatCloses}
pub use Rattle.book.specs.BookWaits.{HasClosedBeforeBookWaits, IsNamedByBookWaits, LetsBookWaitEnd}
