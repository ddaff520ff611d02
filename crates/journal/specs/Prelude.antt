-- The words that contracts name, passed on from one place. Declares nothing.
pub use Rattle.journal.specs.Sizes.{Sizes}
pub use Rattle.journal.specs.Events.{event_address, event_count, event_arrives, event_closes, event_departs, event_takes}
pub use Rattle.journal.specs.DidEvent.{did, event}
pub use Rattle.journal.specs.HappensBeforeEdges.{Edge, HappensBefore, LetsThrough}
pub use Rattle.journal.specs.WellFormed.{Holds, Ready}
pub use Rattle.journal.specs.Times.{IsTimeOf}
pub use Rattle.journal.specs.Races.{Conflict, IsFirstRace, Race, RaceFree}
pub use Rattle.journal.specs.ReplayMemory.{AnswersReplayMemory, Replays, replay_memory_write, memory_after}
pub use Rattle.journal.specs.Traffic.{messages, traffic_messages_of, records, traffic_records_of, words, traffic_words_fetched}
pub use Rattle.journal.specs.PageImages.{HasPageImageCount}
pub use Rattle.journal.specs.Blocks.{block_write}
pub use Rattle.journal.specs.CopyAnswers.{CopyAnswerLaw}
pub use Rattle.journal.specs.Log.{Log, new_log}
pub use Rattle.journal.specs.EventsInRange.{EventAddressInRange, EventAddressesInRange, EventProcessorsInRange}
pub use Rattle.journal.specs.JournalInvariant.{JournalInvariant, journal_invariant_log}
pub use Rattle.journal.specs.AwaitedNext.{awaited_next}
pub use Rattle.journal.specs.ClosingKinds.{closing_awaits_kind, closing_kind}
pub use Rattle.journal.specs.ClockEntry.{ClockEntryClosedAt, ClockEntryJoinedAt, entry, clock_entry_in_map}
pub use Rattle.journal.specs.Clocks.{AreClocks, ClocksAfterArrival}
pub use Rattle.journal.specs.AccessEpochs.{AreAccessEpochs, AreAccessEpochsAfterLoad, AreAccessEpochsWithin, AreConflictAccessEpochsCounted, AccessEpochNoted}
pub use Rattle.journal.specs.AccessEpochs.{access_epoch_number, access_epoch_number_of_loads}
pub use Rattle.journal.specs.IntervalContents.{open_interval_contents}
pub use Rattle.journal.specs.MissingIntervals.{MissingIntervalsInOrder}
pub use Rattle.journal.specs.NumberedClocks.{numbered_clock_at}
pub use Rattle.journal.specs.Base.{no_base}
pub use Rattle.journal.specs.ExplainedAnswersFromBase.{ExplainedFromBase}
pub use Rattle.journal.specs.RacesFromBase.{IsFirstRaceFromBase, RaceFreeFromBase}
pub use Rattle.journal.specs.EpisodeBases.{IsEpisodeBaseAfter, IsEpisodeBaseFront, NoEpisodeBaseFront}
pub use Rattle.journal.specs.BaseLaws.{CopyBaseLaw, CutTwiceBaseLaw, FlatBaseLaw, SameBaseLaw, NoBaseLaw, WellFormedBaseLaw}
pub use Rattle.journal.specs.KeptBaseState.{AreKeptBaseStateCosts, IsKeptBaseState, IsKeptBaseStateAfter, base_of_kept_state, kept_state_holders_after, kept_state_flags_after, kept_base_state_released}
pub use Rattle.journal.specs.Opening.{IsOpening}
pub use Rattle.journal.specs.CutEpisodes.{AreCutEpisodes, IsRaceOfCutEpisodes}
pub use Rattle.journal.specs.JournalCuts.{IsJournalCutRefusal, JournalWasCut}
pub use Rattle.journal.specs.HistoryLaws.{HistoryLaw, HistoryLawUncut}
pub use Rattle.journal.specs.Deadlocks.{DeadlockLaw, IsDeadlock}
pub use Rattle.journal.specs.JournalHistory.{IsJournalHistory, journal_history_arrivals}
