-- The words that contracts name, passed on from one place. Declares nothing.
pub use Rattle.c_library.specs.Given.{HaveGivenKinds, AreGivenRules, HasGivenKind, given_event_of, given_sizes, given_kind_of, given_model_of, given_rules_of}
pub use Rattle.c_library.specs.CallFaults.{IsCallFaultCode, call_fault_code}
pub use Rattle.c_library.specs.ToldVerdicts.{told_verdict_earlier, told_verdict_number, told_verdict_other, told_verdict_ill_formed, told_verdict_lie, told_verdict_miscounted}
pub use Rattle.c_library.specs.ToldVerdicts.{told_verdict_of, told_verdict_race, told_verdict_store, told_verdict_stores, told_verdict_traffic, told_verdict_unexplained}
pub use Rattle.c_library.specs.GivenJudged.{CanGivenBeJudged, IsGivenJudgedEvents, IsGivenJudgedFault, IsGivenJudgedTold}
pub use Rattle.c_library.specs.ToldWords.{AreToldWordsWritten, told_word_access, told_word_guarded, told_word_of}
pub use Rattle.c_library.specs.GivenLocksets.{IsGivenLocksetsFault, IsGivenLocksetsFound, IsGivenLocksetsTold, given_lockset_rules, given_lockset_words}
pub use Rattle.c_library.specs.GivenHistories.{AreGivenHistoryEvents, IsGivenHistoryEvent, IsGivenHistoryFault, IsGivenHistory, IsGivenHistoryRaceTold}
pub use Rattle.c_library.specs.GivenHistories.{IsGivenHistoryReplayTold, IsGivenHistoryReplayed}
pub use Rattle.c_library.specs.ToldExploration.{told_exploration_awaited_by, told_exploration_hanging, told_exploration_kind, told_exploration_number, told_exploration_racing, told_exploration_access}
pub use Rattle.c_library.specs.ToldExploration.{told_exploration_conflict, told_exploration, told_exploration_wait, told_exploration_waits, told_exploration_value}
pub use Rattle.c_library.specs.GivenTexts.{IsGivenTextTold, IsGivenTextCallFault, IsGivenTextFaultTold, IsGivenTextOfScript, IsGivenTextUnexplored}
pub use Rattle.c_library.specs.GivenTexts.{given_text_fault_number, given_text_fault_told}
