-- The words that contracts name, passed on from one place. Declares nothing.
pub use Rattle.explore.specs.Prefixes.FlatBeginnings.{IsFlatBeginning, AreFlatBeginningsRaceFree, IsFlatBeginningWhole, IsFlatBeginningHanging}
pub use Rattle.explore.specs.Prefixes.ScriptCalls.{script_calls_of_one, script_calls_of_all, script_call_loads, script_calls_of_section, script_calls_shown_by, AreScriptCallRows}
pub use Rattle.explore.specs.Prefixes.PrefixLaws.{PrefixNeverRacesLaw, PrefixEmptyLaw, PrefixFrontLaw, PrefixNextLaw, PrefixDoneLaw, PrefixHasNoNeighbours, PrefixNeighboursLaw, PrefixRacingLaw}
