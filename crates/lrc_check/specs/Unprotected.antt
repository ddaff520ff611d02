-- Words of a trace that need a lock and have none.
use Rattle.std.specs.Prelude.{◌≡◌, Bool, true, false, ◌&&◌, not, cond, Option, None, MatchOption, List, [], is_some}
use Rattle.journal.specs.declared.event.Event.{Event}
use Rattle.journal.specs.Sizes.{Sizes, addresses}
use Rattle.judge.specs.declared.locksets.lockset_finder.LocksetWords.{LocksetWords}
use Rattle.judge.specs.declared.locksets.lockset_finder.Unprotected.{Unprotected}
use Rattle.judge.specs.Locksets.Pairs.{PairsTellUnprotected}
use Rattle.lrc_check.specs.declared.checked.Checked.{Checked}
use Rattle.lrc_check.specs.declared.checked.TraceVerdict.{TraceVerdict}
use Rattle.lrc_check.specs.declared.checked.TraceVerdict.TheVariants as verdict

abbrev pub may_unprotected_be_sought : TraceVerdict → Bool
may_unprotected_be_sought (verdict.Faithful traffic unjudged) = true
may_unprotected_be_sought _ = false

-- what is asked for is told of a trace that is faithful and has no race
abbrev pub unprotected_looked_for : Option LocksetWords → Checked → Option LocksetWords
unprotected_looked_for asked x = cond (not (is_some x.race) && may_unprotected_be_sought x.verdict) asked None

-- of all addresses the words that are asked for, if there is something to tell; none otherwise
abbrev pub AreUnprotectedTold : Option LocksetWords → Sizes → List Event → List Unprotected → Type 0
AreUnprotectedTold asked s j found = MatchOption asked (found ≡ []) (λ words. PairsTellUnprotected words j (addresses s) found)
