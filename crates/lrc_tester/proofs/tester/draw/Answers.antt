use Rattle.std.proofs.Common.{refl}
use Rattle.lrc_tester.proofs.Promised.{promised_hang_free, promised_race_free}
use Rattle.lrc_tester.proofs.tester.draw.Goals as goal

pub returns-then-is_as_asked-clause-race_free : goal.returns-then-is_as_asked-clause-race_free
returns-then-is_as_asked-clause-race_free c never =
    promised_race_free _ _ _ _ c.in_ok-explored.ensures (c.if-is_as_asked.ensures.verdict refl never)

pub returns-then-is_as_asked-clause-never_hangs : goal.returns-then-is_as_asked-clause-never_hangs
returns-then-is_as_asked-clause-never_hangs c =
    promised_hang_free _ _ _ _ c.in_ok-explored.ensures (c.if-is_as_asked.ensures.hanging refl)
