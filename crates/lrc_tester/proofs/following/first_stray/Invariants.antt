use Rattle.std.proofs.Common.{◌≡◌, [], length, take}
use Rattle.lrc_script.specs.Prelude.{Plan}
use Rattle.explore.specs.Prefixes.Prelude.{AreScriptCallRows}
use Rattle.lrc_tester.specs.Following.{HaveCome, with_asks}
use Rattle.lrc_tester.proofs.following.first_stray.Given as goal

-- each has come as far as the events so far say
abbrev pub invariant-loop-place : goal.invariant-loop-place
invariant-loop-place l = record {
  long : length l.come ≡ length l.rows;
  come : (s : Plan) → AreScriptCallRows s l.rows → HaveCome s l.initial.come [] → HaveCome s l.come (with_asks (take l.place l.events));
}
