use Rattle.lrc_json.specs.PutTogether.{AreMoreLinesPut}
use Rattle.lrc_exploring.proofs.json.explored.put_explored_outcomes_json.Given as goal

abbrev pub invariant-loop-replies : goal.invariant-loop-replies
invariant-loop-replies l = AreMoreLinesPut l.fn.lines l.lines
