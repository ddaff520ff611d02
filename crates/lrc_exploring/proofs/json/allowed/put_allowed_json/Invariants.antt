use Rattle.lrc_json.specs.PutTogether.{AreMoreLinesPut}
use Rattle.lrc_exploring.proofs.json.allowed.put_allowed_json.Given as goal

abbrev pub invariant-loop-place : goal.invariant-loop-place
invariant-loop-place l = AreMoreLinesPut l.fn.lines l.lines
