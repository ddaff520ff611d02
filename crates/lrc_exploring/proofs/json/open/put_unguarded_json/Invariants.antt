use Rattle.lrc_json.specs.PutTogether.{AreMoreLinesPut}
use Rattle.lrc_exploring.proofs.json.open.put_unguarded_json.Given as goal

abbrev pub invariant-loop-word : goal.invariant-loop-word
invariant-loop-word l = AreMoreLinesPut l.fn.lines l.lines
