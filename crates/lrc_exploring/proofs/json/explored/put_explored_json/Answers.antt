use Rattle.lrc_exploring.proofs.JsonFronts.{explored_front}
use Rattle.lrc_exploring.proofs.json.explored.put_explored_json.Goals as goal

pub returns : goal.returns
returns c =
    explored_front c.args.explored.now c.args.lines.now c.put_verdict_json.new.lines c.put_hang_json.new.lines c.put_verdict_json.ensures
    c.put_hang_json.ensures
