use Rattle.std.proofs.lemmas.Result.{on_ok_weaker}
use Rattle.lrc_exploring.specs.ExploreJson.{IsExploredFront, explored_end}
use Rattle.lrc_exploring.proofs.JsonFronts.{front_and_end}
use Rattle.lrc_exploring.proofs.json.explored.write_explored_json.Goals as goal

pub returns-clause-written : goal.returns-clause-written
returns-clause-written g c = on_ok_weaker c.write.result (λ wrote.
    let told = front_and_end (IsExploredFront c.args.explored.now) c.new-lines.result c.put_explored_json.new.lines c.put.new.self
    c.explored_summary_json.result (explored_end c.args.explored.now) c.new-lines.ensures c.put_explored_json.ensures c.explored_summary_json.ensures
    c.put.ensures wrote.0 in
    (_, (told.0, told.1, told.2), wrote.1)) c.write.ensures.lines
