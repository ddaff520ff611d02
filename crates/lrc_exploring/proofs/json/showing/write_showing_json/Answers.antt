use Rattle.std.proofs.lemmas.Result.{on_ok_weaker}
use Rattle.lrc_exploring.specs.ExploreJson.{IsShowingFront, showing_end}
use Rattle.lrc_exploring.proofs.JsonFronts.{front_and_end}
use Rattle.lrc_exploring.proofs.json.showing.write_showing_json.Goals as goal

pub returns-clause-written : goal.returns-clause-written
returns-clause-written g c = on_ok_weaker c.write.result (λ wrote.
    let told = front_and_end (IsShowingFront c.args.explored.now.showing) c.new-lines.result c.put_showing_json.new.lines c.put.new.self
    c.showing_summary_json.result (showing_end c.args.explored.now) c.new-lines.ensures c.put_showing_json.ensures c.showing_summary_json.ensures
    c.put.ensures wrote.0 in
    (_, (told.0, told.1, told.2), wrote.1)) c.write.ensures.lines
