use Rattle.std.proofs.lemmas.Result.{on_ok_weaker}
use Rattle.lrc_exploring.specs.ExploreJson.{IsShowingFront, allowed_until_rules, showing_end}
use Rattle.lrc_exploring.proofs.JsonFronts.{more_and_ends}
use Rattle.lrc_exploring.proofs.json.allowed_showing.write_allowed_showing_json.Goals as goal

pub returns-clause-written : goal.returns-clause-written
returns-clause-written g c = on_ok_weaker c.write.result (λ wrote.
    let told = more_and_ends (IsShowingFront c.args.explored.now.showing) c.new-lines.result c.put_showing_json.new.lines c.put_allowed_showing_json.new.lines c.put.new.self c.put-2.new.self
    c.allowed_showing_rules_json.result c.showing_summary_json.result (allowed_until_rules c.args.allowed.now) (showing_end c.args.explored.now) c.new-lines.ensures c.put_showing_json.ensures c.put_allowed_showing_json.ensures c.allowed_showing_rules_json.ensures
    c.put.ensures c.showing_summary_json.ensures c.put-2.ensures wrote.0 in
    (_, (told.0, told.1, told.2, told.3), wrote.1)) c.write.ensures.lines
