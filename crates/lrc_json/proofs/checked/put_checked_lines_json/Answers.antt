use Rattle.std.proofs.Common.{subst}
use Rattle.lrc_json.specs.CheckedJson.{json_unprotected_lines}
use Rattle.lrc_json.specs.PutTogether.{AreLinesPut}
use Rattle.lrc_json.proofs.CheckedLines.{checked_lines}
use Rattle.lrc_json.proofs.checked.put_checked_lines_json.Goals as goal

pub returns : goal.returns
returns c = checked_lines c.args.told c.args.rules c.args.judged.now c.args.lines.now c.put.new.self c.checked_summary_json.result record {
  with_races = c.put_checked_told_races_json.new.lines;
  with_first = c.put_checked_first_race_json.new.lines;
  with_lie = c.put_checked_lie_json.new.lines;
  with_words = c.put_checked_unprotected_json.new.lines;
  races = c.put_checked_told_races_json.ensures;
  first = c.put_checked_first_race_json.ensures;
  lie = c.put_checked_lie_json.ensures;
  words = subst (λ words. AreLinesPut c.put_checked_lie_json.new.lines c.put_checked_unprotected_json.new.lines (json_unprotected_lines c.args.told words)) c.deref.ensures.value c.put_checked_unprotected_json.ensures;
  end = c.checked_summary_json.ensures;
  put = c.put.ensures;
}
