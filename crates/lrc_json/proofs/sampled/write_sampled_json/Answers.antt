use Rattle.std.proofs.Common.{◌≡◌, ◌++◌, ◌∙◌, None, Some, ap, refl, slice_get, string_bytes, subst, sym, take}
use Rattle.std.specs.List.{flat_map}
use Rattle.std.proofs.lemmas.List.{take_all}
use Rattle.std.proofs.lemmas.Option.{slice_get_read}
use Rattle.std.proofs.lemmas.Result.{on_ok_weaker}
use Rattle.std.specs.Io.KnownBytes.{Appends}
use Rattle.lrc_json.specs.PutTogether.{HasMembers, json_line}
use Rattle.lrc_json.specs.SampledJson.{json_of_sample, json_result_line, json_sampled_result, json_sampled_summary}
use Rattle.lrc_json.proofs.PutLines.{flat_map_taken_next, line_put, made_line_put}
use Rattle.lrc_json.proofs.sampled.write_sampled_json.Goals as goal

pub loop-line-preserved : goal.loop-line-preserved
loop-line-preserved g c = λ none.
    let line = c.line-item.result in
    let items = c.args.sampled.now.lines.items in
    let read = slice_get_read c.deref-line-items.result.now _ c.loop-line.line-index line refl c.loop-line-test.true c.line-item.is in
    let at : slice_get items c.loop-line.line-index ≡ Some line =
    subst (λ xs. slice_get xs c.loop-line.line-index ≡ Some line) c.deref-line-items.ensures.value read in
    let put = made_line_put c.loop-line.lines c.put_made.new.self c.sampled_result_json.result (json_sampled_result line)
    c.sampled_result_json.ensures c.put_made.ensures none in
    put.1 ∙ ap (λ bytes. bytes ++ json_result_line line) (c.loop-line.invariant put.0) ∙ sym (flat_map_taken_next json_result_line items c.loop-line.line-index line at)

pub returns-clause-written : goal.returns-clause-written
returns-clause-written g c =
    let items = c.args.sampled.now.lines.items in
    let summary = json_sampled_summary items in
    let has : HasMembers c.sampled_summary_json.result summary =
    subst (λ xs. HasMembers c.sampled_summary_json.result (json_sampled_summary xs)) c.deref.ensures.value c.sampled_summary_json.ensures in
    let whole : take c.loop-line.line-index items ≡ items =
    subst (λ xs. take c.loop-line.line-index xs ≡ xs) c.deref-line-items.ensures.value
    (take_all c.loop-line.line-index c.deref-line-items.result.now c.loop-line-test.false) in
    let text : c.put.new.self.fault ≡ None → string_bytes c.put.new.self.text ≡ json_of_sample c.args.sampled.now = λ none.
    let put = line_put c.loop-line.lines c.put.new.self c.sampled_summary_json.result summary has c.put.ensures none in
    put.1 ∙ ap (λ bytes. bytes ++ json_line summary) (c.loop-line.invariant put.0 ∙ ap (flat_map json_result_line) whole) in
    on_ok_weaker c.write.result (λ wrote. subst (Appends (g.W.Write.contents c.args.out.now) (g.W.Write.contents c.write.new.out)) (text wrote.0) wrote.1)
    c.write.ensures.lines
