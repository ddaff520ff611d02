use Rattle.std.proofs.Common.{◌≡◌, None, take}
use Rattle.std.specs.List.{flat_map}
use Rattle.std.specs.String.{string_bytes}
use Rattle.lrc_json.specs.SampledJson.{json_result_line}
use Rattle.lrc_json.proofs.sampled.write_sampled_json.Given as goal

abbrev pub invariant-loop-line : goal.invariant-loop-line
invariant-loop-line g l =
    l.lines.fault ≡ None → string_bytes l.lines.text ≡ flat_map json_result_line (take l.line-index l.sampled.lines.items)
