use Rattle.std.proofs.Common.{map, take}
use Rattle.serde_json.specs.Data.{object}
use Rattle.lrc_json.specs.PutTogether.{HasItems}
use Rattle.lrc_json.specs.SampledJson.{json_word}
use Rattle.lrc_json.proofs.sampled.sampled_words_json.Given as goal

abbrev pub invariant-loop-address : goal.invariant-loop-address
invariant-loop-address l = HasItems l.list (map (λ x. object (json_word x)) (take l.address-index l.words))
