use Rattle.std.proofs.Common.{◌≡◌, take}
use Rattle.lrc_json.specs.SampledJson.{sampled_words_by}
use Rattle.lrc_json.proofs.sampled.sampled_words_by_json.Given as goal

abbrev pub invariant-loop-reply : goal.invariant-loop-reply
invariant-loop-reply l = l.words.items ≡ sampled_words_by l.processor (take l.reply-index l.replies)
