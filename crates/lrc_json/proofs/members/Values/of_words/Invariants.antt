use Rattle.std.proofs.Common.{map, take}
use Rattle.lrc_json.specs.PutTogether.{HasItems, json_number}
use Rattle.lrc_json.proofs.members.Values.of_words.Given as goal

abbrev pub invariant-loop-word : goal.invariant-loop-word
invariant-loop-word l = HasItems l.list (map json_number (take l.word-index l.words))
