use Rattle.std.proofs.Common.{◌≡◌, ◌++◌, take}
use Rattle.std.specs.List.{flat_map}
use Rattle.std.specs.String.{string_bytes}
use Rattle.lrc_sample.specs.SampleText.{sample_text_of_word}
use Rattle.lrc_sample.proofs.text.put_sample_words_text.Given as goal

abbrev pub invariant-loop-address : goal.invariant-loop-address
invariant-loop-address l =
    string_bytes l.text ≡ string_bytes l.fn.text ++ flat_map sample_text_of_word (take l.address-index l.words)
