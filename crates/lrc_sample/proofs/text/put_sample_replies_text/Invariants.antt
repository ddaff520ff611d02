use Rattle.std.proofs.Common.{◌≡◌, ◌++◌, None, drop}
use Rattle.std.specs.String.{string_bytes}
use Rattle.lrc_sample.specs.SampleText.{sample_text_of_replies}
use Rattle.lrc_sample.proofs.text.put_sample_replies_text.Given as goal

abbrev pub invariant-loop-reply : goal.invariant-loop-reply
invariant-loop-reply l = string_bytes l.fn.text ++ sample_text_of_replies None l.replies
    ≡ string_bytes l.text ++ sample_text_of_replies l.last (drop l.reply-index l.replies)
