use Rattle.std.proofs.Common.{◌++◌, ap, sym, append_assoc, ◌∙◌}
use Rattle.lrc_explore.specs.AllowedTexts.{allowed_text_beginnings}
use Rattle.lrc_explore.proofs.allowed_showing_text.allowed_showing_text.Goals as goal

pub returns : goal.returns
returns c =
    let front = c.in_ok-text.text.items in
    let answer = c.in_ok-answer.answer.items in
    let end = allowed_text_beginnings c.args.allowed.now.beginnings in (
      front,
      answer,
      c.in_ok-text.ensures,
      c.in_ok-answer.ensures,
      c.in_ok-put_allowed_showing.ensures ∙ ap (λ lines. front ++ (lines ++ end)) c.deref.ensures.value ∙ sym (append_assoc front answer end),
    )
