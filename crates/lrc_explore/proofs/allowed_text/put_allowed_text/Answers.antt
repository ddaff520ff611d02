use Rattle.std.proofs.Common.{◌++◌, ap, vec_len, append_assoc, ◌∙◌}
use Rattle.lrc_explore.specs.AllowedTexts.{allowed_text_beginnings, allowed_text_count}
use Rattle.lrc_explore.proofs.allowed_text.put_allowed_text.Goals as goal

pub returns : goal.returns
returns c =
    let allowed = c.args.allowed.now in
    let old = c.args.text.now.items in
    let count = allowed_text_count (vec_len allowed.outcomes) allowed.are_all in
    let lines = c.args.lines.now in
    let end = allowed_text_beginnings allowed.beginnings in
    let first = rw c.len.ensures at c.in_ok-put_allowed_text_count.ensures in
    c.in_ok-put_allowed_text_beginnings.ensures
    ∙ ap (λ t. t ++ end) (c.in_ok-extend_from_slice.ensures.items ∙ ap (λ t. t ++ lines) first ∙ append_assoc old count lines)
    ∙ append_assoc old (count ++ lines) end
