use Rattle.lrc_explore.proofs.allowed_text.allowed_text.Goals as goal

pub returns : goal.returns
returns c = (c.in_ok-text.text.items, c.deref-2.result.now, c.in_ok-text.ensures, c.in_ok-put_allowed_text.ensures)
