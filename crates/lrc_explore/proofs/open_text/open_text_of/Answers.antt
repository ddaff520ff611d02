use Rattle.lrc_explore.proofs.open_text.open_text_of.Goals as goal

pub returns : goal.returns
returns c = (c.in_ok-text.text.items, c.deref.result.now, c.in_ok-text.ensures, c.in_ok-extend_from_slice.ensures.items)
