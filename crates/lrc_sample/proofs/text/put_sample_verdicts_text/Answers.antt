use Rattle.lrc_sample.proofs.text.put_sample_verdicts_text.Goals as goal

pub returns : goal.returns
returns c =
    rw (c.runs_of_sample_verdict-race_free.ensures, c.runs_of_sample_verdict-racy.ensures, c.runs_of_sample_verdict-stuck.ensures) at c.write.ensures.bytes
