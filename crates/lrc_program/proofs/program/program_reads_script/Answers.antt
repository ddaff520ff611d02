use Rattle.lrc_program.proofs.WholeSource.{whole_source_read, whole_source_none_read}
use Rattle.lrc_program.proofs.program.program_reads_script.Goals as goal

pub returns-in-Err-clause-refused : goal.returns-in-Err-clause-refused
returns-in-Err-clause-refused g c =
    let had = rw (c.take.ensures.limit, c.take.ensures.inner, c.new-bytes.ensures.items)
    at c.in_ok-read_to_end.ensures.bytes in
    let only = rw c.deref.ensures.value at c.in-Err.ensures.only in
    λ is. whole_source_none_read _ _ had (only (c.from.ensures is))

pub returns-in-Ok-clause-read : goal.returns-in-Ok-clause-read
returns-in-Ok-clause-read g c =
    let had = rw (c.take.ensures.limit, c.take.ensures.inner, c.new-bytes.ensures.items)
    at c.in_ok-read_to_end.ensures.bytes in
    let found = rw c.deref.ensures.value at c.in-Ok.ensures.found in
    whole_source_read _ _ _ had found.0 found.1
