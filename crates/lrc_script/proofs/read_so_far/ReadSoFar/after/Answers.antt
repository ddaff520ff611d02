use Rattle.lrc_script.specs.LineReading.{line_read_front, line_read_few, parts_behind_in_read_line}
use Rattle.lrc_script.proofs.Reading.CommandNumbers.{command_numbers_read_after}
use Rattle.lrc_script.proofs.read_so_far.ReadSoFar.after.Goals as goal

pub returns-in-Some-clause-ok : goal.returns-in-Some-clause-ok
returns-in-Some-clause-ok c =
    let e =
    command_numbers_read_after (line_read_front c.args.self.now) c.args.line.now c.split_script_line_at.result.0.now
    (parts_behind_in_read_line 32 c.split_script_line_at.result.1) (line_read_few c.in-Some.numbers) c.split_script_line_at.ensures.parts
    c.in-Some.ensures.numbers in
    rw e (rw (← c.of.ensures, ← c.as_slice.ensures) c.after_numbers.ensures.ok)

pub returns-in-Some-clause-err : goal.returns-in-Some-clause-err
returns-in-Some-clause-err c =
    let e =
    command_numbers_read_after (line_read_front c.args.self.now) c.args.line.now c.split_script_line_at.result.0.now
    (parts_behind_in_read_line 32 c.split_script_line_at.result.1) (line_read_few c.in-Some.numbers) c.split_script_line_at.ensures.parts
    c.in-Some.ensures.numbers in
    rw e (rw (← c.of.ensures, ← c.as_slice.ensures) c.after_numbers.ensures.err)
