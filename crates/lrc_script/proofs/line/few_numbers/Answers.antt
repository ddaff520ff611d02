use Rattle.lrc_script.proofs.Reading.CommandNumbers.{command_numbers_none, command_numbers_no_second, command_numbers_third_word}
use Rattle.lrc_script.proofs.line.few_numbers.Goals as goal

pub returns-in_err-first-clause-others : goal.returns-in_err-first-clause-others
returns-in_err-first-clause-others c =
    rw c.from_residual.ensures
    (λ ns e. command_numbers_none c.in-Some.line.now ns (rw c.in_err-first.was at c.first_number.ensures) (rw c.in-Some.is at e))

pub returns-in_err-second-clause-others : goal.returns-in_err-second-clause-others
returns-in_err-second-clause-others c =
    let first = rw c.in_ok-first.was at c.first_number.ensures in
    rw c.from_residual-in_err-second.ensures
    (λ ns e.
    command_numbers_no_second c.in-Some.line.now c.in-Some-rest.line.now ns c.in_ok-first.first
    (rw c.in-Some-rest.is at first) (rw c.in_err-second.was at c.first_number-2.ensures) (rw c.in-Some.is at e))

pub returns-in-Some-rest-2-clause-others : goal.returns-in-Some-rest-2-clause-others
returns-in-Some-rest-2-clause-others c = λ ns e.
    let first = rw c.in_ok-first.was at c.first_number.ensures in
    let second = rw c.in_ok-second.was at c.first_number-2.ensures in
    command_numbers_third_word c.in-Some.line.now c.in-Some-rest.line.now c.in-Some-rest-2.field-0.now ns c.in_ok-first.first
    c.in_ok-second.second (rw c.in-Some-rest.is at first) (rw c.in-Some-rest-2.is at second) (rw c.in-Some.is at e)
