use Rattle.lrc_tester.proofs.follows_command.write_answer.Goals as goal

pub returns-clause-done : goal.returns-clause-done
returns-clause-done g c =
    (λ b. c.in_ok-answer.ensures.0 (c.follows.ensures.0 b), λ t. c.follows.ensures.1 (c.in_ok-answer.ensures.1 t))
