use Rattle.std.proofs.Common.{sym, subst}
use Rattle.std.proofs.lemmas.Bool.{false≢true}
use Rattle.base.specs.InOrderOnce.{Has}
use Rattle.explore.proofs.AllowedRuns.Answers.{allowed_answer_pushed}
use Rattle.explore.proofs.rules.answers.add_answer.Goals as goal

pub returns-in_ok-push : goal.returns-in_ok-push
returns-in_ok-push c =
    allowed_answer_pushed c.args.answers.now.items c.push.new.self.items c.args.value
    (λ has. false≢true
    (c.if-not-has_answer.ensures.1 (subst (λ xs. Has xs c.args.value) (sym c.deref.ensures.value) has)))
    c.in_ok-push.ensures.items
