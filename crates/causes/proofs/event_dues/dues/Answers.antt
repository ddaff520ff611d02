use Rattle.std.proofs.Common.{◌∙◌, subst, sym}
use Rattle.std.specs.Prelude.{IfOk}
use Rattle.std.specs.Global.{Vec}
use Rattle.judge.specs.declared.sizes.Sizes.{Sizes as Given}
use Rattle.judge.specs.Miscounted.{IsEventInSizes}
use Rattle.judge.specs.JudgedSizes.{judged_sizes_of}
use Rattle.causes.specs.declared.event_dues.Due.{Due}
use Rattle.causes.specs.Dues.{AreAllDues}
use Rattle.causes.proofs.event_dues.dues.Goals as goal

pub all_dues-requires : goal.all_dues-requires
all_dues-requires c = record {
  few = c.events.ensures.few;
  within = λ k e at.
      subst (λ (x : Given). IsEventInSizes (judged_sizes_of x) e) (sym (c.in_ok-gaps.ensures.sizes ∙ c.sizes.ensures.value))
      (c.events.ensures.within k e at);
  start = c.in_ok-gaps.ensures.tells;
}

pub returns-clause-dues : goal.returns-clause-dues
returns-clause-dues c =
    subst
    (λ j. IfOk c.all_dues.result (λ (v : Vec (Vec Due)). AreAllDues (judged_sizes_of c.args.history.now.sizes) j v.items))
    c.events.ensures.value
    (subst
    (λ (x : Given). IfOk c.all_dues.result (λ (v : Vec (Vec Due)). AreAllDues (judged_sizes_of x) c.events.result.now v.items))
    (c.in_ok-gaps.ensures.sizes ∙ c.sizes.ensures.value) c.all_dues.ensures.dues)
