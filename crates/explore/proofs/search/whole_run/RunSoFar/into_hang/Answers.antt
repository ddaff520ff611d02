use Rattle.std.proofs.Common.{List, refl, sym, subst}
use Rattle.journal.specs.declared.event.Event.{Event}
use Rattle.lrc_script.specs.Prelude.{plan_of}
use Rattle.explore.specs.KeptWaiting.{AreKeptWaitingKinds}
use Rattle.explore.specs.Prefixes.FlatBeginnings.{IsFlatBeginningHanging}
use Rattle.explore.proofs.search.whole_run.RunSoFar.into_hang.Goals as goal

pub returns : goal.returns
returns c =
    let s = plan_of c.args.script.now in
    let g = c.requires.hangs.0 in
    let run = c.requires.hangs.1 in
    record {
      is = subst (IsFlatBeginningHanging s) (sym run.events) c.requires.hangs.2;
      long = c.in_ok-waits.ensures.long;
      waits = subst (λ (es : List Event). AreKeptWaitingKinds es c.in_ok-waits.waits.items) (sym run.events)
          (c.in_ok-waits.ensures.waits s g refl run.knows);
    }
