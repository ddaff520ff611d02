use Rattle.judge.specs.JudgedSizes.{judged_sizes_of}
use Rattle.judge.proofs.SizesJudged.{sizes_judged_small}
use Rattle.c_library.proofs.given_history.is_given_history_event.Goals as goal

pub have_event-requires : goal.have_event-requires
have_event-requires c = (sizes_judged_small (judged_sizes_of c.args.sizes) c.requires).streamed
