-- What may follow, lax or not, may follow in the lax sense.
use Rattle.std.proofs.Common.{List, Bool, true, false}
use Rattle.journal.specs.declared.event.Event.{Event}
use Rattle.journal.specs.Sizes.{Sizes}
use Rattle.judge.specs.LaxWellFormed.{MayFollowOrLax, LaxMayFollow}
use Rattle.judge.proofs.Refusing.{refusing_may_lax}

pub well_formed_front_lax_event : (lax : Bool) (s : Sizes) (j : List Event) (e : Event) → MayFollowOrLax lax s j e → LaxMayFollow s j e
well_formed_front_lax_event true s j e may = may
well_formed_front_lax_event false s j e may = refusing_may_lax s j e may
