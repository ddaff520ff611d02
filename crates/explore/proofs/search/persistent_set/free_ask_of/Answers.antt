use Rattle.std.proofs.Common.{ap, sym, ◌∙◌}
use Rattle.std.specs.Prelude.{is_some}
use Rattle.std.proofs.lemmas.Bool.{false≢true}
use Rattle.explore.proofs.search.persistent_set.free_ask_of.Goals.{else-is_member-via-then-is_member+else-is_some, else-is_member-via-else-is_member}
use Rattle.explore.proofs.search.persistent_set.free_ask_of.Goals as goal

pub returns-else-is_member-clause-ask : goal.returns-else-is_member-clause-ask
returns-else-is_member-clause-ask c = λ g tells lock member next free. elim c.else-is_member.branch [
  | else-is_member-via-then-is_member+else-is_some w ↦
      (let found = (w.free_lock_asked.ensures g tells lock).1 (next, free) in
      absurd (false≢true (sym w.if-is_some.false ∙ w.is_some.ensures ∙ ap is_some found)))
  | else-is_member-via-else-is_member w ↦ absurd (false≢true (sym w.if-is_member.false ∙ member))
]
