use Rattle.std.proofs.Common.{◌⊎◌, ◌↔◌}
use Rattle.base.specs.InOrderOnce.{Has}
use Rattle.judge.specs.declared.flat_memory.FlatStore.{FlatStore}
use Rattle.judge.specs.KeptInPasts.{IsUnknownWithin}
use Rattle.judge.proofs.kept_stores.add_kept_stores.Given as goal

abbrev pub invariant-loop-index : goal.invariant-loop-index
invariant-loop-index l = (x : FlatStore)
    → Has l.found.items x ↔ (Has l.fn.found.items x ⊎ IsUnknownWithin l.stores l.from l.index l.by x)
