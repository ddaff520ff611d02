use Rattle.std.proofs.Common.{◌≡◌, take}
use Rattle.judge.specs.KeptStores.{AreKeptStoresOf}
use Rattle.lrc_script.specs.Lawful.{plan_addresses}
use Rattle.lrc_script.specs.Plan.{plan_of}
use Rattle.explore.proofs.rules.answers.answer_sources.Given as goal

abbrev pub invariant-loop-place : goal.invariant-loop-place
invariant-loop-place l = record {
  tells : AreKeptStoresOf (take l.place l.events) l.sources;
  processors : l.sources.processors ≡ l.script.processors;
  addresses : l.sources.addresses ≡ plan_addresses (plan_of l.script);
}
