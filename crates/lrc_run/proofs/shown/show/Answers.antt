use Rattle.std.proofs.Common.{rules, ◌≡◌, ◌++◌, ◌∷◌, [], get_or, arith}
use Rattle.std.proofs.lemmas.Grind.{common_steps, elements}
use Rattle.lrc_run.proofs.MoreCalls.{makes_more_calls_loads_more}
use Rattle.lrc_run.proofs.shown.show.Goals as goal

pub loop-address-preserved : goal.loop-address-preserved
loop-address-preserved g c =
    let a = get_or c.args.addresses.now c.loop-address.address-index 0 in
    let more : c.push.new.self.items ≡ c.loop-address.words.items ++ (a, c.in_ok-word.word) ∷ [] =
    first_of (search rules, grind (arith, common_steps)) in
    record {
      loads = makes_more_calls_loads_more c.args.processor.now c.loop-address.processor c.load.new.processor c.loop-address.words.items
          c.push.new.self.items a c.in_ok-word.word more c.loop-address.invariant.loads c.in_ok-word.ensures;
      addresses = first_of (search rules, grind (arith, common_steps));
    }

pub returns-clause-addresses : goal.returns-clause-addresses
returns-clause-addresses g c = grind (arith, elements)

pub returns-in_err-map_err-clause-addresses : goal.returns-in_err-map_err-clause-addresses
returns-in_err-map_err-clause-addresses g c = grind (arith, common_steps)
