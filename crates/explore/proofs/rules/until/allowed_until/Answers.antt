use Rattle.std.proofs.Common.{subst}
use Rattle.lrc_script.specs.Plan.{plan_of}
use Rattle.explore.specs.AllowedUntil.{IsAllowedUntilRun}
use Rattle.explore.specs.AllowedSearchEnds.{IsAllowedLooked}
use Rattle.explore.proofs.rules.until.allowed_until.Goals as goal

pub until_showing-requires-clause-ended : goal.until_showing-requires-clause-ended
until_showing-requires-clause-ended g c =
    let looked = subst (λ n. IsAllowedLooked (plan_of c.args.script.now) (IsAllowedUntilRun (plan_of c.args.script.now) c.args.words.now) n c.in_ok-looked.looked)
    c.allowed_room_at_most-most.ensures c.in_ok-looked.ensures in
    (c.args.words.now, c.args.most, looked.end)

pub returns : goal.returns
returns g c =
    let looked = subst (λ n. IsAllowedLooked (plan_of c.args.script.now) (IsAllowedUntilRun (plan_of c.args.script.now) c.args.words.now) n c.in_ok-looked.looked)
    c.allowed_room_at_most-most.ensures c.in_ok-looked.ensures in
    record {
      looked_at = looked.looked_at;
      few = looked.few;
      showing = c.in_ok-showing.ensures c.args.words.now c.args.most looked.end;
    }
