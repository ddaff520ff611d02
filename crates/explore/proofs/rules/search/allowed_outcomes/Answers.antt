use Rattle.std.proofs.Common.{◌+◌, refl, subst}
use Rattle.lrc_script.specs.Plan.{plan_of}
use Rattle.explore.specs.AllowedRuns.{HasAllowedRunBeginnings}
use Rattle.explore.proofs.AllowedRuns.SearchByRules.{rules_search_answered}
use Rattle.explore.proofs.rules.search.allowed_outcomes.Goals as goal

pub returns : goal.returns
returns g c =
    let s = plan_of c.args.script.now in
    let x = c.look_for_all.new.self in
    rules_search_answered s c.args.detail c.args.most c.in_ok-beginnings.beginnings x _ c.in_ok-beginnings.ensures.searched
    c.in_ok-beginnings.ensures.all
    (λ isnt. subst (λ n. HasAllowedRunBeginnings s (n + 1)) c.allowed_room_at_most-most.ensures (c.in_ok-beginnings.ensures.given_up isnt))
    refl c.in_ok-outcomes_with_runs.ensures.listed
    (c.in_ok-outcomes_with_runs.ensures.runs s c.args.detail c.in_ok-beginnings.ensures.searched.runs)
