use Rattle.std.proofs.Common.{refl, subst}
use Rattle.std.proofs.lemmas.Result.{on_ok_weaker}
use Rattle.judge.specs.KeptStores.{AreKeptStoresOf}
use Rattle.lrc_script.specs.Plan.{plan_of}
use Rattle.explore.specs.AllowedBeginnings.{allowed_beginning_events}
use Rattle.explore.proofs.AllowedRuns.SearchByRules.{rules_search_choice_may, rules_search_choice_plain, rules_search_followed}
use Rattle.explore.proofs.rules.search.AllowedSearch.follow.Goals as goal

pub follow_all-requires : goal.follow_all-requires
follow_all-requires c =
    let s = plan_of c.args.script.now in
    let calls = c.next_calls-calls.ensures.calls s c.requires.steps c.requires.told in
    let choice = c.calls_followed-chosen.ensures.choice in (
      s,
      record {
        lawful = c.requires.steps.lawful;
        tells = c.requires.told;
        sources_tell = subst (λ j. AreKeptStoresOf j c.in_ok-sources.sources) c.events.ensures c.in_ok-sources.ensures.tells;
        processors = c.in_ok-sources.ensures.processors;
        addresses = c.in_ok-sources.ensures.addresses;
        long = c.calls_followed-chosen.ensures.long;
        plain = rules_search_choice_plain c.next_calls-calls.result c.calls_followed-chosen.result choice c.next_calls-calls.ensures.plain;
        may = rules_search_choice_may s (allowed_beginning_events c.args.beginning.now) c.next_calls-calls.result c.calls_followed-chosen.result calls
            c.next_calls-calls.ensures.plain choice;
      },
    )

pub returns : goal.returns
returns c = on_ok_weaker c.follow_all.result (λ followed detail.
    let s = plan_of c.args.script.now in
    let calls = c.next_calls-calls.ensures.calls s c.requires.steps c.requires.told in
    let choice = c.calls_followed-chosen.ensures.choice in
    rules_search_followed s detail (allowed_beginning_events c.args.beginning.now) c.next_calls-calls.result c.calls_followed-chosen.result c.args.self.now _
    c.requires.steps.lawful calls c.next_calls-calls.ensures.plain choice refl
    (followed s (record {
      lawful = c.requires.steps.lawful;
      tells = c.requires.told;
      sources_tell = subst (λ j. AreKeptStoresOf j c.in_ok-sources.sources) c.events.ensures c.in_ok-sources.ensures.tells;
      processors = c.in_ok-sources.ensures.processors;
      addresses = c.in_ok-sources.ensures.addresses;
      long = c.calls_followed-chosen.ensures.long;
      plain = rules_search_choice_plain c.next_calls-calls.result c.calls_followed-chosen.result choice c.next_calls-calls.ensures.plain;
      may = rules_search_choice_may s (allowed_beginning_events c.args.beginning.now) c.next_calls-calls.result c.calls_followed-chosen.result calls
          c.next_calls-calls.ensures.plain choice;
    }))) c.follow_all.ensures
