use Rattle.std.proofs.Common.{subst, sym, ◌∙◌, arith}
use Rattle.lrc_script.specs.Prelude.{plan_of}
use Rattle.explore.specs.Prefixes.Prelude.{AreScriptCallRows}
use Rattle.lrc_tester.specs.Following.{HaveCome, with_asks}
use Rattle.lrc_tester.proofs.EventsNoted.{events_noted_start, events_noted_stray_next, events_noted_written_back}
use Rattle.lrc_tester.proofs.following.follow.Goals as goal

pub returns-in-Some : goal.returns-in-Some
returns-in-Some c =
    let s = plan_of c.args.script.now in
    let met =
    c.in-Some.ensures.stray s
    (subst (AreScriptCallRows s) (sym c.deref.ensures.value) c.in_ok-rows.ensures)
    (events_noted_start s c.in_ok-rows.rows.items c.deref_mut.result.now c.len.result c.in_ok-rows.ensures
    (omega (arith, c.len.ensures, c.in_ok-rows.rows.ok.0)) (c.deref_mut.ensures.value ∙ c.in_ok-come.ensures)) in
    (met.stray, events_noted_stray_next s c.args.events.now c.in-Some.stray c.next_of-next.result met c.next_of-next.ensures)

pub returns : goal.returns
returns c =
    let s = plan_of c.args.script.now in
    c.end.ensures c.args.events.now
    (subst (AreScriptCallRows s) (sym c.deref-in-None.ensures.value) c.in_ok-rows.ensures)
    (subst (λ xs. HaveCome s xs (with_asks c.args.events.now))
    (sym (c.deref-in-None-2.ensures.value ∙ events_noted_written_back c.in_ok-come.come.items c.first_stray.new.come c.in_ok-come.come.len (omega (arith, c.in-None.ensures.long, c.deref_mut.ensures.len))))
    (c.in-None.ensures.stray s
    (subst (AreScriptCallRows s) (sym c.deref.ensures.value) c.in_ok-rows.ensures)
    (events_noted_start s c.in_ok-rows.rows.items c.deref_mut.result.now c.len.result c.in_ok-rows.ensures
    (omega (arith, c.len.ensures, c.in_ok-rows.rows.ok.0)) (c.deref_mut.ensures.value ∙ c.in_ok-come.ensures))))
