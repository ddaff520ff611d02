use Rattle.std.proofs.Common.{ℕ, subst, sym, ◌∙◌}
use Rattle.std.specs.Global.{Vec}
use Rattle.lrc_script.specs.Plan.{plan_of}
use Rattle.lrc_run.specs.RunCalls.{HasRunCallsOfLoads}
use Rattle.lrc_run.proofs.FollowedReports.{followed_report_first_at, followed_report_of_shown, followed_report_after, followed_report_of_walked, followed_report_walks_at}
use Rattle.lrc_run.proofs.run_ending.conclude_run_ending.Goals as goal

pub show-requires-clause-own : goal.show-requires-clause-own
show-requires-clause-own g c κs within =
    let s = plan_of c.args.script.now in
    let ms = c.args.processors.items in
    let m = c.index_mut.result.now in
    let at = followed_report_first_at s c.args.cluster ms m c.requires.lawful c.requires.sizes c.requires.walked
    c.index_mut.ensures.value in
    let w = followed_report_walks_at s c.args.cluster ms c.requires.lawful c.requires.sizes c.requires.walked 0 m at in
    (followed_report_of_walked c.args.cluster 0 m w.0 w.1).lock

pub report_run_ending-requires-after_bounds : goal.report_run_ending-requires-after_bounds
report_run_ending-requires-after_bounds g c κs within =
    let s = plan_of c.args.script.now in
    let ms = c.args.processors.items in
    let m = c.index_mut.result.now in
    let at = followed_report_first_at s c.args.cluster ms m c.requires.lawful c.requires.sizes c.requires.walked
    c.index_mut.ensures.value in
    (followed_report_of_shown m c.show.new.processor c.requires.lawful
    c.requires.sizes
    c.requires.walked at c.in_ok-shown.ensures.ok (c.in_ok-shown.ensures.addresses ∙ c.deref.ensures.value)).all

pub returns : goal.returns
returns g c =
    let s = plan_of c.args.script.now in
    let ms = c.args.processors.items in
    let m = c.index_mut.result.now in
    let n = c.show.new.processor in
    let at = followed_report_first_at s c.args.cluster ms m c.requires.lawful c.requires.sizes c.requires.walked
    c.index_mut.ensures.value in
    let told = c.in_ok-report_run_ending.ensures s (followed_report_of_shown m n
    c.requires.lawful c.requires.sizes c.requires.walked at c.in_ok-shown.ensures.ok
    (c.in_ok-shown.ensures.addresses ∙ c.deref.ensures.value)) in
    let P : Vec (ℕ × ℕ) → Type 0 = λ v. HasRunCallsOfLoads m n v.items in
    followed_report_after m n c.requires.lawful c.requires.sizes c.requires.walked at
    (subst P (sym told.1) c.in_ok-shown.ensures.ok) told.0
