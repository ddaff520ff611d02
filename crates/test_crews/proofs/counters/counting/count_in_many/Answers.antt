use Rattle.std.proofs.Common.{rules, ◌≡◌, length, sym, ◌∙◌}
use Rattle.test_crews.proofs.counters.Many.{have_added, each_new, all_back, summed_up, spent_up}
use Rattle.test_crews.proofs.counters.counting.count_in_many.Goals as goal

pub map_vec-requires-after_bounds : goal.map_vec-requires-after_bounds
map_vec-requires-after_bounds g c κs within i x less read = (
  (
    each_new (g.T.Turn.id c.in_ok-turn.turn) c.in_ok-turn.chairs.items c.in_ok-turn.ensures.2 i x less read,
    c.requires.room,
  ),
  (search rules, search rules),
)

pub close-count-requires : goal.close-count-requires
close-count-requires g c =
    let results = c.in_ok-results.results.items in
    let jobs = c.in_ok-turn.chairs.items in
    let made = c.in_ok-turn.ensures in
    let long : length results ≡ length jobs = search rules in
    let have = have_added g.T.Turn.ENTRIES c.args.times jobs results long
    (λ k r less. let gives = (c.in_ok-results.ensures.each k r less).1 in
    (gives.job, gives.job_read, gives.call.met)) in
    rw c.in_ok-chairs.ensures.chairs (all_back (g.T.Turn.id c.in_ok-turn.turn) (g.T.Turn.size c.in_ok-turn.turn)
    g.T.Turn.ENTRIES c.args.times jobs results (made.1 ∙ sym made.0) made.2 have)

pub returns-then-all : goal.returns-then-all
returns-then-all g c =
    let results = c.in_ok-results.results.items in
    let jobs = c.in_ok-turn.chairs.items in
    let long : length results ≡ length jobs = search rules in
    let have = have_added g.T.Turn.ENTRIES c.args.times jobs results long
    (λ k r less. let gives = (c.in_ok-results.ensures.each k r less).1 in
    (gives.job, gives.job_read, gives.call.met)) in
    let back = c.in_ok-chairs.ensures in
    summed_up g.T.Turn.ENTRIES c.args.times c.args.threads c.close-count.result jobs results c.in_ok-turn.ensures.1
    c.requires.threads.0 have (sym back.done ∙ c.if-all.true) (rw back.chairs at c.close-count.ensures)

pub returns-else-all : goal.returns-else-all
returns-else-all g c =
    let results = c.in_ok-results.results.items in
    let jobs = c.in_ok-turn.chairs.items in
    let long : length results ≡ length jobs = search rules in
    let have = have_added g.T.Turn.ENTRIES c.args.times jobs results long
    (λ k r less. let gives = (c.in_ok-results.ensures.each k r less).1 in
    (gives.job, gives.job_read, gives.call.met)) in
    spent_up g.T.Turn.ENTRIES c.args.times jobs results have (sym c.in_ok-chairs.ensures.done ∙ c.if-all.false)
