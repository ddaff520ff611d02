use Rattle.std.proofs.Common.{rules, ◌≡◌, length, refl}
use Rattle.std.proofs.lemmas.Option.{slice_get_read}
use Rattle.test_crews.proofs.crews.Crewing.{all_back}
use Rattle.test_crews.proofs.crews.running.run_each.Goals as goal

pub map_vec-requires-after_bounds : goal.map_vec-requires-after_bounds
map_vec-requires-after_bounds g c κs within i x less read =
    let ms = c.crew.inside.processors.items in
    let own = c.crew.invariant.each i x (slice_get_read ms (length ms) i x refl less read) in
    (own.of, (search rules, search rules, search rules))

pub invariant_of-crew : goal.invariant_of-crew
invariant_of-crew g c =
    let results = c.in_ok-results.results.items in
    let ms = c.crew.inside.processors.items in
    let long : length results ≡ length ms = search rules in
    rw c.in_ok-processors.ensures (all_back c.crew.inside.cluster ms results c.crew.invariant long (λ k r less.
    let gives = (c.in_ok-results.ensures.each k r less).1 in
    (gives.job, gives.job_read, gives.call.met.0, gives.call.met.1)))
