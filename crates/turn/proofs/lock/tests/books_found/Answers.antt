use Rattle.std.proofs.Common.{length, refl, rules}
use Rattle.std.proofs.lemmas.Option.{slice_get_read}
use Rattle.turn.proofs.lock.tests.books_found.Goals as goal

pub map_vec-requires-after_bounds : goal.map_vec-requires-after_bounds
map_vec-requires-after_bounds g c κs within i x less read =
    let fresh = c.in_ok-turn.ensures.2 i x
    (slice_get_read c.in_ok-turn.chairs.items (length c.in_ok-turn.chairs.items) i x refl less read) in
    ((fresh.0, fresh.4), (search rules, search rules))
