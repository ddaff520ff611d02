use Rattle.std.proofs.Common.{◌≡◌, length, subst, arith}
use Rattle.explore.specs.TextWalks.{IsTextWalkable}
use Rattle.explore.proofs.TextWalks.OrderPassed.{order_passed_start}
use Rattle.explore.proofs.TextWalks.WordsPassed.{words_passed_start}
use Rattle.explore.proofs.text.walk.TextWalk.new.Goals as goal

pub returns-clause-begins : goal.returns-clause-begins
returns-clause-begins c =
    let steps = c.args.steps.now in
    let rows = c.in_ok-new_walked_rows.field-0 in
    let words = c.in_ok-unused_walked_words.field-0 in
    let size = words.ok.0 in
    let long = c.in_ok-unused_walked_words.ensures.long in
    let same : c.args.size ≡ length words.items = omega arith in
    record {
      walkable = subst (λ n. IsTextWalkable n steps) same c.requires;
      order = order_passed_start steps rows.items c.flag_setters_of.result c.in_ok-new_walked_rows.ensures c.flag_setters_of.ensures;
      words = words_passed_start steps rows.items words.items c.in_ok-new_walked_rows.ensures c.in_ok-unused_walked_words.ensures.sized;
    }
