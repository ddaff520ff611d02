use Rattle.std.proofs.Common.{rules}
use Rattle.std.proofs.lemmas.List.Sorted.{IsNonDecreasingBy-from_sort_by_key, answers_always}
use Rattle.std.proofs.lemmas.Result.{on_ok_weaker}
use Rattle.lrc_sample.proofs.SortedTally.{sorted_tally_frequent_first, sorted_tally_rarity, sorted_tally_moved_shown, sorted_tally_moved_counts}
use Rattle.lrc_sample.proofs.tally.sort_sample_tally.Goals as goal

pub returns-clause-tally : goal.returns-clause-tally
returns-clause-tally c = λ outcomes is.
    sorted_tally_moved_counts outcomes c.args.lines.now.items c.sort_by_key.new.self.items c.sort_by_key.ensures.permutation is

pub returns-clause-shown : goal.returns-clause-shown
returns-clause-shown c = λ schedules is.
    sorted_tally_moved_shown schedules c.args.lines.now.items c.sort_by_key.new.self.items c.sort_by_key.ensures.permutation is

pub returns-clause-order : goal.returns-clause-order
returns-clause-order c =
    on_ok_weaker c.sort_by_key.result
    (λ sorted. sorted_tally_frequent_first c.args.lines.now.items c.sort_by_key.new.self.items c.requires
    c.sort_by_key.ensures.permutation
    (c.sort_by_key.ensures.stable sorted_tally_rarity (answers_always _ _ _ (λ f a r q k. search rules)))
    (IsNonDecreasingBy-from_sort_by_key sorted_tally_rarity _ sorted (λ a r q k. search rules)))
    c.sort_by_key.ensures.sorted
