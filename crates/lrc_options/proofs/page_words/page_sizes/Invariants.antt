use Rattle.std.proofs.Common.{◌≡◌, ◌+◌, ◌++◌, ℕ, List, Option, None, Some, Bor, length}
use Rattle.lrc_script.specs.LineReading.{parts_behind_in_read_line}
use Rattle.lrc_options.specs.PageWords.{ArePageWordsRead}
use Rattle.lrc_options.proofs.page_words.page_sizes.Given as goal

-- what was read before gives these sizes, and what is still read stands behind it
abbrev pub invariant-loop-rest : goal.invariant-loop-rest
invariant-loop-rest l =
    (before : List (List ℕ)) × ArePageWordsRead before l.sizes.items
    × (before ++ parts_behind_in_read_line 44 l.rest ≡ parts_behind_in_read_line 44 l.initial.rest)

-- how many bytes are left, and one if some part is
abbrev pub left : Option (Bor (List ℕ)) → ℕ
left None = 0
left (Some bytes) = length bytes.now + 1

abbrev pub decreases-loop-rest : goal.decreases-loop-rest
decreases-loop-rest l = left l.rest
