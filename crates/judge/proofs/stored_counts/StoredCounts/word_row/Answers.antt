use Rattle.std.proofs.Common.{ℕ, ◌+◌, ◌-◌, ◌*◌, ◌<◌, ◌≤◌, arith}
use Rattle.std.proofs.lemmas.Nat.{mul-le}
use Rattle.judge.proofs.stored_counts.StoredCounts.word_row.Goals as goal

-- the row of an address below the count ends below all rows
ends : (a count q n : ℕ) → a < count → q < n → a * n + q + (n - q) ≤ count * n
ends a count q n lt few = let le = mul-le (a + 1) n count n (omega arith) (omega arith) in omega arith

pub returns-clause-within : goal.returns-clause-within
returns-clause-within c =
    ends c.args.address (c.args.self.now.sizes.pages * c.args.self.now.sizes.words) c.args.processor
    c.args.self.now.sizes.processors c.requires.address c.requires.processor
