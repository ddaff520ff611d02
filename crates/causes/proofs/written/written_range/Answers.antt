use Rattle.judge.specs.JudgedSizes.{judged_sizes_of}
use Rattle.causes.proofs.WrittenWords.{written_word_by_fetch}
use Rattle.causes.proofs.written.written_range.Goals as goal

pub returns-in-Fetch-clause-all : goal.returns-in-Fetch-clause-all
returns-in-Fetch-clause-all c = λ j k within at.
    (let f = c.in-Fetch in written_word_by_fetch (judged_sizes_of c.args.sizes) j k c.args.event within at f.is)
