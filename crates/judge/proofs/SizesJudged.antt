-- Sizes that are small are sizes that are judged.
use Rattle.std.proofs.Common.{arith}
use Rattle.std.proofs.lemmas.Nat.{mul-le}
use Rattle.journal.specs.Sizes.{Sizes}
use Rattle.judge.specs.JudgedSizes.{AreJudgedSizes, AreJudgedSizesSmall}

pub sizes_judged_small : (s : Sizes) → AreJudgedSizesSmall s → AreJudgedSizes s
sizes_judged_small s small = record {
  processors = small.processors;
  streamed = record {
    processors = (let le = small.processors in omega arith);
    pages = (let le = small.pages in omega arith);
    words = (let le = small.words in omega arith);
    addresses = (let le = mul-le s.pages s.words 64 64 small.pages small.words in omega (arith, le));
    locks = (let le = small.locks in omega arith);
    flags = (let le = small.flags in omega arith);
  };
}
