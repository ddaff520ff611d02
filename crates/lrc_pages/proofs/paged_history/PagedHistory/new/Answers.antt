use Rattle.std.proofs.Common.{[], refl, arith}
use Rattle.judge.specs.JudgedSizes.{judged_sizes_of}
use Rattle.lrc_pages.proofs.paged_history.PagedHistory.new.Goals as goal

pub returns-clause-told : goal.returns-clause-told
returns-clause-told c =
    let s = judged_sizes_of c.args.sizes in
    let t = c.default.ensures in
    record {
      history = [];
      fetched = refl;
      told = record {
        sizes = c.requires.sizes;
        words = c.requires.words;
        same = c.in_ok-new-4.ensures.sizes;
        count = refl;
        few = omega arith;
        counts = c.in_ok-new-4.ensures.tells;
        pages = c.in_ok-new.ensures.pages;
        copies = c.in_ok-new.ensures.none s refl;
        touched = c.in_ok-new-2.ensures s refl;
        tallies = c.in_ok-new-3.ensures s refl;
        traffic = record {
          locks = t.0;
          flags = t.1.0;
          barriers = t.1.1.0;
          answers = t.1.1.1.0;
          fetches = t.1.1.1.1.0;
          records = t.1.1.1.1.1.0;
          words = t.1.1.1.1.1.1;
        };
        costs = record {
          messages = (let a = t.0 in let b = t.1.0 in let d = t.1.1.0 in let e = t.1.1.1.0 in omega arith);
          fetches = (let a = t.1.1.1.1.0 in omega arith);
          records = (let a = t.1.1.1.1.1.0 in omega arith);
          words = (let a = t.1.1.1.1.1.1 in omega arith);
        };
      };
    }
