use Rattle.cluster.proofs.laws.cluster_allowed_law.Goals as goal

pub returns : goal.returns
returns c = λ m n number sizes seen cut own_cut allowed. rw (number, sizes, seen, cut, own_cut) (
  allowed.0,
  record {
    book = allowed.1.book;
    views = allowed.1.views;
    mine = allowed.1.mine;
    kept = allowed.1.kept;
  },
)
