use Rattle.std.proofs.Common.{List, Bool, subst, ◌/◌, ◌^◌, ◌+◌, w64, arith}
use Rattle.std.specs.Int.{trailing_zeros}
use Rattle.cluster.specs.Copies.MarkedCopiesAndHarvests.{IsLowestMarkedCopyFrom, LacksMarkedCopyFrom}
use Rattle.cluster.proofs.copies.FirstMark.{no_first_mark, first_mark}
use Rattle.cluster.proofs.copies.mark_set.MarkSet.first_from.Goals as goal

pub returns-then-rest-eq0-clause-none : goal.returns-then-rest-eq0-clause-none
returns-then-rest-eq0-clause-none c =
    let P : List Bool → Type 0 = λ ms. LacksMarkedCopyFrom ms c.args.start in
    subst P c.self.view_is (no_first_mark c.self.inside.bits c.args.start c.if-rest-eq0.true)

pub returns-clause-some : goal.returns-clause-some
returns-clause-some c =
    let n = c.args.start + trailing_zeros w64 (c.self.inside.bits / 2 ^ c.args.start) in
    let P : List Bool → Type 0 = λ ms. IsLowestMarkedCopyFrom ms c.args.start n in
    subst P c.self.view_is (first_mark c.self.inside.bits c.args.start (omega arith) (omega arith))
