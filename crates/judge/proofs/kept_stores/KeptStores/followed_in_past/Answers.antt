use Rattle.std.proofs.Common.{arith}
use Rattle.judge.specs.KeptStores.{kept_stores_of}
use Rattle.judge.proofs.kept_stores.LettingGo.{letting_go_followed}
use Rattle.judge.proofs.kept_stores.KeptStores.followed_in_past.Goals as goal

pub returns-in-Some : goal.returns-in-Some
returns-in-Some c = λ j tells i v does lt.
    let s = c.args.self.now in
    let a = c.args.address in
    letting_go_followed s.processors j s.known.cuts c.args.processor a c.args.by c.args.other i v c.followed_up_to.result
    c.in-Some.store (kept_stores_of s a c.args.other) (tells.kept.stores a c.args.other c.requires.other) (c.in-Some.ensures j tells) does
    c.followed_up_to.ensures lt

pub returns-in-None : goal.returns-in-None
returns-in-None c = λ j tells i v does lt. absurd (omega arith)
