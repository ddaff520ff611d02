use Rattle.std.proofs.Common.{MatchOption, subst, sym}
use Rattle.judge.specs.KeptInPasts.{IsLastKeptStoreBelow, NoKeptStoreBelow}
use Rattle.judge.specs.KeptStores.{AreKeptStores}
use Rattle.judge.proofs.kept_stores.LastKept.{last_kept_found}
use Rattle.judge.proofs.kept_stores.KeptStores.last_store.Goals as goal

pub last_kept_store_below-requires : goal.last_kept_store_below-requires
last_kept_store_below-requires c =
    let s = c.args.self.now in
    let j = c.requires.tells.0 in
    (subst (AreKeptStores s.processors j s.known.cuts c.args.address c.args.by) (sym c.stores_of.ensures)
    (c.requires.tells.1.kept.stores c.args.address c.args.by c.requires.by)).rising

pub returns : goal.returns
returns c = λ j tells.
    let limit = c.known_up_to.result in
    let o = c.last_kept_store_below.result in
    last_kept_found c.args.processor limit o (tells.kept.stores c.args.address c.args.by c.requires.by) (c.known_up_to.ensures j tells)
    (subst (λ xs. MatchOption o (NoKeptStoreBelow xs limit) (IsLastKeptStoreBelow xs limit)) c.stores_of.ensures
    c.last_kept_store_below.ensures)
