use Rattle.std.proofs.Common.{refl, sym, arith}
use Rattle.book.specs.BookInvariant.{book_invariant_state}
use Rattle.book.proofs.Calling.Receiving.{receiving_flag, IsReceivedSignalRead, receiving_signalled}
use Rattle.book.proofs.protocol.Protocol.signalled_to_count.Goals as goal

pub index-requires : goal.index-requires
index-requires c =
    let w = receiving_flag _ c.args.self.now c.args.processor c.args.flag c.self.view_is c.requires.call in
    omega (arith, (w.flag c.args.flag refl).within, c.self.inside.flags.ok.0)

pub index-requires-2 : goal.index-requires-2
index-requires-2 c =
    let w = receiving_flag _ c.args.self.now c.args.processor c.args.flag c.self.view_is c.requires.call in
    omega (arith, w.times, c.self.inside.times.ok.0)

pub returns-clause-set : goal.returns-clause-set
returns-clause-set c =
    let reads : IsReceivedSignalRead (book_invariant_state c.self.inside) c.args.self.now c.args.processor c.args.flag c.index-2.result.now
    c.in_ok-time.time.now = record {
      o = c.index.result.now;
      same = c.self.view_is;
      may = c.requires.call;
      own_is = c.index-2.ensures;
      flag_is = c.index.ensures;
      set = sym c.in_ok-time.ensures.value;
    } in
    receiving_signalled reads
