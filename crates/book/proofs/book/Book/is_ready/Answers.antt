use Rattle.std.proofs.Common.{◌≡◌, ◌∙◌, ◌<◌, length, refl, ap, sym, subst, arith}
use Rattle.std.proofs.lemmas.List.{length-map}
use Rattle.std.specs.Option.{option_map}
use Rattle.journal.specs.ClosingKinds.{closing_awaits_kind}
use Rattle.book.specs.BookInvariant.{book_invariant_state}
use Rattle.book.specs.BookState.{BookState}
use Rattle.book.proofs.Calling.Receiving.{IsReceiving, IsReceivingAwaitedRead, reads_receiving, IsReceivedComeRead, receiving_comes, receiving, receiving_not_idle}
use Rattle.book.proofs.book.Book.is_ready.Goals.{In-Some}
use Rattle.book.proofs.book.Book.is_ready.Goals.{After-parts}
use Rattle.book.proofs.book.Book.is_ready.Goals as goal

-- the parts hold the book as it is found
same : (c : After-parts) → book_invariant_state c.parts.inside ≡ c.args.self.now
same c = c.parts.view_is ∙ c.deref-parts.ensures ∙ c.self.view_is

pub index-requires : goal.index-requires
index-requires c =
    let r = receiving c.args.self.now c.args.processor c.requires.call.kind c.requires.call.take in
    let e = ap (λ (b : BookState). length b.awaits) (same (goal.at.index-requires c).After-parts) in
    omega (
      arith,
      r.awaits,
      e,
      length-map c.parts.inside.awaits.items (option_map closing_awaits_kind),
      c.parts.inside.awaits.ok.0,
    )

pub unreachable-requires : goal.unreachable-requires
unreachable-requires c =
    let read : IsReceivingAwaitedRead (book_invariant_state c.parts.inside) c.args.self.now c.args.processor c.index.result.now = record {
      all = c.parts.inside.awaits.items;
      kept = refl;
      same = same (goal.at.unreachable-requires c).After-parts;
      may = c.requires.call;
      is = c.index.ensures;
    } in
    receiving_not_idle read c.in_default.is

-- what p waits for
waits : (c : In-Some) → IsReceiving (book_invariant_state c.parts.inside) c.args.processor (closing_awaits_kind c.in-Some.awaited)
waits c =
    let read : IsReceivingAwaitedRead (book_invariant_state c.parts.inside) c.args.self.now c.args.processor c.index.result.now = record {
      all = c.parts.inside.awaits.items;
      kept = refl;
      same = c.parts.view_is ∙ c.deref-parts.ensures ∙ c.self.view_is;
      may = c.requires.call;
      is = c.index.ensures;
    } in
    reads_receiving read c.in-Some.awaited c.in-Some.is

pub mail_has_come-requires-clause-processor : goal.mail_has_come-requires-clause-processor
mail_has_come-requires-clause-processor c = (waits (goal.at.mail_has_come-requires-clause-processor c).In-Some).transit

pub mail_has_come-requires-clause-flag : goal.mail_has_come-requires-clause-flag
mail_has_come-requires-clause-flag c f is =
    subst (λ fs. f < length fs) (sym c.deref.ensures.value)
    ((waits (goal.at.mail_has_come-requires-clause-flag c).In-Some).flag f (ap closing_awaits_kind is)).within

pub returns : goal.returns
returns c s h told =
    let read : IsReceivedComeRead (book_invariant_state c.parts.inside) c.args.self.now c.args.processor (closing_awaits_kind c.in-Some.awaited)
    c.mail_has_come.result = record {
      flags = c.deref.result.now;
      same = same (goal.at.returns c).After-parts;
      waits = waits (goal.at.returns c).In-Some;
      flags_are = c.deref.ensures.value;
      is = c.mail_has_come.ensures;
    } in
    receiving_comes read s h told
