use Rattle.std.proofs.Common.{◌≡◌, ◌<◌, ◌↔◌, ℕ, List, Option, map, length, ap, sym, subst, arith}
use Rattle.std.proofs.lemmas.Grind.{elements}
use Rattle.std.specs.Option.{option_map}
use Rattle.base.specs.InOrderOnce.{Has}
use Rattle.journal.specs.declared.event.Kind.{Kind}
use Rattle.journal.specs.ClosingKinds.{closing_awaits_kind}
use Rattle.book.specs.BookInvariant.{book_invariant_state}
use Rattle.book.specs.BookState.{BookState}
use Rattle.book.specs.BookWaits.{IsNamedByBookWaits}
use Rattle.book.proofs.Calling.NamedWaiting.{IsNamedWaitingRead, NamedWaitingStandsAfter, named_waiting_stands_after, named_waiting_next_within, named_waiting_release, named_waiting_arrival, named_waiting_set}
use Rattle.book.proofs.protocol.Protocol.named_by.Goals as goal

pub one_done_waiting-requires-clause-one : goal.one_done_waiting-requires-clause-one
one_done_waiting-requires-clause-one c =
    let stands = subst (λ (b : BookState). NamedWaitingStandsAfter b c.args.processor c.args.kind) (sym c.self.view_is)
    (named_waiting_stands_after c.args.self.now c.args.processor c.args.kind c.requires.closed) in
    named_waiting_next_within c.deref.result.now stands c.in-Release.is
    (ap (map (option_map closing_awaits_kind)) (sym c.deref.ensures.value)) c.holder-next.result c.holder-next.ensures.value

pub ready-requires : goal.ready-requires
ready-requires c =
    (subst (λ (b : BookState). NamedWaitingStandsAfter b c.args.processor c.args.kind) (sym c.self.view_is)
    (named_waiting_stands_after c.args.self.now c.args.processor c.args.kind c.requires.closed)).within

pub all_done_waiting-requires-in-Set-clause-flag : goal.all_done_waiting-requires-in-Set-clause-flag
all_done_waiting-requires-in-Set-clause-flag c f is =
    let stands = subst (λ (b : BookState). NamedWaitingStandsAfter b c.args.processor c.args.kind) (sym c.self.view_is)
    (named_waiting_stands_after c.args.self.now c.args.processor c.args.kind c.requires.closed) in
    let same : c.in-Set.flag ≡ f = cc in
    subst (λ (fs : List (Option (List ℕ))). f < length fs) (sym c.deref-in-Set-2.ensures.value)
    (subst (λ (g : ℕ). g < length (book_invariant_state c.self.inside).flags) same (stands.flag c.in-Set.flag c.in-Set.is))

pub returns-in-Release : goal.returns-in-Release
returns-in-Release c q =
    let read : IsNamedWaitingRead (book_invariant_state c.self.inside) c.args.self.now c.deref.result.now
    c.deref-in-Release.result.now = record {
      same = c.self.view_is;
      awaits_are = ap (map (option_map closing_awaits_kind)) (sym c.deref.ensures.value);
      flags_are = c.deref-in-Release.ensures.value;
    } in
    subst (λ (k : Kind). Has c.one_done_waiting.result q ↔ IsNamedByBookWaits c.args.self.now c.args.processor k q) (sym c.in-Release.is)
    (named_waiting_release read c.args.processor c.in-Release.lock q c.holder-next.result c.holder-next.ensures.value
    c.one_done_waiting.result (c.one_done_waiting.ensures q))

pub returns-else-not-ready : goal.returns-else-not-ready
returns-else-not-ready c q =
    let read : IsNamedWaitingRead (book_invariant_state c.self.inside) c.args.self.now c.deref-in-Arrive.result.now
    c.deref-in-Arrive-2.result.now = record {
      same = c.self.view_is;
      awaits_are = ap (map (option_map closing_awaits_kind)) (sym c.deref-in-Arrive.ensures.value);
      flags_are = c.deref-in-Arrive-2.ensures.value;
    } in
    subst (λ (k : Kind). Has c.all_done_waiting.result q ↔ IsNamedByBookWaits c.args.self.now c.args.processor k q) (sym c.in-Arrive.is)
    (named_waiting_arrival read c.args.processor q c.ready.result c.ready.ensures c.if-not-ready.false
    c.all_done_waiting.result (c.all_done_waiting.ensures q))

pub returns-in-Set : goal.returns-in-Set
returns-in-Set c q =
    let read : IsNamedWaitingRead (book_invariant_state c.self.inside) c.args.self.now c.deref-in-Set.result.now
    c.deref-in-Set-2.result.now = record {
      same = c.self.view_is;
      awaits_are = ap (map (option_map closing_awaits_kind)) (sym c.deref-in-Set.ensures.value);
      flags_are = c.deref-in-Set-2.ensures.value;
    } in
    subst (λ (k : Kind). Has c.all_done_waiting-in-Set.result q ↔ IsNamedByBookWaits c.args.self.now c.args.processor k q)
    (sym c.in-Set.is)
    (named_waiting_set read c.args.processor c.in-Set.flag q c.all_done_waiting-in-Set.result (c.all_done_waiting-in-Set.ensures q))

pub holder-next-requires : goal.holder-next-requires
holder-next-requires c = grind (arith, elements)

pub one_done_waiting-requires-clause-mail : goal.one_done_waiting-requires-clause-mail
one_done_waiting-requires-clause-mail c = grind (arith, elements)

pub all_done_waiting-requires-clause-mail : goal.all_done_waiting-requires-clause-mail
all_done_waiting-requires-clause-mail c = grind (arith, elements)

pub all_done_waiting-requires-in-Set-clause-mail : goal.all_done_waiting-requires-in-Set-clause-mail
all_done_waiting-requires-in-Set-clause-mail c = grind (arith, elements)
