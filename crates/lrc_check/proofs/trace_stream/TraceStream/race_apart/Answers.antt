use Rattle.std.proofs.Common.{◌++◌, subst, sym, ◌∙◌}
use Rattle.std.specs.Prelude.{IfSome}
use Rattle.journal.specs.Races.{Race}
use Rattle.lrc_check.specs.Traces.LawfulTraces.{IsLawfulTrace}
use Rattle.lrc_check.specs.Traces.Sizes.{trace_sizes_of}
use Rattle.lrc_check.proofs.StreamedTraces.{stream_all_at_hand, stream_trace_at_hand}
use Rattle.lrc_check.proofs.trace_stream.TraceStream.race_apart.Goals as goal

pub trace_race_apart-requires-clause-trace : goal.trace_race_apart-requires-clause-trace
trace_race_apart-requires-clause-trace c =
    let x = c.args.self.now.reader in
    subst (IsLawfulTrace (trace_sizes_of c.in-Some.sizes)) (sym c.events.ensures)
    (stream_trace_at_hand c.in-Some.sizes x.sizes x.gone c.requires.0 x.events (sym c.sizes.ensures ∙ c.in-Some.is)
    (sym c.gone.ensures ∙ c.if-gone-eq0.true) c.requires.1)

pub trace_race_apart-requires-clause-race : goal.trace_race_apart-requires-clause-race
trace_race_apart-requires-clause-race c =
    let x = c.args.self.now.reader in
    let front = stream_all_at_hand c.in-Some.sizes x.sizes x.gone c.requires.0 x.events (sym c.sizes.ensures ∙ c.in-Some.is)
    (sym c.gone.ensures ∙ c.if-gone-eq0.true) c.requires.1 in
    subst (λ es. IfSome c.args.race (λ r. Race es r.0 r.1)) (sym c.events.ensures)
    (subst (λ xs. IfSome c.args.race (λ r. Race (xs ++ x.events) r.0 r.1)) front c.requires.2)
