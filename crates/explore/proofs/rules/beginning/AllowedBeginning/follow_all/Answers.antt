use Rattle.std.proofs.Common.{◌+◌, sym, subst, ◌∙◌, inl, inr, arith}
use Rattle.std.specs.Prelude.{None}
use Rattle.std.proofs.lemmas.Bool.{cases_lt}
use Rattle.std.proofs.lemmas.List.{get_or_past}
use Rattle.std.proofs.lemmas.Option.{none-some}
use Rattle.explore.specs.AllowedBeginnings.{allowed_beginning_events}
use Rattle.explore.proofs.AllowedRuns.Lengthened.{AreLengthenedBelow, lengthened_below_all, lengthened_below_next, lengthened_below_none}
use Rattle.explore.proofs.rules.beginning.AllowedBeginning.follow_all.Goals.{in-Some+in_ok-follow, in_default}
use Rattle.explore.proofs.rules.beginning.AllowedBeginning.follow_all.Goals as goal

pub follow-requires : goal.follow-requires
follow-requires c =
    let may = c.requires.1 in
    let n = c.loop-processor.processor in (
      c.requires.0,
      record {
        lawful = may.lawful;
        tells = may.tells;
        sources_tell = may.sources_tell;
        processors = may.processors;
        addresses = may.addresses;
        plain = may.plain n c.in-Some.call c.in-Some.is;
        may = may.may n c.in-Some.call c.in-Some.is;
      },
    )

pub loop-processor-preserved : goal.loop-processor-preserved
loop-processor-preserved c = λ s may.
    let n = c.loop-processor.processor in
    let g = allowed_beginning_events c.args.self.now in
    let calls = c.args.calls.now in
    let old = c.loop-processor.invariant s may in
    let before = c.args.pending.now.items in
    elim c.match-calls-processor.branch [
      | in-Some+in_ok-follow w ↦
          (let call = w.in-Some.call in
          let followed = w.in_ok-follow.ensures s (record {
            lawful = may.lawful;
            tells = may.tells;
            sources_tell = may.sources_tell;
            processors = may.processors;
            addresses = may.addresses;
            plain = may.plain n call w.in-Some.is;
            may = may.may n call w.in-Some.is;
          }) in
          subst (λ z. AreLengthenedBelow s g calls (n + 1) before z.items) (sym w.pending-is)
          (lengthened_below_next s g calls n call before c.loop-processor.pending.items w.follow.new.pending.items w.in-Some.is old followed))
      | in_default w ↦
          subst (λ z. AreLengthenedBelow s g calls (n + 1) before z.items) (sym w.pending-is)
          (lengthened_below_none s g calls n before c.loop-processor.pending.items w.in_default.not-Some old)
    ]

pub returns : goal.returns
returns c = λ s may.
    let n = c.loop-processor.processor in
    let calls = c.args.calls.now in
    let long = may.long in
    let over = c.loop-processor-test.false in
    lengthened_below_all s (allowed_beginning_events c.args.self.now) calls n c.args.pending.now.items c.loop-processor.pending.items
    (λ p call at. elim (cases_lt p n) [
      | inl lt ↦ lt
      | inr past ↦ absurd (none-some call (sym (get_or_past calls p None (omega arith)) ∙ at))
    ]) (c.loop-processor.invariant s may)
