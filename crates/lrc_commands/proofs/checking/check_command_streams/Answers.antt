use Rattle.std.proofs.Common.{[], ◌++◌, ap, refl, ◌∙◌}
use Rattle.std.proofs.KnownBytes.{Consumes-nil}
use Rattle.std.proofs.lemmas.Result.{err_from_is_err_and}
use Rattle.lrc_check.specs.declared.checked.Rules.{Rules}
use Rattle.lrc_commands.proofs.JudgedSources.{judged_source_by, judged_source_consumed_fully, judged_source_consumed_no_more, judged_source_consumed_on, judged_source_full_refused, judged_source_no_front, judged_source_no_trace, judged_source_ended_racy, judged_source_stream_ended, judged_source_stream_whole, judged_source_whole_racy}
use Rattle.lrc_commands.proofs.checking.check_command_streams.Goals as goal

pub check_command_ends-requires : goal.check_command_ends-requires
check_command_ends-requires g c = record { stream = (c.loop.invariant.read.0, c.loop.invariant.read.2) }

pub returns-in_err-check_command_ends-clause-refused : goal.returns-in_err-check_command_ends-clause-refused
returns-in_err-check_command_ends-clause-refused g c =
    let p = err_from_is_err_and c.from_residual-in_err-check_command_ends.result c.from_residual-in_err-check_command_ends.ensures.1 in
    let read = c.loop.invariant.read in
    rw p.1 (λ its. judged_source_full_refused _ _ read.0
    (judged_source_consumed_fully _ _ read.0
    (judged_source_consumed_no_more _ _ _ read.0 _ _ c.if-count-eq0.true read.1 c.in_ok-count.ensures.bytes)
    (c.in_ok-count.ensures.end c.if-count-eq0.true))
    (c.in_err-check_command_ends.ensures.refused (p.2.0 its) read.0 read.2))

pub returns-then-count-eq0-clause-judged : goal.returns-then-count-eq0-clause-judged
returns-then-count-eq0-clause-judged g c =
    let read = c.loop.invariant.read in
    let rules = c.loop.invariant.rules in
    judged_source_by c.loop.stream.rules _ _ _ _ _ _ (ap (λ (r : Rules). r.model) rules) (ap (λ (r : Rules). r.lax) rules) refl
    (judged_source_stream_whole c.loop.stream.rules _ _ _ read.0 c.in_ok-check_command_ends.field-0
    (judged_source_consumed_no_more _ _ _ read.0 _ _ c.if-count-eq0.true read.1 c.in_ok-count.ensures.bytes)
    (c.in_ok-count.ensures.end c.if-count-eq0.true) (c.in_ok-check_command_ends.ensures.found read.0 read.2))

pub returns-then-count-eq0-clause-racy : goal.returns-then-count-eq0-clause-racy
returns-then-count-eq0-clause-racy g c =
    let read = c.loop.invariant.read in
    judged_source_whole_racy c.loop.stream.rules _ _ _ read.0 c.in_ok-check_command_ends.field-0
    (judged_source_consumed_no_more _ _ _ read.0 _ _ c.if-count-eq0.true read.1 c.in_ok-count.ensures.bytes)
    (c.in_ok-count.ensures.end c.if-count-eq0.true) (c.in_ok-check_command_ends.ensures.found read.0 read.2)

pub feed-requires : goal.feed-requires
feed-requires g c = record { stream = (c.loop.invariant.read.0, c.loop.invariant.read.2) }

pub returns-in_err-found-clause-refused : goal.returns-in_err-found-clause-refused
returns-in_err-found-clause-refused g c =
    let p = err_from_is_err_and c.from_residual-in_err-found.result c.from_residual-in_err-found.ensures.1 in
    let read = c.loop.invariant.read in
    rw p.1 (λ its. judged_source_no_trace _ _ (judged_source_no_front _ _ _ (judged_source_consumed_on _ _ _ read.0 _ read.1 c.in_ok-count.ensures.bytes)
    (c.in_err-found.ensures.refused (p.2.0 its) read.0 read.2)))

pub returns-in-Some-clause-judged : goal.returns-in-Some-clause-judged
returns-in-Some-clause-judged g c =
    let read = c.loop.invariant.read in
    let end = rw c.in-Some.is at c.in_ok-found.ensures.judged read.0 read.2 in
    let rules = c.loop.invariant.rules in
    judged_source_by c.loop.stream.rules _ _ _ _ _ _ (ap (λ (r : Rules). r.model) rules) (ap (λ (r : Rules). r.lax) rules) refl
    (judged_source_stream_ended c.loop.stream.rules _ _ _ _ c.in-Some.found
    (judged_source_consumed_on _ _ _ read.0 _ read.1 c.in_ok-count.ensures.bytes) end)

pub returns-in-Some-clause-racy : goal.returns-in-Some-clause-racy
returns-in-Some-clause-racy g c =
    let read = c.loop.invariant.read in
    let end = rw c.in-Some.is at c.in_ok-found.ensures.judged read.0 read.2 in
    judged_source_ended_racy c.loop.stream.rules _ _ _ c.in-Some.found
    (judged_source_consumed_on _ _ _ read.0 _ read.1 c.in_ok-count.ensures.bytes) end

pub loop-init : goal.loop-init
loop-init g c = record { read = ([], Consumes-nil _, c.requires.stream); rules = refl }

pub loop-preserved : goal.loop-preserved
loop-preserved g c =
    let read = c.loop.invariant.read in
    record {
      read = (
        read.0 ++ _,
        judged_source_consumed_on _ _ _ read.0 _ read.1 c.in_ok-count.ensures.bytes,
        rw c.in_default.is at c.in_ok-found.ensures.judged read.0 read.2,
      );
      rules = c.feed.ensures.rules ∙ c.loop.invariant.rules;
    }
