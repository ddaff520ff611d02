use Rattle.std.proofs.Common.{◌≡◌, ◌-◌, List, drop, length, take, ap, ap₂, sym, subst, ◌∙◌, arith}
use Rattle.std.proofs.lemmas.Bool.{false≢true}
use Rattle.std.proofs.lemmas.List.{take_rest}
use Rattle.journal.specs.declared.event.Kind.{Kind}
use Rattle.conformance.specs.Follows.{calls_of}
use Rattle.lrc_script.specs.Plan.{plan_of}
use Rattle.explore.specs.AllowedBeginnings.{allowed_beginning_events}
use Rattle.explore.specs.AllowedSearchEnds.{AreAllowedUntilLoads}
use Rattle.explore.proofs.AllowedRuns.AllowedUntil.{allowed_until_told}
use Rattle.explore.proofs.rules.words.ends_with_words.Goals as goal

pub returns-then-not-is_whole : goal.returns-then-not-is_whole
returns-then-not-is_whole c = (
  λ no. absurd (false≢true no),
  λ ends. absurd (false≢true (sym c.if-not-is_whole.true
      ∙ (c.is_whole.ensures (plan_of c.args.script.now) c.requires.steps c.requires.told).1 ends.run.follows)),
)

pub returns : goal.returns
returns c =
    let s = plan_of c.args.script.now in
    let g = allowed_beginning_events c.args.beginning.now in
    let words = c.args.words.now in
    let follows = (c.is_whole.ensures s c.requires.steps c.requires.told).0 c.if-not-is_whole.false in
    let told = allowed_until_told s words g c.requires.steps.lawful (record { beginning = c.requires.told.beginning; follows = follows }) in
    let calls = c.deref.result.now in
    let first = c.saturating_sub-first.result in
    let are : calls ≡ calls_of g 0 = c.deref.ensures.value ∙ c.in_ok-calls.ensures ∙ ap (λ h. calls_of h 0) c.events.ensures in
    let count = c.deref.ensures.value in
    let size = ap (λ (ks : List Kind). length ks) are in
    let held = ap (λ (ks : List Kind). length ks) count in
    let begin : first ≡ length (calls_of g 0) - length s.shown =
    (let left = c.saturating_sub-first.ensures in let long = c.len.ensures in let shown = c.len-2.ensures in omega (arith, left, long, shown, size, held)) in
    let last : take (length calls - first) (drop first calls) ≡ drop (length (calls_of g 0) - length s.shown) (calls_of g 0) =
    take_rest calls first ∙ ap₂ (λ n (ks : List Kind). drop n ks) begin are in (
      λ yes. told.0 (subst (AreAllowedUntilLoads words) last (c.are_words_loaded.ensures.0 yes)),
      λ ends. c.are_words_loaded.ensures.1 (subst (AreAllowedUntilLoads words) (sym last) (told.1 ends)),
    )
