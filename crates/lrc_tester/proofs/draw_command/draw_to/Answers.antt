use Rattle.std.proofs.Common.{◌≡◌, Some, subst, sym}
use Rattle.std.specs.Prelude.{IsTrue}
use Rattle.std.proofs.lemmas.Result.{on_ok_weaker}
use Rattle.lrc_script.specs.Prelude.{plan_of}
use Rattle.conformance.specs.FlatRuns.{NeverRacesFlat}
use Rattle.lrc_tester.specs.Drawing.Draw.{drawn, seeded}
use Rattle.lrc_tester.specs.Patterns.{HasGivenSizes, never_races_by_pattern, plain_style}
use Rattle.lrc_tester.proofs.draw_command.draw_to.Goals as goal

pub returns-clause-drawn : goal.returns-clause-drawn
returns-clause-drawn g c =
    let s = plan_of c.in_ok-script.script in
    on_ok_weaker c.write_script.result (λ written. record {
      script = s;
      lawful = c.in_ok-script.ensures.lawful;
      race_free = subst (λ p. IsTrue (never_races_by_pattern p) → NeverRacesFlat s) c.pattern_given.ensures c.in_ok-script.ensures.race_free;
      never_hangs = c.in_ok-script.ensures.never_hangs;
      sizes = c.sizes_given.ensures.some s
          (subst (λ p. HasGivenSizes p c.sizes_given.result s) c.pattern_given.ensures c.in_ok-script.ensures.sizes);
      stated = λ out style is. subst (λ seed. s ≡ drawn style (seeded seed)) c.seed_given-seed.ensures
          (c.in_ok-script.ensures.drawn (c.sizes_given.ensures.none out) style
          (subst (λ p. plain_style p ≡ Some style) (sym c.pattern_given.ensures) is));
      written = written;
    }) c.write_script.ensures.written
