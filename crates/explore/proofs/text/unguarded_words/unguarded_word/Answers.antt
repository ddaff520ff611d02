use Rattle.std.proofs.Common.{◌≡◌, ◌<◌, false, length, refl, rules, arith}
use Rattle.std.specs.Prelude.{slice_index_or}
use Rattle.explore.proofs.KeptAccesses.{kept_guarded, kept_read, kept_unguarded}
use Rattle.explore.proofs.text.unguarded_words.unguarded_word.Goals as goal

pub returns-in_default : goal.returns-in_default
returns-in_default c =
    let kept = c.args.kept.now in
    let lt : c.args.word < length kept = (let long = c.requires.long in let within = c.requires.within in omega arith) in
    let unknown : slice_index_or c.args.guarded.now c.args.word false ≡ false = search rules in
    let is = kept_read kept c.args.word c.index-kept-word.result c.deref.result.now lt c.index-kept-word.is c.deref.ensures.value in
    λ steps known are. kept_guarded steps c.args.guarded.now kept c.args.word c.deref.result.now are c.requires.within unknown is c.in_default.ensures

pub returns : goal.returns
returns c =
    let kept = c.args.kept.now in
    let lt : c.args.word < length kept = (let long = c.requires.long in let within = c.requires.within in omega arith) in
    let unknown : slice_index_or c.args.guarded.now c.args.word false ≡ false = search rules in
    let is = kept_read kept c.args.word c.index-kept-word.result c.deref.result.now lt c.index-kept-word.is c.deref.ensures.value in
    let pair = c.in-Some.ensures in
    λ steps known are. (
      refl,
      kept_unguarded steps c.args.guarded.now kept record { word = c.args.word; first = c.in-Some.first; second = c.in-Some.second }
          c.deref.result.now are c.requires.within unknown is pair.0 pair.1 pair.2,
    )
