use Rattle.std.proofs.Common.{◌≡◌, ◌<◌, false, length, rules, arith}
use Rattle.std.specs.Prelude.{slice_index_or}
use Rattle.explore.proofs.KeptAccesses.{kept_guarded, kept_read}
use Rattle.explore.proofs.text.unguarded_words.is_kept_apart.Goals as goal

pub returns-in-None : goal.returns-in-None
returns-in-None c =
    let kept = c.args.kept.now in
    let lt : c.args.word < length kept = (let long = c.requires.long in let within = c.requires.within in omega arith) in
    let unknown : slice_index_or c.args.guarded.now c.args.word false ≡ false = search rules in
    let is = kept_read kept c.args.word c.index-kept-word.result c.deref.result.now lt c.index-kept-word.is c.deref.ensures.value in
    λ _ steps known are. kept_guarded steps c.args.guarded.now kept c.args.word c.deref.result.now are c.requires.within unknown is c.in-None.ensures
