use Rattle.std.proofs.Common.{◌∙◌, false, sym, ap}
use Rattle.std.proofs.lemmas.List.{get_or-replicate}
use Rattle.lrc_script.specs.Lawful.{holds}
use Rattle.lrc_script.proofs.section.Section.new.Goals as goal

pub invariant_of-result : goal.invariant_of-result
invariant_of-result c =
    record
    { follows = λ l lt. get_or-replicate 32 l false false lt ∙ sym (ap (λ is. holds is l) c.new.ensures.items) }
