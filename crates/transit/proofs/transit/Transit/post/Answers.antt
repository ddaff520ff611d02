use Rattle.std.proofs.Common.{Some, Option, List, slice_set, ap, ◌∙◌}
use Rattle.std.specs.Option.{option_map}
use Rattle.std.proofs.lemmas.List.{map-set}
use Rattle.transit.specs.Letters.{Letter, letter}
use Rattle.transit.proofs.transit.Transit.post.Goals as goal

pub returns : goal.returns
returns c =
    map-set (option_map letter) c.self.inside.messages.items c.args.p (Some c.args.message)
    ∙ ap (λ (ms : List (Option Letter)). slice_set ms c.args.p (Some (letter c.args.message))) c.self.view_is
