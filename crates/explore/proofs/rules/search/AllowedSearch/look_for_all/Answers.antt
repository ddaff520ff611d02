use Rattle.std.proofs.Common.{ℕ, ◌≡◌, ◌+◌, [], Bool, false, IsTrue, refl, sym, ◌∙◌}
use Rattle.std.specs.Prelude.{◌↔◌}
use Rattle.std.proofs.lemmas.Bool.{false≢true}
use Rattle.lrc_script.specs.Plan.{Plan, plan_of}
use Rattle.explore.specs.declared.rules.search.AllowedEnd.{AllowedEnd}
use Rattle.explore.specs.declared.rules.search.AllowedEnd.TheVariants.{Ending, Through, GivenUp}
use Rattle.explore.specs.declared.rules.search.AllowedSearch.{AllowedSearch}
use Rattle.explore.specs.declared.outcomes.telling.Detail.{Detail}
use Rattle.explore.specs.AllowedRuns.{HasAllowedRunBeginnings}
use Rattle.explore.specs.AllowedSearch.{IsAllowedSearched}
use Rattle.explore.specs.AllowedSearchEnds.{IsAllowedEnd, IsAllowedSearchedTo}
use Rattle.explore.proofs.rules.search.AllowedSearch.look_for_all.Goals as goal

-- what a search for all knows by how it ended
record Known (s : Plan) (d : Detail) (n most : ℕ) (x : AllowedSearch) (whole : Bool) : Type 0 where
  searched : IsAllowedSearched s d n x
  all : IsTrue whole → x.pending.items ≡ []
  given_up : whole ≡ false → HasAllowedRunBeginnings s (most + 1)

known : (s : Plan) (d : Detail) (n most : ℕ) (x : AllowedSearch) (end : AllowedEnd) (all : Bool) → IsTrue all ↔ (end ≡ Through)
    → IsAllowedEnd s (λ _. ⊥) most end → IsAllowedSearchedTo s d x n end → Known s d n most x all
known s d n most x (Ending b) all tells ended searched = absurd ended.1
known s d n most x Through all tells ended searched = record {
  searched = searched.0;
  all = λ yes. searched.1;
  given_up = λ isnt. absurd (false≢true (sym isnt ∙ tells.1 refl));
}
known s d n most x GivenUp all tells ended searched = record {
  searched = searched;
  all = λ yes. absurd (let is : GivenUp ≡ Through = tells.0 yes in cc);
  given_up = λ isnt. ended;
}

pub look_at_all-requires-clause-searched : goal.look_at_all-requires-clause-searched
look_at_all-requires-clause-searched g c = record { searched = c.requires.searched; none = λ g replies has told ends. ends }

pub returns : goal.returns
returns g c =
    let k = known (plan_of c.args.script.now) c.args.detail c.in_ok-looked.looked.beginnings c.args.most c.look_at_all.new.self c.in_ok-looked.looked.end
    c.is_through.result c.is_through.ensures c.in_ok-looked.ensures.looked.end c.in_ok-looked.ensures.searched in
    record { searched = k.searched; all = k.all; given_up = k.given_up }
