-- Two seats while one of them hosts the other's chair.
use Rattle.std.proofs.Common.{◌≡◌, ℕ, [], Option, refl, sym, ap, ◌∙◌, subst}
use Rattle.atomic_table.specs.Table.{Me}
use Rattle.turn.specs.declared.chair.ChairStage.TheVariants.{Outside}
use Rattle.turn.specs.declared.chair.ChairState.{ChairState}
use Rattle.turn.specs.declared.chair.ChairRun.{ChairRun}
use Rattle.turn.specs.ChairRuns.{chair_run_guest, chair_run_of_first, run_of_chair_guest, chair_run_hosting, one_chair_run}
use Rattle.turn.specs.SeatSteps.{IsSteppingSeatAtStage, SeatTalkStep, stepping_seat_at_stage, stepping_seat_hosting, stepping_seat_with}
use Rattle.turn.specs.Tickets.{ticket_chair_state}
use Rattle.turn.proofs.Guests.{hosting_guest}

abbrev pub ConferringSeat : Type 0 → Type 0 → Type 0
ConferringSeat B V = Me (Option B) (ChairRun (ChairState B V))

module _ {B V : Type 0} where
  -- a seat of one chair has that one
  pub conferring_sits_alone : (me : ConferringSeat B V) → IsSteppingSeatAtStage Outside me → me.0 ≡ one_chair_run me.0.place me.0.lead
  conferring_sits_alone me sits = ap (λ (x : ConferringSeat B V). x.0) sits
      ∙ ap (λ (x : ConferringSeat B V). one_chair_run me.0.place x.0.lead) (sym sits)

  -- the seat to which it went sits as it did
  pub conferring_guest_sits : (other guest : ConferringSeat B V) → guest ≡ (chair_run_of_first other.0, []) → IsSteppingSeatAtStage Outside other
      → IsSteppingSeatAtStage Outside guest
  conferring_guest_sits other guest is sits =
      let moved : ◌≡◌ {A = ConferringSeat B V} (chair_run_of_first other.0, []) (stepping_seat_at_stage Outside other) =
      ap (λ (x : ConferringSeat B V). (one_chair_run other.0.place x.0.lead, [])) sits in
      subst (λ (x : ConferringSeat B V). x ≡ stepping_seat_at_stage Outside x) (sym is) moved

  -- and is the same in all that it has
  pub conferring_guest_same : (other guest : ConferringSeat B V) → guest ≡ (chair_run_of_first other.0, []) → IsSteppingSeatAtStage Outside other
      → guest ≡ other
  conferring_guest_same other guest is sits =
      is ∙ ap (λ (x : ConferringSeat B V). (one_chair_run other.0.place x.0.lead, [])) sits ∙ sym sits

  -- what the seat has once it has talked with its guest
  pub record HasTalkedInConferring (then : ℕ → V → ℕ → V → V → Type 0) (me other after : ConferringSeat B V) : Type 0 where
    pub view : V
    pub told : then me.0.place me.0.lead.view other.0.place other.0.lead.view view
    pub is : after ≡ (hosting_guest me.0.place (ticket_chair_state Outside me.0.lead.entries view) other.0.place other.0.lead, [])

  pub has_talked_in_conferring : (then : ℕ → V → ℕ → V → V → Type 0) (me other joined after : ConferringSeat B V)
      → joined ≡ stepping_seat_hosting me other → IsSteppingSeatAtStage Outside me → SeatTalkStep then joined after → HasTalkedInConferring then me other after
  has_talked_in_conferring then me other joined after both sits step =
      let talk = subst (λ (x : ConferringSeat B V). SeatTalkStep then x after) both step (chair_run_guest other.0.place other.0.lead) refl in
      record {
        view = talk.0;
        told = talk.1;
        is = talk.2 ∙ ap (λ (x : ConferringSeat B V). (
          record (chair_run_hosting x.0 other.0) { lead = ticket_chair_state Outside me.0.lead.entries talk.0 },
          x.1,
        )) sits;
      }

  -- and once that has gone
  pub record HasConferred (then : ℕ → V → ℕ → V → V → Type 0) (me other now gone : ConferringSeat B V) : Type 0 where
    pub outside : now ≡ stepping_seat_with me.0.place Outside me.0.lead.entries now.0.lead.view
    pub told : then me.0.place me.0.lead.view other.0.place other.0.lead.view now.0.lead.view
    pub same : gone ≡ other

  pub has_conferred : (then : ℕ → V → ℕ → V → V → Type 0) (me other after now gone : ConferringSeat B V)
      → HasTalkedInConferring then me other after → IsSteppingSeatAtStage Outside other → now ≡ (chair_run_of_first after.0, after.1)
      → gone ≡ (run_of_chair_guest after.0, []) → HasConferred then me other now gone
  has_conferred then me other after now gone talked beside left right =
      let now_is : now ≡ stepping_seat_with me.0.place Outside me.0.lead.entries talked.view =
      left ∙ ap (λ (x : ConferringSeat B V). (chair_run_of_first x.0, x.1)) talked.is in
      let view_is : talked.view ≡ now.0.lead.view = ap (λ (x : ConferringSeat B V). x.0.lead.view) (sym now_is) in
      record {
        outside = now_is ∙ ap (λ (w : V). stepping_seat_with me.0.place Outside me.0.lead.entries w) view_is;
        told = subst (λ (w : V). then me.0.place me.0.lead.view other.0.place other.0.lead.view w) view_is talked.told;
        same = right ∙ ap (λ (x : ConferringSeat B V). (run_of_chair_guest x.0, [])) talked.is
            ∙ ap (λ (x : ConferringSeat B V). (one_chair_run other.0.place x.0.lead, [])) beside ∙ sym beside;
      }
