use Rattle.std.proofs.Common.{ℕ, [], Option, false, refl, sym, ap, ◌∙◌, subst, arith}
use Rattle.atomic_table.specs.Table.{Allows}
use Rattle.turn.specs.declared.chair.ChairState.{ChairState}
use Rattle.turn.specs.Boards.{IsBoard}
use Rattle.turn.specs.Chairs.{ChairMayConfer}
use Rattle.turn.specs.ChairRuns.{DealtChairRuns, chair_run}
use Rattle.turn.specs.SeatSteps.{SeatTalkStep, fresh_stepping_seat}
use Rattle.turn.specs.Tickets.{TicketTurns, ticket_chair_state}
use Rattle.turn.specs.declared.chair.ChairStage.TheVariants.{Outside}
use Rattle.turn.proofs.AllowedSteps.{allowed_step_talks}
use Rattle.turn.proofs.Conferring.{ConferringSeat, conferring_guest_same, conferring_guest_sits, has_conferred, has_talked_in_conferring, conferring_sits_alone}
use Rattle.turn.proofs.Guests.{dismisses_guest, hosts_guest}
use Rattle.turn.proofs.ChairPlaces.{chair_places_split}
use Rattle.turn.proofs.lock.TurnLock.confer_at.Goals as goal

pub split_seat-guest-requires : goal.split_seat-guest-requires
split_seat-guest-requires g c =
    let lock = c.args.self.now in
    let wide = lock.wide in
    let more = lock.layout.more in
    let key = lock.table.shared.key in (
      c.requires.own.1,
      omega arith,
      chair_places_split (Option g.row.B.Denot) (ChairState g.row.B.Denot g.row.K-View.Denot) key.seats
          (TicketTurns g.K.Keeper.fact (g.W.Board.shows key.seats) key.entries) c.args.other.now.id c.args.other.now.me.0
          (ap (λ (m : ConferringSeat g.row.B.Denot g.row.K-View.Denot). m.0.live)
          c.requires.outside.1),
    )

pub join_seat-requires : goal.join_seat-requires
join_seat-requires g c =
    let lock = c.args.self.now in
    let wide = lock.wide in
    let more = lock.layout.more in
    let key = lock.table.shared.key in
    let cut = c.split_seat-guest.ensures in
    let guest = c.split_seat-guest.result in (
      c.requires.own.0,
      cut.3 ∙ c.requires.own.1,
      ap (λ (m : ConferringSeat g.row.B.Denot g.row.K-View.Denot). m.1) cut.4,
      omega arith,
      hosts_guest (Option g.row.B.Denot) (ChairState g.row.B.Denot g.row.K-View.Denot) key.seats
          (TicketTurns g.K.Keeper.fact (g.W.Board.shows key.seats) key.entries) c.args.seat.now.id guest.id c.args.seat.now.me.0
          guest.me.0 (chair_run false 0 (fresh_stepping_seat g.K.Keeper.nobody) [])
          (conferring_sits_alone c.args.seat.now.me c.requires.outside.0)
          (conferring_sits_alone guest.me (conferring_guest_sits c.args.other.now.me guest.me cut.4 c.requires.outside.1)) refl,
    )

pub load-requires : goal.load-requires
load-requires g c =
    let lock = c.args.self.now in
    let sized = lock.sized in
    let wide = lock.wide in
    let more = lock.layout.more in
    let key = lock.table.shared.key in
    let n = key.seats in
    let me = c.args.seat.now.me in
    let other = c.args.other.now.me in
    let guest = c.split_seat-guest.result.me in
    let cut = c.split_seat-guest.ensures in
    let joined = c.join_seat.ensures in
    let board = subst (λ (k : ℕ). IsBoard (g.W.Board.width k) (g.W.Board.shows k) (g.W.Board.at k)
    g.W.Board.passed) (sym sized.0) c.lawful.ensures in
    let may = subst (λ (x : ConferringSeat g.row.B.Denot g.row.K-View.Denot).
    ChairMayConfer g.K.Keeper.fact g.M.Lesson.then me.0.place me.0.lead.view x.0.place x.0.lead.view) (sym cut.4)
    c.requires.may in
    let talk = allowed_step_talks g.row.B.Denot g.row.K-View.Denot g.K.Keeper.fact (g.W.Board.width n) (g.W.Board.shows n)
    (g.W.Board.at n) g.W.Board.passed board n key.entries lock.table.shared.table_id.slots c.join_seat.new.seat.id
    g.M.Lesson.then me guest c.requires.outside.0 (conferring_guest_sits other guest cut.4 c.requires.outside.1) may in (
      joined.0 ∙ c.requires.own.0,
      omega arith,
      subst (λ (x : ConferringSeat g.row.B.Denot g.row.K-View.Denot).
          Allows (DealtChairRuns n (TicketTurns g.K.Keeper.fact (g.W.Board.shows n) key.entries)) lock.table.shared.table_id.slots
          c.join_seat.new.seat.id x 0 (λ k. k) (λ _ after. SeatTalkStep g.M.Lesson.then x after)) (sym joined.2) talk,
    )

pub split_seat-requires : goal.split_seat-requires
split_seat-requires g c =
    let lock = c.args.self.now in
    let wide = lock.wide in
    let more = lock.layout.more in
    let key = lock.table.shared.key in
    let me = c.args.seat.now.me in
    let guest = c.split_seat-guest.result.me in
    let talked = has_talked_in_conferring g.M.Lesson.then me guest c.join_seat.new.seat.me c.load.new.seat.me c.join_seat.ensures.2
    c.requires.outside.0 c.load.ensures.2 in (
      c.load.ensures.0 ∙ c.join_seat.ensures.0 ∙ c.requires.own.0,
      omega arith,
      dismisses_guest (Option g.row.B.Denot) (ChairState g.row.B.Denot g.row.K-View.Denot) key.seats
          (TicketTurns g.K.Keeper.fact (g.W.Board.shows key.seats) key.entries) c.load.new.seat.id me.0.place guest.0.place
          (ticket_chair_state Outside me.0.lead.entries talked.view) guest.0.lead c.load.new.seat.me.0
          (ap (λ (m : ConferringSeat g.row.B.Denot g.row.K-View.Denot). m.0) talked.is),
    )

pub returns : goal.returns
returns g c =
    let me = c.args.seat.now.me in
    let other = c.args.other.now.me in
    let guest = c.split_seat-guest.result.me in
    let cut = c.split_seat-guest.ensures in
    let parted = c.split_seat.ensures in
    let beside = conferring_guest_sits other guest cut.4 c.requires.outside.1 in
    let talked = has_talked_in_conferring g.M.Lesson.then me guest c.join_seat.new.seat.me c.load.new.seat.me c.join_seat.ensures.2
    c.requires.outside.0 c.load.ensures.2 in
    let done = has_conferred g.M.Lesson.then me guest c.load.new.seat.me c.split_seat.new.seat.me c.split_seat.result.me talked
    beside parted.2 parted.4 in
    let same = conferring_guest_same other guest cut.4 c.requires.outside.1 in
    let back = c.load.ensures.0 ∙ c.join_seat.ensures.0 in
    record {
      own = (parted.0 ∙ back, parted.3 ∙ back ∙ c.requires.own.0 ∙ sym c.requires.own.1);
      outside = done.outside;
      then = subst (λ (x : ConferringSeat g.row.B.Denot g.row.K-View.Denot).
          g.M.Lesson.then me.0.place me.0.lead.view x.0.place x.0.lead.view c.split_seat.new.seat.me.0.lead.view) same done.told;
      other = done.same ∙ same;
    }
