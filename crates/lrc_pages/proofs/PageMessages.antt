-- Messages by what they are for, and all of them.
use Rattle.std.proofs.Common.{◌≡◌, ◌+◌, List, [], ◌∷◌, refl, arith}
use Rattle.std.specs.Prelude.{sum_by}
use Rattle.std.proofs.lemmas.List.Sums.{sum_by-cons}
use Rattle.journal.specs.declared.event.Event.{Event}
use Rattle.journal.specs.declared.event.Kind.{Kind}
use Rattle.journal.specs.declared.event.Kind.TheVariants.{Acquire, Await, Arrive, Depart, Fetch}
use Rattle.journal.specs.Traffic.{messages, traffic_messages_of}
use Rattle.lrc_pages.specs.PageTraffic.{barrier_messages_of, fetch_messages_of, flag_messages_of, lock_messages_of}

parts_of_kind : (k : Kind) → lock_messages_of k + flag_messages_of k + barrier_messages_of k + fetch_messages_of k ≡ traffic_messages_of k
parts_of_kind (Acquire l) = refl
parts_of_kind (Await f) = refl
parts_of_kind Arrive = refl
parts_of_kind Depart = refl
parts_of_kind (Fetch w n r d) = omega arith
parts_of_kind _ = refl

pub page_messages_all : (h : List Event)
    → sum_by (λ (e : Event). lock_messages_of e.kind) h + sum_by (λ (e : Event). flag_messages_of e.kind) h
    + sum_by (λ (e : Event). barrier_messages_of e.kind) h + sum_by (λ (e : Event). fetch_messages_of e.kind) h ≡ messages h
page_messages_all [] = refl
page_messages_all (e ∷ h) =
    let one = parts_of_kind e.kind in
    let rest = page_messages_all h in
    let a = sum_by-cons (λ (e : Event). lock_messages_of e.kind) e h in
    let b = sum_by-cons (λ (e : Event). flag_messages_of e.kind) e h in
    let c = sum_by-cons (λ (e : Event). barrier_messages_of e.kind) e h in
    let d = sum_by-cons (λ (e : Event). fetch_messages_of e.kind) e h in
    let all = sum_by-cons (λ (e : Event). traffic_messages_of e.kind) e h in
    omega arith
