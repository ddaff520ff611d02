-- Threads of a program that are started and joined one by one, and the end of its cluster.
use Rattle.std.proofs.Common.{ℕ, ◌≡◌, ◌≤◌, ◌+◌, inl, inr, suc, Option, Some, None, List, [], ◌∷◌, ◌++◌, IfSome, Result, Ok, Err, length, slice_get, sum_by, refl, sym, ap, subst, ◌∙◌, arith}
use Rattle.std.proofs.lemmas.List.{length_push}
use Rattle.std.proofs.lemmas.List.Sums.{sum_by-cons}
use Rattle.std.proofs.lemmas.Option.{none-some, slice_get_cases, slice_get_within, same_Some}
use Rattle.std.specs.Prelude.{◌==◌}
use Rattle.std.proofs.lemmas.Bool.{cases_lt, ne_eqb}
use Rattle.base.proofs.Filters.{filter_none}
use Rattle.base.proofs.SlicesAndCounts.{slice_push_cases, slice_get-append_left, slice_get-append_right, slice_get-last}
use Rattle.journal.specs.declared.event.Event.{Event}
use Rattle.journal.specs.declared.event.Kind.{Kind}
use Rattle.journal.specs.Events.{events_of}
use Rattle.journal.specs.Log.{Log}
use Rattle.journal.specs.Sizes.{Sizes}
use Rattle.journal.specs.WellFormed.{WellFormed}
use Rattle.cluster.specs.NewClusters.{SharedCluster, IsNewCluster, shared_cluster}
use Rattle.cluster.specs.Copies.Local.{Local, new_local}
use Rattle.cluster.specs.FaithfulJournals.{IsJournalOf}
use Rattle.cluster.specs.Finishing.{AreAllToFinish, IsFinished}
use Rattle.seats.specs.Deeds.{deeds}
use Rattle.seats.specs.Sitting.{HasWorkedSitting}
use Rattle.seats.specs.PhaseGuards.{KeepsToPhaseGuards}
use Rattle.seats.specs.GuardLaws.{AllKeepToPhaseGuards}
use Rattle.seats.specs.ProgramRuns.{AreProgramRunEnds, AreSeatedForProgramRun, HasEndedInProgramRun, HaveAllJoinedProgramRun, HaveAllWorkedInProgramRun, HaveEndedInProgramRun, IsProgramRun, IsProgramRunWork, ProgramRunErrand, program_run_seat}
use Rattle.seats.specs.Tables.{GuardTables, guards_of}
use Rattle.seats.specs.declared.fault.SeatFault.{SeatFault}
use Rattle.seats.proofs.GuardedDeeds.{guarded_deeds_table_law}

-- the item behind a front
pub program_thread_behind : {A : Type 0} (front rest all : List A) (x : A) → front ++ x ∷ rest ≡ all
    → slice_get all (length front) ≡ Some x
program_thread_behind front rest all x is =
    let place : length front ≡ length front + 0 = omega arith in
    subst (λ ys. slice_get ys (length front) ≡ Some x) is
    (ap (slice_get (front ++ x ∷ rest)) place ∙ slice_get-append_right front (x ∷ rest) 0)

-- a new processor is that of its own seat
pub program_thread_new_seat : {c : SharedCluster} {p : ℕ} {m : Local} → m ≡ new_local c.lock p c.sizes → m ≡ new_local m.lock m.number m.sizes
program_thread_new_seat {c} {p} is = subst (λ n. n ≡ new_local n.lock n.number n.sizes) (sym is) refl

-- of its own cluster
pub program_thread_own_cluster : {c : SharedCluster} {p : ℕ} {m : Local} → m ≡ new_local c.lock p c.sizes → shared_cluster m.lock m.sizes ≡ c
program_thread_own_cluster {c} {p} is = subst (λ n. shared_cluster n.lock n.sizes ≡ c) (sym is) refl

-- one processor more, and its thread, if it has one
pub program_threads_seated_more : {g : GuardTables} (ms : List Local) (threads : List (Option ProgramRunErrand)) (m : Local)
    (thread : Option ProgramRunErrand) → AreSeatedForProgramRun g ms threads → IfSome thread (λ e. (e.processor ≡ m) × (e.layout ≡ g))
    → AreSeatedForProgramRun g (ms ++ m ∷ []) (threads ++ thread ∷ [])
program_threads_seated_more {g} ms threads m thread were is = record {
  all = let a = length_push ms m in let b = length_push threads thread in let c = were.all in omega arith;
  each = λ p e there. elim (slice_push_cases threads thread p (Some e) there) [
    | inl old ↦ (let was = were.each p e old.1 in (
      slice_get-append_left ms (m ∷ []) p (slice_get_within ms p e.processor was.0) ∙ was.0,
      was.1,
    ))
    | inr new ↦ (let own = subst (λ t. IfSome t (λ x. (x.processor ≡ m) × (x.layout ≡ g))) new.1 is in (
      subst (λ k. slice_get (ms ++ m ∷ []) k ≡ Some e.processor) (sym were.all ∙ sym new.0)
          (slice_get-last ms m ∙ ap Some (sym own.0)),
      own.1,
    ))
  ];
}

-- one thread more, which gave back its processor and an answer
pub program_threads_ended_more : {X : Type 0} {did : ℕ → List Kind → X → Type 0} {threads : List (Option ProgramRunErrand)}
    {worked : List Local} {answers : List X} (thread : Option ProgramRunErrand) (n : Local) (x : X)
    → HaveAllJoinedProgramRun did threads worked answers → IsProgramRunWork did thread (Ok (n, x))
    → HaveAllJoinedProgramRun did (threads ++ thread ∷ []) (worked ++ n ∷ []) (answers ++ x ∷ [])
program_threads_ended_more {X} {did} {threads} {worked} {answers} thread n x were is = record {
  worked_all = let a = length_push worked n in let b = length_push threads thread in let c = were.worked_all in omega arith;
  answered_all = let a = length_push answers x in let b = length_push threads thread in let c = were.answered_all in omega arith;
  each = λ p m y at there. elim (slice_push_cases worked n p m at) [
    | inl old ↦ elim (slice_push_cases answers x p y there) [
      | inl was ↦ (let found = were.each p m y old.1 was.1 in (
        found.0,
        slice_get-append_left threads (thread ∷ []) p (let a = were.worked_all in omega (arith, old.0)) ∙ found.1,
        found.2,
      ))
      | inr new ↦ absurd (let a = were.worked_all in let b = were.answered_all in omega (arith, old.0, new.0))
    ]
    | inr last ↦ elim (slice_push_cases answers x p y there) [
      | inl was ↦ absurd (let a = were.worked_all in let b = were.answered_all in omega (arith, last.0, was.0))
      | inr new ↦ started thread is p m y last new
    ]
  ];
}
  where
    started : (t : Option ProgramRunErrand) → IsProgramRunWork did t (Ok (n, x)) → (p : ℕ) (m : Local) (y : X)
        → (p ≡ length worked) × (n ≡ m) → (p ≡ length answers) × (x ≡ y)
        → (l : ProgramRunErrand) × (slice_get (threads ++ t ∷ []) p ≡ Some (Some l))
        × HasWorkedSitting did (program_run_seat l.layout l.processor) m y
    started None work p m y last new = absurd work
    started (Some l) work p m y last new = (
      l,
      subst (λ k. slice_get (threads ++ Some l ∷ []) k ≡ Some (Some l)) (sym were.worked_all ∙ sym last.0) (slice_get-last threads (Some l)),
      subst (λ z. HasWorkedSitting did (program_run_seat l.layout l.processor) m z) new.1 (subst (λ z. HasWorkedSitting did (program_run_seat l.layout l.processor) z x) last.1 work),
    )

-- what the threads of these processors gave back
pub program_threads_all_worked : {X : Type 0} {g : GuardTables} {did : ℕ → List Kind → X → Type 0} {ms : List Local}
    {threads : List (Option ProgramRunErrand)} {worked : List Local} {answers : List X} → AreSeatedForProgramRun g ms threads
    → HaveAllJoinedProgramRun did threads worked answers → HaveAllWorkedInProgramRun g did ms worked answers
program_threads_all_worked {X} {g} {did} {ms} {threads} {worked} {answers} seated joined = record {
  worked_all = joined.worked_all ∙ seated.all;
  answered_all = joined.answered_all ∙ seated.all;
  each = λ p m n x at is there.
      let found = joined.each p n x is there in
      let started = seated.each p found.0 found.1 in
      let same : found.0.processor ≡ m = same_Some found.0.processor m (sym started.0 ∙ at) in
      subst (λ l. HasWorkedSitting did (program_run_seat g l) n x) same
      (subst (λ t. HasWorkedSitting did (program_run_seat t found.0.processor) n x) started.1 found.2);
}

-- one end more, of a thread that gave back its processor and an answer if it came to no fault
program_threads_end_then : {X : Type 0} {did : ℕ → List Kind → X → Type 0} {threads : List (Option ProgramRunErrand)}
    {ends : List (Result (Unit {0}) SeatFault)} → length ends ≡ length threads → (thread : Option ProgramRunErrand)
    (end : Result (Unit {0}) SeatFault) → HaveEndedInProgramRun did threads ends
    → (end ≡ Ok tt → HasEndedInProgramRun did (threads ++ thread ∷ []) (length threads))
    → HaveEndedInProgramRun did (threads ++ thread ∷ []) (ends ++ end ∷ [])
program_threads_end_then {did = did} {threads = threads} {ends = ends} long thread end were last = record {
  each = λ p at. elim (slice_push_cases ends end p (Ok tt) at) [
    | inl old ↦ (let was = were.each p old.1 in record {
      errand = was.errand;
      processor = was.processor;
      answer = was.answer;
      at = slice_get-append_left threads (thread ∷ []) p (slice_get_within threads p (Some was.errand) was.at) ∙ was.at;
      worked = was.worked;
    })
    | inr new ↦ subst (HasEndedInProgramRun did (threads ++ thread ∷ [])) (sym long ∙ sym new.0) (last new.1)
  ];
}

pub program_threads_end_more : {X : Type 0} {did : ℕ → List Kind → X → Type 0} {threads : List (Option ProgramRunErrand)}
    {ends : List (Result (Unit {0}) SeatFault)} → length ends ≡ length threads → (thread : Option ProgramRunErrand) (n : Local) (x : X)
    → HaveEndedInProgramRun did threads ends → IsProgramRunWork did thread (Ok (n, x))
    → HaveEndedInProgramRun did (threads ++ thread ∷ []) (ends ++ Ok tt ∷ [])
program_threads_end_more {did = did} {threads = threads} long thread n x were work =
    program_threads_end_then long thread (Ok tt) were (λ _. by thread work)
  where
    by : (t : Option ProgramRunErrand) → IsProgramRunWork did t (Ok (n, x)) → HasEndedInProgramRun did (threads ++ t ∷ []) (length threads)
    by None work = absurd work
    by (Some e) work = record { errand = e; processor = n; answer = x; at = slice_get-last threads (Some e); worked = work }

pub program_threads_fault_more : {X : Type 0} {did : ℕ → List Kind → X → Type 0} {threads : List (Option ProgramRunErrand)}
    {ends : List (Result (Unit {0}) SeatFault)} → length ends ≡ length threads → (thread : Option ProgramRunErrand) (f : SeatFault)
    → HaveEndedInProgramRun did threads ends → HaveEndedInProgramRun did (threads ++ thread ∷ []) (ends ++ Err f ∷ [])
program_threads_fault_more long thread f were = program_threads_end_then long thread (Err f) were (λ no. absurd (cc))

-- how the threads of a new cluster's processors ended
pub program_threads_all_ended : {X : Type 0} {g : GuardTables} {did : ℕ → List Kind → X → Type 0} {c : SharedCluster} {ms : List Local}
    {threads : List (Option ProgramRunErrand)} {ends : List (Result (Unit {0}) SeatFault)} → IsNewCluster c ms
    → AreSeatedForProgramRun g ms threads → length ends ≡ length threads → HaveEndedInProgramRun did threads ends
    → AreProgramRunEnds g did c ends
program_threads_all_ended {g = g} {did = did} new seated long ended = record {
  all = long ∙ seated.all ∙ new.all;
  each = λ p at.
      let end = ended.each p at in
      let e = end.errand in
      let started = seated.each p e end.at in
      let seat = ap (program_run_seat g) (new.each p e.processor started.0) in (
        end.processor,
        end.answer,
        subst (λ id. HasWorkedSitting did id end.processor end.answer) seat
            (subst (λ t. HasWorkedSitting did (program_run_seat t e.processor) end.processor end.answer) started.1 end.worked),
      );
}

-- of each processor that has worked: which it was, and what was answered
program_thread_worked_at : {X : Type 0} {g : GuardTables} {did : ℕ → List Kind → X → Type 0} {c : SharedCluster} {ms worked : List Local} {answers : List X}
    → IsNewCluster c ms → HaveAllWorkedInProgramRun g did ms worked answers → (p : ℕ) (n : Local) (x : X) → slice_get worked p ≡ Some n
    → slice_get answers p ≡ Some x → HasWorkedSitting did (record { cluster = c; number = p; layout = g }) n x
program_thread_worked_at {X} {g} {did} {c} {ms} {worked} {answers} new all p n x at there = elim (slice_get_cases ms p).1 [
  | inl found ↦
      (let worked = all.each p found.0 n x found.2 at there in
      let same = ap (program_run_seat g) (new.each p found.0 found.2) in
      subst (λ id. HasWorkedSitting did id n x) same worked)
  | inr past ↦ absurd (let within = slice_get_within worked p n at in let a = all.worked_all in omega (arith, past.0))
]

-- they are all, to finish their cluster
pub program_threads_worked_to_finish : {X : Type 0} {g : GuardTables} {did : ℕ → List Kind → X → Type 0} {c : SharedCluster} {ms worked : List Local}
    {answers : List X} → IsNewCluster c ms → HaveAllWorkedInProgramRun g did ms worked answers → AreAllToFinish c worked
program_threads_worked_to_finish {X} {g} {did} {c} {ms} {worked} {answers} new all = record {
  all = all.worked_all ∙ new.all;
  each = λ p n at. elim (slice_get_cases answers p).1 [
    | inl found ↦
        (let sits = (program_thread_worked_at new all p n found.0 at found.2).sits in
        record { lock = sits.own; number = sits.number; sizes = sits.sizes })
    | inr past ↦ absurd (let within = slice_get_within worked p n at in let a = all.worked_all in
        let b = all.answered_all in omega (arith, past.0))
  ];
}

-- who sat on a seat cut nothing off
program_threads_cut_nothing : (ms : List Local) → ((p : ℕ) (m : Local) → slice_get ms p ≡ Some m → m.own_cut ≡ 0)
    → sum_by (λ (m : Local). m.own_cut) ms ≡ 0
program_threads_cut_nothing [] each = refl
program_threads_cut_nothing (m ∷ ms) each = let here = each 0 m refl in let rest = program_threads_cut_nothing ms (λ p n at. each (suc p) n at) in
    let all = sum_by-cons (λ (n : Local). n.own_cut) m ms in
    omega (arith, here, rest, all)

program_threads_nothing_of_length : {A : Type 0} (xs : List A) → length xs ≡ 0 → xs ≡ []
program_threads_nothing_of_length [] none = refl
program_threads_nothing_of_length (x ∷ xs) none = absurd (omega (arith, none))

-- who is no processor did nothing
pub program_threads_nobody_past : (s : Sizes) (h : List Event) (p : ℕ) → WellFormed s h → s.processors ≤ p → events_of h p ≡ []
program_threads_nobody_past s h p formed past = filter_none (λ e. e.processor == p) h (λ e has. ne_eqb e.processor p (λ same.
    let within = (formed has.0 e has.1).processor in
    absurd (omega (arith, within, same, past))))

-- the end of the cluster of a program
program_threads_ran_there : {X : Type 0} {g : GuardTables} {did : ℕ → List Kind → X → Type 0} {c : SharedCluster} {ms worked : List Local}
    {answers : List X} {j : Log} → IsNewCluster c ms → HaveAllWorkedInProgramRun g did ms worked answers → IsFinished c.sizes worked j
    → IsProgramRun g did c.sizes answers j
program_threads_ran_there {X} {g} {did} {c} {ms} {worked} {answers} {j} new all finished = record {
  history = finished.history;
  journal = subst (λ taken. IsJournalOf c.sizes taken finished.history j) whole finished.journal;
  faithful = finished.faithful;
  kept = kept;
  race_free = λ closed. guarded_deeds_table_law c.sizes g finished.history finished.faithful.well_formed kept closed;
  all = all.answered_all ∙ new.all;
  done = λ p x there. elim (slice_get_cases worked p).1 [
    | inl found ↦
        (let n = found.0 in
        let work = program_thread_worked_at new all p n x found.2 there in
        let mine = (finished.each p n found.2).calls_are in
        subst (λ es. did p (deeds es) x) (sym (ap (λ q. events_of finished.history q) (sym work.sits.number) ∙ mine)) work.done)
    | inr past ↦ absurd (let within = slice_get_within answers p x there in let a = all.worked_all in
        let b = all.answered_all in omega (arith, past.0))
  ];
}
  where
    uncut : (p : ℕ) (m : Local) → slice_get worked p ≡ Some m → m.own_cut ≡ 0
    uncut p m at = elim (slice_get_cases answers p).1 [
      | inl found ↦ (program_thread_worked_at new all p m found.0 at found.2).sits.uncut
      | inr past ↦ absurd (let within = slice_get_within worked p m at in let a = all.worked_all in
          let b = all.answered_all in omega (arith, past.0))
    ]

    kept : AllKeepToPhaseGuards (guards_of g) finished.history
    kept p = elim (cases_lt p c.sizes.processors) [
      | inl less ↦ elim (slice_get_cases worked p).1 [
        | inl found ↦ elim (slice_get_cases answers p).1 [
          | inl answer ↦ (let work = program_thread_worked_at new all p found.0 answer.0 found.2 answer.2 in
              subst (λ es. KeepsToPhaseGuards (guards_of g) p (deeds es))
              (sym (ap (λ q. events_of finished.history q) (sym work.sits.number) ∙ (finished.each p found.0 found.2).calls_are))
              work.kept)
          | inr past ↦ absurd (let a = all.answered_all in let b = new.all in omega (arith, less, past.0))
        ]
        | inr past ↦ absurd (let a = all.worked_all in let b = new.all in omega (arith, less, past.0))
      ]
      | inr past ↦
          subst (λ es. KeepsToPhaseGuards (guards_of g) p (deeds es)) (sym (program_threads_nobody_past c.sizes finished.history p finished.faithful.well_formed past))
          (record { each = λ i k at. absurd (none-some k at) })
    ]

    whole : finished.taken ≡ []
    whole = program_threads_nothing_of_length finished.taken (finished.cuts ∙ program_threads_cut_nothing worked uncut)

-- the same by its sizes
pub program_threads_ran : {X : Type 0} {g : GuardTables} {did : ℕ → List Kind → X → Type 0} {c : SharedCluster} {ms worked : List Local}
    {answers : List X} {j : Log} {s : Sizes} → c.sizes ≡ s → IsNewCluster c ms → HaveAllWorkedInProgramRun g did ms worked answers
    → IsFinished c.sizes worked j → IsProgramRun g did s answers j
program_threads_ran {g = g} {did = did} {answers = answers} {j = j} sizes new all finished =
    subst (λ t. IsProgramRun g did t answers j) sizes (program_threads_ran_there new all finished)
