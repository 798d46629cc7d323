-- A serving over which no count of faults rose.
use Rattle.std.proofs.Common.{◌≡◌, ◌≢◌, ◌⊎◌, inl, inr, ⊎_elim, ℕ, ◌-◌, ◌≤◌, Bool, true, List, [], ◌∷◌, ◌++◌, length, Option, Some, None, IfSome, Ok, Err, refl, sym, ap, subst, ◌∙◌, arith, length-append}
use Rattle.std.specs.List.{AllByRecursion}
use Rattle.std.specs.Io.KnownBytes.{Consumes}
use Rattle.cj_outside.specs.Causes.{next}
use Rattle.cj_outside.specs.Streams.{most}
use Rattle.cj_args.specs.declared.asked.Command.TheVariants.{Script}
use Rattle.cj_book.specs.declared.error.StartError.{StartError}
use Rattle.cj_book.specs.declared.error.StartError.TheVariants as start_errors
use Rattle.cj_conf.specs.Confs.{conf_of}
use Rattle.cj_conf.specs.declared.conf.Conf.{Conf}
use Rattle.cj_conf.specs.declared.error.ConfError.{ConfError}
use Rattle.cj_dump.specs.Dumps.{IsDump}
use Rattle.cj_dump.specs.declared.dump.Dump.{Dump}
use Rattle.cj_log.specs.declared.item.LogItem.{LogItem}
use Rattle.cj_records.proofs.OneList.{one_list}
use Rattle.cj_records.specs.RecordFiles.{Finds}
use Rattle.cj_shelf.specs.Shelves.{CountsOpenFault, HasBadBody, IsNoDump, KeepsDumps, Opens, dump_bodies, shelf_magic}
use Rattle.cj_shelf.specs.declared.error.ShelfError.{ShelfError}
use Rattle.cj_shelf.specs.declared.error.ShelfError.TheVariants as shelf_errors
use Rattle.cj_console.specs.Answers.{Served, Standing}
use Rattle.cj_console.specs.Chats.{ChatsTo, ChattedWhole}
use Rattle.cj_console.specs.declared.chat.ConsoleEnd.{ConsoleEnd}
use Rattle.cj_console.specs.declared.chat.ConsoleEnd.TheVariants as ends
use Rattle.cj_serve.specs.declared.serving.ServeEnd.{ServeEnd}
use Rattle.cj_serve.specs.declared.serving.ServeEnd.TheVariants as serve_end
use Rattle.cj_served.specs.Servings.{status_of_serving}
use Rattle.cj_top.proofs.Statuses.{goes_on}
use Rattle.cj_top.specs.Logs.{RefusesLog, StopsAtLog, status_of_start}
use Rattle.cj_top.specs.Runs.{RefusesConf, RunsCommand, RunsConfigured}
use Rattle.cj_program.specs.Served.{ComesByServe, Counted, RunsServe, StopsAtDumps, StopsUnserved, status_of_shelf}
use Rattle.cj_completeness.proofs.QuietSessions.{did_not_fail}
use Rattle.cj_completeness.specs.Serving.{CompletesServing, CountsNoFault, KeepsLog, KeepsShelf, TellsShortInput, is_console_end_by_input}

-- a store that counted no fault did not count one
none_more : (before now : ℕ) → CountsNoFault before now → now ≡ next before → ⊥
none_more before now none rose = let same = none.same in let room = none.room in omega (arith, same, room, rose)

-- ---- bytes that keep dumps

-- a body that is no dump's is none of theirs
none_bad : (dumps before : List Dump) (body : List ℕ) (later : List (List ℕ)) → AllByRecursion IsDump dumps → dump_bodies dumps ≡ dump_bodies before ++ body ∷ later → IsNoDump body → ⊥
none_bad [] [] body later each is bad = absurd (cc is)
none_bad [] (y ∷ before) body later each is bad = absurd (cc is)
none_bad (x ∷ dumps) [] body later each is bad = bad x each.0 (sym (cc is))
none_bad (x ∷ dumps) (y ∷ before) body later each is bad = none_bad dumps before body later each.1 (cc is) bad

no_bad_dump : (bytes : List ℕ) (dumps : List Dump) → KeepsDumps bytes dumps → (offset : ℕ) → Finds shelf_magic bytes (Err offset) ⊎ HasBadBody bytes offset → ⊥
no_bad_dump bytes dumps keeps offset (inl found) = let same = one_list shelf_magic bytes (Ok (dump_bodies dumps)) (Err offset) refl keeps.found found in absurd (cc same)
no_bad_dump bytes dumps keeps offset (inr has) =
    let same = one_list shelf_magic bytes (Ok (dump_bodies dumps)) (Ok has.0) refl keeps.found has.1 in
    let bodies : dump_bodies dumps ≡ has.0 = cc same in
    none_bad dumps has.2.before has.2.body has.2.later keeps.each (bodies ∙ has.2.parts) has.2.bad

-- ---- what stops a serving

module _ {S : Type 0} (faults : S → ℕ) (held : S → List ℕ) (tells : Bool) (log : S) (back : Option S) (none : IfSome back (λ after. CountsNoFault (faults log) (faults after))) (good : KeepsLog tells (held log)) where
  back_none : (after : S) → back ≡ Some after → CountsNoFault (faults log) (faults after)
  back_none after is = subst (λ (o : Option S). IfSome o (λ x. CountsNoFault (faults log) (faults x))) is none

  not_refused : (c : Conf) (Tells : StartError → Type 0) (Idle : Type 0) (after : S) (status : ℕ) → StopsAtLog (RefusesLog faults held tells log after) Tells Idle status → (status ≢ 8)
  not_refused c Tells Idle after status s =
      (goes_on faults held tells log after good.told good.items good.keeps c (λ first last. Unit {0}) (Unit {0}) Tells Idle (Unit {0}) None None None None None None None 0 0 status (Script []) (good.history, good.opens) (inr s)).0

  starved_at : (error : StartError) (Tells : StartError → Type 0) (Idle : Type 0) (after : S) (c : Conf) (status : ℕ) → back ≡ Some after → (s : StopsAtLog (RefusesLog faults held tells log after) Tells Idle status) → s.error ≡ error → status ≡ 1
  starved_at start_errors.StoreFault Tells Idle after c status is s same =
      absurd (none_more (faults log) (faults after) (back_none after is) (subst (λ (e : StartError). RefusesLog faults held tells log after e) same s.refused).cause)
  starved_at start_errors.NoMemory Tells Idle after c status is s same = s.status_is ∙ ap status_of_start same
  starved_at (start_errors.BadRecord offset) Tells Idle after c status is s same = absurd (not_refused c Tells Idle after status s (s.status_is ∙ ap status_of_start same))
  starved_at (start_errors.BadEntry n) Tells Idle after c status is s same = absurd (not_refused c Tells Idle after status s (s.status_is ∙ ap status_of_start same))

  pub log_starved : (Untouched : Type 0) (Tells : StartError → Type 0) (Idle : Type 0) (c : Conf) (status : ℕ) → StopsUnserved faults held tells log back Untouched Tells Idle status → status ≡ 1
  log_starved Untouched Tells Idle c status s = starved_at s.stops.error Tells Idle s.after c status s.back s.stops refl

module _ {D : Type 0} (kept : Bool) (held : D → List ℕ) (faults : D → ℕ) (dumps : D) (back : Option D) (none : IfSome back (λ after. CountsNoFault (faults dumps) (faults after))) (good : KeepsShelf kept (held dumps)) where
  shelf_starved : (error : ShelfError) (store : D) (status : ℕ) → back ≡ Some store → (kept ≡ true → Opens {S = D} held (held dumps) (Err (error, store))) → CountsOpenFault faults (faults dumps) (Err (error, store)) → status ≡ status_of_shelf error → status ≡ 1
  shelf_starved shelf_errors.Failed store status is opens cause status_is =
      absurd (none_more (faults dumps) (faults store) (subst (λ (o : Option D). IfSome o (λ x. CountsNoFault (faults dumps) (faults x))) is none) cause)
  shelf_starved shelf_errors.NoMemory store status is opens cause status_is = status_is
  shelf_starved (shelf_errors.BadRecord offset) store status is opens cause status_is = absurd (no_bad_dump (held dumps) good.dumps good.keeps offset (opens good.told).0)

  pub dumps_starved : (Tells : ShelfError → Type 0) (Idle : Type 0) (status : ℕ) → StopsAtDumps kept held faults dumps back Tells Idle status → status ≡ 1
  dumps_starved Tells Idle status s = shelf_starved s.error s.store status s.back s.opens s.cause s.status_is

-- ---- the ends of a serving

taken_few : (bytes taken : List ℕ) (left' : Option (List ℕ)) → Consumes (Some bytes) left' taken → length taken ≤ length bytes
taken_few bytes taken None consumed = absurd consumed
taken_few bytes taken (Some behind) consumed = let size = ap length consumed ∙ length-append taken behind in omega (arith, size)

-- a short input isn't spent
short_not_spent : {D : Type 0} (s : Served D) (left left' out out' : Option (List ℕ)) (a z : Standing D) → TellsShortInput left → ChatsTo s left left' out out' a ends.Spent z → ⊥
short_not_spent s left left' out out' a z (bytes, is, short) chats =
    let whole : ChattedWhole s (Some bytes) left' out out' (λ n. n ≡ most) a z = subst (λ (o : Option (List ℕ)). ChattedWhole s o left' out out' (λ n. n ≡ most) a z) is chats in
    let few = taken_few bytes whole.taken left' whole.chatted.consumed in
    let all = whole.count refl in
    omega (arith, few, all, short)

-- at another status than 1, where nothing failed, the input ended the console and all connections came, or as many
-- bytes were taken as may be
served_whole : (accepting : ServeEnd) (ending : ConsoleEnd) (status : ℕ) → status ≡ status_of_serving accepting ending → status ≢ 1 → (accepting ≡ serve_end.PortFault → ⊥) → (ending ≡ ends.ReadFault → ⊥) → (ending ≡ ends.WriteFault → ⊥)
    → (is_console_end_by_input ending ≡ true) × ((accepting ≡ serve_end.Done) ⊎ ((accepting ≡ serve_end.NoMemory) × (ending ≡ ends.Spent)))
served_whole serve_end.PortFault ending status is other port read write = absurd (port refl)
served_whole serve_end.Done ends.Quit status is other port read write = (refl, inl refl)
served_whole serve_end.Done ends.Eof status is other port read write = (refl, inl refl)
served_whole serve_end.Done ends.ReadFault status is other port read write = absurd (read refl)
served_whole serve_end.Done ends.WriteFault status is other port read write = absurd (write refl)
served_whole serve_end.Done ends.Spent status is other port read write = (refl, inl refl)
served_whole serve_end.Done ends.NoMemory status is other port read write = absurd (other is)
served_whole serve_end.NoMemory ends.Quit status is other port read write = absurd (other is)
served_whole serve_end.NoMemory ends.Eof status is other port read write = absurd (other is)
served_whole serve_end.NoMemory ends.ReadFault status is other port read write = absurd (read refl)
served_whole serve_end.NoMemory ends.WriteFault status is other port read write = absurd (write refl)
served_whole serve_end.NoMemory ends.Spent status is other port read write = (refl, inr (refl, refl))
served_whole serve_end.NoMemory ends.NoMemory status is other port read write = absurd (other is)

status_when_done : (accepting : ServeEnd) (ending : ConsoleEnd) (status : ℕ) → status ≡ status_of_serving accepting ending → accepting ≡ serve_end.Done → is_console_end_by_input ending ≡ true → (ending ≡ ends.Spent → ⊥) → status ≡ 0
status_when_done serve_end.PortFault ending status is done by more = absurd (cc done)
status_when_done serve_end.NoMemory ending status is done by more = absurd (cc done)
status_when_done serve_end.Done ends.Quit status is done by more = is
status_when_done serve_end.Done ends.Eof status is done by more = is
status_when_done serve_end.Done ends.ReadFault status is done by more = absurd (cc by)
status_when_done serve_end.Done ends.WriteFault status is done by more = absurd (cc by)
status_when_done serve_end.Done ends.Spent status is done by more = absurd (more refl)
status_when_done serve_end.Done ends.NoMemory status is done by more = absurd (cc by)

-- ---- the whole

module _ {D : Type 0} (found : List LogItem → Type 0) (dumps : D) (left left' out out' : Option (List ℕ)) (before now : Counted) (status : ℕ) where
  abbrev Completes : Served D → Conf → Type 0
  Completes s c = CompletesServing s c found dumps left left' out out' before now status

  module _ (other : status ≢ 1) (input : CountsNoFault before.input now.input) (output : CountsNoFault before.output now.output) (port : CountsNoFault before.port now.port) where
    runs_whole : (s : Served D) (c : Conf) → RunsServe s c found dumps left left' out out' before now status → Completes s c
    runs_whole s c r =
        let whole = served_whole r.accepting r.ending status r.status_is other (did_not_fail _ before.port now.port r.port port) (did_not_fail _ before.input now.input r.input input) (did_not_fail _ before.output now.output r.output output) in
        record { runs = r; by_input = whole.0; all_came = whole.1 }

    pub comes_whole : (s : Served D) (c : Conf) (Stops StopsDumps : ℕ → Type 0) (Quiet : Type 0) → (Stops status → status ≡ 1) → (StopsDumps status → status ≡ 1) → ComesByServe s c found dumps Stops StopsDumps Quiet left left' out out' before now status → Completes s c
    comes_whole s c Stops StopsDumps Quiet log shelf (inl runs) = runs_whole s c runs
    comes_whole s c Stops StopsDumps Quiet log shelf (inr (inl stops)) = absurd (other (log stops))
    comes_whole s c Stops StopsDumps Quiet log shelf (inr (inr (inl stops))) = absurd (other (shelf stops))
    comes_whole s c Stops StopsDumps Quiet log shelf (inr (inr (inr quiet))) = absurd (other quiet.0)

    pub command_whole : (tells : Bool) (store : List ℕ) (TellsConf : ConfError → Type 0) (Idle Quiet : Type 0) (Runs : Conf → Type 0) (served : Conf → Served D) → (Quiet → status ≡ 7 → ⊥) → ((c : Conf) → Runs c → Completes (served c) c) → RunsCommand tells store TellsConf Idle Quiet Runs status
        → RefusesConf tells store (λ (error : ConfError). Unit {0}) (Unit {0}) status ⊎ RunsConfigured tells store (λ c. Completes (served c) c)
    command_whole tells store TellsConf Idle Quiet Runs served seven whole (inl (inl failed, quiet)) = absurd (seven quiet failed)
    command_whole tells store TellsConf Idle Quiet Runs served seven whole (inl (inr starved, quiet)) = absurd (other starved)
    command_whole tells store TellsConf Idle Quiet Runs served seven whole (inr (inl r)) =
        inl (record { bytes = r.bytes; are = r.are; error = r.error; refused = r.refused; told = tt; idle = tt; status_is = r.status_is })
    command_whole tells store TellsConf Idle Quiet Runs served seven whole (inr (inr r)) =
        inr (record { bytes = r.bytes; are = r.are; conf = r.conf; accepted = r.accepted; runs = whole r.conf r.runs })

  completed_is_done : (s : Served D) (c : Conf) → TellsShortInput left → Completes s c → status ≡ 0
  completed_is_done s c short x =
      let chats = x.runs.chats in
      let not_spent : x.runs.ending ≡ ends.Spent → ⊥ =
      λ spent. short_not_spent _ left left' out out' _ chats.last short (subst (λ (e : ConsoleEnd). ChatsTo (record { tells = s.tells; kept = s.kept; layout = chats.layout; held = s.held; faults = s.faults }) left left' out out' (record { view = chats.view; shelf = chats.shelf }) e chats.last) spent chats.chats)
      in
      ⊎_elim (λ (done : x.runs.accepting ≡ serve_end.Done). status_when_done x.runs.accepting x.runs.ending status x.runs.status_is done x.by_input not_spent)
      (λ (starved : (x.runs.accepting ≡ serve_end.NoMemory) × (x.runs.ending ≡ ends.Spent)). absurd (not_spent starved.1)) x.all_came

  pub accepted_is_done : (tells : Bool) (store : List ℕ) (served : Conf → Served D) → RefusesConf tells store (λ (error : ConfError). Unit {0}) (Unit {0}) status ⊎ RunsConfigured tells store (λ c. Completes (served c) c) → tells ≡ true → (c : Conf) → conf_of store ≡ Ok c → TellsShortInput left → status ≡ 0
  accepted_is_done tells store served (inl r) told c accepted short = let same : Ok c ≡ Err r.error = sym accepted ∙ (sym (ap conf_of (r.are.whole told)) ∙ r.refused) in absurd (cc same)
  accepted_is_done tells store served (inr r) told c accepted short = completed_is_done (served r.conf) r.conf short r.runs
