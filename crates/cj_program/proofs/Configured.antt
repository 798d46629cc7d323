-- A cluster that was served over the backends of a configuration.
use Rattle.std.proofs.Common.{◌≡◌, ◌≢◌, ◌↔◌, ◌∙◌, refl, ap, subst, ℕ, ◌+◌, Bool, ◌&&◌, List, length, replicate, Result, Ok, Err, Option}
use Rattle.std.specs.Prelude.{IfErr, IfOk}
use Rattle.std.specs.Result.{IsOkAnd}
use Rattle.cj_outside.specs.Causes.{CountsFault}
use Rattle.cj_auth.specs.Admission.{Register}
use Rattle.cj_model.specs.Cluster.Caching.{CacheState, empty_cache}
use Rattle.cj_conf.specs.declared.conf.Conf.{Conf}
use Rattle.cj_place.specs.Layouts.{Layout, placement_of}
use Rattle.cj_log.specs.declared.item.LogItem.{LogItem}
use Rattle.cj_state.specs.Worlds.{WorldState}
use Rattle.cj_core.specs.Starts.{BackendState, StartsFrom}
use Rattle.cj_console.specs.declared.chat.ConsoleEnd.{ConsoleEnd}
use Rattle.cj_console.specs.declared.chat.ConsoleEnd.TheVariants as ends
use Rattle.cj_serve.specs.declared.serving.ServeEnd.{ServeEnd}
use Rattle.cj_serve.specs.declared.serving.ServeEnd.TheVariants as serve_end
use Rattle.cj_served.specs.Servings.{ChatsFrom, RefusesServing, status_of_serving}
use Rattle.cj_served.specs.declared.started.Unserved.{Unserved}
use Rattle.cj_top.specs.Configured.{in_memory, new_backend}
use Rattle.cj_program.specs.Served.{Counted, RunsServe, served_by}

-- backends that are seen as new by what they tell are seen as the configuration has them
new_by : (c : Conf) (kept tells : Bool) → tells ≡ (in_memory c && kept) → (backends : List BackendState) → backends ≡ replicate (length c.placement.names) (new_backend tells) → backends ≡ replicate (length c.placement.names) (new_backend (in_memory c && kept))
new_by c kept tells told backends seen = seen ∙ ap (λ (t : Bool). replicate (length c.placement.names) (new_backend t)) told

-- The parts that the world was made of are the configuration's, and its backends are seen as new.
module _ {S D : Type 0} (c : Conf) (kept : Bool) (found : List LogItem → Type 0) (dumps : D) (tells : Bool) (told : tells ≡ (in_memory c && kept)) (l : Layout) (placed : l ≡ c.placement) (backends : List BackendState) (seen : backends ≡ replicate (length c.placement.names) (new_backend tells)) where
  -- it was served as the configuration has it
  pub runs_serve : (held : D → List ℕ) (faults : D → ℕ) (left left' out out' : Option (List ℕ)) (before now : Counted) (accounts : Register) (registered : accounts ≡ c.accounts) (cache : CacheState) (cached : cache ≡ empty_cache c.cache) (r : Result (ConsoleEnd × ServeEnd) (Unserved S D))
      → IfOk r (λ x. (first : WorldState) × StartsFrom found (placement_of l) backends first × (first.setup ≡ record { names = l.names; accounts = accounts }) × (first.cache ≡ cache) × ChatsFrom (record { tells = tells; kept = kept; layout = l; held = held; faults = faults }) dumps left left' out out' first x.0)
      → IfOk r (λ x. (x.1 ≡ serve_end.Done) ↔ ((now.accepted ≡ before.accepted + c.connections) × (c.connections ≢ 0)))
      → CountsFault (IsOkAnd r (λ x. x.0 ≡ ends.ReadFault)) before.input now.input → CountsFault (IsOkAnd r (λ x. x.0 ≡ ends.WriteFault)) before.output now.output → CountsFault (IsOkAnd r (λ x. x.1 ≡ serve_end.PortFault)) before.port now.port
      → IfOk r (λ x. RunsServe (served_by c kept held faults) c found dumps left left' out out' before now (status_of_serving x.1 x.0))
  runs_serve held faults left left' out out' before now accounts registered cache cached (Err e) served done read written port = tt
  runs_serve held faults left left' out out' before now accounts registered cache cached (Ok x) served done read written port =
      let first = served.0 in
      let starts = subst (λ (q : Layout). StartsFrom found (placement_of q) backends first) placed served.1 in
      let chats = subst (λ (q : Layout). ChatsFrom (record { tells = tells; kept = kept; layout = q; held = held; faults = faults }) dumps left left' out out' first x.0) placed served.4 in
      record {
        first = first;
        begins = record {
          setup = served.2 ∙ (ap (λ (q : Layout). record { names = q.names; accounts = accounts }) placed ∙ ap (λ (a : Register). record { names = c.placement.names; accounts = a }) registered);
          starts = subst (λ (xs : List BackendState). StartsFrom found (placement_of c.placement) xs first) (new_by c kept tells told backends seen) starts;
          cache = served.3 ∙ cached;
        };
        ending = x.0;
        chats = subst (λ (t : Bool). ChatsFrom (record { tells = t; kept = kept; layout = c.placement; held = held; faults = faults }) dumps left left' out out' first x.0) told chats;
        accepting = x.1;
        done = done;
        input = read;
        output = written;
        port = port;
        status_is = refl;
      }

  -- or it was refused over those backends
  pub refuses_serving : (faults : S → ℕ) (held : S → List ℕ) (logged : Bool) (counts : D → ℕ) (keeps : D → List ℕ) (log : S) (r : Result (ConsoleEnd × ServeEnd) (Unserved S D))
      → IfErr r (RefusesServing (StartsFrom found (placement_of l) backends) faults held logged counts keeps kept log dumps)
      → IfErr r (RefusesServing (StartsFrom found (placement_of c.placement) (replicate (length c.placement.names) (new_backend (in_memory c && kept)))) faults held logged counts keeps kept log dumps)
  refuses_serving faults held logged counts keeps log r refused =
      subst (λ (xs : List BackendState). IfErr r (RefusesServing (StartsFrom found (placement_of c.placement) xs) faults held logged counts keeps kept log dumps)) (new_by c kept tells told backends seen)
      (subst (λ (q : Layout). IfErr r (RefusesServing (StartsFrom found (placement_of q) backends) faults held logged counts keeps kept log dumps)) placed refused)
