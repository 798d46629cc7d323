-- What a case is.
use Rattle.std.specs.Prelude.{ℕ, ◌^◌, ◌-◌, List, [], Bool, false}

-- the numbers of the calls that fail, of each object
pub record FailingCalls : Type 0 where
  pub configuration : List ℕ
  pub log : List ℕ
  pub input : List ℕ
  pub output : List ℕ
  pub errors : List ℕ

-- what is known of a case: its number among the cases, 0 before the first, its name, what a run is handed, the most
-- bytes that the input gives at a call, and whether the log is shown
pub record CaseState : Type 0 where
  pub number : ℕ
  pub name : List ℕ
  pub words : List (List ℕ)
  pub configuration : List ℕ
  pub log : List ℕ
  pub input : List ℕ
  pub piece_limit : ℕ
  pub fails : FailingCalls
  pub shows_log : Bool

abbrev pub no_fails : FailingCalls
no_fails = record { configuration = []; log = []; input = []; output = []; errors = [] }

-- the largest `u64`, for an input that gives as many bytes at a call as fit
abbrev pub no_limit : ℕ
no_limit = 2 ^ 64 - 1

-- a case of which nothing was said but its number, its name, the configuration and the log
abbrev pub fresh : ℕ → List ℕ → List ℕ → List ℕ → CaseState
fresh number name configuration log = record {
  number = number;
  name = name;
  words = [];
  configuration = configuration;
  log = log;
  input = [];
  piece_limit = no_limit;
  fails = no_fails;
  shows_log = false;
}

-- the state before the first line
abbrev pub no_case : CaseState
no_case = fresh 0 [] [] []

-- a case after a run that left these bytes in the log: its next run has the same configuration, and goes on with that
-- log
abbrev pub ran : CaseState → List ℕ → CaseState
ran c log = fresh c.number c.name c.configuration log
