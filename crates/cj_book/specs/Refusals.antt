-- What a request is told of which no entry was scheduled.
use Rattle.std.specs.Prelude.{Option, None, Some}
use Rattle.cj_model.specs.Database.Inserts.{refusal_of_code}
use Rattle.cj_model.specs.declared.answer.Refusal.{Refusal}
use Rattle.cj_model.specs.declared.codes.TheConstants.{HISTORY_FULL, LOG_FAULT, NO_BACKEND}
use Rattle.cj_book.specs.declared.error.BookError.{BookError}
use Rattle.cj_book.specs.declared.error.BookError.TheVariants.{HistoryFull, InProgress, LogFault, NoBackend, NoMemory}

-- the refusal that a client reads; none where memory ran out, or where the request waits for the end of another entry
abbrev pub refusal_of : BookError → Option Refusal
refusal_of (InProgress n) = None
refusal_of NoBackend = Some (refusal_of_code NO_BACKEND)
refusal_of (HistoryFull n) = Some (record { code = HISTORY_FULL; a = n; b = 0 })
refusal_of LogFault = Some (refusal_of_code LOG_FAULT)
refusal_of NoMemory = None
