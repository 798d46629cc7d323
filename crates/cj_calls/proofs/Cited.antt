-- The names that answers of this crate cite, its own lemmas among them, passed on from one place. Declares nothing.
pub use Rattle.cj_calls.proofs.Common.{both_ways, Answer, AnswersLookUp, Apply, Balance, AskError, Asked, Asks, BookError, CacheState, CanServe, Core, Entry, EntryEnded, IsFreshAnswer, LOG_FAULT, LogFailed, AskedUnderLogin, Placement, Refusal, Refused, RepliesKept, Select, StandsBetweenCalls, WorldState, WorldTurn, accounts_of, after_look, all_looked, answer_kept, ask, asked_core, asked_reply, cache_answered, call_of, core_scheduled, database_after, database_of, failed_asked, faults_after, faults_of, happened, in_mask, is_free, is_some, kept_looked, log, log_faults_after, login_of, logins_of, not_now, open_user, own_entry, take-length, read_over, with_answer, with_cache, with_core, with_request_counted}
pub use Rattle.cj_calls.proofs.NotScheduled.{told_after, told_why}
pub use Rattle.cj_calls.proofs.SoloAsks.{called_one, one_answered, one_failed}
pub use Rattle.cj_calls.proofs.SoloCache.{found_kept, kept_inside, kept_turn, none_found, none_serve, not_kept, replied_from_cache, some_serve, turn_before_look}
pub use Rattle.cj_calls.proofs.SoloReads.{QuerySoFar, attempted_turn, counted_turn, in_vain, not_behind, not_out, query_answered, query_begins, query_failed, query_goes_on, query_picks, query_stands, query_starved, query_unnoted, right_at_end, same_log, serves_still, serving_is_backend, unserved}
pub use Rattle.cj_calls.proofs.SoloTaking.{TakenTo, each_taken, left_alone, left_same, not_due, taken_everywhere, taken_none, taken_to_next, takes_open, took}
pub use Rattle.cj_calls.proofs.SoloWrites.{begun_running, begun_user, begun_waits, refused, stands_refused, wrote}
pub use Rattle.cj_calls.proofs.WriteCache.{ended_follows, refused_after, refused_follows}
pub use Rattle.cj_calls.proofs.WriteStarving.{finished_starving, refused_starving, scheduled_starving}
pub use Rattle.cj_model.specs.declared.answer.Asked.TheVariants.{Rows}
pub use Rattle.cj_model.specs.declared.limits.TheConstants.{BACKEND_LIMIT}
