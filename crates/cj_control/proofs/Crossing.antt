-- What of a cluster that threads share may cross to another thread. Types are taken apart down to those for which one
-- search finds it, since a search over the whole cluster passes its limits. T is the type of the backends' snapshots.
use denote.RattleType.{RattleType}
use denote.Param.Send.{IsSend, IsSync, sendable, view_send, recorded_send, struct_send, struct_sync}
use denote.Struct.Declared.{shape}
use Rattle.std.proofs.Crossing as heap
use Rattle.std.proofs.MapsCrossing as maps
use Rattle.std.proofs.sync.ledger.Book.TheSendSync as ledger_book
use Rattle.std.proofs.sync.ledger.Share.TheSendSync as ledger_share
use Rattle.atomic_table.proofs.owned.Table.TheSendSync as table
use Rattle.atomic_table.proofs.shared.Seat.TheSendSync as seat
use Rattle.cj_board.specs.contracts.seats.BookSeat as book_seat
use Rattle.cj_board.specs.contracts.seats.CellSeat as cell_seat
use Rattle.cj_cluster.specs.contracts.boxed.BoxedEntry as boxed_entry
use Rattle.cj_outside.specs.declared.store.Store as store
use Rattle.cj_outside.specs.contracts.mem_store.MemStore as mem_store
use Rattle.cj_backend.specs.declared.backend.Backend as backend
use Rattle.cj_backend.specs.declared.backend.Snap as snap
use Rattle.cj_replica.specs.contracts.cell.Cell as cell
use Rattle.cj_pass.specs.declared.naming.Naming as naming
use Rattle.cj_pass.specs.contracts.pass.Pass as pass
use Rattle.cj_pass.specs.contracts.pass.NamedBoard as named_board
use Rattle.cj_cache_shard.specs.contracts.shard.CacheShard as shard
use Rattle.cj_cache_shard.specs.contracts.shard.CacheShard.TheInside as shard_inside
use Rattle.cj_locked.specs.contracts.book.LockedBook as locked_book
use Rattle.cj_locked.specs.contracts.book.LockedBook.TheInside as locked_book_inside
use Rattle.cj_locked_cell.specs.contracts.cell.LockedCell as locked_cell
use Rattle.cj_workers.proofs.Crossing.{work_lane_send, work_lane_sync}
use Rattle.cj_locks.specs.contracts.locks.Locks as locks
use Rattle.cj_control.specs.contracts.control.Control as control
use Rattle.cj_book.specs.contracts.book_log.BookLog as book_log
use Rattle.cj_model.proofs.condition.CondNode.TheLaws.TheKnot as conditions
use Rattle.std.proofs.hash.FoldHasher.TheSendSync as hasher
use Rattle.cj_cache.proofs.held.Held.TheSendSync as held
use Rattle.lru.proofs.cache.LruCache.TheSendSync as lru
use Rattle.std.proofs.hash.BuildHasherDefault.TheSendSync as build_hasher
use Rattle.indexmap.proofs.index_table.Bucket.TheSendSync as bucket
use Rattle.indexmap.proofs.index_table.group.Group.TheSendSync as group
use Rattle.cj_cluster.specs.contracts.event.Event as event
use Rattle.cj_board.specs.contracts.seats.Board as board
use Rattle.cj_model.specs.contracts.select.Select as select
use Rattle.cj_cache.specs.contracts.cache.Cache as cache
use Rattle.cj_cache.specs.contracts.cache.Cache.TheInside as cache_inside
use Rattle.cj_book.specs.contracts.book.Book as book
use Rattle.cj_book.specs.contracts.book.Book.TheInside as book_inside

pub event_send : IsSend event.the_row
event_send = search (heap.crosses, conditions.crosses, sendable) depth 60 fits 20000

-- ---- the result cache

select_send : IsSend select.the_row
select_send = search (heap.crosses, conditions.crosses, sendable) depth 60 fits 20000

select_sync : IsSync select.the_row
select_sync = search (heap.crosses, conditions.crosses, sendable) depth 60 fits 20000

cache_fields : IsSend cache_inside.the_row
cache_fields = recorded_send (cache_inside.the_field).row _ _ (cache_inside.the_type).to_one (struct_send (shape cache_inside.the_type) (
  search sendable,
  (
    search (lru.the_send, held.the_send, build_hasher.the_field_send, build_hasher.the_send, hasher.the_send, heap.send, heap.frees, maps.crosses, heap.crosses, select_send, select_sync, sendable) depth 60 fits 20000,
    (
      search (bucket.the_send, group.the_send, maps.crosses, heap.crosses, select_send, sendable) depth 60 fits 20000,
      (
        search sendable,
        (
          search sendable,
          (
            search sendable,
            tt,
          ),
        ),
      ),
    ),
  ),
))

cache_send : IsSend cache.the_row
cache_send = view_send _ _ _ _ _ cache_fields

-- ---- the book

book_seat_send : IsSend (book_seat.the_field).row
book_seat_send = search (event_send, seat.the_send, sendable) depth 40

boxed_entry_send : IsSend boxed_entry.the_row
boxed_entry_send = search (heap.crosses, conditions.crosses, sendable) depth 60 fits 20000

book_fields : IsSend book_inside.the_row
book_fields = recorded_send (book_inside.the_field).row _ _ (book_inside.the_type).to_one (struct_send (shape book_inside.the_type) (
  search sendable,
  (
    search (heap.crosses, sendable) depth 60 fits 20000,
    (
      search (heap.crosses, sendable) depth 60 fits 20000,
      (
        search (cache_send, sendable) depth 60 fits 20000,
        (
          search (boxed_entry_send, heap.crosses, sendable) depth 60 fits 20000,
          (
            search sendable,
            (
              search sendable,
              (
                search sendable,
                (
                  search (heap.crosses, sendable) depth 60 fits 20000,
                  (
                    search sendable,
                    (
                      search (heap.crosses, sendable) depth 60 fits 20000,
                      (
                        search (heap.crosses, sendable) depth 60 fits 20000,
                        (
                          search (heap.crosses, sendable) depth 60 fits 20000,
                          (
                            search (book_seat_send, sendable) depth 60 fits 20000,
                            tt,
                          ),
                        ),
                      ),
                    ),
                  ),
                ),
              ),
            ),
          ),
        ),
      ),
    ),
  ),
))

book_send : IsSend (book.the_field).row
book_send = view_send _ _ _ _ _ book_fields

book_log_send : (S : RattleType) (s : store.Ghosts S.Denot) → IsSend S → IsSend (book_log.the_field S s).row
book_log_send S s ss = search (heap.crosses, sendable) depth 60 fits 20000

locked_book_fields : (J S : RattleType) (n : naming.Ghosts J.Denot) (s : store.Ghosts S.Denot) → IsSend J → IsSend S → IsSend (locked_book_inside.the_row J S s n)
locked_book_fields J S n s sj ss = recorded_send (locked_book_inside.the_field J S s n).row _ _ (locked_book_inside.the_type J S s n).to_one (struct_send (shape (locked_book_inside.the_type J S s n)) (
  search (book_send, sendable) depth 20,
  (
    search (ledger_book.the_send, heap.crosses, sendable) depth 60 fits 20000,
    (
      search (ledger_share.the_send, book_log_send, heap.crosses, sendable) depth 60 fits 20000,
      (
        search (heap.crosses, sendable) depth 20,
        tt,
      ),
    ),
  ),
))

locked_book_send : (J S : RattleType) (n : naming.Ghosts J.Denot) (s : store.Ghosts S.Denot) → IsSend J → IsSend S → IsSend (locked_book.the_row J S s n)
locked_book_send J S n s sj ss = view_send _ _ _ _ _ (locked_book_fields J S n s sj ss)

-- ---- the cells, and the board

cell_seat_send : IsSend (cell_seat.the_field).row
cell_seat_send = search (event_send, seat.the_send, sendable) depth 40

cell_send : (B D T : RattleType) (b : backend.Ghosts B.Denot T.Denot) (t : snap.Ghosts T.Denot) (d : store.Ghosts D.Denot) → IsSend B → IsSend D → IsSend (cell.the_field B D T b t d).row
cell_send B D T b t d sb sd = search (cell_seat_send, heap.crosses, sendable) depth 60 fits 20000

locked_cell_send : (J B T : RattleType) (n : naming.Ghosts J.Denot) (b : backend.Ghosts B.Denot T.Denot) (t : snap.Ghosts T.Denot) → IsSend J → IsSend B → IsSend (locked_cell.the_row J B T n b t)
locked_cell_send J B T n b t sj sb = search (cell_send, heap.crosses, sendable) depth 60 fits 20000

board_sync : IsSync (board.the_field).row
board_sync = search (sendable, event_send, heap.crosses, heap.send, heap.sync, table.the_field_sync) depth 40

named_board_sync : (J : RattleType) (n : naming.Ghosts J.Denot) → IsSync J → IsSync (named_board.the_field J n).row
named_board_sync J n yj = search (board_sync, sendable) depth 40

board_send : IsSend (board.the_field).row
board_send = search (sendable, event_send, heap.crosses, heap.send, heap.sync, table.the_field_send) depth 40

named_board_send : (J : RattleType) (n : naming.Ghosts J.Denot) → IsSend J → IsSend (named_board.the_field J n).row
named_board_send J n sj = search (board_send, sendable) depth 40

-- ---- what threads are handed

pub pass_send : (J : RattleType) (n : naming.Ghosts J.Denot) → IsSend J → IsSend (pass.the_row J n)
pass_send J n sj = search (event_send, seat.the_send, sendable) depth 40

-- ---- the shards of the result cache

shard_fields : (J : RattleType) (n : naming.Ghosts J.Denot) → IsSend J → IsSend (shard_inside.the_row J n)
shard_fields J n sj = recorded_send (shard_inside.the_field J n).row _ _ (shard_inside.the_type J n).to_one (struct_send (shape (shard_inside.the_type J n)) (
  search (cache_send, sendable) depth 60 fits 20000,
  (
    search (event_send, seat.the_send, sendable) depth 40,
    (
      search (heap.crosses, sendable) depth 60 fits 20000,
      tt,
    ),
  ),
))

shard_send : (J : RattleType) (n : naming.Ghosts J.Denot) → IsSend J → IsSend (shard.the_row J n)
shard_send J n sj = view_send _ _ _ _ _ (shard_fields J n sj)

-- ---- the locks

locks_sync : (J B S T : RattleType) (n : naming.Ghosts J.Denot) (b : backend.Ghosts B.Denot T.Denot) (t : snap.Ghosts T.Denot) (s : store.Ghosts S.Denot) → IsSend J → IsSync J → IsSend B → IsSend S → IsSync (locks.the_field J B S T n b t s).row
locks_sync J B S T n b t s sj yj sb ss = struct_sync (shape (locks.the_type J B S T n b t s)) (
  search (heap.crosses, sendable) depth 20,
  (
    named_board_sync J n yj,
    (
      search (locked_book_send, heap.crosses, sendable) depth 60 fits 20000,
      (
        search (heap.crosses, sendable) depth 20,
        (
          search (heap.crosses, sendable) depth 20,
          (
            search (locked_cell_send, heap.crosses, sendable) depth 60 fits 20000,
            (
              search (work_lane_sync, heap.crosses, sendable) depth 60 fits 20000,
              (
                search (heap.crosses, sendable) depth 60 fits 20000,
                (
                  search (heap.crosses, sendable) depth 60 fits 20000,
                  (
                    search (shard_send, heap.crosses, sendable) depth 60 fits 20000,
                    (
                      search (heap.crosses, sendable) depth 20,
                      tt,
                    ),
                  ),
                ),
              ),
            ),
          ),
        ),
      ),
    ),
  ),
)

pub control_sync : (J B S T : RattleType) (n : naming.Ghosts J.Denot) (b : backend.Ghosts B.Denot T.Denot) (t : snap.Ghosts T.Denot) (s : store.Ghosts S.Denot) → IsSend J → IsSync J → IsSend B → IsSend S → IsSync (control.the_row J B S T n b t s)
control_sync J B S T n b t s sj yj sb ss = search (locks_sync, locked_cell_send, heap.crosses, sendable) depth 60 fits 20000

locks_send : (J B S T : RattleType) (n : naming.Ghosts J.Denot) (b : backend.Ghosts B.Denot T.Denot) (t : snap.Ghosts T.Denot) (s : store.Ghosts S.Denot) → IsSend J → IsSend B → IsSend S → IsSend (locks.the_field J B S T n b t s).row
locks_send J B S T n b t s sj sb ss = struct_send (shape (locks.the_type J B S T n b t s)) (
  search (heap.crosses, sendable) depth 20,
  (
    named_board_send J n sj,
    (
      search (locked_book_send, heap.crosses, sendable) depth 60 fits 20000,
      (
        search (heap.crosses, sendable) depth 20,
        (
          search (heap.crosses, sendable) depth 20,
          (
            search (locked_cell_send, heap.crosses, sendable) depth 60 fits 20000,
            (
              search (work_lane_send, heap.crosses, sendable) depth 60 fits 20000,
              (
                search (heap.crosses, sendable) depth 60 fits 20000,
                (
                  search (heap.crosses, sendable) depth 60 fits 20000,
                  (
                    search (shard_send, heap.crosses, sendable) depth 60 fits 20000,
                    (
                      search (heap.crosses, sendable) depth 20,
                      tt,
                    ),
                  ),
                ),
              ),
            ),
          ),
        ),
      ),
    ),
  ),
)

pub control_send : (J B S T : RattleType) (n : naming.Ghosts J.Denot) (b : backend.Ghosts B.Denot T.Denot) (t : snap.Ghosts T.Denot) (s : store.Ghosts S.Denot) → IsSend J → IsSend B → IsSend S → IsSend (control.the_row J B S T n b t s)
control_send J B S T n b t s sj sb ss = search (locks_send, locked_cell_send, heap.crosses, sendable) depth 60 fits 20000

pub store_send : IsSend mem_store.the_row
store_send = search (heap.crosses, sendable) depth 60 fits 20000
