-- The bench sheet holds: every row, computed by the checker, is what the scope states. Assumes nothing.
use mathlib.Core.Path.{◌≡◌, refl}
use mathlib.Core.List.{map}
use Rattle.unique_index_set_enums.specs.Numbers as unique-index-set-enums-numbers
use Rattle.unique_index_set_enums.specs.Robust as unique-index-set-enums-robust
use Rattle.calls.specs.Numbers as calls-numbers
use Rattle.calls.specs.Order as calls-order
use Rattle.calls.specs.Runs as calls-runs
use Rattle.custody.specs.Entry as custody-entry
use Rattle.thread_records.specs.Deaths as thread-records-deaths
use Rattle.thread_records.specs.Filled as thread-records-filled
use Rattle.thread_records.specs.Lists as thread-records-lists
use Rattle.thread_records.specs.Records as thread-records-records
use Rattle.plain_places.specs.Places as plain-places-places
use Rattle.plain_calls.specs.Asks as plain-calls-asks
use Rattle.plain_calls.specs.Marks as plain-calls-marks
use Rattle.plain_calls.specs.Resumes as plain-calls-resumes
use Rattle.unique_index_set.specs.Accesses as unique-index-set-accesses
use Rattle.unique_index_set.specs.Custodies as unique-index-set-custodies
use Rattle.unique_index_set.specs.Drains as unique-index-set-drains
use Rattle.unique_index_set.specs.Setups as unique-index-set-setups
use Rattle.unique_index_set.specs.Starts as unique-index-set-starts
use Rattle.unique_index_set.specs.Steps as unique-index-set-steps
use Rattle.robust_moves.specs.Bump as robust-moves-bump
use Rattle.robust_moves.specs.Count as robust-moves-count
use Rattle.robust_moves.specs.Lock as robust-moves-lock
use Rattle.robust_acquire.specs.Acquire as robust-acquire-acquire
use Rattle.robust_release.specs.Release as robust-release-release
use Rattle.robust_find.specs.Find as robust-find-find
use Rattle.robust_recover.specs.Recover as robust-recover-recover
use Rattle.robust_places.specs.Places as robust-places-places
use Rattle.robust_calls.specs.Asks as robust-calls-asks
use Rattle.robust_unique_index_set.specs.Drains as robust-unique-index-set-drains
use Rattle.robust_unique_index_set.specs.Setups as robust-unique-index-set-setups
use Rattle.robust_unique_index_set.specs.Starts as robust-unique-index-set-starts
use Rattle.robust_unique_index_set.specs.Steps as robust-unique-index-set-steps
use Rattle.turns.specs.Docks as turns-docks
use Rattle.bench_sheet.specs.Rows.{computed, stated, runs}
use Rattle.bench_sheet.specs.Sheet.{sheet}

pub sheet_holds : map computed sheet ≡ map stated sheet
unfolding runs unique-index-set-enums-numbers.mode_read unique-index-set-enums-robust.owner_read unique-index-set-enums-robust.is_empty unique-index-set-enums-robust.is_locked_at unique-index-set-enums-robust.next_generation calls-numbers.call_read calls-order.verdict_of calls-runs.run_from custody-entry.custody_of thread-records-deaths.death_of thread-records-filled.filled thread-records-lists.among_first thread-records-lists.owners_counted thread-records-lists.listed thread-records-lists.good_list thread-records-lists.owner_within thread-records-lists.list_of thread-records-records.not_alive thread-records-records.not_idle thread-records-records.not_calling plain-places-places.may_acquire plain-places-places.may_release plain-places-places.release_read plain-places-places.place_read plain-places-places.opened_at plain-calls-asks.asked_release plain-calls-asks.asked_of plain-calls-marks.release_mark plain-calls-resumes.acquire_looked plain-calls-resumes.release_looked plain-calls-resumes.borrowed_indices plain-calls-resumes.is_locked unique-index-set-accesses.acquired_word unique-index-set-accesses.released_word unique-index-set-custodies.holds unique-index-set-drains.drain_of unique-index-set-setups.too_large unique-index-set-setups.setup_short unique-index-set-setups.setup_verdict unique-index-set-setups.setup_of unique-index-set-starts.start_verdict unique-index-set-starts.start_of unique-index-set-steps.shared_after unique-index-set-steps.advanced unique-index-set-steps.too_short unique-index-set-steps.step_verdict unique-index-set-steps.step_of robust-moves-bump.bump_looked robust-moves-bump.bump_read robust-moves-count.cell_after robust-moves-count.count_looked robust-moves-count.one_more robust-moves-count.count_on robust-moves-count.count_read_bump robust-moves-count.count_read robust-moves-lock.lock_looked robust-moves-lock.lock_read_count robust-moves-lock.lock_read robust-acquire-acquire.acquire_looked robust-acquire-acquire.acquire_on robust-acquire-acquire.acquire_read_bump robust-acquire-acquire.acquire_read robust-release-release.release_read_cell robust-release-release.release_read_bump robust-release-release.release_read_lock robust-release-release.release_read robust-find-find.find_sound robust-find-find.find_on robust-find-find.find_matched robust-find-find.find_resumed robust-find-find.find_noted robust-recover-recover.has_next robust-recover-recover.rest_of robust-recover-recover.recover_looked robust-recover-recover.recover_next robust-recover-recover.recover_loaded robust-recover-recover.last_looked robust-recover-recover.recover_read_in robust-recover-recover.recover_read_bump robust-recover-recover.rest_read robust-recover-recover.recover_read_lock robust-recover-recover.recover_read robust-places-places.list_sound robust-places-places.place_read robust-places-places.opened_at robust-calls-asks.asked_release robust-calls-asks.asked_find robust-calls-asks.asked_recover robust-calls-asks.asked_of robust-unique-index-set-drains.drain_of robust-unique-index-set-setups.too_large robust-unique-index-set-setups.setup_verdict robust-unique-index-set-setups.setup_of robust-unique-index-set-starts.start_verdict robust-unique-index-set-starts.start_of robust-unique-index-set-steps.shared_after robust-unique-index-set-steps.advanced robust-unique-index-set-steps.too_short robust-unique-index-set-steps.turn_verdict robust-unique-index-set-steps.step_of turns-docks.settled
sheet_holds = refl
